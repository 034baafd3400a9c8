-- Lists of pages that lose their owner, or the rest of their descriptors.
use Rattle.std.proofs.Common.{◌≡◌, ℕ, ◌+◌, ◌*◌, ◌<◌, ◌≤◌, List, length, slice_index, sym, ap, subst, arith}
use Rattle.std.specs.Prelude.{Option}
use Rattle.pm_trait.specs.Trail.{Trail}
use Rattle.pm_trait.specs.Device.{IsFlushed, IsClean, IsSettledAt}
use Rattle.pm_trait.specs.DeviceView.{DeviceView, Stores}
use Rattle.pm_trait.proofs.DeviceViewLaws.{stores_weaker, stores_flushed}
use Rattle.layout.specs.Geometry.{IsVolumeSize, data_pages_of}
use Rattle.fence_token.specs.Stored.{StoresExactly}
use Rattle.fence_token.proofs.StoredLaws.{exactly_stores, flushes_stores}
use Rattle.page_state.specs.declared.page.Touched.{Touched}
use Rattle.page_state.specs.declared.page.Touched.TheVariants.{Descriptors}
use Rattle.page_state.specs.Page.{EachPage, OfSome, IsOwnWord, touched_lines}
use Rattle.page_state.specs.Events.{FlushesPages}
use Rattle.page_state.proofs.PageLaws.{own_word_within}

-- on a settled device their words are clean
pub pages_settled : (P : ℕ) (pages now : List ℕ) (trail : Option Trail) → IsVolumeSize P → EachPage pages (λ page. page < data_pages_of P) → length now ≡ 512 * P → IsSettledAt now trail
    → (word : ℕ) → OfSome pages (IsOwnWord P) word → IsClean now trail word
pages_settled P pages now trail size in_range whole settled word some =
    let within = own_word_within P (slice_index pages some.index) word size (in_range.each some.index some.before) some.is in
    settled.each word (omega (arith, within, whole))

-- some of their words are flushed, where all are
pub words_flushed : {trail : Option Trail} (Q : ℕ → ℕ → ℕ → Type 0) (P V : ℕ) (pages ps : List ℕ) → V ≡ P → ps ≡ pages → ((page word : ℕ) → Q P page word → IsOwnWord P page word) → ((word : ℕ) → OfSome ps (IsOwnWord V) word → IsFlushed trail word)
    → (word : ℕ) → OfSome pages (Q P) word → IsFlushed trail word
words_flushed Q P V pages ps volume list own flushed word some =
    flushed word (subst (λ (v : ℕ). OfSome ps (IsOwnWord v) word) (sym volume) (subst (λ (l : List ℕ). OfSome l (IsOwnWord P) word) (sym list)
    (record { index = some.index; before = some.before; is = own (slice_index pages some.index) word some.is })))

-- the stores of so many events a page, and a flush of each descriptor
pub pages_stored : {a b c : DeviceView} {events : List _} {count : ℕ} (Q : ℕ → ℕ → ℕ → Type 0) (P V each : ℕ) (pages ps qs : List ℕ) (W : ℕ) (touched : Touched) → V ≡ P → ps ≡ pages → qs ≡ pages → touched ≡ Descriptors
    → count ≤ each * length ps → StoresExactly (OfSome ps (Q V)) a b events count → FlushesPages W qs touched b c → Stores (OfSome pages (Q P)) a c ((each + 1) * length pages)
pages_stored {a} {b} {c} {count = count} Q P V each pages ps qs W touched volume list again one most run flushes =
    let lines : touched_lines touched (length qs) ≡ length qs = ap (λ (t : Touched). touched_lines t (length qs)) one in
    let long = ap length again in
    let products = ap (λ (l : List ℕ). each * length l) list in
    let stored : Stores (OfSome ps (Q V)) a c (count + touched_lines touched (length qs)) = stores_flushed (exactly_stores run) (flushes_stores flushes) in
    let of_list = subst (λ (l : List ℕ). Stores (OfSome l (Q V)) a c (count + touched_lines touched (length qs))) list stored in
    let of_volume = subst (λ (v : ℕ). Stores (OfSome pages (Q v)) a c (count + touched_lines touched (length qs))) volume of_list in
    stores_weaker ((each + 1) * length pages) (λ word is. is) (omega (arith, lines, long, most, products)) of_volume
