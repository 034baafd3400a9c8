-- One page of a list of one: what its fill and its claim leave.
use Rattle.std.proofs.Common.{◌≡◌, inl, inr, ℕ, ◌*◌, ◌<◌, List, length, slice_index, set, sym, ap, subst, ◌∙◌, arith, get_or-set_same, get_or-set_other, length-set}
use Rattle.std.specs.Prelude.{Option}
use Rattle.std.proofs.lemmas.Bool.{cases_eq}
use Rattle.std.proofs.lemmas.Grind.{same_number_lists}
use Rattle.pm_trait.specs.Trail.{Trail}
use Rattle.pm_trait.specs.Device.{IsInterval, IsFlushed, IsClean, IsSettledAt}
use Rattle.pm_trait.specs.DeviceView.{DeviceView, Stores}
use Rattle.pm_trait.proofs.DeviceLaws.{interval_keeps, interval_length}
use Rattle.pm_trait.proofs.DeviceViewLaws.{stores_weaker}
use Rattle.layout.specs.Geometry.{IsVolumeSize, data_pages_of, descriptor_word_of}
use Rattle.layout.specs.Fields.{word, page_owner}
use Rattle.fence_token.proofs.StoredLaws.{exactly_stores, flushes_stores}
use Rattle.page_state.specs.declared.page.Touched.{Touched}
use Rattle.page_state.proofs.Releases.{released_is_own}
use Rattle.page_state.specs.Page.{EachPage, OfSome, IsOwnWord, IsFilledWord, IsOwnerWord, touched_lines}
use Rattle.page_state.specs.Events.{FillsPages, ClaimsPages, FlushesPages}
use Rattle.page_state.proofs.PageLaws.{own_word_within, descriptor_word_is}
use Rattle.image_laws.specs.Create.{IsPageMadeWord, owned}

-- a word of one of the pages is one of the page
pub of_one : (pages : List ℕ) (Q : ℕ → ℕ → Type 0) (word : ℕ) → length pages ≡ 1 → OfSome pages Q word → Q (slice_index pages 0) word
of_one pages Q word one some =
    let before = some.before in
    let first : some.index ≡ 0 = omega (arith, before, one) in
    subst (λ (k : ℕ). Q (slice_index pages k) word) first some.is

pub is_one : (pages : List ℕ) (Q : ℕ → ℕ → Type 0) (word : ℕ) → length pages ≡ 1 → Q (slice_index pages 0) word → OfSome pages Q word
is_one pages Q word one is = record { index = 0; before = omega (arith, one); is = is }

-- on a settled device its words are clean
pub page_settled : (P : ℕ) (pages now : List ℕ) (trail : Option Trail) → IsVolumeSize P → length pages ≡ 1 → slice_index pages 0 < data_pages_of P → length now ≡ 512 * P → IsSettledAt now trail
    → (word : ℕ) → OfSome pages (IsOwnWord P) word → IsClean now trail word
page_settled P pages now trail size one in_range whole settled word some =
    let within = own_word_within P (slice_index pages 0) word size in_range (of_one pages (IsOwnWord P) word one some) in
    settled.each word (omega (arith, within, whole))

-- ---- the fill

pub filled_word : (P j a : ℕ) → IsFilledWord P j a → IsPageMadeWord P j a
filled_word P j a (inl content) = inl (content.place, content.in_page, content.at)
filled_word P j a (inr rest) = inr rest

module _ (P V : ℕ) (pages ps : List ℕ) (volume : V ≡ P) (list : ps ≡ pages) (one : length pages ≡ 1) where
  -- each word that was filled is flushed, where each of the page's is
  pub made_flushed : {t : Option Trail} → ((word : ℕ) → OfSome ps (IsOwnWord V) word → IsFlushed t word) → (word : ℕ) → OfSome pages (IsFilledWord P) word → IsFlushed t word
  made_flushed {t} flushed word some =
      let is = of_one pages (IsFilledWord P) word one some in
      let own : IsOwnWord P (slice_index pages 0) word = elim is [
        | inl content ↦ inl content
        | inr rest ↦ released_is_own P (slice_index pages 0) word rest
      ] in
      flushed word (subst (λ (v : ℕ). OfSome ps (IsOwnWord v) word) (sym volume) (subst (λ (l : List ℕ). OfSome l (IsOwnWord P) word) (sym list) (is_one pages (IsOwnWord P) word one own)))

  pub claim_flushed : {t : Option Trail} → ((word : ℕ) → OfSome ps (IsOwnWord V) word → IsFlushed t word) → (word : ℕ) → OfSome pages (IsOwnerWord P) word → IsFlushed t word
  claim_flushed {t} flushed word some =
      let own : IsOwnWord P (slice_index pages 0) word = inr (record { field = 0; is_field = omega arith; at = of_one pages (IsOwnerWord P) word one some }) in
      flushed word (subst (λ (v : ℕ). OfSome ps (IsOwnWord v) word) (sym volume) (subst (λ (l : List ℕ). OfSome l (IsOwnWord P) word) (sym list) (is_one pages (IsOwnWord P) word one own)))

-- ---- the claim

pub owner_inside : (P : ℕ) (pages now : List ℕ) → length pages ≡ 1 → ((word : ℕ) → OfSome pages (IsOwnWord P) word → word < length now) → descriptor_word_of P (slice_index pages 0) 0 < length now
owner_inside P pages now one inside = inside (descriptor_word_of P (slice_index pages 0) 0) (is_one pages (IsOwnWord P) (descriptor_word_of P (slice_index pages 0) 0) one (inr (descriptor_word_is P (slice_index pages 0) 0 (omega arith))))

pub page_owned : {a b c : List ℕ} {ta tb : Option Trail} (P : ℕ) (pages : List ℕ) (d : ℕ) → c ≡ b → length pages ≡ 1 → descriptor_word_of P (slice_index pages 0) 0 < length a → EachPage pages (λ page. page_owner P b page ≡ d)
    → IsInterval (OfSome pages (IsOwnerWord P)) a ta b tb → c ≡ owned P a (slice_index pages 0) d
unfolding page_owner word
page_owned {a} {b} {c} P pages d same one inside owner run =
    same ∙ same_number_lists b (set a x d) (interval_length run ∙ sym (length-set a x d)) (λ k below. elim (cases_eq k x) [
      | inl is ↦ ap (λ (w : ℕ). slice_index b w) is ∙ owner.each 0 (omega (arith, one)) ∙ sym (ap (λ (w : ℕ). slice_index (set a x d) w) is ∙ get_or-set_same a x d 0 inside)
      | inr other ↦ interval_keeps k run (λ some. other (of_one pages (IsOwnerWord P) k one some)) ∙ sym (get_or-set_other a x k d 0 other)
    ])
  where
    x : ℕ
    x = descriptor_word_of P (slice_index pages 0) 0

-- ---- the events of one page

pub fill_stores : {a b : DeviceView} (V : ℕ) (pages first : List ℕ) → length pages ≡ 1 → FillsPages V pages first a b → Stores (OfSome pages (IsFilledWord V)) a b 514
fill_stores V pages first one filled = stores_weaker 514 (λ word is. is) (omega (arith, one)) (exactly_stores filled)

pub claim_stores : {a b : DeviceView} (V : ℕ) (pages : List ℕ) (d : ℕ) → length pages ≡ 1 → ClaimsPages V pages d a b → Stores (OfSome pages (IsOwnerWord V)) a b 1
claim_stores V pages d one claimed = stores_weaker 1 (λ word is. is) (omega (arith, one)) (exactly_stores claimed)

pub page_flushes : {a b : DeviceView} (V : ℕ) (pages : List ℕ) (touched : Touched) (lines : ℕ) → touched_lines touched 1 ≡ lines → length pages ≡ 1 → FlushesPages V pages touched a b → Stores (λ _. ⊥) a b lines
page_flushes V pages touched lines many one flushes =
    let all = ap (λ (n : ℕ). touched_lines touched n) one in
    stores_weaker lines (λ word is. is) (omega (arith, all, many)) (flushes_stores flushes)
