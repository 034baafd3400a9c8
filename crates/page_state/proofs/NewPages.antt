-- Pages of a file that get new bytes, one after another.
use Rattle.std.proofs.Common.{◌≡◌, inl, inr, ℕ, ◌+◌, ◌*◌, ◌<◌, ◌≤◌, List, length, slice_index, refl, sym, ◌∙◌, ap, subst, arith}
use Rattle.std.specs.Prelude.{Option}
use Rattle.std.specs.List.{flat_map, range_with_len}
use Rattle.std.proofs.lemmas.Bool.{cases_eq}
use Rattle.pm_trait.specs.declared.event.Event.{Event}
use Rattle.pm_trait.specs.Trail.{Trail}
use Rattle.pm_trait.specs.Device.{IsInterval}
use Rattle.pm_trait.specs.DeviceView.{DeviceView}
use Rattle.pm_trait.proofs.DeviceLaws.{interval_keeps}
use Rattle.layout.specs.Geometry.{data_pages_of, page_word_of}
use Rattle.fence_token.specs.Stored.{StoresExactly}
use Rattle.fence_token.proofs.StoredLaws.{exactly_as}
use Rattle.page_state.specs.declared.span.FileSpan.{FileSpan}
use Rattle.page_state.specs.Spans.{new_pieces}
use Rattle.page_state.specs.Page.{AreDataPages, OfSomeBelow, IsOwnWord, IsFilledWord, IsNewWord, IsBytesPage}
use Rattle.page_state.specs.Events.{new_stores, bytes_of_page, FillsBytes, HasWords}
use Rattle.page_state.proofs.Contents.{filled_is_own}
use Rattle.page_state.proofs.Pages.{earlier_apart}
use Rattle.page_state.proofs.Pieces.{pages_of_pieces}
use Rattle.page_state.proofs.NewStores.{new_is_own, new_stores_same, words_stay, words_from_before, bytes_page_stays}
use Rattle.page_state.proofs.Steps.{stores_more}

-- the words of earlier pages are none of this page's, and the other way
not_earlier_page : (Q : ℕ → ℕ → Type 0) (volume_pages count word : ℕ) (pages : List ℕ) → ((index word : ℕ) → Q index word → IsOwnWord volume_pages (slice_index pages index) word) → AreDataPages (data_pages_of volume_pages) pages → count < length pages
    → IsOwnWord volume_pages (slice_index pages count) word → ¬ OfSomeBelow count Q word
not_earlier_page Q volume_pages count word pages own valid inside here first =
    earlier_apart volume_pages pages first.index count word valid first.below inside (own first.index word first.is) here

-- ---- new words

-- the stores of this page, told by the words before all of them
page_told : {a b c : DeviceView} {m n : ℕ} {events : List Event} (span : FileSpan) (bytes : List ℕ) (volume_pages count offset : ℕ) (pages : List ℕ) → AreDataPages (data_pages_of volume_pages) pages → count < length pages → offset ≡ span.first + count
    → StoresExactly (OfSomeBelow count (λ index. IsNewWord span volume_pages (span.first + index) (slice_index pages index))) a b events m
    → StoresExactly (IsNewWord span volume_pages offset (slice_index pages count)) b c (new_stores span bytes b.words volume_pages offset (slice_index pages count)) n
    → StoresExactly (IsNewWord span volume_pages (span.first + count) (slice_index pages count)) b c (new_stores span bytes a.words volume_pages (span.first + count) (slice_index pages count)) n
page_told {a} {b} {n = n} span bytes volume_pages count offset pages valid inside at so_far step =
    let page = slice_index pages count in
    let New : ℕ → ℕ → Type 0 = λ index. IsNewWord span volume_pages (span.first + index) (slice_index pages index) in
    exactly_as (new_stores span bytes a.words volume_pages (span.first + count) page) n
    (λ word new. subst (λ (o : ℕ). IsNewWord span volume_pages o page word) at new)
    (new_stores_same span bytes volume_pages offset page a.words b.words
    (λ place in_page. interval_keeps (page_word_of volume_pages page place) so_far.interval
    (not_earlier_page New volume_pages count (page_word_of volume_pages page place) pages (λ index word new. new_is_own span volume_pages (span.first + index) (slice_index pages index) word new) valid inside (inl (record { place = place; in_page = in_page; at = refl }))))
    ∙ ap (λ (o : ℕ). new_stores span bytes a.words volume_pages o page) at)
    (omega arith) step

pub one_more_page : {a b c : DeviceView} (span : FileSpan) (bytes : List ℕ) (volume_pages count offset : ℕ) (pages : List ℕ) → AreDataPages (data_pages_of volume_pages) pages → count < length pages → offset ≡ span.first + count
    → StoresExactly (OfSomeBelow count (λ index. IsNewWord span volume_pages (span.first + index) (slice_index pages index))) a b (flat_map (λ index. new_stores span bytes a.words volume_pages (span.first + index) (slice_index pages index)) (range_with_len 0 count)) (new_pieces span (4096 * span.first) 8 (512 * count))
    → StoresExactly (IsNewWord span volume_pages offset (slice_index pages count)) b c (new_stores span bytes b.words volume_pages offset (slice_index pages count)) (new_pieces span (4096 * offset) 8 512)
    → StoresExactly (OfSomeBelow (count + 1) (λ index. IsNewWord span volume_pages (span.first + index) (slice_index pages index))) a c (flat_map (λ index. new_stores span bytes a.words volume_pages (span.first + index) (slice_index pages index)) (range_with_len 0 (count + 1))) (new_pieces span (4096 * span.first) 8 (512 * (count + 1)))
one_more_page {a} span bytes volume_pages count offset pages valid inside at so_far step =
    let New : ℕ → ℕ → Type 0 = λ index. IsNewWord span volume_pages (span.first + index) (slice_index pages index) in
    let own : (index word : ℕ) → New index word → IsOwnWord volume_pages (slice_index pages index) word = λ index word new. new_is_own span volume_pages (span.first + index) (slice_index pages index) word new in
    stores_more New (λ index. new_stores span bytes a.words volume_pages (span.first + index) (slice_index pages index)) count (new_pieces span (4096 * span.first) 8 (512 * (count + 1)))
    (let more = pages_of_pieces span span.first 8 512 count refl in let here = ap (λ (o : ℕ). new_pieces span (4096 * o) 8 512) at in omega (arith, more, here))
    (λ index word below first here. earlier_apart volume_pages pages index count word valid below inside (own index word first) (own count word here))
    so_far (page_told span bytes volume_pages count offset pages valid inside at so_far step)

-- what the pages' words become, where each page's words alone are stored in its step
words_of_pages : {a b c : List ℕ} {ta tb tc : Option Trail} {W : ℕ → Type 0} (Q : ℕ → ℕ → Type 0) (span : FileSpan) (bytes : List ℕ) (volume_pages count offset : ℕ) (pages : List ℕ) → ((index word : ℕ) → Q index word → IsOwnWord volume_pages (slice_index pages index) word)
    → AreDataPages (data_pages_of volume_pages) pages → count < length pages → offset ≡ span.first + count → ((word : ℕ) → W word → IsOwnWord volume_pages (slice_index pages count) word)
    → IsInterval (OfSomeBelow count Q) a ta b tb → IsInterval W b tb c tc → HasWords span bytes volume_pages offset (slice_index pages count) b c
    → ((index : ℕ) → index < count → HasWords span bytes volume_pages (span.first + index) (slice_index pages index) a b)
    → (index : ℕ) → index < count + 1 → HasWords span bytes volume_pages (span.first + index) (slice_index pages index) a c
words_of_pages {a} {b} {c} Q span bytes volume_pages count offset pages own valid inside at here before step have so_far index below = elim (cases_eq index count) [
  | inl same ↦
      let Has : ℕ → Type 0 = λ k. HasWords span bytes volume_pages (span.first + k) (slice_index pages k) a c in
      let page = slice_index pages count in
      let of_page : HasWords span bytes volume_pages (span.first + count) page b c = subst (λ (o : ℕ). HasWords span bytes volume_pages o page b c) at have in
      subst Has (sym same)
      (words_from_before span bytes volume_pages (span.first + count) page c before (λ word content. not_earlier_page Q volume_pages count word pages own valid inside (inl content)) of_page)
  | inr other ↦
      let earlier : index < count = omega (arith, other, below) in
      words_stay span bytes volume_pages (span.first + index) (slice_index pages index) a step
      (λ word content stored. earlier_apart volume_pages pages index count word valid earlier inside (inl content) (here word stored)) (so_far index earlier)
]

pub words_of_one_more : {a b : DeviceView} {events : List Event} {m : ℕ} (span : FileSpan) (bytes : List ℕ) (volume_pages count offset : ℕ) (pages : List ℕ) (c : DeviceView) → AreDataPages (data_pages_of volume_pages) pages → count < length pages → offset ≡ span.first + count
    → StoresExactly (OfSomeBelow count (λ index. IsNewWord span volume_pages (span.first + index) (slice_index pages index))) a b events m
    → IsInterval (IsNewWord span volume_pages offset (slice_index pages count)) b.words b.trail c.words c.trail → HasWords span bytes volume_pages offset (slice_index pages count) b.words c.words
    → ((index : ℕ) → index < count → HasWords span bytes volume_pages (span.first + index) (slice_index pages index) a.words b.words)
    → (index : ℕ) → index < count + 1 → HasWords span bytes volume_pages (span.first + index) (slice_index pages index) a.words c.words
words_of_one_more span bytes volume_pages count offset pages c valid inside at before step have so_far =
    words_of_pages (λ index. IsNewWord span volume_pages (span.first + index) (slice_index pages index)) span bytes volume_pages count offset pages
    (λ index word new. new_is_own span volume_pages (span.first + index) (slice_index pages index) word new) valid inside at (λ word new. new_is_own span volume_pages offset (slice_index pages count) word new) before.interval step have so_far

-- ---- filled pages

pub one_more_filled : {a b c : DeviceView} (span : FileSpan) (bytes : List ℕ) (volume_pages count offset : ℕ) (pages : List ℕ) → AreDataPages (data_pages_of volume_pages) pages → count < length pages → offset ≡ span.first + count
    → StoresExactly (OfSomeBelow count (λ index. IsFilledWord volume_pages (slice_index pages index))) a b (flat_map (λ index. bytes_of_page span bytes volume_pages (span.first + index) (slice_index pages index)) (range_with_len 0 count)) (514 * count)
    → StoresExactly (IsFilledWord volume_pages (slice_index pages count)) b c (bytes_of_page span bytes volume_pages offset (slice_index pages count)) 514
    → StoresExactly (OfSomeBelow (count + 1) (λ index. IsFilledWord volume_pages (slice_index pages index))) a c (flat_map (λ index. bytes_of_page span bytes volume_pages (span.first + index) (slice_index pages index)) (range_with_len 0 (count + 1))) (514 * (count + 1))
one_more_filled span bytes volume_pages count offset pages valid inside at so_far step =
    stores_more (λ index. IsFilledWord volume_pages (slice_index pages index)) (λ index. bytes_of_page span bytes volume_pages (span.first + index) (slice_index pages index)) count (514 * (count + 1)) (omega arith)
    (λ index word below first here. earlier_apart volume_pages pages index count word valid below inside (filled_is_own volume_pages (slice_index pages index) word first) (filled_is_own volume_pages (slice_index pages count) word here))
    so_far
    (exactly_as (bytes_of_page span bytes volume_pages (span.first + count) (slice_index pages count)) 514 (λ word is. is) (ap (λ (o : ℕ). bytes_of_page span bytes volume_pages o (slice_index pages count)) at) (omega arith) step)

pub words_of_filled : {a b : DeviceView} {events : List Event} {m : ℕ} (span : FileSpan) (bytes : List ℕ) (volume_pages count offset : ℕ) (pages : List ℕ) (c : DeviceView) → AreDataPages (data_pages_of volume_pages) pages → count < length pages → offset ≡ span.first + count
    → StoresExactly (OfSomeBelow count (λ index. IsFilledWord volume_pages (slice_index pages index))) a b events m
    → IsInterval (IsFilledWord volume_pages (slice_index pages count)) b.words b.trail c.words c.trail → HasWords span bytes volume_pages offset (slice_index pages count) b.words c.words
    → ((index : ℕ) → index < count → HasWords span bytes volume_pages (span.first + index) (slice_index pages index) a.words b.words)
    → (index : ℕ) → index < count + 1 → HasWords span bytes volume_pages (span.first + index) (slice_index pages index) a.words c.words
words_of_filled span bytes volume_pages count offset pages c valid inside at before step have so_far =
    words_of_pages (λ index. IsFilledWord volume_pages (slice_index pages index)) span bytes volume_pages count offset pages
    (λ index word is. filled_is_own volume_pages (slice_index pages index) word is) valid inside at (λ word is. filled_is_own volume_pages (slice_index pages count) word is) before.interval step have so_far

-- the pages say their kind and offset
pub bytes_pages_more : {b c : List ℕ} {tb tc : Option Trail} (volume_pages first count offset : ℕ) (pages : List ℕ) → AreDataPages (data_pages_of volume_pages) pages → count < length pages → offset ≡ first + count
    → IsInterval (IsFilledWord volume_pages (slice_index pages count)) b tb c tc → IsBytesPage volume_pages c offset (slice_index pages count)
    → ((index : ℕ) → index < count → IsBytesPage volume_pages b (first + index) (slice_index pages index)) → (index : ℕ) → index < count + 1 → IsBytesPage volume_pages c (first + index) (slice_index pages index)
bytes_pages_more {b} {c} volume_pages first count offset pages valid inside at step here so_far index below = elim (cases_eq index count) [
  | inl same ↦
      let Says : ℕ → Type 0 = λ k. IsBytesPage volume_pages c (first + k) (slice_index pages k) in
      subst Says (sym same) (subst (λ (o : ℕ). IsBytesPage volume_pages c o (slice_index pages count)) at here)
  | inr other ↦
      let earlier : index < count = omega (arith, other, below) in
      bytes_page_stays volume_pages (first + index) (slice_index pages index) b c
      (λ word own. interval_keeps word step (λ stored. earlier_apart volume_pages pages index count word valid earlier inside own (filled_is_own volume_pages (slice_index pages count) word stored))) (so_far index earlier)
]

pub filled_done : {a b : DeviceView} {m : ℕ} (span : FileSpan) (bytes : List ℕ) (volume_pages count : ℕ) (pages : List ℕ) → count ≡ length pages → m ≤ 514 * length pages
    → StoresExactly (OfSomeBelow count (λ index. IsFilledWord volume_pages (slice_index pages index))) a b (flat_map (λ index. bytes_of_page span bytes volume_pages (span.first + index) (slice_index pages index)) (range_with_len 0 count)) m → FillsBytes volume_pages pages span bytes a b
filled_done span bytes volume_pages count pages whole most so_far =
    let told : ℕ → List Event = λ index. bytes_of_page span bytes volume_pages (span.first + index) (slice_index pages index) in
    exactly_as (flat_map told (range_with_len 0 (length pages))) (514 * length pages)
    (λ word is. let below = is.below in record { index = is.index; before = omega (arith, below, whole); is = is.is })
    (ap (λ (n : ℕ). flat_map told (range_with_len 0 n)) whole) most so_far
