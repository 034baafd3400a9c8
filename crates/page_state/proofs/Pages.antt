-- One page of a list after another.
use Rattle.std.proofs.Common.{◌≡◌, ◌≢◌, inl, inr, ℕ, ◌+◌, ◌<◌, List, length, slice_index, sym, subst, arith}
use Rattle.std.specs.Prelude.{Option}
use Rattle.std.proofs.lemmas.Bool.{cases_eq}
use Rattle.pm_trait.specs.Trail.{Trail}
use Rattle.pm_trait.specs.Device.{IsInterval}
use Rattle.pm_trait.proofs.DeviceLaws.{interval_keeps}
use Rattle.layout.specs.Geometry.{data_pages_of}
use Rattle.page_state.specs.Page.{AreDataPages, IsOwnWord}
use Rattle.page_state.proofs.PageLaws.{own_words_apart}

-- a place before another has another page
pub pages_differ : {data_pages : ℕ} (pages : List ℕ) (index count : ℕ) → AreDataPages data_pages pages → index < count → count < length pages → slice_index pages index ≢ slice_index pages count
pages_differ pages index count valid before inside same =
    let place = valid.distinct.each index count (omega (arith, before, inside)) inside same in
    omega (arith, place, before)

-- no word of an earlier page is the next one's
pub earlier_apart : (volume_pages : ℕ) (pages : List ℕ) (index count word : ℕ) → AreDataPages (data_pages_of volume_pages) pages → index < count → count < length pages → IsOwnWord volume_pages (slice_index pages index) word → ¬ IsOwnWord volume_pages (slice_index pages count) word
earlier_apart volume_pages pages index count word valid before inside =
    own_words_apart volume_pages (slice_index pages index) (slice_index pages count) word (valid.in_range.each index (omega (arith, before, inside))) (valid.in_range.each count inside)
    (pages_differ pages index count valid before inside)

-- the earlier pages' words are as before
pub earlier_kept : {b c : List ℕ} {tb tc : Option Trail} (Q : ℕ → ℕ → Type 0) (volume_pages count : ℕ) (pages : List ℕ) → ((page word : ℕ) → Q page word → IsOwnWord volume_pages page word) → AreDataPages (data_pages_of volume_pages) pages → count < length pages
    → IsInterval (Q (slice_index pages count)) b tb c tc → (index word : ℕ) → index < count → IsOwnWord volume_pages (slice_index pages index) word → slice_index c word ≡ slice_index b word
earlier_kept Q volume_pages count pages own valid inside step index word before is =
    interval_keeps word step (λ here. earlier_apart volume_pages pages index count word valid before inside is (own (slice_index pages count) word here))

-- what holds of the first pages, kept by the step, and of the next one holds of one more
pub each_more : (R : ℕ → Type 0) (S : ℕ → Type 0) (pages : List ℕ) (count : ℕ) → ((index : ℕ) → index < count → R (slice_index pages index) → S (slice_index pages index)) → S (slice_index pages count)
    → ((index : ℕ) → index < count → R (slice_index pages index)) → (index : ℕ) → index < count + 1 → S (slice_index pages index)
each_more R S pages count stays here so_far index below = elim (cases_eq index count) [
  | inl same ↦ subst (λ (k : ℕ). S (slice_index pages k)) (sym same) here
  | inr other ↦ let before : index < count = omega (arith, other, below) in stays index before (so_far index before)
]
