-- The lines of a slot that were stored to.
use Rattle.std.proofs.Common.{◌≡◌, ℕ, ◌+◌, ◌-◌, ◌/◌, ◌<◌, ◌≤◌, inl, inr, List, sym, subst, arith}
use Rattle.std.specs.Prelude.{Option}
use Rattle.std.proofs.lemmas.Bool.{cases_lt}
use Rattle.pm_trait.specs.Trail.{Trail}
use Rattle.pm_trait.specs.DeviceView.{DeviceView}
use Rattle.pm_trait.specs.Device.{IsInterval, IsClean, IsFlushed}
use Rattle.pm_trait.proofs.DeviceLaws.{flushed_stays, flushed_if_clean}
use Rattle.layout.specs.Geometry.{first_data_word_of, slot_word_of}
use Rattle.fence_token.specs.Flushes.{FlushesLines}
use Rattle.dentry_state.specs.declared.dentry.Touched.{Touched}
use Rattle.dentry_state.specs.declared.dentry.Touched.TheVariants.{FirstLine, BothLines}
use Rattle.dentry_state.specs.Dentry.{IsSlotWord, last_touched, touched_lines}

in_order_from : (p s field first last : ℕ) → first ≡ slot_word_of p s 0 → last ≡ slot_word_of p s field → first ≤ last
unfolding slot_word_of
in_order_from p s field first last at_first at_last = omega (arith, at_first, at_last)

pub in_order : (touched : Touched) (p s first last : ℕ) → first ≡ slot_word_of p s 0 → last ≡ slot_word_of p s (last_touched touched) → first ≤ last
in_order touched p s first last at_first at_last = in_order_from p s (last_touched touched) first last at_first at_last

pub lines : (touched : Touched) (p s first last : ℕ) → first ≡ slot_word_of p s 0 → last ≡ slot_word_of p s (last_touched touched) → last / 8 - first / 8 + 1 ≡ touched_lines touched
unfolding slot_word_of first_data_word_of
lines FirstLine p s first last at_first at_last = omega (arith, at_first, at_last)
lines BothLines p s first last at_first at_last = omega (arith, at_first, at_last)

-- the flushes of their span
pub flushed_lines : {a b : DeviceView} (touched : Touched) (p s first last : ℕ) → first ≡ slot_word_of p s 0 → last ≡ slot_word_of p s (last_touched touched)
    → FlushesLines a b (first / 8) (last / 8 - first / 8 + 1) → FlushesLines a b (slot_word_of p s 0 / 8) (touched_lines touched)
flushed_lines {a} {b} touched p s first last at_first at_last flushes =
    subst (λ (count : ℕ). FlushesLines a b (slot_word_of p s 0 / 8) count) (lines touched p s first last at_first at_last)
    (subst (λ (word : ℕ). FlushesLines a b (word / 8) (last / 8 - first / 8 + 1)) at_first flushes)

-- a field up to the last one stands in their span
in_span : (p s field last_field first last word : ℕ) → field ≤ last_field → first ≡ slot_word_of p s 0 → last ≡ slot_word_of p s last_field → word ≡ slot_word_of p s field → (first ≤ word) × (word ≤ last)
unfolding slot_word_of
in_span p s field last_field first last word few at_first at_last at = (omega (arith, at_first, at), omega (arith, few, at_last, at))

-- once it is flushed, all words of the slot are
pub all_flushed : {a b : List ℕ} {ta tb : Option Trail} (touched : Touched) (p s first last : ℕ) → first ≡ slot_word_of p s 0 → last ≡ slot_word_of p s (last_touched touched)
    → ((field : ℕ) → last_touched touched < field → field < 16 → IsClean a ta (slot_word_of p s field)) → IsInterval (λ _. ⊥) a ta b tb
    → ((other : ℕ) → first ≤ other → other ≤ last → IsFlushed tb other) → (word : ℕ) → IsSlotWord p s word → IsFlushed tb word
all_flushed {a} {b} {ta} {tb} touched p s first last at_first at_last untouched none flushed word is = elim (cases_lt (last_touched touched) is.field) [
  | inl past ↦ flushed_stays word none (λ stored. stored) (flushed_if_clean (subst (λ (w : ℕ). IsClean a ta w) (sym is.at) (untouched is.field past is.is_field)))
  | inr few ↦ let span = in_span p s is.field (last_touched touched) first last word few at_first at_last is.at in flushed word span.0 span.1
]
