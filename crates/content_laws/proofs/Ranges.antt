-- Bytes of a written range, one by one.
use Rattle.std.proofs.Common.{◌≡◌, ◌⊎◌, inl, inr, ℕ, ◌+◌, List, length, slice_index, sym, ◌∙◌}
use Rattle.std.proofs.lemmas.Bool.{cases_lt}
use Rattle.tree_model.specs.Step.{overwritten}
use Rattle.content_laws.specs.Range.{IsInRange, IsBeside, IsWrittenByte}
use Rattle.content_laws.proofs.Bytes.{IsMixedByte, overwritten-in, overwritten-beside}

pub in_or_beside : (offset : ℕ) (bytes : List ℕ) (o : ℕ) → IsInRange offset bytes o ⊎ IsBeside offset bytes o
in_or_beside offset bytes o = elim (cases_lt o offset) [
  | inl before ↦ inr (inl before)
  | inr least ↦ elim (cases_lt o (offset + length bytes)) [
    | inl below ↦ inl (record { least = least; below = below })
    | inr behind ↦ inr (inr behind)
  ]
]

-- the byte of the list in which the range was put
pub written_at : (old : List ℕ) (offset : ℕ) (bytes : List ℕ) (o before after : ℕ) → IsWrittenByte offset bytes o before after → slice_index old o ≡ before
    → slice_index (overwritten old offset bytes) o ≡ after
written_at old offset bytes o before after w e = elim (in_or_beside offset bytes o) [
  | inl range ↦ overwritten-in old offset bytes o range ∙ sym (w.new range)
  | inr beside ↦ overwritten-beside old offset bytes o beside ∙ e ∙ sym (w.kept beside)
]

-- either of both is the old one or the range's
pub mixed_or : (offset : ℕ) (bytes : List ℕ) (o before now after : ℕ) → IsWrittenByte offset bytes o before after → (now ≡ before) ⊎ (now ≡ after) → IsMixedByte offset bytes o before now
mixed_or offset bytes o before now after w e = elim e [
  | inl same ↦ inl same
  | inr same ↦ elim (in_or_beside offset bytes o) [
    | inl range ↦ inr (range, same ∙ w.new range)
    | inr beside ↦ inl (same ∙ w.kept beside)
  ]
]
