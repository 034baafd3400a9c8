-- Zeros in a file.
use Rattle.std.proofs.Common.{◌≡◌, inl, inr, ℕ, ◌+◌, ◌-◌, ◌≤◌, List, length, take, ◌∙◌, subst, arith, slice_index}
use Rattle.std.specs.Prelude.{Option, Some, None}
use Rattle.std.proofs.lemmas.Bool.{cases_lt}
use Rattle.std.proofs.lemmas.List.{length-take-le, get_or-take, get_or_past}
use Rattle.pm_file.specs.Placed.{AreZeros, TakesBytes, TakesZeros}

-- where all are zero, the first of them are
pub zeros_taken : (zeros : List ℕ) (count : ℕ) → count ≤ length zeros → AreZeros zeros → AreZeros (take count zeros)
zeros_taken zeros count few are k = elim (cases_lt k count) [
  | inl low ↦ get_or-take count zeros k 0 low ∙ are k
  | inr high ↦ let long = length-take-le count zeros few in get_or_past (take count zeros) k 0 (omega (arith, long))
]

-- as a loop writes them
pub zeros_more : (before mid after : Option (List ℕ)) (from place : ℕ) (run : List ℕ) → from ≤ place → AreZeros run → TakesZeros before mid from place → TakesBytes mid after place run → TakesZeros before after from (place + length run)
zeros_more None mid after from place run past are had has = tt
zeros_more (Some before) None after from place run past are had has = absurd had
zeros_more (Some before) (Some mid) None from place run past are had has = absurd has
zeros_more (Some before) (Some mid) (Some after) from place run past are had has = record {
  given = λ k above below. elim (cases_lt k place) [
    | inl low ↦ has.kept k (inl low) ∙ had.given k above low
    | inr high ↦
        let at : place + (k - place) ≡ k = omega arith in
        subst (λ (j : ℕ). slice_index after j ≡ 0) at (has.given (k - place) (omega arith) ∙ are (k - place))
  ];
  kept = λ k beside. elim beside [
    | inl low ↦ has.kept k (inl (omega arith)) ∙ had.kept k (inl low)
    | inr high ↦ has.kept k (inr high) ∙ had.kept k (inr (omega arith))
  ];
}
