-- Numbers that are given back.
use Rattle.std.proofs.Common.{◌≡◌, ℕ, zero, suc, ◌+◌, ◌<◌, true, Bool, List, [], ◌∷◌, ◌++◌, length, take, get_or, inl, inr, refl, sym, ap, subst, ◌∙◌, arith}
use Rattle.std.specs.Prelude.{slice_set}
use Rattle.std.proofs.lemmas.List.{length-set, take_more}
use Rattle.std.proofs.lemmas.List.Elements.{Contains-get_or}
use Rattle.std.proofs.lemmas.Bool.{cases_eq}
use Rattle.std.proofs.lemmas.Option.{slice_get_within}
use Rattle.image_reading.specs.Counts.{IsIn, IsDistinct}
use Rattle.allocators.specs.Numbers.{IsFree}
use Rattle.allocators.proofs.NumbersLaws.{free_before, free_still, free_after_give}
use Rattle.volume.specs.Entered.{IsTaken, with_given}
use Rattle.volume.proofs.PageLists.{contained_in}

with_given-push : (free : List Bool) (numbers : List ℕ) (k : ℕ) → with_given free (numbers ++ k ∷ []) ≡ slice_set (with_given free numbers) k true
with_given-push free [] k = refl
with_given-push free (number ∷ numbers) k = with_given-push (slice_set free number true) numbers k

pub length-with_given : (free : List Bool) (numbers : List ℕ) → length (with_given free numbers) ≡ length free
length-with_given free [] = refl
length-with_given free (number ∷ numbers) = length-with_given (slice_set free number true) numbers ∙ length-set free number true

-- what is free then and wasn't given was free before
pub free_before_given : (free : List Bool) (numbers : List ℕ) (k : ℕ) → ¬ IsIn k numbers → IsFree (with_given free numbers) k → IsFree free k
free_before_given free [] k other is = is
free_before_given free (number ∷ numbers) k other is =
    free_before free number k true (λ same. other (inl same)) (free_before_given (slice_set free number true) numbers k (λ among. other (inr among)) is)

-- what was free before is free still, and so is what was given
pub free_still_given : (free : List Bool) (numbers : List ℕ) (k : ℕ) → IsFree free k → IsFree (with_given free numbers) k
free_still_given free [] k is = is
free_still_given free (number ∷ numbers) k is = free_still_given (slice_set free number true) numbers k (elim (cases_eq k number) [
  | inl same ↦ subst (IsFree (slice_set free number true)) (sym same) (free_after_give free number (subst (λ j. j < length free) same (slice_get_within free k true is)))
  | inr other ↦ free_still free number k true other is
])

pub free_given : (free : List Bool) (numbers : List ℕ) (k : ℕ) → k < length free → IsIn k numbers → IsFree (with_given free numbers) k
free_given free [] k low among = absurd among
free_given free (number ∷ numbers) k low among = elim among [
  | inl same ↦ free_still_given (slice_set free number true) numbers k (subst (IsFree (slice_set free number true)) (sym same) (free_after_give free number (subst (λ j. j < length free) same low)))
  | inr later ↦ free_given (slice_set free number true) numbers k (let long = length-set free number true in omega (arith, long, low)) later
]

-- ---- one by one

-- a number doesn't stand before its place
pub not_before : (numbers : List ℕ) (place : ℕ) → place < length numbers → IsDistinct numbers → ¬ IsIn (get_or numbers place 0) (take place numbers)
not_before [] place lt distinct among = absurd (omega (arith, lt))
not_before (number ∷ numbers) zero lt distinct among = absurd among
not_before (number ∷ numbers) (suc place) lt distinct among =
    let within : place < length numbers = omega (arith, lt) in
    elim among [
      | inl same ↦ distinct.0 (subst (λ k. IsIn k numbers) same (contained_in (get_or numbers place 0) numbers (Contains-get_or numbers place 0 within)))
      | inr later ↦ not_before numbers place within distinct.1 later
    ]

module _ (free : List Bool) (numbers : List ℕ) (place : ℕ) (within : place < length numbers) where
  pub still_taken : IsDistinct numbers → IsTaken free (get_or numbers place 0) → IsTaken (with_given free (take place numbers)) (get_or numbers place 0)
  still_taken distinct taken = (
    (let same = length-with_given free (take place numbers) in let below = taken.0 in omega (arith, same, below)),
    (λ is. taken.1 (free_before_given free (take place numbers) (get_or numbers place 0) (not_before numbers place within distinct) is)),
  )

  pub one_given : (given : List Bool) → given ≡ slice_set (with_given free (take place numbers)) (get_or numbers place 0) true → given ≡ with_given free (take (place + 1) numbers)
  one_given given is = is ∙ sym (with_given-push free (take place numbers) (get_or numbers place 0)) ∙ ap (with_given free) (sym (take_more numbers place 0 within))
