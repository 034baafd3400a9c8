-- Which numbers are free once those up to a limit were looked at.
use Rattle.std.proofs.Common.{◌≡◌, ◌↔◌, inl, inr, ℕ, ◌+◌, ◌<◌, ◌≤◌, Bool, false, List, length, set, subst, ◌∙◌, arith}
use Rattle.std.proofs.lemmas.Bool.{cases_eq, cases_lt}
use Rattle.std.proofs.lemmas.List.{length-set}
use Rattle.allocators.specs.Numbers.{IsFree}
use Rattle.allocators.proofs.NumbersLaws.{taken_after_take, free_before, free_still}

-- Below the limit those with Q are free, and from it on all are.
pub record AreFree (Q : ℕ → Type 0) (count limit : ℕ) (numbers : List Bool) : Type 0 where
  pub long : length numbers ≡ count
  pub passed : (x : ℕ) → x < limit → IsFree numbers x ↔ Q x
  pub later : (x : ℕ) → limit ≤ x → x < count → IsFree numbers x

module _ (Q : ℕ → Type 0) (count : ℕ) where
  pub free_skipped : (k : ℕ) (numbers : List Bool) → k < count → Q k → AreFree Q count k numbers → AreFree Q count (k + 1) numbers
  free_skipped k numbers within q free = record {
    long = free.long;
    passed = λ x below. elim (cases_lt x k) [
      | inl lt ↦ free.passed x lt
      | inr ge ↦
          let same : k ≡ x = omega (arith, below, ge) in
          ((λ is. subst Q same q), (λ has. free.later x ge (omega (arith, below, within))))
    ];
    later = λ x low high. free.later x (omega (arith, low)) high;
  }

  pub free_taken : (k : ℕ) (numbers : List Bool) → k < count → ¬ Q k → AreFree Q count k numbers → AreFree Q count (k + 1) (set numbers k false)
  free_taken k numbers within none free = record {
    long = length-set numbers k false ∙ free.long;
    passed = λ x below. elim (cases_eq x k) [
      | inl same ↦ (
        (λ is. absurd (taken_after_take numbers k (let long = free.long in omega (arith, long, within)) (subst (IsFree (set numbers k false)) same is))),
        (λ has. absurd (none (subst Q same has))),
      )
      | inr apart ↦
          let lt : x < k = omega (arith, below, apart) in (
            (λ is. (free.passed x lt).0 (free_before numbers k x false apart is)),
            (λ has. free_still numbers k x false apart ((free.passed x lt).1 has)),
          )
    ];
    later = λ x low high. free_still numbers k x false (λ same. omega (arith, low, same)) (free.later x (omega (arith, low)) high);
  }
