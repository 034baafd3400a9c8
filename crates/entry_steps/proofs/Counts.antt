-- Numbers below a bound are no more than it.
use Rattle.std.proofs.Common.{◌≢◌, inl, inr, ℕ, zero, suc, ◌+◌, ◌<◌, ◌≤◌, List, [], ◌∷◌, length, refl, sym, subst, ◌∙◌, arith}
use Rattle.std.proofs.lemmas.Bool.{cases_eq}
use Rattle.image_reading.specs.Counts.{IsIn, IsDistinct, Count}

-- nothing is counted where the count is 0
pub none_of : (Q : ℕ → Type 0) (x : ℕ) → Count Q 0 → Q x → ⊥
none_of Q x ([], distinct, each, long) has = (each x).1 has
none_of Q x (y ∷ ys, distinct, each, long) has = omega (arith, long)

-- a list without s
strip : (s : ℕ) (xs : List ℕ) → IsDistinct xs → (ys : List ℕ) × IsDistinct ys × ((x : ℕ) → IsIn x ys → IsIn x xs × (x ≢ s)) × (length xs ≤ length ys + 1)
strip s [] d = ([], tt, (λ x h. absurd h), omega arith)
strip s (x ∷ xs) d =
    let (ys, dy, f, l) = strip s xs d.1 in
    elim (cases_eq x s) [
      | inl e ↦ (xs, d.1, (λ y h. (inr h, λ z. d.0 (subst (λ w. IsIn w xs) (z ∙ sym e) h))), omega arith)
      | inr ne ↦ (
        x ∷ ys,
        ((λ h. d.0 (f x h).0), dy),
        (λ y h. elim h [
          | inl e ↦ (inl e, λ z. ne (sym e ∙ z))
          | inr g ↦ (inr (f y g).0, (f y g).1)
        ]),
        omega (arith, l),
      )
    ]

pub at_most_below : (n : ℕ) (xs : List ℕ) → IsDistinct xs → ((x : ℕ) → IsIn x xs → x < n) → length xs ≤ n
at_most_below zero [] d f = omega arith
at_most_below zero (x ∷ xs) d f = let h = f x (inl refl) in absurd (omega arith)
at_most_below (suc n) xs d f =
    let (ys, dy, g, l) = strip n xs d in
    let h = at_most_below n ys dy (λ x c. let (at, ne) = g x c in let lt = f x at in omega arith) in
    omega (arith, h, l)

-- so many numbers below n are at most n
pub count_below : (Q : ℕ → Type 0) (n m : ℕ) → ((x : ℕ) → Q x → x < n) → Count Q m → m ≤ n
count_below Q n m below (xs, distinct, each, long) =
    let most = at_most_below n xs distinct (λ x is. below x ((each x).0 is)) in
    omega (arith, most, long)
