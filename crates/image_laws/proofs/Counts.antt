-- At most so many have a property.
use Rattle.std.proofs.Common.{◌≡◌, ◌≢◌, ◌⊎◌, inl, inr, ℕ, ◌+◌, ◌<◌, ◌≤◌, List, ◌∷◌, length, refl, sym, subst, arith}
use Rattle.image_reading.specs.Counts.{IsIn, IsDistinct, AtMost}
use Rattle.image_reading.proofs.Counts.{strip}
use Rattle.image_counts.proofs.Distinct.{fewer, run, length-run, in_run}

pub at_most : (m n : ℕ) (Q R : ℕ → Type 0) → ((x : ℕ) → R x → Q x) → AtMost m Q n → AtMost m R n
at_most m n Q R f h xs d all = h xs d (λ x c. f x (all x c))

-- with one more
pub at_most_more : (m n s : ℕ) (Q R : ℕ → Type 0) → ((x : ℕ) → R x → (x ≡ s) ⊎ Q x) → AtMost (m + 1) Q n → AtMost m R n
at_most_more m n s Q R f h xs d all =
    let (ys, dy, g, l) = strip s xs d in
    let most : m + 1 + length ys ≤ n = h ys dy (λ x c. let (at, ne) = g x c in elim (f x (all x at)) [ inl e ↦ absurd (ne e) | inr q ↦ q ]) in
    omega (arith, l, most)

-- d in place of s
pub at_most_swap : (m n s d : ℕ) (Q R : ℕ → Type 0) → Q s → ((x : ℕ) → R x → (x ≡ d) ⊎ (Q x × (x ≢ s))) → AtMost m Q n → AtMost m R n
at_most_swap m n s d Q R qs f h xs dx all =
    let (ys, dy, g, l) = strip d xs dx in
    let old : (x : ℕ) → IsIn x ys → Q x × (x ≢ s) = λ x c. let (at, ne) = g x c in elim (f x (all x at)) [ inl e ↦ absurd (ne e) | inr q ↦ q ] in
    let most : m + length (s ∷ ys) ≤ n = h (s ∷ ys) ((λ c. (old s c).1 refl), dy) (λ x c. elim c [ inl e ↦ subst Q (sym e) qs | inr c' ↦ (old x c').0 ]) in
    omega (arith, l, most)

-- numbers below n are at most n
pub at_most_below : (n : ℕ) (xs : List ℕ) → IsDistinct xs → ((x : ℕ) → IsIn x xs → x < n) → length xs ≤ n
at_most_below n xs distinct below =
    let most = fewer xs (run 0 n) distinct (λ x among. in_run x 0 n (omega arith) (let lt = below x among in omega (arith, lt))) in
    let long = length-run 0 n in
    omega (arith, most, long)
