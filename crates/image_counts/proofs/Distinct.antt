-- Lists of numbers in which none stands twice.
use Rattle.std.proofs.Common.{◌≡◌, ◌⊎◌, inl, inr, ℕ, zero, suc, ◌+◌, ◌<◌, ◌≤◌, List, [], ◌∷◌, ◌++◌, length, refl, ap, arith}
use Rattle.std.proofs.lemmas.Bool.{cases_eq}
use Rattle.image_reading.specs.Counts.{IsIn, IsDistinct}
use Rattle.image_reading.proofs.Counts.{strip}

none_in : (xs : List ℕ) → ((x : ℕ) → IsIn x xs → ⊥) → length xs ≤ 0
none_in [] f = omega arith
none_in (x ∷ xs) f = absurd (f x (inl refl))

-- distinct numbers that all stand in a list are no more than it has
pub fewer : (xs ys : List ℕ) → IsDistinct xs → ((x : ℕ) → IsIn x xs → IsIn x ys) → length xs ≤ length ys
fewer xs [] distinct among = none_in xs among
fewer xs (y ∷ ys) distinct among =
    let (zs, dz, g, l) = strip y xs distinct in
    let h : length zs ≤ length ys = fewer zs ys dz (λ x c. let (at, ne) = g x c in elim (among x at) [ inl e ↦ absurd (ne e) | inr q ↦ q ]) in
    omega (arith, l, h)

-- ---- two lists in one

pub in_front : (x : ℕ) (xs ys : List ℕ) → IsIn x xs → IsIn x (xs ++ ys)
in_front x [] ys h = absurd h
in_front x (y ∷ xs) ys h = elim h [ inl e ↦ inl e | inr among ↦ inr (in_front x xs ys among) ]

pub in_back : (x : ℕ) (xs ys : List ℕ) → IsIn x ys → IsIn x (xs ++ ys)
in_back x [] ys h = h
in_back x (y ∷ xs) ys h = inr (in_back x xs ys h)

pub in_either : (x : ℕ) (xs ys : List ℕ) → IsIn x (xs ++ ys) → IsIn x xs ⊎ IsIn x ys
in_either x [] ys h = inr h
in_either x (y ∷ xs) ys h = elim h [
  | inl e ↦ inl (inl e)
  | inr among ↦ elim (in_either x xs ys among) [ inl there ↦ inl (inr there) | inr there ↦ inr there ]
]

pub distinct_both : (xs ys : List ℕ) → IsDistinct xs → IsDistinct ys → ((x : ℕ) → IsIn x xs → IsIn x ys → ⊥) → IsDistinct (xs ++ ys)
distinct_both [] ys dx dy apart = dy
distinct_both (x ∷ xs) ys dx dy apart = (
  (λ h. elim (in_either x xs ys h) [ inl there ↦ dx.0 there | inr there ↦ apart x (inl refl) there ]),
  distinct_both xs ys dx.1 dy (λ z a b. apart z (inr a) b),
)

-- ---- so many numbers from one on

unfoldable pub run : ℕ → ℕ → List ℕ
run start zero = []
run start (suc n) = start ∷ run (start + 1) n

pub length-run : (start n : ℕ) → length (run start n) ≡ n
unfolding run
length-run start zero = refl
length-run start (suc n) = ap suc (length-run (start + 1) n)

pub in_run : (x start n : ℕ) → start ≤ x → x < start + n → IsIn x (run start n)
unfolding run
in_run x start zero low high = absurd (omega arith)
in_run x start (suc n) low high = elim (cases_eq x start) [ inl e ↦ inl e | inr differ ↦ inr (in_run x (start + 1) n (omega arith) (omega arith)) ]

pub of_run : (x start n : ℕ) → IsIn x (run start n) → (start ≤ x) × (x < start + n)
unfolding run
of_run x start zero among = absurd among
of_run x start (suc n) among = elim among [
  | inl e ↦ (omega (arith, e), omega (arith, e))
  | inr later ↦ let more = of_run x (start + 1) n later in (omega (arith, more), omega (arith, more))
]

pub distinct_run : (start n : ℕ) → IsDistinct (run start n)
unfolding run
distinct_run start zero = tt
distinct_run start (suc n) = ((λ among. let low = (of_run start (start + 1) n among).0 in omega (arith, low)), distinct_run (start + 1) n)
