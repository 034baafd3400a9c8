-- Counts as loops make them: of the numbers below the loop's.
use Rattle.std.proofs.Common.{◌≡◌, ◌↔◌, ◌⊎◌, inl, inr, ℕ, ◌+◌, ◌^◌, ◌<◌, ◌≤◌, Bool, true, false, [], ◌∷◌, Option, Some, None, is_some, refl, sym, subst, arith}
use Rattle.std.proofs.lemmas.Bool.{cases_eq, cases_lt}
use mir.Val.{bool_byte}
use Rattle.image_reading.specs.Counts.{Count}
use Rattle.image_reading.proofs.Counts.{count_none}
use Rattle.image_counts.proofs.Counting.{count_alike, count_either, count_fewer, count_run}
use Rattle.mount_scan.specs.Counting.{CountBelow}

single : (n : ℕ) → Count (λ x. x ≡ n) 1
single n = (
  n ∷ [],
  ((λ among. among), tt),
  (λ x. ((λ among. elim among [ inl same ↦ same | inr nowhere ↦ absurd nowhere ]), (λ same. inl same))),
  refl,
)

byte_small : (b : Bool) → bool_byte b ≤ 1
byte_small true = omega arith
byte_small false = omega arith

module _ (Q : ℕ → Type 0) where
  pub count_begun : (limit : ℕ) → ((x : ℕ) → x < limit → ¬ Q x) → CountBelow Q limit 0
  count_begun limit none = count_none (λ x. (x < limit) × Q x) (λ x below. none x below.0 below.1)

  -- no number from a to before b is counted
  pub count_skipped : (a b k : ℕ) → a ≤ b → ((x : ℕ) → a ≤ x → x < b → ¬ Q x) → CountBelow Q a k → CountBelow Q b k
  count_skipped a b k order none count = count_alike (λ x. (x < a) × Q x) (λ x. (x < b) × Q x) k
      (λ x below. (let lt = below.0 in omega (arith, lt, order), below.1))
      (λ x below. elim (cases_lt x a) [ inl lt ↦ (lt, below.1) | inr ge ↦ absurd (none x ge below.0 below.1) ])
      count

  one_more : (n k : ℕ) → Q n → CountBelow Q n k → CountBelow Q (n + 1) (k + 1)
  one_more n k here count = count_alike (λ x. ((x < n) × Q x) ⊎ (x ≡ n)) (λ x. (x < n + 1) × Q x) (k + 1) to from
      (count_either (λ x. (x < n) × Q x) (λ x. x ≡ n) k 1 (λ x below same. (let lt = below.0 in omega (arith, lt, same))) count (single n))
    where
      to : (x : ℕ) → ((x < n) × Q x) ⊎ (x ≡ n) → (x < n + 1) × Q x
      to x has = elim has [ inl below ↦ (let lt = below.0 in omega (arith, lt), below.1) | inr same ↦ (omega (arith, same), subst Q (sym same) here) ]

      from : (x : ℕ) → (x < n + 1) × Q x → ((x < n) × Q x) ⊎ (x ≡ n)
      from x below = elim (cases_eq x n) [ inl same ↦ inr same | inr other ↦ inl (let lt = below.0 in omega (arith, lt, other), below.1) ]

  none_more : (n k : ℕ) → ¬ Q n → CountBelow Q n k → CountBelow Q (n + 1) (k + 0)
  none_more n k none count = subst (CountBelow Q (n + 1)) (omega arith)
      (count_skipped n (n + 1) k (omega arith) (λ x low high q. none (subst Q (let same : x ≡ n = omega (arith, low, high) in same) q)) count)

  -- one turn of a loop
  pub count_step : (n k : ℕ) (b : Bool) → (b ≡ true) ↔ Q n → CountBelow Q n k → CountBelow Q (n + 1) (k + bool_byte b)
  count_step n k true is count = one_more n k (is.0 refl) count
  count_step n k false is count = none_more n k (λ q. (let clash : false ≡ true = is.1 q in cc)) count

  -- one that adds what a test tells
  pub count_told : (n k r : ℕ) (b : Bool) → r ≡ bool_byte b → (b ≡ true) ↔ Q n → CountBelow Q n k → CountBelow Q (n + 1) (k + r)
  count_told n k r b told is count = subst (λ m. CountBelow Q (n + 1) (k + m)) (sym told) (count_step n k b is count)

  count_small : (limit k : ℕ) → CountBelow Q limit k → k ≤ limit
  count_small limit k count = count_fewer (λ x. (x < limit) × Q x) (λ x. (0 ≤ x) × (x < 0 + limit)) k limit
      (λ x below. (omega arith, let lt = below.0 in omega (arith, lt))) count (count_run 0 limit)

  pub count_fits : (limit k r : ℕ) (b : Bool) → r ≡ bool_byte b → limit ≤ 2 ^ 22 → CountBelow Q limit k → k + r ≤ 2 ^ 22 + 1
  count_fits limit k r b told few count = let small = count_small limit k count in let one = byte_small b in omega (arith, small, one, few, told)

  pub count_all : (limit k : ℕ) → ((x : ℕ) → Q x → x < limit) → CountBelow Q limit k → Count Q k
  count_all limit k within count = count_alike (λ x. (x < limit) × Q x) Q k (λ x below. below.1) (λ x q. (within x q, q)) count

  -- at most one number
  pub count_option : (found : Option ℕ) → ((x : ℕ) → (found ≡ Some x) ↔ Q x) → Count Q (bool_byte (is_some found))
  count_option None is = count_none Q (λ x q. (let clash : None ≡ Some x = (is x).1 q in cc))
  count_option (Some n) is = count_alike (λ x. x ≡ n) Q 1 (λ x same. (is x).0 (let back = sym same in cc)) (λ x q. (let here : Some n ≡ Some x = (is x).1 q in cc)) (single n)
