-- The numbers with one bit are the powers of two.
use Rattle.std.proofs.Common.{◌≡◌, ℕ, ◌+◌, ◌-◌, ◌*◌, ◌^◌, ◌<◌, ◌↔◌, IsTrue, zero, suc, subst, sym, refl, arith}
use Rattle.std.specs.Int.RustNames.{count_ones}
use Rattle.std.specs.Int.{is_power_of_two, IsPowerOfTwo}
use Rattle.std.proofs.lemmas.Bool.{eqb-true, eq-eqb}
use Rattle.std.proofs.lemmas.Nat.{ones_cat, leading_top, zero_from_ones, pow_pos}

one_bit : count_ones 1 ≡ 1
unfolding count_ones
one_bit = refl

no_bit : count_ones 0 ≡ 0
unfolding count_ones
no_bit = refl

-- a number whose highest bit is at this place has that bit, and those of the rest
highest_and_rest : (place rest : ℕ) → rest < 2 ^ place → count_ones (2 ^ place + rest) ≡ 1 + count_ones rest
highest_and_rest place rest h =
    let same : 1 * 2 ^ place ≡ 2 ^ place = omega arith in
    let parts = subst (λ (n : ℕ). count_ones (n + rest) ≡ count_ones 1 + count_ones rest) same (ones_cat place 1 rest h) in
    omega (arith, parts, one_bit)

ones-pow : (k : ℕ) → count_ones (2 ^ k) ≡ 1
ones-pow k =
    let same : 2 ^ k + 0 ≡ 2 ^ k = omega arith in
    let parts = subst (λ (n : ℕ). count_ones n ≡ 1 + count_ones 0) same (highest_and_rest k 0 (pow_pos k)) in
    omega (arith, parts, no_bit)

positive_from_one : (n : ℕ) → count_ones n ≡ 1 → 0 < n
positive_from_one zero one = absurd (omega (arith, one, no_bit))
positive_from_one (suc n) one = omega arith

-- a number with one bit has no more than its highest one
power_from_one : (n : ℕ) → n < 2 ^ 64 → count_ones n ≡ 1 → IsPowerOfTwo n
power_from_one n fits one =
    let top = leading_top 64 n (positive_from_one n one) fits in
    let place = top.0 in
    let double : 2 ^ suc place ≡ 2 * 2 ^ place = omega arith in
    let rest : 2 ^ place + (n - 2 ^ place) ≡ n = omega (arith, top.2) in
    let below : n - 2 ^ place < 2 ^ place = omega (arith, top.2, top.3, double) in
    let counted = subst (λ (m : ℕ). count_ones m ≡ 1 + count_ones (n - 2 ^ place)) rest (highest_and_rest place (n - 2 ^ place) below) in
    let gone = zero_from_ones (n - 2 ^ place) (omega (arith, counted)) in
    (place, omega (arith, top.2, gone))

pub power_of_two_tells : (n : ℕ) → n < 2 ^ 64 → IsTrue (is_power_of_two n) ↔ IsPowerOfTwo n
power_of_two_tells n fits = (
  λ told. power_from_one n fits (eqb-true (count_ones n) 1 told),
  λ power. eq-eqb (count_ones n) 1 (subst (λ (m : ℕ). count_ones m ≡ 1) (sym power.1) (ones-pow power.0)),
)
