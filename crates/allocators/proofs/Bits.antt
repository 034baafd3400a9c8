-- The bits of one word.
use Rattle.std.proofs.Common.{◌≡◌, ℕ, ◌-◌, ◌^◌, ◌<◌, ◌≤◌, min, bit_and, w64, sym, ap, inl, inr, ◌∙◌, arith}
use Rattle.std.specs.Int.{bit_at, trailing_zeros}
use Rattle.std.proofs.lemmas.Bool.{cases_lt}
use Rattle.std.proofs.lemmas.Nat.{and_le_l}
use Rattle.std.proofs.lemmas.Nat.Bits.{bit_at_and, bit_at-lt, bit_at-zero, bit_at-trailing_zeros, bit_at_mask_inside, bit_at_mask_below}
use Rattle.allocators.specs.Words.{IsLowestBit}

least_one : (bit : ℕ) → bit < 2 → min bit 1 ≡ bit
least_one bit small = omega arith

least_none : (bit : ℕ) → min bit 0 ≡ 0
least_none bit = omega arith

-- a mask keeps the bits from one on
kept : (word low bit : ℕ) → low ≤ bit → bit < 64 → bit_at (bit_and word (2 ^ 64 - 2 ^ low)) bit ≡ bit_at word bit
kept word low bit reached within =
    bit_at_and word (2 ^ 64 - 2 ^ low) bit ∙ ap (min (bit_at word bit)) (bit_at_mask_inside low 64 bit reached within) ∙ least_one (bit_at word bit) (bit_at-lt word bit)

-- and no bit below it
dropped : (word low bit : ℕ) → bit < low → bit_at (bit_and word (2 ^ 64 - 2 ^ low)) bit ≡ 0
dropped word low bit below =
    bit_at_and word (2 ^ 64 - 2 ^ low) bit ∙ ap (min (bit_at word bit)) (bit_at_mask_below low 64 bit below) ∙ least_none (bit_at word bit)

pub none_left : (word low left : ℕ) → left ≡ bit_and word (2 ^ 64 - 2 ^ low) → left ≡ 0 → (bit : ℕ) → low ≤ bit → bit < 64 → bit_at word bit ≡ 0
none_left word low left is none bit reached within =
    sym (kept word low bit reached within) ∙ ap (λ n. bit_at n bit) (sym is ∙ none) ∙ bit_at-zero bit

pub lowest_left : (word low left : ℕ) → left ≡ bit_and word (2 ^ 64 - 2 ^ low) → word < 2 ^ 64 → 0 < left → IsLowestBit word low (trailing_zeros w64 left)
lowest_left word low left is fits some = record {
  within = first.0;
  reached = reached;
  set = sym (kept word low bit reached first.0) ∙ ap (λ n. bit_at n bit) (sym is) ∙ first.1;
  least = λ other above below. sym (kept word low other above (let within = first.0 in omega arith)) ∙ ap (λ n. bit_at n other) (sym is) ∙ first.2 other below;
}
  where
    small : left < 2 ^ 64
    small = let least = and_le_l word (2 ^ 64 - 2 ^ low) in omega (arith, is, least, fits)

    bit : ℕ
    bit = trailing_zeros w64 left

    first : (bit < 64) × (bit_at left bit ≡ 1) × ((other : ℕ) → other < bit → bit_at left other ≡ 0)
    first = bit_at-trailing_zeros w64 left some small

    reached : low ≤ bit
    reached = elim (cases_lt bit low) [
      | inl below ↦ let none = sym first.1 ∙ ap (λ n. bit_at n bit) is ∙ dropped word low bit below in let no : ⊥ = omega (arith, none) in absurd no
      | inr above ↦ above
    ]
