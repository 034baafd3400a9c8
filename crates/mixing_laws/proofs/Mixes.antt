-- Bytes of which some are those that a range writes: as many as before, the same outside the range, and the same after the whole range is written.
use Rattle.std.proofs.Common.{◌≡◌, ℕ, zero, suc, ◌+◌, ◌-◌, ◌<◌, ◌≤◌, Bool, true, false, ◌&&◌, ◌||◌, ◌==◌, nat_lt, nat_le, List, [], ◌∷◌, ◌++◌, length, take, drop, replicate, slice_index, refl, sym, ap, ◌∙◌, arith}
use Rattle.std.proofs.lemmas.Bool.Decides.{nat_tests}
use Rattle.tree_model.specs.Allowed.{is_written, is_mix}
use Rattle.tree_model.specs.Step.{overwritten}
use Rattle.naming_laws.proofs.Named.{equal_test}
use Rattle.mixing_laws.specs.Mixed.{StoredBelowLaw}

-- ---- tests

left_true : (a b : Bool) → a && b ≡ true → a ≡ true
left_true true b e = refl
left_true false b e = cc

right_true : (a b : Bool) → a && b ≡ true → b ≡ true
right_true true b e = e
right_true false b e = cc

both_true : (a b : Bool) → a ≡ true → b ≡ true → a && b ≡ true
both_true true b p q = q
both_true false b p q = cc

or_true : (a b : Bool) → b ≡ true → a || b ≡ true
or_true true b e = refl
or_true false b e = e

le_true : (a b : ℕ) → a ≤ b → nat_le a b ≡ true
le_true a b e = grind (arith, nat_tests)

lt_true : (a b : ℕ) → a < b → nat_lt a b ≡ true
lt_true a b e = grind (arith, nat_tests)

from_le : (a b : ℕ) → nat_le a b ≡ true → a ≤ b
from_le a b e = grind (arith, nat_tests)

from_lt : (a b : ℕ) → nat_lt a b ≡ true → a < b
from_lt a b e = grind (arith, nat_tests)

equal_from : (a b : ℕ) → a == b ≡ true → a ≡ b
equal_from a b e = grind (arith, nat_tests)

module _ (offset : ℕ) (new : List ℕ) where
  -- nothing is written at byte j
  abbrev IsOutside : ℕ → Type 0
  IsOutside j = offset ≤ j → j < offset + length new → ⊥

  kept_byte : (k byte now : ℕ) → IsOutside k → (now == byte || is_written offset new k now) ≡ true → now ≡ byte
  kept_byte k byte now outside =
      elim (now == byte) as (λ t. now == byte ≡ t → (t || is_written offset new k now) ≡ true → now ≡ byte) [
        | true ↦ λ is e. equal_from now byte is
        | false ↦ λ is e.
            let least = nat_le offset k in
            let below = nat_lt k (offset + length new) in
            let within = left_true (least && below) (now == slice_index new (k - offset)) e in
            absurd (outside (from_le offset k (left_true least below within)) (from_lt k (offset + length new) (right_true least below within)))
      ] refl

  written : (k byte : ℕ) → offset ≤ k → k < offset + length new → slice_index new (k - offset) ≡ byte → is_written offset new k byte ≡ true
  written k byte least below is =
      both_true _ _ (both_true _ _ (le_true offset k least) (lt_true k (offset + length new) below)) (equal_test byte (slice_index new (k - offset)) (sym is))

  -- ---- what a mix is

  mix_kept : (k byte : ℕ) (old mixed : List ℕ) → is_mix offset new (k + 1) old mixed ≡ true → is_mix offset new k (byte ∷ old) (byte ∷ mixed) ≡ true
  mix_kept k byte old mixed rest = ap (λ t. (t || is_written offset new k byte) && is_mix offset new (k + 1) old mixed) (equal_test byte byte refl) ∙ rest

  pub mix_itself : (k : ℕ) (old : List ℕ) → is_mix offset new k old old ≡ true
  mix_itself k [] = refl
  mix_itself k (byte ∷ old) = mix_kept k byte old old (mix_itself (k + 1) old)

  pub length-mix : (k : ℕ) (old mixed : List ℕ) → is_mix offset new k old mixed ≡ true → length mixed ≡ length old
  length-mix k [] [] e = refl
  length-mix k [] (now ∷ mixed) e = cc
  length-mix k (byte ∷ old) [] e = cc
  length-mix k (byte ∷ old) (now ∷ mixed) e = ap suc (length-mix (k + 1) old mixed (right_true _ _ e))

  pub mix_outside : (k : ℕ) (old mixed : List ℕ) → ((j : ℕ) → k ≤ j → IsOutside j) → is_mix offset new k old mixed ≡ true → mixed ≡ old
  mix_outside k [] [] outside e = refl
  mix_outside k [] (now ∷ mixed) outside e = cc
  mix_outside k (byte ∷ old) [] outside e = cc
  mix_outside k (byte ∷ old) (now ∷ mixed) outside e =
      let same = kept_byte k byte now (outside k (omega arith)) (left_true _ _ e) in
      let rest = mix_outside (k + 1) old mixed (λ j above. outside j (omega (arith, above))) (right_true _ _ e) in
      λ i. same i ∷ rest i

  -- ---- the range written over a mix

  before_range : (n k : ℕ) (old mixed more : List ℕ) → k + n ≤ offset → is_mix offset new k old mixed ≡ true → take n (mixed ++ more) ≡ take n (old ++ more)
  before_range zero k old mixed more below e = refl
  before_range (suc n) k [] [] more below e = refl
  before_range (suc n) k [] (now ∷ mixed) more below e = cc
  before_range (suc n) k (byte ∷ old) [] more below e = cc
  before_range (suc n) k (byte ∷ old) (now ∷ mixed) more below e =
      let same = kept_byte k byte now (λ least less. omega (arith, below, least)) (left_true _ _ e) in
      let rest = before_range n (k + 1) old mixed more (omega (arith, below)) (right_true _ _ e) in
      λ i. same i ∷ rest i

  behind_range : (n k : ℕ) (old mixed more : List ℕ) → offset + length new ≤ k + n → is_mix offset new k old mixed ≡ true → drop n (mixed ++ more) ≡ drop n (old ++ more)
  behind_range zero k old mixed more above e = ap (λ l. l ++ more) (mix_outside k old mixed (λ j from least less. omega (arith, above, from, less)) e)
  behind_range (suc n) k [] [] more above e = refl
  behind_range (suc n) k [] (now ∷ mixed) more above e = cc
  behind_range (suc n) k (byte ∷ old) [] more above e = cc
  behind_range (suc n) k (byte ∷ old) (now ∷ mixed) more above e = behind_range n (k + 1) old mixed more (omega (arith, above)) (right_true _ _ e)

  pub overwritten-mix : (old mixed : List ℕ) → is_mix offset new 0 old mixed ≡ true → overwritten mixed offset new ≡ overwritten old offset new
  overwritten-mix old mixed e =
      let zeros : List ℕ = replicate (offset + length new - length old) 0 in
      let front = before_range offset 0 old mixed zeros (start offset) e in
      let back = behind_range (offset + length new) 0 old mixed zeros (end (offset + length new)) e in
      ap (λ n. let long = mixed ++ replicate (offset + length new - n) 0 in take offset long ++ new ++ drop (offset + length new) long) (length-mix 0 old mixed e)
      ∙ (λ i. front i ++ new ++ back i)
    where
      start : (n : ℕ) → 0 + n ≤ n
      start n = omega arith

      end : (n : ℕ) → n ≤ 0 + n
      end n = omega arith

  -- ---- what is stored of a range below the size

  own_front : (old more rest : List ℕ) → take (length old) (old ++ more ++ rest) ≡ old
  own_front [] more rest = refl
  own_front (byte ∷ old) more rest = ap (λ l. byte ∷ l) (own_front old more rest)

  stored_in : (k : ℕ) (left old more rest : List ℕ) → offset ≤ k → k + length left ≡ offset + length new → ((o : ℕ) → slice_index new (k - offset + o) ≡ slice_index left o)
      → is_mix offset new k old (take (length old) (left ++ drop (length left) (old ++ more) ++ rest)) ≡ true
  stored_in k left [] more rest least long each = refl
  stored_in k [] (byte ∷ old) more rest least long each = ap (is_mix offset new k (byte ∷ old)) (own_front (byte ∷ old) more rest) ∙ mix_itself k (byte ∷ old)
  stored_in k (now ∷ left) (byte ∷ old) more rest least long each =
      both_true _ _ (or_true (now == byte) (is_written offset new k now) (written k now least (omega (arith, long)) (ap (slice_index new) first ∙ each 0)))
      (stored_in (k + 1) left old more rest (omega (arith, least)) (omega (arith, long)) (λ o. ap (slice_index new) (next o) ∙ each (suc o)))
    where
      first : k - offset ≡ k - offset + 0
      first = omega arith

      next : (o : ℕ) → k + 1 - offset + o ≡ k - offset + suc o
      next o = omega (arith, least)

  stored_from : (n count k : ℕ) (old more rest : List ℕ) → offset ≡ k + n → count ≡ n + length new
      → is_mix offset new k old (take (length old) (take n (old ++ more) ++ new ++ drop count (old ++ more) ++ rest)) ≡ true
  stored_from n count k [] more rest is end = refl
  stored_from zero count k (byte ∷ old) more rest is end =
      ap (λ c. is_mix offset new k (byte ∷ old) (take (suc (length old)) (new ++ drop c (byte ∷ old ++ more) ++ rest))) whole
      ∙ stored_in k new (byte ∷ old) more rest (omega (arith, is)) (omega (arith, is)) (λ o. ap (slice_index new) (here o))
    where
      whole : count ≡ length new
      whole = omega (arith, end)

      here : (o : ℕ) → k - offset + o ≡ o
      here o = omega (arith, is)
  stored_from (suc n) zero k (byte ∷ old) more rest is end = absurd (omega (arith, end))
  stored_from (suc n) (suc count) k (byte ∷ old) more rest is end = mix_kept k byte old _ (stored_from n count (k + 1) old more rest (omega (arith, is)) (omega (arith, end)))

pub stored_below_law : StoredBelowLaw
stored_below_law offset bytes old =
    let zeros : List ℕ = replicate (offset + length bytes - length old) 0 in
    let more : List ℕ = replicate (length old - length (overwritten old offset bytes)) 0 in
    stored_from offset bytes offset (offset + length bytes) 0 old zeros more (start offset) refl
  where
    start : (n : ℕ) → n ≡ 0 + n
    start n = omega arith
