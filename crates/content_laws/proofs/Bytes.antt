-- The bytes of a list after a range of it was written, after it was lengthened, and of a mix of both.
use Rattle.std.proofs.Common.{◌≡◌, ◌⊎◌, inl, inr, ℕ, suc, ◌+◌, ◌-◌, ◌<◌, ◌≤◌, Bool, true, false, ◌&&◌, ◌||◌, ◌==◌, nat_lt, nat_le, List, [], ◌∷◌, ◌++◌, length, take, drop, replicate, slice_index, refl, sym, ap, subst, ◌∙◌, arith, length-append, length-drop}
use Rattle.std.proofs.lemmas.Bool.{cases_lt}
use Rattle.std.proofs.lemmas.Bool.Decides.{nat_tests}
use Rattle.std.proofs.lemmas.List.{get_or_append_left, get_or-append_right, get_or_past, get_or-replicate, get_or-take, get_or-drop, length-take, length-take-le, length-replicate}
use Rattle.tree_model.specs.Allowed.{is_written, is_mix}
use Rattle.tree_model.specs.Step.{overwritten, resized}
use Rattle.content_laws.specs.Range.{IsInRange, IsBeside}

-- ---- zeros behind a list

zero_at : (n o : ℕ) → slice_index (replicate n 0) o ≡ 0
zero_at n o = elim (cases_lt o n) [
  | inl lt ↦ get_or-replicate n o 0 0 lt
  | inr ge ↦ get_or_past (replicate n 0) o 0 (let long = length-replicate {A = ℕ} n 0 in omega (arith, ge, long))
]

zeros_behind : (xs : List ℕ) (n o : ℕ) → slice_index (xs ++ replicate n 0) o ≡ slice_index xs o
zeros_behind xs n o = elim (cases_lt o (length xs)) [
  | inl lt ↦ get_or_append_left xs (replicate n 0) 0 o lt
  | inr ge ↦ get_or-append_right xs (replicate n 0) (length xs) o 0 refl ge ∙ zero_at n (o - length xs) ∙ sym (get_or_past xs o 0 ge)
]

-- ---- the range in its place

module _ (old : List ℕ) (offset : ℕ) (new : List ℕ) where
  unfoldable long : List ℕ
  long = old ++ replicate (offset + length new - length old) 0

  length-long : length long ≡ length old + (offset + length new - length old)
  unfolding long
  length-long =
      let zeros = length-replicate {A = ℕ} (offset + length new - length old) 0 in
      let all = length-append old (replicate (offset + length new - length old) 0) in
      omega (arith, zeros, all)

  long_at : (o : ℕ) → slice_index long o ≡ slice_index old o
  unfolding long
  long_at o = zeros_behind old (offset + length new - length old) o

  length-front : length (take offset long) ≡ offset
  length-front = length-take-le offset long (let all = length-long in omega (arith, all))

  length-both : length (take offset long ++ new) ≡ offset + length new
  length-both = let front = length-front in let all = length-append (take offset long) new in omega (arith, front, all)

  front_at : (o : ℕ) → o < offset → slice_index (overwritten old offset new) o ≡ slice_index old o
  unfolding long
  front_at o lt =
      let front = length-front in
      let both = length-both in
      get_or_append_left (take offset long ++ new) (drop (offset + length new) long) 0 o (omega (arith, both, lt))
      ∙ get_or_append_left (take offset long) new 0 o (omega (arith, front, lt))
      ∙ get_or-take offset long o 0 lt ∙ long_at o

  back_at : (o : ℕ) → offset + length new ≤ o → slice_index (overwritten old offset new) o ≡ slice_index old o
  unfolding long
  back_at o ge =
      let e : offset + length new + (o - (offset + length new)) ≡ o = omega (arith, ge) in
      get_or-append_right (take offset long ++ new) (drop (offset + length new) long) (offset + length new) o 0 length-both ge
      ∙ get_or-drop (offset + length new) long (o - (offset + length new)) 0
      ∙ ap (λ k. slice_index long k) e ∙ long_at o

  pub overwritten-in : (o : ℕ) → IsInRange offset new o → slice_index (overwritten old offset new) o ≡ slice_index new (o - offset)
  unfolding long
  overwritten-in o range =
      let least = range.least in
      let below = range.below in
      let both = length-both in
      get_or_append_left (take offset long ++ new) (drop (offset + length new) long) 0 o (omega (arith, both, below))
      ∙ get_or-append_right (take offset long) new offset o 0 length-front least

  pub overwritten-beside : (o : ℕ) → IsBeside offset new o → slice_index (overwritten old offset new) o ≡ slice_index old o
  overwritten-beside o beside = elim beside [ inl lt ↦ front_at o lt | inr ge ↦ back_at o ge ]

  pub length-overwritten : length (overwritten old offset new) ≡ length old + (offset + length new - length old)
  unfolding long
  length-overwritten =
      let all = length-long in
      let both = length-both in
      let tail = length-drop (offset + length new) long in
      let two = length-append (take offset long ++ new) (drop (offset + length new) long) in
      omega (arith, all, both, tail, two)

-- ---- a file of another size

pub length-resized : (bytes : List ℕ) (size : ℕ) → length (resized bytes size) ≡ size
length-resized bytes size =
    let zeros = length-replicate {A = ℕ} (size - length bytes) 0 in
    let all = length-append bytes (replicate (size - length bytes) 0) in
    let cut = length-take size (bytes ++ replicate (size - length bytes) 0) in
    omega (arith, zeros, all, cut)

pub resized_at : (bytes : List ℕ) (size o : ℕ) → o < size → slice_index (resized bytes size) o ≡ slice_index bytes o
resized_at bytes size o lt = get_or-take size (bytes ++ replicate (size - length bytes) 0) o 0 lt ∙ zeros_behind bytes (size - length bytes) o

-- ---- mixes

-- byte o is the old one or the one that is written there
abbrev pub IsMixedByte : ℕ → List ℕ → ℕ → ℕ → ℕ → Type 0
IsMixedByte offset new o old now = (now ≡ old) ⊎ (IsInRange offset new o × (now ≡ slice_index new (o - offset)))

all_true : (a b c : Bool) → a ≡ true → b ≡ true → c ≡ true → (a && b && c) ≡ true
all_true true true c x y z = z
all_true true false c x y z = y
all_true false b c x y z = x

right_true : (a b : Bool) → b ≡ true → (a || b) ≡ true
right_true true b e = refl
right_true false b e = e

both_true : (a b : Bool) → a ≡ true → b ≡ true → (a && b) ≡ true
both_true true b x y = y
both_true false b x y = x

left_true : (a b : Bool) → a ≡ true → (a || b) ≡ true
left_true true b e = refl
left_true false b e = cc

equal_true : (a b : ℕ) → a ≡ b → (a == b) ≡ true
equal_true a b e = grind (arith, nat_tests)

le_true : (a b : ℕ) → a ≤ b → nat_le a b ≡ true
le_true a b e = grind (arith, nat_tests)

lt_true : (a b : ℕ) → a < b → nat_lt a b ≡ true
lt_true a b e = grind (arith, nat_tests)

mixed_byte : (offset : ℕ) (new : List ℕ) (o old now : ℕ) → IsMixedByte offset new o old now → (now == old || is_written offset new o now) ≡ true
mixed_byte offset new o old now h = elim h [
  | inl e ↦ left_true (now == old) (is_written offset new o now) (equal_true now old e)
  | inr (range, e) ↦ right_true (now == old) (is_written offset new o now)
      (all_true (nat_le offset o) (nat_lt o (offset + length new)) (now == slice_index new (o - offset))
      (le_true offset o range.least) (lt_true o (offset + length new) range.below) (equal_true now (slice_index new (o - offset)) e))
]

pub mixed_bytes : (offset : ℕ) (new : List ℕ) (k : ℕ) (old mixed : List ℕ) → length mixed ≡ length old
    → ((o : ℕ) → o < length old → IsMixedByte offset new (k + o) (slice_index old o) (slice_index mixed o)) → is_mix offset new k old mixed ≡ true
mixed_bytes offset new k [] [] long each = refl
mixed_bytes offset new k [] (now ∷ mixed) long each = absurd (omega (arith, long))
mixed_bytes offset new k (byte ∷ old) [] long each = absurd (omega (arith, long))
mixed_bytes offset new k (byte ∷ old) (now ∷ mixed) long each =
    both_true (now == byte || is_written offset new k now) (is_mix offset new (k + 1) old mixed)
    (mixed_byte offset new k byte now (subst (λ o. IsMixedByte offset new o byte now) first (each 0 (omega arith))))
    (mixed_bytes offset new (k + 1) old mixed (omega (arith, long)) (λ o lt. subst (λ q. IsMixedByte offset new q (slice_index old o) (slice_index mixed o)) (next o) (each (suc o) (omega (arith, lt)))))
  where
    first : k + 0 ≡ k
    first = omega arith

    next : (o : ℕ) → k + suc o ≡ k + 1 + o
    next o = omega arith
