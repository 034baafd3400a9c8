-- How many are marked, and what one more mark leaves.
use Rattle.std.proofs.Common.{◌≡◌, ◌≢◌, ◌⊎◌, inl, inr, ℕ, zero, suc, ◌+◌, ◌<◌, ◌≤◌, Bool, true, false, List, [], ◌∷◌, ◌++◌, length, get_or, set, replicate, take, drop, vec_len, refl, sym, ap, subst, ◌∙◌, arith, get_or-set_other, get_or-set_same, length-set}
use Rattle.std.proofs.lemmas.Bool.{cases_eq}
use Rattle.std.proofs.lemmas.List.{get_or_read}
use Rattle.std.proofs.Math.Seq.{take-append_seam}
use Rattle.image_reading.specs.Marks.{marked}
use Rattle.image_reading.specs.Walk.{IsFound, Extends, Marks}
use Rattle.image_reading.specs.declared.reach.Reach.{Reach}

marked-le : (xs : List Bool) → marked xs ≤ length xs
marked-le [] = omega arith
marked-le (false ∷ xs) = let h = marked-le xs in omega arith
marked-le (true ∷ xs) = let h = marked-le xs in omega arith

-- none is marked
pub marked_none : (n : ℕ) → marked (replicate n false) ≡ 0
marked_none zero = refl
marked_none (suc n) = marked_none n

-- a list that was written over whole
pub refilled : {A : Type 0} (n : ℕ) (new old : List A) → length new ≡ n → take n (new ++ drop (length new) old) ≡ new
refilled n new old e = ap (λ k. take k (new ++ drop (length new) old)) (sym e) ∙ take-append_seam new (drop (length new) old)

-- one more is marked
pub marked-set : (xs : List Bool) (i : ℕ) → i < length xs → get_or xs i false ≡ false → marked (set xs i true) ≡ marked xs + 1
marked-set [] i lt e = absurd (omega arith)
marked-set (false ∷ xs) zero lt e = refl
marked-set (true ∷ xs) zero lt e = cc
marked-set (false ∷ xs) (suc i) lt e = marked-set xs i (omega arith) e
marked-set (true ∷ xs) (suc i) lt e = ap (λ n. n + 1) (marked-set xs i (omega arith) e)

-- where one isn't marked, there are fewer marks than places
pub marked-lt : (xs : List Bool) (i : ℕ) → i < length xs → get_or xs i false ≡ false → marked xs < length xs
marked-lt [] i lt e = absurd (omega arith)
marked-lt (false ∷ xs) i lt e = let h = marked-le xs in omega arith
marked-lt (true ∷ xs) zero lt e = cc
marked-lt (true ∷ xs) (suc i) lt e = let h = marked-lt xs i (omega arith) e in omega arith

-- what was read as no mark, at an inode number in range
module _ (reach : Reach) (i : ℕ) (lt : i < vec_len reach.reached) (b : Bool) (read : b ≡ get_or reach.reached.items i b) (is : b ≡ false) where
  pub unmarked : get_or reach.reached.items i false ≡ false
  unmarked = subst (λ d. get_or reach.reached.items i d ≡ d) is (sym read)

  pub in_marks : i < length reach.reached.items
  in_marks = let size = reach.reached.ok.0 in omega (arith, size)

  -- the order has room for a new one
  pub room_left : reach.seen < vec_len reach.order
  room_left =
      let h = marked-lt reach.reached.items i in_marks unmarked in
      let size = reach.reached.ok.0 in
      let counted = reach.counted in
      let room = reach.room in
      omega (arith, size, h, counted, room)

  pub in_order : reach.seen < length reach.order.items
  in_order = let size = reach.order.ok.0 in let left = room_left in omega (arith, size, left)

  pub one_more : marked (set reach.reached.items i true) ≡ reach.seen + 1
  one_more = marked-set reach.reached.items i in_marks unmarked ∙ ap (λ n. n + 1) reach.counted

-- the numbers in the order have room there
pub seen_within : (reach : Reach) → reach.seen ≤ vec_len reach.order
seen_within reach =
    let h = marked-le reach.reached.items in
    let size = reach.reached.ok.0 in
    let counted = reach.counted in
    let room = reach.room in
    omega (arith, size, h, counted, room)

pub in_order_at : (reach : Reach) (k x : ℕ) → k < reach.seen → x ≡ get_or reach.order.items k x → x ≡ get_or reach.order.items k 0
in_order_at reach k x lt read =
    let within = seen_within reach in
    let size = reach.order.ok.0 in
    get_or_read reach.order.items k x (omega (arith, within, size)) read 0

pub extends_itself : (reach : Reach) → Extends reach reach
extends_itself reach = record { later = omega arith; keeps = λ i h. h; order = λ m lt. refl; more = λ i h. inl h }

pub extends_twice : (a b c : Reach) → Extends a b → Extends b c → Extends a c
extends_twice a b c f g = record {
  later = (let x = f.later in let y = g.later in omega arith);
  keeps = λ i h. g.keeps i (f.keeps i h);
  order = λ m lt. g.order m (let x = f.later in omega arith) ∙ f.order m lt;
  more = λ i h. elim (g.more i h) [
    | inl old ↦ elim (f.more i old) [
      | inl older ↦ inl older
      | inr (m, le, lt, e) ↦ inr (m, le, (let y = g.later in omega arith), g.order m lt ∙ e)
    ]
    | inr (m, le, lt, e) ↦ inr (m, (let x = f.later in omega arith), lt, e)
  ];
}

-- a mark for i, which has none, and i at the end of the order
module _ (before after : Reach) (i : ℕ) (rename : after.rename ≡ before.rename) (seen : after.seen ≡ before.seen + 1)
    (reached : after.reached.items ≡ set before.reached.items i true) (order : after.order.items ≡ set before.order.items before.seen i)
    (in_marks : i < length before.reached.items) (in_order : before.seen < length before.order.items) where
  others : (j : ℕ) → j ≢ i → get_or after.reached.items j false ≡ get_or before.reached.items j false
  others j ne = ap (λ xs. get_or xs j false) reached ∙ get_or-set_other before.reached.items i j true false ne

  mark_found : IsFound after i
  mark_found = ap (λ xs. get_or xs i false) reached ∙ get_or-set_same before.reached.items i true false in_marks

  mark_keeps : (j : ℕ) → IsFound before j → IsFound after j
  mark_keeps j h = elim (cases_eq j i) [ inl e ↦ subst (IsFound after) (sym e) mark_found | inr ne ↦ others j ne ∙ h ]

  mark_only : (j : ℕ) → IsFound after j → IsFound before j ⊎ (j ≡ i)
  mark_only j h = elim (cases_eq j i) [ inl e ↦ inr e | inr ne ↦ inl (sym (others j ne) ∙ h) ]

  at_end : get_or after.order.items before.seen 0 ≡ i
  at_end = ap (λ xs. get_or xs before.seen 0) order ∙ get_or-set_same before.order.items before.seen i 0 in_order

  in_front : (m : ℕ) → m < before.seen → get_or after.order.items m 0 ≡ get_or before.order.items m 0
  in_front m lt = ap (λ xs. get_or xs m 0) order ∙ get_or-set_other before.order.items before.seen m i 0 (omega arith)

  mark_extends : Extends before after
  mark_extends = record {
    later = omega arith;
    keeps = mark_keeps;
    order = in_front;
    more = λ j h. elim (mark_only j h) [ inl old ↦ inl old | inr e ↦ inr (before.seen, omega arith, omega arith, at_end ∙ sym e) ];
  }

  mark_ordered : ((m : ℕ) → m < before.seen → IsFound before (get_or before.order.items m 0)) → (m : ℕ) → m < after.seen → IsFound after (get_or after.order.items m 0)
  mark_ordered old m lt = elim (cases_eq m before.seen) [
    | inl e ↦ subst (IsFound after) (sym (ap (λ k. get_or after.order.items k 0) e ∙ at_end)) mark_found
    | inr ne ↦ let less : m < before.seen = omega (arith, seen, lt, ne) in subst (IsFound after) (sym (in_front m less)) (mark_keeps _ (old m less))
  ]

  pub marks_new : Marks i before after
  marks_new = record {
    found = mark_found;
    only = mark_only;
    pointer = rename;
    extends = mark_extends;
    size = (let old = before.reached.ok.0 in let new = after.reached.ok.0 in let same = ap length reached ∙ length-set before.reached.items i true in omega (arith, old, new, same));
    ordered = mark_ordered;
  }

-- i has a mark already
pub marks_old : (reach : Reach) (i : ℕ) → i < vec_len reach.reached → (b : Bool) → b ≡ get_or reach.reached.items i b → b ≡ true → Marks i reach reach
marks_old reach i lt b read is = record {
  found = (let size = reach.reached.ok.0 in sym (get_or_read reach.reached.items i b (omega (arith, size, lt)) read false) ∙ is);
  only = λ j h. inl h;
  pointer = refl;
  extends = extends_itself reach;
  size = refl;
  ordered = λ old. old;
}
