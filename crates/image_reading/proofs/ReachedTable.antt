-- The table of the reached slots, in rising order.
use Rattle.std.proofs.Common.{◌≡◌, ◌≢◌, ◌↔◌, ◌⊎◌, inl, inr, ℕ, zero, suc, ◌+◌, ◌<◌, ◌≤◌, List, [], ◌∷◌, ◌++◌, length, get_or, refl, sym, ap, subst, arith}
use Rattle.std.proofs.lemmas.Bool.{cases_eq, cases_lt}
use Rattle.std.proofs.lemmas.List.{get_or_append_left, get_or_push, length_push}
use Rattle.std.proofs.lemmas.List.Kept.{AllPairs-from_increasing}
use Rattle.layout.specs.Geometry.{IsVolumeSize, inodes_of, inode_pages_of, descriptor_pages_of, data_pages_of, slots_of}
use Rattle.layout.proofs.GeometryLaws.{data_pages_below, slots_in_pages}
use Rattle.image_reading.specs.Counts.{IsIn, IsDistinct}
use Rattle.image_reading.specs.Reading.{IsHeld, IsReachedSlot}
use Rattle.image_reading.specs.Soundness.{HasName, HasOwnDirectory}
use Rattle.image_reading.specs.Scan.{AreReachedSlots}
use Rattle.std.specs.List.Sorted.{IsStrictlyIncreasing}

-- ---- places in a list

pub in_at : (xs : List ℕ) (k d : ℕ) → k < length xs → IsIn (get_or xs k d) xs
in_at [] k d lt = absurd (omega (arith, lt))
in_at (x ∷ xs) zero d lt = inl refl
in_at (x ∷ xs) (suc k) d lt = inr (in_at xs k d (omega (arith, lt)))

pub place_of : (x : ℕ) (xs : List ℕ) → IsIn x xs → (k : ℕ) × (k < length xs) × (get_or xs k 0 ≡ x)
place_of x [] h = absurd h
place_of x (y ∷ ys) h = elim h [
  | inl e ↦ (0, omega arith, sym e)
  | inr g ↦ let (k, lt, e) = place_of x ys g in (suc k, omega (arith, lt), e)
]

is_in_or_not : (x : ℕ) (xs : List ℕ) → IsIn x xs ⊎ (IsIn x xs → ⊥)
is_in_or_not x [] = inr (λ h. h)
is_in_or_not x (y ∷ ys) = elim (cases_eq x y) [
  | inl e ↦ inl (inl e)
  | inr ne ↦ elim (is_in_or_not x ys) [
    | inl h ↦ inl (inr h)
    | inr un ↦ inr (λ h. elim h [ inl e ↦ ne e | inr g ↦ un g ])
  ]
]

-- no number stands at two places
pub distinct_at : (xs : List ℕ) (j k : ℕ) → IsDistinct xs → j < k → k < length xs → get_or xs j 0 ≢ get_or xs k 0
distinct_at [] j k d lt within = absurd (omega (arith, within))
distinct_at (x ∷ xs) j zero d lt within = absurd (omega (arith, lt))
distinct_at (x ∷ xs) zero (suc k) d lt within = λ e. d.0 (subst (λ (y : ℕ). IsIn y xs) (sym e) (in_at xs k 0 (omega (arith, within))))
distinct_at (x ∷ xs) (suc j) (suc k) d lt within = distinct_at xs j k d.1 (omega (arith, lt)) (omega (arith, within))

pub from_places : (xs : List ℕ) → ((j k : ℕ) → j < k → k < length xs → get_or xs j 0 ≢ get_or xs k 0) → IsDistinct xs
from_places [] h = tt
from_places (x ∷ xs) h = (
  (λ at. let (k, lt, e) = place_of x xs at in h 0 (suc k) (omega arith) (omega (arith, lt)) (sym e)),
  from_places xs (λ j k lt within. h (suc j) (suc k) (omega (arith, lt)) (omega (arith, within))),
)

in_push : (x y : ℕ) (xs : List ℕ) → IsIn x (xs ++ y ∷ []) ↔ (IsIn x xs ⊎ (x ≡ y))
in_push x y [] = (
  (λ h. elim h [ inl e ↦ inr e | inr none ↦ absurd none ]),
  (λ h. elim h [ inl none ↦ absurd none | inr e ↦ inl e ]),
)
in_push x y (z ∷ zs) =
    let rest = in_push x y zs in (
      (λ h. elim h [ inl e ↦ inl (inl e) | inr g ↦ elim (rest.0 g) [ inl old ↦ inl (inr old) | inr e ↦ inr e ] ]),
      (λ h. elim h [ inl old ↦ elim old [ inl e ↦ inl e | inr g ↦ inr (rest.1 (inl g)) ] | inr e ↦ inr (rest.1 (inr e)) ]),
    )

-- ---- searches over the table

module _ (P : ℕ) (I slots : List ℕ) (table : AreReachedSlots P I slots) where
  pub reached_at : (k : ℕ) → k < length slots → IsReachedSlot P I (get_or slots k 0)
  reached_at k lt = (table.exactly (get_or slots k 0)).0 (in_at slots k 0 lt)

  pub rises : (j k : ℕ) → j < k → k < length slots → get_or slots j 0 < get_or slots k 0
  rises j k lt within = AllPairs-from_increasing slots table.rising j k 0 lt within

  -- a reached slot below one of the table stands before it
  pub earlier_at : (r k : ℕ) → IsReachedSlot P I r → k < length slots → r < get_or slots k 0 → (j : ℕ) × (j < k) × (get_or slots j 0 ≡ r)
  earlier_at r k reached within lt =
      let (j, inside, e) = place_of r slots ((table.exactly r).1 reached) in
      elim (cases_lt j k) [
        | inl before ↦ (j, before, e)
        | inr after ↦ absurd (elim (cases_eq j k) [
          | inl same ↦ (let here : get_or slots j 0 ≡ get_or slots k 0 = ap (λ i. get_or slots i 0) same in omega (arith, here, e, lt))
          | inr other ↦ (let up = rises k j (omega (arith, after, other)) inside in omega (arith, up, e, lt))
        ])
      ]

  -- a rule that holds wherever a slot isn't reached
  module _ (Q : ℕ → Type 0) (free : (x : ℕ) → (IsReachedSlot P I x → ⊥) → Q x) where
    pub holds_before : (k : ℕ) → k < length slots → ((j : ℕ) → j < k → Q (get_or slots j 0)) → (x : ℕ) → x < get_or slots k 0 → Q x
    holds_before k within below x lt = elim (is_in_or_not x slots) [
      | inl at ↦ (let (j, before, e) = earlier_at x k ((table.exactly x).0 at) within lt in subst Q e (below j before))
      | inr un ↦ free x (λ reached. un ((table.exactly x).1 reached))
    ]

    pub holds_all : (n : ℕ) → length slots ≤ n → ((j : ℕ) → j < n → Q (get_or slots j 0)) → (x : ℕ) → Q x
    holds_all n past below x = elim (is_in_or_not x slots) [
      | inl at ↦ (let (j, inside, e) = place_of x slots at in subst Q e (below j (omega (arith, inside, past))))
      | inr un ↦ free x (λ reached. un ((table.exactly x).1 reached))
    ]

module _ (P : ℕ) (I : List ℕ) where
  pub names_free : (x : ℕ) → (IsReachedSlot P I x → ⊥) → HasName P I x
  names_free x un = λ slot. absurd (un slot)

  pub own_directories_free : (x : ℕ) → (IsReachedSlot P I x → ⊥) → HasOwnDirectory P I x
  own_directories_free x un = λ r lt first other. absurd (un other)

-- ---- how the table is made

-- there is a slot
pub some_slots : (P : ℕ) → IsVolumeSize P → 1 ≤ slots_of P
unfolding slots_of data_pages_of inode_pages_of descriptor_pages_of inodes_of
some_slots P size = omega arith

-- and a slot's number fits 32 bits
pub slots_below : (P : ℕ) → IsVolumeSize P → slots_of P < 2097152
slots_below P size = let few = data_pages_below P size in let whole = slots_in_pages P in omega (arith, few, whole, size)

-- the reached slots below n
pub record AreReachedBelow (P : ℕ) (I : List ℕ) (n : ℕ) (slots : List ℕ) : Type 0 where
  pub rising : IsStrictlyIncreasing slots
  pub below : (k : ℕ) → k < length slots → get_or slots k 0 < n
  pub exactly : (s : ℕ) → IsIn s slots ↔ ((s < n) × IsReachedSlot P I s)

module _ (P : ℕ) (I : List ℕ) where
  pub none_below : AreReachedBelow P I 0 []
  none_below = record {
    rising = λ k lt. absurd (omega (arith, lt));
    below = λ k lt. absurd (omega (arith, lt));
    exactly = λ s. ((λ h. absurd h), (λ h. absurd (let lt = h.0 in omega (arith, lt))));
  }

  below_up_to : (n m : ℕ) (slots : List ℕ) → n ≤ m → ((x : ℕ) → n ≤ x → x < m → IsReachedSlot P I x → ⊥) → AreReachedBelow P I n slots → AreReachedBelow P I m slots
  below_up_to n m slots le none t = record {
    rising = t.rising;
    below = λ k lt. (let h = t.below k lt in omega (arith, h, le));
    exactly = λ s. (
      (λ at. let (lt, reached) = (t.exactly s).0 at in (omega (arith, lt, le), reached)),
      (λ h. elim (cases_lt s n) [ inl before ↦ (t.exactly s).1 (before, h.1) | inr after ↦ absurd (none s after h.0 h.1) ]),
    );
  }

  -- past slots that aren't held
  pub held_up_to : (n m : ℕ) (slots : List ℕ) → n ≤ m → ((x : ℕ) → n ≤ x → x < m → IsHeld P I x → ⊥) → AreReachedBelow P I n slots → AreReachedBelow P I m slots
  held_up_to n m slots le passed t = below_up_to n m slots le (λ x after before reached. passed x after before reached.live.held) t

  pub below_same : (n : ℕ) (slots : List ℕ) → (IsReachedSlot P I n → ⊥) → AreReachedBelow P I n slots → AreReachedBelow P I (n + 1) slots
  below_same n slots un t =
      below_up_to n (n + 1) slots (omega arith)
      (λ x after before reached. (let e : x ≡ n = omega (arith, after, before) in un (subst (IsReachedSlot P I) e reached))) t

  pub below_push : (n : ℕ) (slots : List ℕ) → IsReachedSlot P I n → AreReachedBelow P I n slots → AreReachedBelow P I (n + 1) (slots ++ n ∷ [])
  below_push n slots here t = record {
    rising = λ k lt. elim (cases_lt (k + 1) (length slots)) [
      | inl inside ↦ (
          let up = t.rising k inside in
          let first = get_or_append_left slots (n ∷ []) 0 k (omega (arith, inside)) in
          let second = get_or_append_left slots (n ∷ []) 0 (k + 1) inside in
          omega (arith, up, first, second)
          )
      | inr past ↦ (
          let long = length_push slots n in
          let first = get_or_append_left slots (n ∷ []) 0 k (omega (arith, lt, long)) in
          let second = get_or_push slots n 0 (k + 1) (omega (arith, past, lt, long)) in
          let before = t.below k (omega (arith, lt, long)) in
          omega (arith, first, second, before)
          )
    ];
    below = λ k lt. elim (cases_lt k (length slots)) [
      | inl inside ↦ (let is = get_or_append_left slots (n ∷ []) 0 k inside in let before = t.below k inside in omega (arith, is, before))
      | inr past ↦ (let long = length_push slots n in let is = get_or_push slots n 0 k (omega (arith, past, lt, long)) in omega (arith, is))
    ];
    exactly = λ s. (
      (λ at. elim ((in_push s n slots).0 at) [
        | inl old ↦ (let (lt, reached) = (t.exactly s).0 old in (omega (arith, lt), reached))
        | inr e ↦ (omega (arith, e), subst (IsReachedSlot P I) (sym e) here)
      ]),
      (λ h. elim (cases_eq s n) [
        | inl e ↦ (in_push s n slots).1 (inr e)
        | inr ne ↦ (in_push s n slots).1 (inl ((t.exactly s).1 ((let lt = h.0 in omega (arith, lt, ne)), h.1)))
      ]),
    );
  }

  pub below_all : (n : ℕ) (slots : List ℕ) → slots_of P ≤ n → AreReachedBelow P I n slots → AreReachedSlots P I slots
  below_all n slots past t = record {
    rising = t.rising;
    exactly = λ s. (
      (λ at. ((t.exactly s).0 at).1),
      (λ reached. (t.exactly s).1 ((let lt = reached.live.held.in_range in omega (arith, lt, past)), reached)),
    );
  }
