-- The table of the reached slots, sorted by directory and name.
use Rattle.std.proofs.Common.{◌≡◌, ◌≢◌, ◌⊎◌, inl, inr, ℕ, ◌+◌, ◌-◌, ◌<◌, ◌≤◌, Bool, true, false, not, ◌==◌, eqb, List, [], ◌∷◌, length, get_or, drop, refl, sym, ap, subst, ◌∙◌, arith, lt-ltb, Ordering, Less, Equal, Greater, nat_cmp, is_lt, IsPermutation, IsSortedBy, Contains, AllPairs, min}
use Rattle.std.proofs.lemmas.Bool.{cases_eq, cases_lt, cond-true}
use Rattle.std.proofs.lemmas.Cmp.{ranked, tied_itself, tied_back, nat_cmp_total, nat_list_cmp_total, on_total, then_total}
use Rattle.std.proofs.lemmas.List.{get_or_default}
use Rattle.std.proofs.lemmas.List.Kept.{AllPairs-from_increasing}
use Rattle.std.proofs.lemmas.List.MinMax.{ranks_by}
use Rattle.std.proofs.lemmas.List.Sorted.{sorted_far, IsPermutation-sym, Contains-permutation}
use Rattle.std.proofs.lemmas.Map.Keys.{IsDistinct-IsPermutation}
use Rattle.std.proofs.lemmas.Map.Made.{AllPairs-from_IsDistinct, IsDistinct-from_AllPairs}
use Rattle.std.specs.Cmp.{IsTotalOrder, IsStrictWeakOrder, nat_eq_equiv, unsigned_Decides}
use Rattle.std.specs.Cmp.Lexicographic.{slice_cmp}
use Rattle.std.specs.Ordering.{ordering_index, ordering_then, ordering_reverse}
use Rattle.layout.specs.Geometry.{slots_of}
use Rattle.layout.specs.Name.{bytes_of_words, name_cmp, name_words_cmp}
use Rattle.layout.specs.Fields.{slot_name, slot_words}
use Rattle.layout.proofs.NameOrder.{cmp_in_words}
use Rattle.image_reading.specs.Counts.{IsIn}
use Rattle.image_reading.specs.Reading.{slot_owner, IsReachedSlot}
use Rattle.image_reading.specs.Soundness.{HasName, HasOwnName}
use Rattle.image_reading.specs.Scan.{AreReachedSlots, AreSortedSlots, slot_or_last_of, entry_cmp, slot_cmp}
use Rattle.image_reading.specs.Scanned.{IsNameBefore, AreNames}
use Rattle.image_reading.proofs.Owners.{slot_past}
use Rattle.image_reading.proofs.ReachedTable.{in_at, place_of, from_places}

-- ---- orders

then_equal : (a b : Ordering) → ordering_then a b ≡ Equal → (a ≡ Equal) × (b ≡ Equal)
then_equal Less b e = absurd (let no : ⊥ = cc in no)
then_equal Equal b e = (refl, e)
then_equal Greater b e = absurd (let no : ⊥ = cc in no)

then_less : (a b : Ordering) → ordering_then a b ≡ Less → (a ≡ Less) ⊎ ((a ≡ Equal) × (b ≡ Less))
then_less Less b e = inl refl
then_less Equal b e = inr (refl, e)
then_less Greater b e = absurd (let no : ⊥ = cc in no)

nat_same : (x y : ℕ) → nat_cmp x y ≡ Equal → x ≡ y
nat_same x y e = ranked x y Equal (sym e)

nat_less : (x y : ℕ) → nat_cmp x y ≡ Less → x < y
nat_less x y e = ranked x y Less (sym e)

same_list : (xs ys : List ℕ) → slice_cmp nat_cmp xs ys ≡ Equal → xs ≡ ys
same_list [] [] e = refl
same_list [] (y ∷ ys) e = absurd (let no : ⊥ = cc in no)
same_list (x ∷ xs) [] e = absurd (let no : ⊥ = cc in no)
same_list (x ∷ xs) (y ∷ ys) e =
    let parts = then_equal (nat_cmp x y) (slice_cmp nat_cmp xs ys) e in
    ap (λ (z : ℕ). z ∷ xs) (nat_same x y parts.0) ∙ ap (λ (l : List ℕ). y ∷ l) (same_list xs ys parts.1)

-- what `==` and `!=` tell of an order
pub index_same : (o : Ordering) (b : Bool) → b ≡ (ordering_index o == 1) → b ≡ true → o ≡ Equal
index_same Less b e t = absurd (let no : ⊥ = cc in no)
index_same Equal b e t = refl
index_same Greater b e t = absurd (let no : ⊥ = cc in no)

pub index_other : (o : Ordering) (b : Bool) → b ≡ (ordering_index o == 1) → b ≡ false → o ≡ Equal → ⊥
index_other Less b e t is = (let no : ⊥ = cc in no)
index_other Equal b e t is = (let no : ⊥ = cc in no)
index_other Greater b e t is = (let no : ⊥ = cc in no)

pub index_not : (o : Ordering) (b : Bool) → b ≡ not (ordering_index o == 1) → b ≡ true → o ≡ Equal → ⊥
index_not Less b e t is = (let no : ⊥ = cc in no)
index_not Equal b e t is = (let no : ⊥ = cc in no)
index_not Greater b e t is = (let no : ⊥ = cc in no)

pub index_is : (o : Ordering) (b : Bool) → b ≡ not (ordering_index o == 1) → b ≡ false → o ≡ Equal
index_is Less b e t = absurd (let no : ⊥ = cc in no)
index_is Equal b e t = refl
index_is Greater b e t = absurd (let no : ⊥ = cc in no)

-- the first part of an order decides, or it ties
pub then_first : (a b : Ordering) → (a ≡ Equal → ⊥) → a ≡ ordering_then a b
then_first Less b other = refl
then_first Equal b other = absurd (other refl)
then_first Greater b other = refl

pub then_second : (a b : Ordering) → a ≡ Equal → b ≡ ordering_then a b
then_second a b e = ap (λ (o : Ordering). ordering_then o b) (sym e)

-- the other is neither less nor the same
less_from : (o q : Ordering) → q ≡ ordering_reverse o → is_lt o ≡ false → (o ≡ Equal → ⊥) → q ≡ Less
less_from Less q e level other = absurd (let no : ⊥ = cc in no)
less_from Equal q e level other = absurd (other refl)
less_from Greater q e level other = e

module _ (P : ℕ) (I : List ℕ) where
  entry_total : IsTotalOrder (entry_cmp P I)
  unfolding entry_cmp
  entry_total =
      then_total (on_total (λ s. slot_owner P I (slot_or_last_of P s)) nat_cmp_total)
      (on_total (λ s. drop 2 (bytes_of_words (slot_words P I (slot_or_last_of P s)))) nat_list_cmp_total)

  slot_total : IsTotalOrder (slot_cmp P I)
  slot_total = then_total entry_total nat_cmp_total

  pub slot_weak : IsStrictWeakOrder (λ r s. is_lt (slot_cmp P I r s))
  slot_weak = ranks_by slot_total (λ s. s)

  -- of two slots, if the first isn't behind
  slot_less : (r s : ℕ) → is_lt (slot_cmp P I s r) ≡ false → r ≢ s → slot_cmp P I r s ≡ Less
  slot_less r s level other =
      less_from (slot_cmp P I s r) (slot_cmp P I r s) (slot_total.antisymm r s) level
      (λ e. other (sym (nat_same s r (then_equal (entry_cmp P I s r) (nat_cmp s r) e).1)))

  -- what stands between two with one directory and name has them too
  between : (r y x : ℕ) → entry_cmp P I r x ≡ Equal → slot_cmp P I r y ≡ Less → slot_cmp P I y x ≡ Less → entry_cmp P I y x ≡ Equal
  between r y x e before after = elim (then_less (entry_cmp P I y x) (nat_cmp y x) after) [
    | inl less ↦ elim (then_less (entry_cmp P I r y) (nat_cmp r y) before) [
      | inl lower ↦ absurd (let far : entry_cmp P I r x ≡ Less = entry_total.trans r y x lower less in let no : ⊥ = cc in no)
      | inr tied ↦ sym (entry_total.congr r y x tied.0) ∙ e
    ]
    | inr tied ↦ tied.0
  ]

  within_same : (s : ℕ) → s < slots_of P → slot_or_last_of P s ≡ s
  unfolding slot_or_last_of
  within_same s lt = cond-true _ _ _ (lt-ltb s (slots_of P) lt)

  -- ---- sorting

  module _ (slots : List ℕ) (table : AreReachedSlots P I slots) where
    apart : AllPairs (λ x y. x ≢ y) slots
    apart i j d lt within e = let up = AllPairs-from_increasing slots table.rising i j d lt within in omega (arith, up, e)

    module _ (sorted : List ℕ) (same : IsPermutation slots sorted) where
      apart_sorted : AllPairs (λ x y. x ≢ y) sorted
      apart_sorted =
          AllPairs-from_IsDistinct {eq = eqb} unsigned_Decides sorted
          (IsDistinct-IsPermutation eqb (λ x y. nat_eq_equiv.symm x y) slots sorted same (IsDistinct-from_AllPairs {eq = eqb} unsigned_Decides slots apart))

      contained : (xs : List ℕ) (s : ℕ) → IsIn s xs → Contains xs s
      contained xs s at = let (k, lt, e) = place_of s xs at in (k, lt, get_or_default xs k s 0 lt ∙ e)

      from_contained : (xs : List ℕ) (s : ℕ) → Contains xs s → IsIn s xs
      from_contained xs s h = subst (λ (y : ℕ). IsIn y xs) h.2 (in_at xs h.0 s h.1)

      pub sorted_slots : IsSortedBy (λ x y. is_lt (slot_cmp P I x y)) sorted → AreSortedSlots P I sorted
      sorted_slots up = record {
        distinct = from_places sorted (λ j k lt within. apart_sorted j k 0 lt within);
        exactly = λ s. (
          (λ at. (table.exactly s).0 (from_contained slots s (Contains-permutation sorted slots s (IsPermutation-sym slots sorted same) (contained sorted s at)))),
          (λ reached. from_contained sorted s (Contains-permutation slots sorted s same (contained slots s ((table.exactly s).1 reached)))),
        );
        ordered = λ i j d lt within.
            slot_less (get_or sorted i d) (get_or sorted j d)
            (sorted_far (λ x y. is_lt (slot_cmp P I x y)) slot_weak sorted up i j d (omega (arith, lt)) within) (apart_sorted i j d lt within);
      }

  -- ---- names

  module _ (named : (s : ℕ) → HasName P I s) where
    entry_named : (r s : ℕ) → IsReachedSlot P I r → IsReachedSlot P I s
        → entry_cmp P I r s ≡ ordering_then (nat_cmp (slot_owner P I r) (slot_owner P I s)) (name_cmp (slot_name P I r) (slot_name P I s))
    unfolding entry_cmp slot_name
    entry_named r s first second =
        ap (λ (x : ℕ). ordering_then (nat_cmp (slot_owner P I x) (slot_owner P I (slot_or_last_of P s))) (name_words_cmp (slot_words P I x) (slot_words P I (slot_or_last_of P s))))
        (within_same r first.live.held.in_range)
        ∙ ap (λ (y : ℕ). ordering_then (nat_cmp (slot_owner P I r) (slot_owner P I y)) (name_words_cmp (slot_words P I r) (slot_words P I y)))
        (within_same s second.live.held.in_range)
        ∙ ap (λ (o : Ordering). ordering_then (nat_cmp (slot_owner P I r) (slot_owner P I s)) o)
        (cmp_in_words (slot_words P I r) (slot_words P I s) (named r first) (named s second))

    module _ (r s : ℕ) (first : IsReachedSlot P I r) (second : IsReachedSlot P I s) where
      name_before : entry_cmp P I r s ≡ Less → IsNameBefore P I r s
      name_before e = elim (then_less _ _ (sym (entry_named r s first second) ∙ e)) [
        | inl less ↦ inl (nat_less _ _ less)
        | inr both ↦ inr (nat_same _ _ both.0, both.1)
      ]

      twins_same : entry_cmp P I r s ≡ Equal → (slot_owner P I r ≡ slot_owner P I s) × (slot_name P I r ≡ slot_name P I s)
      twins_same e =
          let both = then_equal _ _ (sym (entry_named r s first second) ∙ e) in
          (nat_same _ _ both.0, same_list _ _ both.1)

      same_twins : slot_owner P I r ≡ slot_owner P I s → slot_name P I r ≡ slot_name P I s → entry_cmp P I r s ≡ Equal
      same_twins owner name =
          entry_named r s first second
          ∙ ap (λ (o : ℕ). ordering_then (nat_cmp (slot_owner P I r) o) (name_cmp (slot_name P I r) (slot_name P I s))) (sym owner)
          ∙ ap (λ (o : Ordering). ordering_then o (name_cmp (slot_name P I r) (slot_name P I s))) (tied_itself nat_cmp_total (slot_owner P I r))
          ∙ ap (λ (n : List ℕ). name_cmp (slot_name P I r) n) (sym name)
          ∙ tied_itself nat_list_cmp_total (slot_name P I r)

    -- ---- twins side by side

    module _ (slots : List ℕ) (table : AreSortedSlots P I slots) where
      reached_at : (k d : ℕ) → k < length slots → IsReachedSlot P I (get_or slots k d)
      reached_at k d lt = (table.exactly (get_or slots k d)).0 (in_at slots k d lt)

      neighbour : (i j : ℕ) → i < j → j < length slots → entry_cmp P I (get_or slots i 0) (get_or slots j 0) ≡ Equal → entry_cmp P I (get_or slots (j - 1) 0) (get_or slots j 0) ≡ Equal
      neighbour i j lt within e = elim (cases_eq i (j - 1)) [
        | inl same ↦ subst (λ (k : ℕ). entry_cmp P I (get_or slots k 0) (get_or slots j 0) ≡ Equal) same e
        | inr other ↦
            between (get_or slots i 0) (get_or slots (j - 1) 0) (get_or slots j 0) e
            (table.ordered i (j - 1) 0 (omega (arith, lt, other)) (omega (arith, within))) (table.ordered (j - 1) j 0 (omega (arith, lt)) within)
      ]

      -- of two with one directory and name the lower one stands before
      before_twin : (i j : ℕ) → i < length slots → j < length slots → entry_cmp P I (get_or slots i 0) (get_or slots j 0) ≡ Equal → get_or slots i 0 < get_or slots j 0 → i < j
      before_twin i j inside within e lt = elim (cases_lt i j) [
        | inl before ↦ before
        | inr after ↦ absurd (elim (cases_eq i j) [
          | inl same ↦ (let here : get_or slots i 0 ≡ get_or slots j 0 = ap (λ k. get_or slots k 0) same in omega (arith, here, lt))
          | inr other ↦ (
              let back = tied_back entry_total (get_or slots i 0) (get_or slots j 0) e in
              elim (then_less (entry_cmp P I (get_or slots j 0) (get_or slots i 0)) (nat_cmp (get_or slots j 0) (get_or slots i 0)) (table.ordered j i 0 (omega (arith, after, other)) inside)) [
                | inl less ↦ (let no : ⊥ = cc in no)
                | inr both ↦ (let lower = nat_less (get_or slots j 0) (get_or slots i 0) both.1 in omega (arith, lower, lt))
              ]
              )
        ])
      ]

      own_not : (k : ℕ) → 1 ≤ k → k < length slots → entry_cmp P I (get_or slots (k - 1) 0) (get_or slots k 0) ≡ Equal → HasOwnName P I (get_or slots k 0) → ⊥
      own_not k some within e own =
          let first = reached_at (k - 1) 0 (omega (arith, within)) in
          let second = reached_at k 0 within in
          let both = twins_same (get_or slots (k - 1) 0) (get_or slots k 0) first second e in
          elim (then_less (entry_cmp P I (get_or slots (k - 1) 0) (get_or slots k 0)) (nat_cmp (get_or slots (k - 1) 0) (get_or slots k 0)) (table.ordered (k - 1) k 0 (omega (arith, some)) within)) [
            | inl less ↦ (let no : ⊥ = cc in no)
            | inr tied ↦ own (get_or slots (k - 1) 0) (nat_less _ _ tied.1) first second both.0 both.1
          ]

      -- the names are in order where no two are the same
      pub names_in_order : ((s : ℕ) → HasOwnName P I s) → AreNames P I slots
      names_in_order own = record {
        distinct = table.distinct;
        exactly = table.exactly;
        ordered = λ i j d lt within. (
            let first = reached_at i d (omega (arith, lt, within)) in
            let second = reached_at j d within in
            elim (then_less (entry_cmp P I (get_or slots i d) (get_or slots j d)) (nat_cmp (get_or slots i d) (get_or slots j d)) (table.ordered i j d lt within)) [
              | inl less ↦ name_before (get_or slots i d) (get_or slots j d) first second less
              | inr tied ↦ absurd (
                  let both = twins_same (get_or slots i d) (get_or slots j d) first second tied.0 in
                  own (get_or slots j d) (get_or slots i d) (nat_less _ _ tied.1) first second both.0 both.1
                  )
            ]
            );
      }

-- ---- the least of the second slots

-- that of the neighbours before place n
pub record IsLeastTwin (P : ℕ) (I slots : List ℕ) (n least : ℕ) : Type 0 where
  pub there : least ≢ slots_of P → (k : ℕ) × (1 ≤ k) × (k < length slots) × (entry_cmp P I (get_or slots (k - 1) 0) (get_or slots k 0) ≡ Equal) × (get_or slots k 0 ≡ least)
  pub below : (k : ℕ) → 1 ≤ k → k < n → entry_cmp P I (get_or slots (k - 1) 0) (get_or slots k 0) ≡ Equal → least ≤ get_or slots k 0

module _ (P : ℕ) (I slots : List ℕ) where
  pub no_twin : IsLeastTwin P I slots 1 (slots_of P)
  no_twin = record { there = λ ne. absurd (ne refl); below = λ k some lt. absurd (omega (arith, some, lt)) }

  pub least_same : (n least : ℕ) → (entry_cmp P I (get_or slots (n - 1) 0) (get_or slots n 0) ≡ Equal → ⊥) → IsLeastTwin P I slots n least → IsLeastTwin P I slots (n + 1) least
  least_same n least none t = record {
    there = t.there;
    below = λ k some lt e. elim (cases_eq k n) [
      | inl same ↦ absurd (none (subst (λ (m : ℕ). entry_cmp P I (get_or slots (m - 1) 0) (get_or slots m 0) ≡ Equal) same e))
      | inr other ↦ t.below k some (omega (arith, lt, other)) e
    ];
  }

  pub least_more : (n least new : ℕ) → new ≡ min least (get_or slots n 0) → 1 ≤ n → n < length slots → entry_cmp P I (get_or slots (n - 1) 0) (get_or slots n 0) ≡ Equal → IsLeastTwin P I slots n least → IsLeastTwin P I slots (n + 1) new
  least_more n least new is some inside here t = record {
    there = λ ne. elim (cases_lt (get_or slots n 0) least) [
      | inl lower ↦ (n, some, inside, here, omega (arith, is, lower))
      | inr le ↦ (
          let same : new ≡ least = omega (arith, is, le) in
          let (k, one, lt, e, at) = t.there (λ e. ne (same ∙ e)) in
          (k, one, lt, e, at ∙ sym same)
          )
    ];
    below = λ k one lt e. elim (cases_eq k n) [
      | inl same ↦ (let at : get_or slots k 0 ≡ get_or slots n 0 = ap (λ m. get_or slots m 0) same in omega (arith, is, at))
      | inr other ↦ (let old = t.below k one (omega (arith, lt, other)) e in omega (arith, is, old))
    ];
  }

  module _ (named : (s : ℕ) → HasName P I s) (table : AreSortedSlots P I slots) (n least : ℕ) (past : length slots ≤ n) (t : IsLeastTwin P I slots n least) where
    own_below : (x : ℕ) → x < least → HasOwnName P I x
    own_below x lt r before first second owner name =
        let e = same_twins P I named r x first second owner name in
        let (i, inside, is) = place_of r slots ((table.exactly r).1 first) in
        let (j, within, at) = place_of x slots ((table.exactly x).1 second) in
        let tied : entry_cmp P I (get_or slots i 0) (get_or slots j 0) ≡ Equal =
        subst (λ (y : ℕ). entry_cmp P I (get_or slots i 0) y ≡ Equal) (sym at) (subst (λ (y : ℕ). entry_cmp P I y x ≡ Equal) (sym is) e) in
        let lower = before_twin P I named slots table i j inside within tied (omega (arith, before, is, at)) in
        let here = t.below j (omega (arith, lower)) (omega (arith, within, past)) (neighbour P I named slots table i j lower within tied) in
        omega (arith, here, at, lt)

    pub own_all : least ≡ slots_of P → (x : ℕ) → HasOwnName P I x
    own_all is x = elim (cases_lt x least) [
      | inl lt ↦ own_below x lt
      | inr le ↦ (λ r before first second. absurd (slot_past P I x (omega (arith, is, le)) second))
    ]

    pub own_least : least ≢ slots_of P → ((x : ℕ) → x < least → HasOwnName P I x) × (HasOwnName P I least → ⊥)
    own_least ne = (
      own_below,
      (λ own. let (k, some, lt, e, at) = t.there ne in
          own_not P I named slots table k some lt e (subst (HasOwnName P I) (sym at) own)),
    )
