-- The held pages, each found from those before it.
use Rattle.std.proofs.Common.{◌≡◌, ◌≢◌, inl, inr, ℕ, ◌+◌, ◌-◌, ◌*◌, ◌/◌, ◌<◌, ◌≤◌, true, false, List, length, get_or, refl, sym, subst, arith, Option, Some, None, MatchOption}
use Rattle.std.proofs.lemmas.Bool.{cases_eq, cases_lt}
use Rattle.layout.specs.Geometry.{data_pages_of, slots_of, page_of_slot}
use Rattle.layout.specs.Fields.{slot_pointer}
use Rattle.image_reading.specs.Reading.{IsHeld, slot_owner}
use Rattle.std.specs.Option.{is_some}
use Rattle.image_reading.specs.Repairs.{IsPointer}
use Rattle.image_reading.specs.Soundness.{PointsAtHeld, IsOnlyPointer}
use Rattle.image_reading.specs.Scan.{IsHeldPage, IsNextHeld, IsPointerAt}

-- the held pages from n on
pub record HeldFrom (P : ℕ) (I : List ℕ) (n : ℕ) (held : List ℕ) : Type 0 where
  pub pages : length held ≡ data_pages_of P + 1
  pub nexts : (m : ℕ) → n ≤ m → m ≤ data_pages_of P → IsNextHeld P I m (get_or held m 0)

module _ (P : ℕ) (I : List ℕ) where
  -- behind the last page
  pub none_behind : IsNextHeld P I (data_pages_of P) 0
  none_behind = record { there = λ n. absurd (n refl); least = λ j le h. absurd (let lt = h.in_range in omega (arith, le, lt)) }

  pub next_here : (page : ℕ) → IsHeldPage P I page → IsNextHeld P I page (page + 1)
  next_here page here =
      let same : page + 1 - 1 ≡ page = omega arith in
      record { there = λ n. (omega arith, subst (IsHeldPage P I) (sym same) here); least = λ j le h. ((λ e. omega (arith, e)), omega (arith, le)) }

  pub next_later : (page later : ℕ) → (IsHeldPage P I page → ⊥) → IsNextHeld P I (page + 1) later → IsNextHeld P I page later
  next_later page later none next = record {
    there = λ some. let (lt, held) = next.there some in (omega (arith, lt), held);
    least = λ j le h. elim (cases_eq j page) [ inl e ↦ absurd (none (subst (IsHeldPage P I) e h)) | inr ne ↦ next.least j (omega (arith, le, ne)) h ];
  }

  -- ---- a slot's page

  pub page_of_held : (s : ℕ) → IsHeld P I s → IsHeldPage P I (page_of_slot s)
  unfolding slot_owner page_of_slot slots_of
  page_of_held s h = let lt = h.in_range in record { in_range = omega (arith, lt); kind = h.kind; owned = h.owned }

  -- no held slot is passed
  pub passes : (slot link x : ℕ) → IsNextHeld P I (slot / 32) link → slot ≤ x → IsHeld P I x → (link ≢ 0) × (32 * (link - 1) ≤ x)
  unfolding page_of_slot
  passes slot link x next le h =
      let (some, most) = next.least (page_of_slot x) (omega (arith, le)) (page_of_held x h) in
      (some, omega (arith, most))

  -- ---- searches over held slots

  -- a rule that holds at each slot that isn't held, up to the next slot that may be
  pub up_to : (Q : ℕ → Type 0) → ((x : ℕ) → (IsHeld P I x → ⊥) → Q x) → (n m : ℕ) → ((x : ℕ) → x < n → Q x)
      → ((x : ℕ) → n ≤ x → x < m → IsHeld P I x → ⊥) → (x : ℕ) → x < m → Q x
  up_to Q free n m below none x lt = elim (cases_lt x n) [ inl before ↦ below x before | inr after ↦ free x (none x after lt) ]

  pub points_free : (x : ℕ) → (IsHeld P I x → ⊥) → PointsAtHeld P I x
  points_free x un = record { other = λ h. absurd (un h); held = λ h. absurd (un h) }

  pub only_free : (x : ℕ) → (IsHeld P I x → ⊥) → IsOnlyPointer P I x
  only_free x un r lt first second = absurd (un second)

  pub pointer_free : (x : ℕ) → (IsHeld P I x → ⊥) → IsPointer P I x → ⊥
  pointer_free x un h = un h.held

  -- the pointer of the slots below n
  abbrev pub IsPointerBelow : ℕ → Option ℕ → Type 0
  IsPointerBelow n found = MatchOption found ((x : ℕ) → x < n → IsPointer P I x → ⊥) (λ s. (s < n) × IsPointer P I s)

  -- a second pointer
  pub second : (s : ℕ) (found : Option ℕ) → is_some found ≡ true → IsPointerBelow s found → IsPointer P I s → IsOnlyPointer P I s → ⊥
  second s None e below here own = absurd (let no : ⊥ = cc in no)
  second s (Some r) e (lt, there) here own = here.nonzero (own r lt there.held here.held there.nonzero)

  -- the first one
  pub first_only : (s : ℕ) (found : Option ℕ) → is_some found ≡ false → IsPointerBelow s found → IsOnlyPointer P I s
  first_only s None e none = λ r lt first other nonzero. absurd (none r lt (record { held = first; nonzero = nonzero }))
  first_only s (Some r) e below = absurd (let no : ⊥ = cc in no)

  -- or none
  pub no_pointer : (s : ℕ) → (IsPointer P I s → ⊥) → IsOnlyPointer P I s
  no_pointer s un r lt first other nonzero = elim (cases_eq (slot_pointer P I s) 0) [
    | inl e ↦ e
    | inr ne ↦ absurd (un (record { held = other; nonzero = ne }))
  ]

  pub below_later : (s m : ℕ) (found : Option ℕ) → s + 1 ≤ m → IsPointerBelow s found → (IsPointer P I s → ⊥)
      → ((x : ℕ) → s + 1 ≤ x → x < m → IsHeld P I x → ⊥) → IsPointerBelow m found
  below_later s m None le below un passed =
      up_to (λ x. IsPointer P I x → ⊥) pointer_free (s + 1) m
      (λ x lt. elim (cases_eq x s) [ inl e ↦ (λ h. un (subst (IsPointer P I) e h)) | inr ne ↦ below x (omega (arith, lt, ne)) ]) passed
  below_later s m (Some r) le (lt, there) un passed = (omega (arith, lt, le), there)

  pub all_below : (n : ℕ) (found : Option ℕ) → slots_of P ≤ n → IsPointerBelow n found → IsPointerAt P I found
  all_below n None past below = λ s h. below s (let lt = h.held.in_range in omega (arith, lt, past)) h
  all_below n (Some r) past below = below.1
