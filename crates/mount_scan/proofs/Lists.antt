-- Lists by their places.
use Rattle.std.proofs.Common.{◌≡◌, ◌≢◌, ◌⊎◌, inl, inr, ℕ, zero, suc, ◌<◌, List, [], ◌∷◌, ◌++◌, length, set, Contains, Some, refl, sym, ap, ◌∙◌, arith}
use Rattle.std.specs.Prelude.{slice_get}
use Rattle.std.proofs.lemmas.List.{length-set, get_or-set_same, get_or-set_other}
use Rattle.std.proofs.lemmas.List.Elements.{Contains-append_left, Contains-append_right, Contains-append_cases}
use Rattle.std.proofs.lemmas.Option.{slice_get-get_or, slice_get_within, get_or_from_slice_get}
use Rattle.image_reading.specs.Counts.{IsIn, IsDistinct}
use Rattle.image_counts.proofs.Distinct.{distinct_both}

in_contained : (x : ℕ) (xs : List ℕ) → IsIn x xs → Contains xs x
in_contained x [] among = absurd among
in_contained x (y ∷ xs) among = elim among [
  | inl same ↦ (0, omega arith, sym same)
  | inr later ↦ let (k, lt, is) = in_contained x xs later in (suc k, omega arith, is)
]

pub got_contained : (xs : List ℕ) (k x : ℕ) → slice_get xs k ≡ Some x → Contains xs x
got_contained xs k x is = (k, slice_get_within xs k x is, get_or_from_slice_get xs k x x is)

pub contained_got : (xs : List ℕ) (x : ℕ) → Contains xs x → (k : ℕ) × (k < length xs) × (slice_get xs k ≡ Some x)
contained_got xs x (k, lt, is) = (k, lt, slice_get-get_or xs k x lt ∙ ap Some is)

-- each number stands at one place
pub distinct_by_places : (xs : List ℕ) → ((k l x : ℕ) → slice_get xs k ≡ Some x → slice_get xs l ≡ Some x → k ≡ l) → IsDistinct xs
distinct_by_places [] one = tt
distinct_by_places (x ∷ xs) one = (
  (λ among.
      let (k, lt, is) = contained_got xs x (in_contained x xs among) in
      let same : 0 ≡ suc k = one 0 (suc k) x refl is in
      omega (arith, same)),
  distinct_by_places xs (λ k l y a b. let same : suc k ≡ suc l = one (suc k) (suc l) y a b in omega (arith, same)),
)

-- ---- one more at the end

pub push_cases : (xs : List ℕ) (x y : ℕ) → Contains (xs ++ x ∷ []) y → Contains xs y ⊎ (y ≡ x)
push_cases xs x y there = elim (Contains-append_cases xs (x ∷ []) y there) [
  | inl front ↦ inl front
  | inr back ↦ inr (only back)
]
  where
    only : Contains (x ∷ []) y → y ≡ x
    only (zero, lt, is) = sym is
    only (suc k, lt, is) = absurd (omega arith)

pub push_still : (xs : List ℕ) (x y : ℕ) → Contains xs y → Contains (xs ++ x ∷ []) y
push_still xs x y there = Contains-append_left xs (x ∷ []) y there

pub push_there : (xs : List ℕ) (x : ℕ) → Contains (xs ++ x ∷ []) x
push_there xs x = Contains-append_right xs (x ∷ []) x (0, omega arith, refl)

pub push_distinct : (xs : List ℕ) (x : ℕ) → IsDistinct xs → ¬ Contains xs x → IsDistinct (xs ++ x ∷ [])
push_distinct xs x distinct new = distinct_both xs (x ∷ []) distinct ((λ none. none), tt) (λ y among last. elim last [
  | inl same ↦ new (in_contained x xs (rw (← same) among))
  | inr none ↦ none
])

-- ---- another at one place

pub set_there : (xs : List ℕ) (k x : ℕ) → k < length xs → slice_get (set xs k x) k ≡ Some x
set_there xs k x lt =
    let long = length-set xs k x in
    slice_get-get_or (set xs k x) k 0 (omega (arith, long, lt)) ∙ ap Some (get_or-set_same xs k x 0 lt)

pub set_elsewhere : (xs : List ℕ) (k l x y : ℕ) → l ≢ k → slice_get xs l ≡ Some y → slice_get (set xs k x) l ≡ Some y
set_elsewhere xs k l x y apart is =
    let long = length-set xs k x in
    let within = slice_get_within xs l y is in
    slice_get-get_or (set xs k x) l 0 (omega (arith, long, within)) ∙ ap Some (get_or-set_other xs k l x 0 apart ∙ get_or_from_slice_get xs l y 0 is)
