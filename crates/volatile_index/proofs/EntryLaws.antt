-- Laws of sorted entries.
use Rattle.std.proofs.Common.{◌≡◌, ◌≢◌, ◌⊎◌, inl, inr, ℕ, zero, suc, List, [], ◌∷◌, ◌++◌, Contains, All, refl, sym, ap, subst, ◌∙◌, arith, Ordering, Less, Equal, Greater}
use Rattle.std.specs.Cmp.{tied_itself}
use Rattle.std.specs.Cmp.Lexicographic.{nat_list_cmp_total}
use Rattle.std.specs.Ordering.{ordering_reverse}
use Rattle.std.proofs.lemmas.List.Elements.{Contains-append_left, Contains-append_right, Contains-append_cases}
use Rattle.volatile_index.specs.declared.entry.Entry.{Entry}
use Rattle.layout.specs.Name.{name_cmp}
use Rattle.volatile_index.specs.Entries.{IsSorted, IsAbsent, IsWithEntry}

-- ---- names

pub differs : (a b : List ℕ) (r : Ordering) → name_cmp a b ≡ r → r ≢ Equal → a ≢ b
differs a b r is other same = other (sym is ∙ ap (name_cmp a) (sym same) ∙ tied_itself nat_list_cmp_total a)

pub turned : (a b : List ℕ) → name_cmp a b ≡ Less → name_cmp b a ≡ Greater
turned a b less = nat_list_cmp_total.antisymm b a ∙ ap ordering_reverse less

pub turned_back : (a b : List ℕ) → name_cmp a b ≡ Greater → name_cmp b a ≡ Less
turned_back a b greater = nat_list_cmp_total.antisymm b a ∙ ap ordering_reverse greater

-- ---- elements

pub contains_here : (entry : Entry) (entries : List Entry) → Contains (entry ∷ entries) entry
contains_here entry entries = (0, omega arith, refl)

pub contains_more : (first : Entry) (entries : List Entry) (entry : Entry) → Contains entries entry → Contains (first ∷ entries) entry
contains_more first entries entry (k, lt, is) = (suc k, omega arith, is)

pub contains_none : (entry : Entry) → Contains [] entry → ⊥
contains_none entry (k, lt, is) = omega arith

pub contains_cases : (first : Entry) (entries : List Entry) (entry : Entry) → Contains (first ∷ entries) entry → (entry ≡ first) ⊎ Contains entries entry
contains_cases first entries entry (zero, lt, is) = inl (sym is)
contains_cases first entries entry (suc k, lt, is) = inr (k, omega arith, is)

-- ---- the first entry, and the others

pub sorted_head : (first : Entry) (entries : List Entry) → IsSorted (first ∷ entries) → All (λ later. name_cmp first.name later.name ≡ Less) entries
sorted_head first entries sorted k d lt = sorted 0 (suc k) d (omega arith) (omega arith)

pub sorted_tail : (first : Entry) (entries : List Entry) → IsSorted (first ∷ entries) → IsSorted entries
sorted_tail first entries sorted i j d lt within = sorted (suc i) (suc j) d (omega arith) (omega arith)

pub less_than_contained : (first : Entry) (entries : List Entry) (entry : Entry) → IsSorted (first ∷ entries) → Contains entries entry → name_cmp first.name entry.name ≡ Less
less_than_contained first entries entry sorted (k, lt, is) = subst (λ later. name_cmp first.name later.name ≡ Less) is (sorted_head first entries sorted k entry lt)

-- ---- one entry of a name

pub one_of_a_name : (entries : List Entry) (first second : Entry) → IsSorted entries → Contains entries first → Contains entries second → first.name ≡ second.name → first ≡ second
one_of_a_name [] first second sorted one two same = absurd (contains_none first one)
one_of_a_name (entry ∷ entries) first second sorted one two same = elim (contains_cases entry entries first one) [
  | inl is ↦ elim (contains_cases entry entries second two) [
    | inl too ↦ is ∙ sym too
    | inr among ↦ absurd (apart second among (ap (λ (e : Entry). e.name) (sym is) ∙ same))
  ]
  | inr among ↦ elim (contains_cases entry entries second two) [
    | inl is ↦ absurd (apart first among (ap (λ (e : Entry). e.name) (sym is) ∙ sym same))
    | inr too ↦ one_of_a_name entries first second (sorted_tail entry entries sorted) among too same
  ]
]
  where
    apart : (other : Entry) → Contains entries other → entry.name ≢ other.name
    apart other among = differs entry.name other.name Less (less_than_contained entry entries other sorted among) (λ e. (cc))

-- ---- sorted lists with the same entries

first_of_same : (a b : Entry) (others_a others_b : List Entry) → IsSorted (a ∷ others_a) → IsSorted (b ∷ others_b) → Contains (b ∷ others_b) a → Contains (a ∷ others_a) b → a ≡ b
first_of_same a b others_a others_b sorted_a sorted_b has_a has_b = elim (contains_cases b others_b a has_a) [
  | inl is ↦ is
  | inr among ↦ elim (contains_cases a others_a b has_b) [
    | inl is ↦ sym is
    | inr too ↦
        let down = turned b.name a.name (less_than_contained b others_b a sorted_b among) in
        let up = less_than_contained a others_a b sorted_a too in
        let no : ⊥ = cc in
        absurd no
  ]
]

others_of_same : (a b : Entry) (others_a others_b : List Entry) → IsSorted (a ∷ others_a) → a ≡ b → ((entry : Entry) → Contains (a ∷ others_a) entry → Contains (b ∷ others_b) entry) → (entry : Entry) → Contains others_a entry → Contains others_b entry
others_of_same a b others_a others_b sorted same among entry there = elim (contains_cases b others_b entry (among entry (contains_more a others_a entry there))) [
  | inl is ↦ absurd (differs a.name entry.name Less (less_than_contained a others_a entry sorted there) (λ e. (cc)) (ap (λ (e : Entry). e.name) (same ∙ sym is)))
  | inr rest ↦ rest
]

pub same_by_contents : (first second : List Entry) → IsSorted first → IsSorted second → ((entry : Entry) → Contains first entry → Contains second entry) → ((entry : Entry) → Contains second entry → Contains first entry) → first ≡ second
same_by_contents [] [] sorted_a sorted_b to back = refl
same_by_contents [] (b ∷ others_b) sorted_a sorted_b to back = absurd (contains_none b (back b (contains_here b others_b)))
same_by_contents (a ∷ others_a) [] sorted_a sorted_b to back = absurd (contains_none a (to a (contains_here a others_a)))
same_by_contents (a ∷ others_a) (b ∷ others_b) sorted_a sorted_b to back =
    let same = first_of_same a b others_a others_b sorted_a sorted_b (to a (contains_here a others_a)) (back b (contains_here b others_b)) in
    let rest =
    same_by_contents others_a others_b (sorted_tail a others_a sorted_a) (sorted_tail b others_b sorted_b) (others_of_same a b others_a others_b sorted_a same to) (others_of_same b a others_b others_a sorted_b (sym same) back) in
    ap (λ (e : Entry). e ∷ others_a) same ∙ ap (λ es. b ∷ es) rest

-- ---- with one entry more

pub contains_entry : (shorter longer : List Entry) (entry : Entry) → IsWithEntry shorter longer entry → Contains longer entry
contains_entry shorter longer entry with =
    subst (λ es. Contains es entry) (sym with.longer_is) (Contains-append_right with.front (entry ∷ with.back) entry (contains_here entry with.back))

pub contains_still : (shorter longer : List Entry) (entry other : Entry) → IsWithEntry shorter longer entry → Contains shorter other → Contains longer other
contains_still shorter longer entry other with there =
    subst (λ es. Contains es other) (sym with.longer_is)
    (elim (Contains-append_cases with.front with.back other (subst (λ es. Contains es other) with.shorter_is there)) [
      | inl front ↦ Contains-append_left with.front (entry ∷ with.back) other front
      | inr back ↦ Contains-append_right with.front (entry ∷ with.back) other (contains_more entry with.back other back)
    ])

pub contains_before : (shorter longer : List Entry) (entry other : Entry) → IsWithEntry shorter longer entry → Contains longer other → (other ≡ entry) ⊎ Contains shorter other
contains_before shorter longer entry other with there =
    elim (Contains-append_cases with.front (entry ∷ with.back) other (subst (λ es. Contains es other) with.longer_is there)) [
      | inl front ↦ inr (subst (λ es. Contains es other) (sym with.shorter_is) (Contains-append_left with.front with.back other front))
      | inr here ↦ elim (contains_cases entry with.back other here) [
        | inl is ↦ inl is
        | inr back ↦ inr (subst (λ es. Contains es other) (sym with.shorter_is) (Contains-append_right with.front with.back other back))
      ]
    ]

-- sorted entries have no other of its name
others_differ : (front back : List Entry) (entry other : Entry) → IsSorted (front ++ entry ∷ back) → Contains (front ++ back) other → other.name ≢ entry.name
others_differ [] back entry other sorted there same = differs entry.name other.name Less (less_than_contained entry back other sorted there) (λ e. (cc)) (sym same)
others_differ (first ∷ front) back entry other sorted there same = elim (contains_cases first (front ++ back) other there) [
  | inl is ↦
      let among = Contains-append_right front (entry ∷ back) entry (contains_here entry back) in
      differs first.name entry.name Less (less_than_contained first (front ++ entry ∷ back) entry sorted among) (λ e. (cc)) (ap (λ (e : Entry). e.name) (sym is) ∙ same)
  | inr later ↦ others_differ front back entry other (sorted_tail first (front ++ entry ∷ back) sorted) later same
]

pub absent_without : (shorter longer : List Entry) (entry : Entry) → IsWithEntry shorter longer entry → IsSorted longer → IsAbsent shorter entry.name
absent_without shorter longer entry with sorted other there =
    others_differ with.front with.back entry other (subst IsSorted with.longer_is sorted) (subst (λ es. Contains es other) with.shorter_is there)
