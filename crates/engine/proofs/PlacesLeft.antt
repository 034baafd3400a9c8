-- How far a listing is from its end: each step of its places brings it nearer.
use Rattle.std.proofs.Common.{◌≡◌, inl, inr, ℕ, zero, suc, ◌+◌, ◌-◌, ◌*◌, ◌<◌, ◌≤◌, List, [], ◌∷◌, ◌++◌, length, sum_by, sym, ap, subst, ◌∙◌, arith}
use Rattle.std.proofs.Math.Nat.{mul-le-mul_left, mul-suc}
use Rattle.std.proofs.lemmas.List.{length-append}
use Rattle.std.proofs.lemmas.List.Sums.{sum_by-cons}
use Rattle.std.specs.Prelude.{slice_index_or}
use Rattle.volatile_index.specs.Index.{NodeView, node_of, entries_of, empty_node}
use Rattle.engine.specs.declared.places.Place.{Place}
use Rattle.engine.specs.Places.{place_at, IsLeft, IsPassed, IsSameOrEntered}

module _ (index : List NodeView) where
  abbrev pub names_of : ℕ → ℕ
  names_of directory = length (entries_of index directory)

  -- no directory has as many names
  abbrev pub base : ℕ
  base = sum_by (λ (node : NodeView). length node.entries) index + 2

  node_within : (nodes : List NodeView) (k : ℕ) → length (slice_index_or nodes k empty_node).entries ≤ sum_by (λ (node : NodeView). length node.entries) nodes
  node_within [] k = omega arith
  node_within (node ∷ nodes) zero = omega (arith, sum_by-cons (λ (node : NodeView). length node.entries) node nodes)
  node_within (node ∷ nodes) (suc k) = omega (arith, node_within nodes k, sum_by-cons (λ (node : NodeView). length node.entries) node nodes)

  names_within : (directory : ℕ) → names_of directory + 2 ≤ base
  unfolding node_of
  names_within zero = omega arith
  names_within (suc k) = omega (arith, node_within index k)

  -- what one name of a place counts, with so many places to come below it: more than all that can be there
  abbrev pub weight : ℕ → ℕ
  weight zero = 1
  weight (suc n) = weight n * base

  some_weight : (n : ℕ) → 1 ≤ weight n
  some_weight zero = let one : 1 ≤ 1 = omega arith in one
  some_weight (suc n) =
      let more : weight n * 1 ≤ weight n * base = mul-le-mul_left (weight n) (omega arith) in
      let some = some_weight n in
      let goal : 1 ≤ weight n * base = omega (arith, more, some) in goal

  abbrev pub steps_left : ℕ → List Place → ℕ
  steps_left n [] = 0
  steps_left n (place ∷ deeper) = weight n * (names_of place.directory - place.next + 1) + steps_left (n - 1) deeper

  left_one : (n : ℕ) (places : List Place) (place : Place)
      → steps_left n (places ++ place ∷ []) ≡ steps_left n places + weight (n - length places) * (names_of place.directory - place.next + 1)
  left_one n [] place =
      let same = ap (λ (k : ℕ). weight k * (names_of place.directory - place.next + 1)) (let none : n ≡ n - 0 = omega arith in none) in
      let all : weight n * (names_of place.directory - place.next + 1) + 0 ≡ 0 + weight (n - 0) * (names_of place.directory - place.next + 1) = omega (arith, same) in all
  left_one n (first ∷ places) place =
      let rest = left_one (n - 1) places place in
      let depth : (n - 1) - length places ≡ n - suc (length places) = omega arith in
      let same = ap (λ (k : ℕ). weight k * (names_of place.directory - place.next + 1)) depth in
      let all : weight n * (names_of first.directory - first.next + 1) + steps_left (n - 1) (places ++ place ∷ [])
      ≡ (weight n * (names_of first.directory - first.next + 1) + steps_left (n - 1) places) + weight (n - suc (length places)) * (names_of place.directory - place.next + 1)
      = omega (arith, rest, same) in all

  times_more : (w a b : ℕ) → a ≡ suc b → w * a ≡ w * b + w
  times_more w a b e = ap (λ (n : ℕ). w * n) e ∙ mul-suc w b

  up_from : (n : ℕ) (front : List Place) (place : Place) → steps_left n front < steps_left n (front ++ place ∷ [])
  up_from n front place =
      let w = weight (n - length front) in
      let left = names_of place.directory - place.next in
      let all = left_one n front place in
      let some = some_weight (n - length front) in
      let more = times_more w (left + 1) left (omega arith) in
      omega (arith, all, some, more)

  pub nearer_up : (n : ℕ) (old new : List Place) → IsLeft old new → steps_left n new < steps_left n old
  nearer_up n old new gone = subst (λ (places : List Place). steps_left n new < steps_left n places) (sym gone.old_is) (up_from n new gone.deepest)

  -- a name passed is a weight less
  one_less : (n : ℕ) (front : List Place) (directory next : ℕ) → next < names_of directory
      → steps_left n (front ++ place_at directory next ∷ []) ≡ steps_left n (front ++ place_at directory (next + 1) ∷ []) + weight (n - length front)
  one_less n front directory next within =
      let old = left_one n front (place_at directory next) in
      let new = left_one n front (place_at directory (next + 1)) in
      let more = times_more (weight (n - length front)) (names_of directory - next + 1) (names_of directory - (next + 1) + 1) (omega (arith, within)) in
      omega (arith, old, new, more)

  into_from : (n inode : ℕ) (front : List Place) (directory next : ℕ) → next < names_of directory → length front + 2 ≤ n
      → steps_left n ((front ++ place_at directory (next + 1) ∷ []) ++ place_at inode 0 ∷ []) < steps_left n (front ++ place_at directory next ∷ [])
  into_from n inode front directory next within few =
      let middle = front ++ place_at directory (next + 1) ∷ [] in
      let m = n - (length front + 1) in
      let less = one_less n front directory next within in
      let long : n - length middle ≡ m = omega (arith, length-append front (place_at directory (next + 1) ∷ [])) in
      let added = left_one n middle (place_at inode 0) in
      let there = ap (λ (k : ℕ). weight k * (names_of inode - 0 + 1)) long in
      let one_up : n - length front ≡ suc m = omega (arith, few) in
      let heavier : weight (n - length front) ≡ weight m * base = ap weight one_up in
      let fits : weight m * (names_of inode + 2) ≤ weight m * base = mul-le-mul_left (weight m) (names_within inode) in
      let more = times_more (weight m) (names_of inode + 2) (names_of inode - 0 + 1) (omega arith) in
      let some = some_weight m in
      omega (arith, less, added, there, heavier, fits, more, some)

  pub nearer_into : (n inode : ℕ) (old middle new : List Place) → IsPassed index old middle → IsSameOrEntered inode middle new → length new ≤ n → steps_left n new < steps_left n old
  nearer_into n inode old middle new passed entered few = subst (λ (places : List Place). steps_left n new < steps_left n places) (sym passed.old_is) (elim entered [
    | inl same ↦
        subst (λ (places : List Place). steps_left n places < steps_left n (passed.front ++ place_at passed.directory passed.next ∷ [])) (sym (same ∙ passed.new_is))
        (let less = one_less n passed.front passed.directory passed.next passed.within in let some = some_weight (n - length passed.front) in omega (arith, less, some))
    | inr entered ↦
        let is : new ≡ (passed.front ++ place_at passed.directory (passed.next + 1) ∷ []) ++ place_at inode 0 ∷ [] = entered ∙ ap (λ (places : List Place). places ++ place_at inode 0 ∷ []) passed.new_is in
        let long = ap length is in
        let one = length-append (passed.front ++ place_at passed.directory (passed.next + 1) ∷ []) (place_at inode 0 ∷ []) in
        let two = length-append passed.front (place_at passed.directory (passed.next + 1) ∷ []) in
        subst (λ (places : List Place). steps_left n places < steps_left n (passed.front ++ place_at passed.directory passed.next ∷ [])) (sym is)
        (into_from n inode passed.front passed.directory passed.next passed.within (omega (arith, few, long, one, two)))
  ])
