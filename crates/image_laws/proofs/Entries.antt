-- Lists of pairs, and the tables that they make.
use Rattle.std.proofs.Common.{◌≡◌, ◌⊎◌, inl, inr, true, false, cond, List, [], ◌∷◌, ◌++◌, Some, refl, sym, ap, ◌∙◌, Ordering, is_eq}
use Rattle.std.specs.Ordering.{eq_by_cmp}
use Rattle.std.specs.Cmp.{IsTotalOrder, tied_itself}
use Rattle.std.specs.FinMap.{IsAntisymmetric}
use Rattle.std.specs.FinMap.Entries.{find}
use Rattle.tree_model.proofs.TreeLaws.{tied}

-- a list of pairs has this pair
abbrev pub Listed : {K V : Type 0} → List (K × V) → K → V → Type 0
Listed [] k v = ⊥
Listed (e ∷ es) k v = ((e.0 ≡ k) × (e.1 ≡ v)) ⊎ Listed es k v

module _ {K V : Type 0} where
  pub has_left : (xs ys : List (K × V)) (k : K) (v : V) → Listed xs k v → Listed (xs ++ ys) k v
  has_left [] ys k v h = absurd h
  has_left (x ∷ xs) ys k v h = elim h [ inl e ↦ inl e | inr g ↦ inr (has_left xs ys k v g) ]

  pub has_right : (xs ys : List (K × V)) (k : K) (v : V) → Listed ys k v → Listed (xs ++ ys) k v
  has_right [] ys k v h = h
  has_right (x ∷ xs) ys k v h = inr (has_right xs ys k v h)

  pub has_cases : (xs ys : List (K × V)) (k : K) (v : V) → Listed (xs ++ ys) k v → Listed xs k v ⊎ Listed ys k v
  has_cases [] ys k v h = inr h
  has_cases (x ∷ xs) ys k v h = elim h [ inl e ↦ inl (inl e) | inr g ↦ elim (has_cases xs ys k v g) [ inl l ↦ inl (inr l) | inr r ↦ inr r ] ]

-- what the first entry at a key says, where all entries at it say the same
module _ {K V : Type 0} (R : K → K → Ordering) (total : IsTotalOrder R) (same : IsAntisymmetric R) where
  pub find_has : (es : List (K × V)) (k : K) (v : V) → find R k es ≡ Some v → Listed es k v
  find_has [] k v e = cc
  find_has (x ∷ es) k v e = elim (eq_by_cmp R k x.0) as (λ t. eq_by_cmp R k x.0 ≡ t → cond t (Some x.1) (find R k es) ≡ Some v → Listed (x ∷ es) k v) [
    | true ↦ λ is e. inl (sym (same k x.0 (tied (R k x.0) is)), cc)
    | false ↦ λ is e. inr (find_has es k v e)
  ] refl e

  there : (es : List (K × V)) (k : K) (v : V) → Listed es k v → (w : V) × (find R k es ≡ Some w)
  there [] k v h = absurd h
  there (x ∷ es) k v h = elim (eq_by_cmp R k x.0) as (λ t. eq_by_cmp R k x.0 ≡ t → (w : V) × (cond t (Some x.1) (find R k es) ≡ Some w)) [
    | true ↦ λ is. (x.1, refl)
    | false ↦ λ is. elim h [
      | inl e ↦ (let tie : eq_by_cmp R k x.0 ≡ true = ap (eq_by_cmp R k) e.0 ∙ ap is_eq (tied_itself total k) in absurd (clash (sym is ∙ tie)))
      | inr g ↦ there es k v g
    ]
  ] refl
    where
      clash : false ≡ true → ⊥
      clash e = cc

  pub has_find : (es : List (K × V)) (k : K) (v : V) → ((w : V) → Listed es k w → w ≡ v) → Listed es k v → find R k es ≡ Some v
  has_find es k v one h = let (w, e) = there es k v h in e ∙ ap Some (one w (find_has es k w e))
