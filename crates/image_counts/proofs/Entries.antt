-- The entries of a table, of which each is found at its key.
use Rattle.std.proofs.Common.{◌≡◌, inl, inr, true, false, cond, T, List, [], ◌∷◌, Some, refl, sym, ap, ◌∙◌, Ordering, Less, Equal, Greater, is_eq, is_lt}
use Rattle.std.specs.Ordering.{eq_by_cmp, ordering_reverse}
use Rattle.std.specs.Cmp.{IsTotalOrder}
use Rattle.std.specs.FinMap.{IsAntisymmetric}
use Rattle.std.specs.FinMap.Entries.{find, below_all, is_sorted}
use Rattle.tree_model.proofs.EntryLaws.{front, back, find-first}
use Rattle.tree_model.proofs.TreeLaws.{tied}
use Rattle.image_counts.proofs.Counting.{Among, AreApart}

pub is_less : (r : Ordering) → T (is_lt r) → r ≡ Less
is_less Less h = refl
is_less Equal h = absurd h
is_less Greater h = absurd h

some_same : {X : Type 0} (x y : X) → Some x ≡ Some y → x ≡ y
some_same x y e = cc

not_tied : {K : Type 0} (R : K → K → Ordering) → IsTotalOrder R → (q k : K) → R k q ≡ Less → eq_by_cmp R q k ≡ false
not_tied R o q k e = ap is_eq (o.antisymm q k ∙ ap ordering_reverse e)

module _ {K X : Type 0} (R : K → K → Ordering) (o : IsTotalOrder R) where
  below_among : (k : K) (es : List (K × X)) (e : K × X) → T (below_all R k es) → Among e es → R k e.0 ≡ Less
  below_among k [] e h among = absurd among
  below_among k (f ∷ es) e h among = elim among [
    | inl is ↦ ap (λ z. R k z.0) is ∙ is_less (R k f.0) (front _ _ h)
    | inr later ↦ below_among k es e (back _ _ h) later
  ]

  pub find_among : (es : List (K × X)) (e : K × X) → T (is_sorted R es) → Among e es → find R e.0 es ≡ Some e.1
  find_among [] e h among = absurd among
  find_among (f ∷ es) e h among = elim among [
    | inl is ↦ ap (λ z. find R z.0 (f ∷ es)) is ∙ find-first R o f es ∙ ap (λ z. Some z.1) (sym is)
    | inr later ↦
        ap (λ b. cond b (Some f.1) (find R e.0 es)) (not_tied R o e.0 f.0 (below_among f.0 es e (front _ _ h) later))
        ∙ find_among es e (back _ _ h) later
  ]

  -- an entry is told by its key
  pub same_entry : (es : List (K × X)) (e f : K × X) → T (is_sorted R es) → Among e es → Among f es → e.0 ≡ f.0 → e ≡ f
  same_entry es e f h a b keys =
      let values = some_same e.1 f.1 (sym (find_among es e h a) ∙ ap (λ k. find R k es) keys ∙ find_among es f h b) in
      λ i. (keys i, values i)

  pub entries_apart : (es : List (K × X)) → T (is_sorted R es) → AreApart es
  entries_apart [] h = tt
  entries_apart (e ∷ es) h = ((λ among. not_less (R e.0 e.0) (o.antisymm e.0 e.0) (below_among e.0 es e (front _ _ h) among)), entries_apart es (back _ _ h))
    where
      not_less : (r : Ordering) → r ≡ ordering_reverse r → r ≡ Less → ⊥
      not_less Less turned is = cc
      not_less Equal turned is = cc
      not_less Greater turned is = cc

  pub among_find : IsAntisymmetric R → (es : List (K × X)) (k : K) (v : X) → find R k es ≡ Some v → Among (k, v) es
  among_find same [] k v e = cc
  among_find same (f ∷ es) k v e =
      elim (eq_by_cmp R k f.0) as (λ t. eq_by_cmp R k f.0 ≡ t → cond t (Some f.1) (find R k es) ≡ Some v → Among (k, v) (f ∷ es)) [
        | true ↦ λ is e.
            let key = same k f.0 (tied (R k f.0) is) in
            let value = some_same f.1 v e in
            inl (λ i. (key i, sym value i))
        | false ↦ λ is e. inr (among_find same es k v e)
      ] refl e
