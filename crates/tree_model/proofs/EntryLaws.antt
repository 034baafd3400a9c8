-- Lists of entries in the order of their keys: what an entry put into its place changes, and what a test keeps.
use Rattle.std.proofs.Common.{◌≡◌, ℕ, suc, ◌+◌, ◌≤◌, Bool, true, false, cond, ◌&&◌, T, List, [], ◌∷◌, length, sum_by, Option, Some, None, is_some, refl, sym, ap, subst, ◌∙◌, arith, Ordering, Less, Equal, Greater, is_eq, is_lt}
use Rattle.std.proofs.lemmas.List.Sums.{sum_by-cons}
use Rattle.std.specs.Ordering.{eq_by_cmp}
use Rattle.std.specs.Cmp.{IsTotalOrder, tied_itself}
use Rattle.std.specs.FinMap.Entries.{by_order, put, where_key, find, below_all, is_sorted, length-put, is_sorted-where_key}

pub both : (a b : Bool) → T a → T b → T (a && b)
both true b p q = q
both false b p q = p

pub front : (a b : Bool) → T (a && b) → T a
front true b h = tt
front false b h = h

pub back : (a b : Bool) → T (a && b) → T b
back true b h = h
back false b h = absurd h

is_less : (r : Ordering) → T (is_lt r) → r ≡ Less
is_less Less h = refl
is_less Equal h = absurd h
is_less Greater h = absurd h

less_is : (r : Ordering) → r ≡ Less → T (is_lt r)
less_is r e = subst (λ x. T (is_lt x)) (sym e) tt

-- the measure of what is found, if anything is
abbrev pub measure_found : {X : Type 0} → (X → ℕ) → Option X → ℕ
measure_found g None = 0
measure_found g (Some x) = g x

module _ {K X : Type 0} (R : K → K → Ordering) where
  pub find-below : (q : K) (es : List (K × X)) → T (below_all R q es) → find R q es ≡ None
  find-below q [] h = refl
  find-below q (e ∷ es) h =
      ap (λ r. cond (is_eq r) (Some e.1) (find R q es)) (is_less (R q e.0) (front _ _ h)) ∙ find-below q es (back _ _ h)

  pub below_all-where_key : (x : K) (p : K → Bool) (es : List (K × X)) → T (below_all R x es) → T (below_all R x (where_key R p es))
  below_all-where_key x p [] h = tt
  below_all-where_key x p (e ∷ es) h =
      let rest = below_all-where_key x p es (back _ _ h) in
      elim (p e.0) as (λ b. T (below_all R x (cond b (e ∷ where_key R p es) (where_key R p es)))) [ true ↦ both _ _ (front _ _ h) rest | false ↦ rest ]

  pub put-below : (k : K) (v : X) (es : List (K × X)) → T (below_all R k es) → put R k v es ≡ (k, v) ∷ es
  put-below k v [] h = refl
  put-below k v (e ∷ es) h = ap (λ r. by_order r ((k, v) ∷ e ∷ es) ((e.0, v) ∷ es) (e ∷ put R k v es)) (is_less (R k e.0) (front _ _ h))

  pub sum_by-where_key-le : (g : K × X → ℕ) (p : K → Bool) (es : List (K × X)) → sum_by g (where_key R p es) ≤ sum_by g es
  sum_by-where_key-le g p [] = omega arith
  sum_by-where_key-le g p (e ∷ es) =
      let rest = sum_by-where_key-le g p es in
      let one = sum_by-cons g e (where_key R p es) in
      let all = sum_by-cons g e es in
      elim (p e.0) as (λ b. sum_by g (cond b (e ∷ where_key R p es) (where_key R p es)) ≤ sum_by g (e ∷ es)) [
        | true ↦ let kept : sum_by g (e ∷ where_key R p es) ≤ sum_by g (e ∷ es) = omega (arith, rest, one, all) in kept
        | false ↦ let kept : sum_by g (where_key R p es) ≤ sum_by g (e ∷ es) = omega (arith, rest, all) in kept
      ]

  pub length-where_key-le : (p : K → Bool) (es : List (K × X)) → length (where_key R p es) ≤ length es
  length-where_key-le p [] = omega arith
  length-where_key-le p (e ∷ es) =
      let rest = length-where_key-le p es in
      elim (p e.0) as (λ b. length (cond b (e ∷ where_key R p es) (where_key R p es)) ≤ suc (length es)) [
        | true ↦ let kept : suc (length (where_key R p es)) ≤ suc (length es) = omega (arith, rest) in kept
        | false ↦ let kept : length (where_key R p es) ≤ suc (length es) = omega (arith, rest) in kept
      ]

  pub where_key-swap : (p q : K → Bool) (es : List (K × X)) → where_key R p (where_key R q es) ≡ where_key R q (where_key R p es)
  where_key-swap p q [] = refl
  where_key-swap p q (e ∷ es) =
      let rest = where_key-swap p q es in
      elim (p e.0) as (λ a. p e.0 ≡ a → where_key R p (cond (q e.0) (e ∷ where_key R q es) (where_key R q es)) ≡ where_key R q (cond a (e ∷ where_key R p es) (where_key R p es))) [
        | true ↦ λ is. elim (q e.0) as (λ b. q e.0 ≡ b → where_key R p (cond b (e ∷ where_key R q es) (where_key R q es)) ≡ cond b (e ∷ where_key R q (where_key R p es)) (where_key R q (where_key R p es))) [
          | true ↦ λ passes. ap (λ b. cond b (e ∷ where_key R p (where_key R q es)) (where_key R p (where_key R q es))) is ∙ ap (λ l. e ∷ l) rest
          | false ↦ λ fails. rest
        ] refl
        | false ↦ λ is. elim (q e.0) as (λ b. where_key R p (cond b (e ∷ where_key R q es) (where_key R q es)) ≡ where_key R q (where_key R p es)) [
          | true ↦ ap (λ b. cond b (e ∷ where_key R p (where_key R q es)) (where_key R p (where_key R q es))) is ∙ rest
          | false ↦ rest
        ]
      ] refl

  pub where_key-none : (es : List (K × X)) → where_key R (λ k. false) es ≡ []
  where_key-none [] = refl
  where_key-none (e ∷ es) = where_key-none es

  module _ (o : IsTotalOrder R) where
    pub below_all-less : (x y : K) (es : List (K × X)) → R x y ≡ Less → T (below_all R y es) → T (below_all R x es)
    below_all-less x y [] p h = tt
    below_all-less x y (e ∷ es) p h =
        both _ _ (less_is (R x e.0) (o.trans x y e.0 p (is_less (R y e.0) (front _ _ h)))) (below_all-less x y es p (back _ _ h))

    pub find-first : (e : K × X) (es : List (K × X)) → find R e.0 (e ∷ es) ≡ Some e.1
    find-first e es = ap (λ r. cond (is_eq r) (Some e.1) (find R e.0 es)) (tied_itself o e.0)

    -- a value put at a key counts in place of what was found there
    pub sum_by-put : (g : X → ℕ) (k : K) (v : X) (es : List (K × X)) → T (is_sorted R es)
        → sum_by (λ e. g e.1) (put R k v es) + measure_found g (find R k es) ≡ sum_by (λ e. g e.1) es + g v
    sum_by-put g k v [] h = omega (arith, sum_by-cons (λ (e : K × X). g e.1) (k, v) [])
    sum_by-put g k v (e ∷ es) h =
        let f : K × X → ℕ = λ e. g e.1 in
        let all = sum_by-cons f e es in
        elim (R k e.0) as (λ r. R k e.0 ≡ r → sum_by f (by_order r ((k, v) ∷ e ∷ es) ((e.0, v) ∷ es) (e ∷ put R k v es))
        + measure_found g (cond (is_eq r) (Some e.1) (find R k es)) ≡ sum_by f (e ∷ es) + g v) [
          | Less ↦ λ p.
              let none = ap (measure_found g) (find-below k es (below_all-less k e.0 es p (front _ _ h))) in
              let more = sum_by-cons f (k, v) (e ∷ es) in
              let before : sum_by f ((k, v) ∷ e ∷ es) + measure_found g (find R k es) ≡ sum_by f (e ∷ es) + g v = omega (arith, none, more) in before
          | Equal ↦ λ p.
              let changed = sum_by-cons f (e.0, v) es in
              let here : sum_by f ((e.0, v) ∷ es) + g e.1 ≡ sum_by f (e ∷ es) + g v = omega (arith, all, changed) in here
          | Greater ↦ λ p.
              let rest = sum_by-put g k v es (back _ _ h) in
              let more = sum_by-cons f e (put R k v es) in
              let later : sum_by f (e ∷ put R k v es) + measure_found g (find R k es) ≡ sum_by f (e ∷ es) + g v = omega (arith, rest, all, more) in later
        ] refl

    -- tests that agree at each key that is found keep the same
    pub where_key-agree : (p q : K → Bool) (es : List (K × X)) → ((k : K) → is_some (find R k es) ≡ true → p k ≡ q k) → where_key R p es ≡ where_key R q es
    where_key-agree p q [] agree = refl
    where_key-agree p q (e ∷ es) agree =
        let here = agree e.0 (ap is_some (find-first e es)) in
        let later : (k : K) → is_some (find R k es) ≡ true → p k ≡ q k = λ k found. agree k (still (eq_by_cmp R k e.0) e.1 (find R k es) found) in
        let rest = where_key-agree p q es later in
        ap (λ b. cond b (e ∷ where_key R p es) (where_key R p es)) here ∙ ap (λ l. cond (q e.0) (e ∷ l) l) rest
      where
        still : (b : Bool) (x : X) (o : Option X) → is_some o ≡ true → is_some (cond b (Some x) o) ≡ true
        still true x o h = refl
        still false x o h = h

    -- what is kept of a list with an entry put in at a new key
    pub where_key-put : (p : K → Bool) (k : K) (v : X) (es : List (K × X)) → T (is_sorted R es) → find R k es ≡ None
        → where_key R p (put R k v es) ≡ cond (p k) (put R k v (where_key R p es)) (where_key R p es)
    where_key-put p k v [] h none = refl
    where_key-put p k v (e ∷ es) h none =
        let kept = where_key R p es in
        elim (R k e.0) as (λ r. R k e.0 ≡ r → cond (is_eq r) (Some e.1) (find R k es) ≡ None
        → where_key R p (by_order r ((k, v) ∷ e ∷ es) ((e.0, v) ∷ es) (e ∷ put R k v es)) ≡ cond (p k) (put R k v (where_key R p (e ∷ es))) (where_key R p (e ∷ es))) [
          | Less ↦ λ is none.
              let below = below_all-where_key k p (e ∷ es) (both _ _ (less_is (R k e.0) is) (below_all-less k e.0 es is (front _ _ h))) in
              ap (λ l. cond (p k) l (where_key R p (e ∷ es))) (sym (put-below k v (where_key R p (e ∷ es)) below))
          | Equal ↦ λ is none. cc
          | Greater ↦ λ is none. behind (p e.0) (where_key-put p k v es (back _ _ h) none) is
        ] refl none
      where
        behind : (b : Bool) → where_key R p (put R k v es) ≡ cond (p k) (put R k v (where_key R p es)) (where_key R p es) → R k e.0 ≡ Greater
            → cond b (e ∷ where_key R p (put R k v es)) (where_key R p (put R k v es))
            ≡ cond (p k) (put R k v (cond b (e ∷ where_key R p es) (where_key R p es))) (cond b (e ∷ where_key R p es) (where_key R p es))
        behind true rest is =
            ap (λ l. e ∷ l) rest
            ∙ elim (p k) as (λ t. e ∷ cond t (put R k v (where_key R p es)) (where_key R p es) ≡ cond t (put R k v (e ∷ where_key R p es)) (e ∷ where_key R p es)) [
              | true ↦ ap (λ r. by_order r ((k, v) ∷ e ∷ where_key R p es) ((e.0, v) ∷ where_key R p es) (e ∷ put R k v (where_key R p es))) (sym is)
              | false ↦ refl
            ]
        behind false rest is = rest

    pub length-where_key-put : (p : K → Bool) (k : K) (v : X) (es : List (K × X)) → T (is_sorted R es) → find R k es ≡ None
        → length (where_key R p (put R k v es)) ≡ cond (p k) 1 0 + length (where_key R p es)
    length-where_key-put p k v es h none =
        ap length (where_key-put p k v es h none)
        ∙ elim (p k) as (λ b. p k ≡ b → length (cond b (put R k v (where_key R p es)) (where_key R p es)) ≡ cond b 1 0 + length (where_key R p es)) [
          | true ↦ λ is.
              let absent = not_kept k es none in
              let longer = length-put R o k v (where_key R p es) (is_sorted-where_key R p es h) ∙ ap (λ o. cond (is_some o) (length (where_key R p es)) (length (where_key R p es) + 1)) absent in
              let all : length (put R k v (where_key R p es)) ≡ 1 + length (where_key R p es) = omega (arith, longer) in all
          | false ↦ λ is. let all : length (where_key R p es) ≡ 0 + length (where_key R p es) = omega arith in all
        ] refl
      where
        not_kept : (k : K) (es : List (K × X)) → find R k es ≡ None → find R k (where_key R p es) ≡ None
        not_kept k [] none = refl
        not_kept k (e ∷ es) none =
            elim (eq_by_cmp R k e.0) as (λ t. eq_by_cmp R k e.0 ≡ t → cond t (Some e.1) (find R k es) ≡ None → find R k (cond (p e.0) (e ∷ where_key R p es) (where_key R p es)) ≡ None) [
              | true ↦ λ is none. cc
              | false ↦ λ is none.
                  let rest = not_kept k es none in
                  elim (p e.0) as (λ b. find R k (cond b (e ∷ where_key R p es) (where_key R p es)) ≡ None) [
                    | true ↦ ap (λ t. cond t (Some e.1) (find R k (where_key R p es))) is ∙ rest
                    | false ↦ rest
                  ]
            ] refl none
