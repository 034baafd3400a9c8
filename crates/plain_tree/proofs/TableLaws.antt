-- A map that is held as entries with distinct keys, the newest first.
use Rattle.std.proofs.Common.{◌≡◌, ◌≢◌, ℕ, ◌≤◌, ◌<◌, ◌+◌, Bool, true, false, not, cond, ◌&&◌, ◌||◌, T, List, [], ◌∷◌, length, Option, Some, None, is_some, refl, sym, ap, ◌∙◌, Ordering, Less, Equal, Greater, nat_cmp, IsPermutation, arith, sum_by}
use Rattle.std.specs.Ordering.{eq_by_cmp, is_eq}
use Rattle.std.specs.List.{list_any, list_all}
use Rattle.std.specs.Cmp.{IsTotalOrder, nat_cmp_total}
use Rattle.std.specs.FinMap.{IsAntisymmetric}
use Rattle.std.specs.FinMap.Entries.{find, put, where_key, find-where_key, by_order, is_sorted}
use Rattle.std.proofs.lemmas.List.Sorted.{IsPermutation-refl, IsPermutation-trans, IsPermutation-cons, IsPermutation-middle, length_permutation, sum_by-IsPermutation, list_any-IsPermutation}
use Rattle.tree_model.specs.Table.{retain, table_of}
use Rattle.tree_model.specs.Tree.{Node}
use Rattle.tree_model.specs.Step.{least_free}
use Rattle.plain_tree.specs.Entries.{AreDistinct}
use Rattle.tree_model.proofs.TableLaws.{get-table_of, get-retain, same_table}
use Rattle.tree_model.proofs.FreeIds.{least_free-least, least_free-free, least_free-ge, least_free-le}

Some≢None : {A : Type 0} (x : A) → Some x ≢ None
Some≢None x e = cc

absurd_some : {A : Type 0} (x : Option A) → x ≡ None → is_some x ≡ true → ⊥
absurd_some x none some = cc

module _ {K X : Type 0} (R : K → K → Ordering) where
  -- a new entry in its place is the new entry and the others, in another order
  pub put-permutes : (k : K) (v : X) (es : List (K × X)) → find R k es ≡ None → IsPermutation ((k, v) ∷ es) (put R k v es)
  put-permutes k v [] absent = IsPermutation-refl ((k, v) ∷ [])
  put-permutes k v (e ∷ es) absent =
      elim (R k e.0) as (λ r. cond (is_eq r) (Some e.1) (find R k es) ≡ None → IsPermutation ((k, v) ∷ e ∷ es) (by_order r ((k, v) ∷ e ∷ es) ((e.0, v) ∷ es) (e ∷ put R k v es))) [
        | Less ↦ λ _. IsPermutation-refl ((k, v) ∷ e ∷ es)
        | Equal ↦ λ found. absurd (Some≢None e.1 found)
        | Greater ↦ λ left. IsPermutation-trans ((k, v) ∷ e ∷ es) (e ∷ (k, v) ∷ es) (e ∷ put R k v es)
            (IsPermutation-middle ((k, v) ∷ []) e es)
            (IsPermutation-cons e ((k, v) ∷ es) (put R k v es) (put-permutes k v es left))
      ] absent

  -- keys stay distinct where some go
  absent-where_key : (p : K → Bool) (k : K) (es : List (K × X)) → find R k es ≡ None → find R k (where_key R p es) ≡ None
  absent-where_key p k [] absent = refl
  absent-where_key p k (e ∷ es) absent =
      elim (eq_by_cmp R k e.0) as (λ t. eq_by_cmp R k e.0 ≡ t → cond t (Some e.1) (find R k es) ≡ None → find R k (where_key R p (e ∷ es)) ≡ None) [
        | true ↦ λ _ found. absurd (Some≢None e.1 found)
        | false ↦ λ other left. elim (p e.0) as (λ b. find R k (cond b (e ∷ where_key R p es) (where_key R p es)) ≡ None) [
          | true ↦ ap (λ t. cond t (Some e.1) (find R k (where_key R p es))) other ∙ absent-where_key p k es left
          | false ↦ absent-where_key p k es left
        ]
      ] refl absent

  pub AreDistinct-where_key : (p : K → Bool) (es : List (K × X)) → AreDistinct R es → AreDistinct R (where_key R p es)
  AreDistinct-where_key p [] distinct = tt
  AreDistinct-where_key p (e ∷ es) distinct =
      let rest = AreDistinct-where_key p es distinct.1 in
      elim (p e.0) as (λ b. AreDistinct R (cond b (e ∷ where_key R p es) (where_key R p es))) [
        | true ↦ (absent-where_key p e.0 es distinct.0, rest)
        | false ↦ rest
      ]

  module _ (o : IsTotalOrder R) where
    -- the table has the entries, in another order
    pub table_of-permutes : (es : List (K × X)) → AreDistinct R es → IsPermutation es (table_of o es).entries
    table_of-permutes [] distinct = IsPermutation-refl []
    table_of-permutes (e ∷ es) distinct =
        IsPermutation-trans (e ∷ es) (e ∷ (table_of o es).entries) (table_of o (e ∷ es)).entries
        (IsPermutation-cons e es (table_of o es).entries (table_of-permutes es distinct.1))
        (put-permutes e.0 e.1 (table_of o es).entries (get-table_of o es e.0 ∙ distinct.0))

    -- how many there are, what they sum up to, and whether one passes a test
    pub length-table_of : (es : List (K × X)) → AreDistinct R es → length (table_of o es).entries ≡ length es
    length-table_of es distinct = length_permutation es (table_of o es).entries (table_of-permutes es distinct)

    pub sum_by-table_of : (f : K × X → ℕ) (es : List (K × X)) → AreDistinct R es → sum_by f (table_of o es).entries ≡ sum_by f es
    sum_by-table_of f es distinct = sum_by-IsPermutation f es (table_of o es).entries (table_of-permutes es distinct)

    pub list_any-table_of : (p : K × X → Bool) (es : List (K × X)) → AreDistinct R es → list_any p (table_of o es).entries ≡ list_any p es
    list_any-table_of p es distinct = sym (list_any-IsPermutation p es (table_of o es).entries (table_of-permutes es distinct))

    -- the entries whose keys pass are those of the table whose keys pass
    pub retain-table_of : IsAntisymmetric R → (p : K → Bool) (es : List (K × X)) → ((x y : K) → R x y ≡ Equal → p y ≡ p x)
        → retain (table_of o es) p ≡ table_of o (where_key R p es)
    retain-table_of same p es alike = same_table o same (retain (table_of o es) p) (table_of o (where_key R p es)) (λ q.
        get-retain (table_of o es) p q (λ x t. alike q x t)
        ∙ ap (λ found. cond (p q) found None) (get-table_of o es q)
        ∙ sym (find-where_key R p q (λ x t. alike q x t) es)
        ∙ sym (get-table_of o (where_key R p es) q))

-- the least free number is the one that is free and below which, from the start on, none is
pub least_free-is : (start n : ℕ) (es : List (ℕ × Node)) → T (is_sorted nat_cmp es) → start ≤ n → find nat_cmp n es ≡ None
    → ((j : ℕ) → start ≤ j → j < n → is_some (find nat_cmp j es) ≡ true) → least_free start es ≡ n
least_free-is start n es sorted low free taken =
    let from_start = least_free-ge start es in
    let not_below : ¬ (least_free start es < n) = λ below.
    absurd_some (find nat_cmp (least_free start es) es) (least_free-free start es sorted) (taken (least_free start es) from_start below) in
    let not_above : ¬ (n < least_free start es) = λ above.
    absurd_some (find nat_cmp n es) free (least_free-least start n es low above) in
    omega (arith, not_below, not_above)

-- where each number from the start on is taken up to as many as there are entries, the least free one is the next
pub least_free-end : (start n : ℕ) (es : List (ℕ × Node)) → T (is_sorted nat_cmp es) → n ≡ start + length es
    → ((j : ℕ) → start ≤ j → j < n → is_some (find nat_cmp j es) ≡ true) → least_free start es ≡ n
least_free-end start n es sorted end taken =
    let from_start = least_free-ge start es in
    let most = least_free-le start es in
    let not_below : ¬ (least_free start es < n) = λ below.
    absurd_some (find nat_cmp (least_free start es) es) (least_free-free start es sorted) (taken (least_free start es) from_start below) in
    omega (arith, not_below)

not_some : {A : Type 0} (x : Option A) → is_some x ≡ false → x ≡ None
not_some None none = refl
not_some (Some x) none = cc

-- the same for the table of entries with distinct keys
module _ (nodes : List (ℕ × Node)) where
  in_table : (j : ℕ) → is_some (find nat_cmp j nodes) ≡ true → is_some (find nat_cmp j (table_of nat_cmp_total nodes).entries) ≡ true
  in_table j there = ap is_some (get-table_of nat_cmp_total nodes j) ∙ there

  pub least_free-table_of : (n : ℕ) → 2 ≤ n → is_some (find nat_cmp n nodes) ≡ false → ((j : ℕ) → 2 ≤ j → j < n → is_some (find nat_cmp j nodes) ≡ true)
      → n ≡ least_free 2 (table_of nat_cmp_total nodes).entries
  least_free-table_of n low free taken =
      let table = table_of nat_cmp_total nodes in
      sym (least_free-is 2 n table.entries table.sorted low (get-table_of nat_cmp_total nodes n ∙ not_some (find nat_cmp n nodes) free) (λ j from below. in_table j (taken j from below)))

  pub least_free-table_of_end : AreDistinct nat_cmp nodes → (n : ℕ) → n ≡ 2 + length nodes → ((j : ℕ) → 2 ≤ j → j < n → is_some (find nat_cmp j nodes) ≡ true)
      → n ≡ least_free 2 (table_of nat_cmp_total nodes).entries
  least_free-table_of_end distinct n end taken =
      let table = table_of nat_cmp_total nodes in
      sym (least_free-end 2 n table.entries table.sorted (end ∙ ap (λ k. 2 + k) (sym (length-table_of nat_cmp nat_cmp_total nodes distinct))) (λ j from below. in_table j (taken j from below)))

-- ---- a test of all entries

all-none_fails : {X : Type 0} (p : X → Bool) (xs : List X) → list_all p xs ≡ not (list_any (λ x. not (p x)) xs)
all-none_fails p [] = refl
all-none_fails p (x ∷ xs) =
    elim (p x) as (λ b. b && list_all p xs ≡ not (not b || list_any (λ x. not (p x)) xs)) [
      | true ↦ all-none_fails p xs
      | false ↦ refl
    ]

pub list_all-table_of : {K X : Type 0} (R : K → K → Ordering) (o : IsTotalOrder R) (p : K × X → Bool) (es : List (K × X)) → AreDistinct R es
    → list_all p (table_of o es).entries ≡ list_all p es
list_all-table_of R o p es distinct =
    all-none_fails p (table_of o es).entries ∙ ap not (list_any-table_of R o (λ e. not (p e)) es distinct) ∙ sym (all-none_fails p es)
