-- Laws of tables, and of the order of paths.
use Rattle.std.specs.Prelude.{◌≡◌, Bool, true, false, cond, not, T, List, [], ◌∷◌, Some, None, refl}
use Rattle.std.proofs.Common.{sym, ap, ◌∙◌, Ordering, Equal}
use mathlib.Core.HLevel.{Σ_prop_path}
use lib.Dec.{T_prop}
use Rattle.std.specs.Ordering.{eq_by_cmp, is_eq}
use Rattle.std.specs.Cmp.{IsTotalOrder, alike_right, eq_by_cmp_equiv}
use Rattle.std.specs.FinMap.{IsAntisymmetric, nat_cmp-IsAntisymmetric, slice_cmp-IsAntisymmetric}
use Rattle.std.specs.FinMap.Entries.{find, is_sorted, find-put, find-where_key, same_entries}
use Rattle.tree_model.specs.Table.{Table, get, retain, remove, insert, table_of}
use Rattle.tree_model.specs.Tree.{route_cmp}

pub route_cmp-IsAntisymmetric : IsAntisymmetric route_cmp
route_cmp-IsAntisymmetric = slice_cmp-IsAntisymmetric (slice_cmp-IsAntisymmetric nat_cmp-IsAntisymmetric)

module _ {K X : Type 0} {R : K → K → Ordering} where
  -- two tables of the same entries are one
  pub same_by_entries : (m n : Table R X) → m.entries ≡ n.entries → m ≡ n
  same_by_entries m n e =
      let pairs : ◌≡◌ {A = (es : List (K × X)) × T (is_sorted R es)} (m.entries, m.sorted) (n.entries, n.sorted) = Σ_prop_path (λ es. T_prop _) e in
      λ i. record { entries = (pairs i).0; sorted = (pairs i).1 }

  pub get-retain : (m : Table R X) (p : K → Bool) (q : K) → ((x : K) → R q x ≡ Equal → p x ≡ p q) → get (retain m p) q ≡ cond (p q) (get m q) None
  get-retain m p q alike = find-where_key R p q alike m.entries

turned : {A : Type 0} (b : Bool) (x y : A) → cond (not b) x y ≡ cond b y x
turned true x y = refl
turned false x y = refl

module _ {K X : Type 0} {R : K → K → Ordering} (o : IsTotalOrder R) where
  pub get-insert : (m : Table R X) (k : K) (v : X) (q : K) → get (insert o m k v) q ≡ cond (eq_by_cmp R q k) (Some v) (get m q)
  get-insert m k v q = find-put R o q k v m.entries

  pub get-table_of : (es : List (K × X)) (q : K) → get (table_of o es) q ≡ find R q es
  get-table_of [] q = refl
  get-table_of (e ∷ es) q = get-insert (table_of o es) e.0 e.1 q ∙ ap (cond (eq_by_cmp R q e.0) (Some e.1)) (get-table_of es q)

  pub get-remove : (m : Table R X) (k q : K) → get (remove m k) q ≡ cond (eq_by_cmp R q k) None (get m q)
  get-remove m k q = get-retain m (λ x. not (eq_by_cmp R k x)) q (λ x t. ap (λ r. not (is_eq r)) (sym (alike_right o q x k t)))
      ∙ turned (eq_by_cmp R k q) _ _ ∙ ap (λ b. cond b None (get m q)) ((eq_by_cmp_equiv o).symm k q)

  -- two maps that answer alike are equal
  pub same_table : IsAntisymmetric R → (m n : Table R X) → ((q : K) → get m q ≡ get n q) → m ≡ n
  same_table same m n is = same_by_entries m n (same_entries R o same m.entries n.entries m.sorted n.sorted is)
