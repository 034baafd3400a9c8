-- A directory that a command doesn't name has the same names after it, and as many subdirectories.
use Rattle.std.proofs.Common.{◌≡◌, ℕ, inl, inr, ◌+◌, Bool, true, false, cond, ◌==◌, [], ◌∷◌, count_by, Option, Some, None, is_some, refl, sym, ap, ◌∙◌, true≢false}
use Rattle.std.specs.FinMap.Entries.{find, is_sorted-where_key}
use Rattle.tree_model.specs.PathText.{Route}
use Rattle.tree_model.specs.Table.{Table, retain}
use Rattle.tree_model.specs.Tree.{Tree, IsTree, route_cmp, route_cmp_total, parent, id_at, node_at, is_directory, is_directory_node, is_number, is_in, entries_in, path_count, link_count}
use Rattle.tree_model.specs.declared.command.Command.{Command}
use Rattle.tree_model.proofs.TableLaws.{get-retain, same_table, route_cmp-IsAntisymmetric}
use Rattle.tree_model.proofs.NodeLaws.{directory_is}
use Rattle.tree_model.proofs.TreeKept.{chosen, none_some}
use Rattle.naming_laws.specs.Naming.{names_inode}
use Rattle.naming_laws.proofs.Named.{equal_test, number_is, not_number}
use Rattle.naming_laws.proofs.Edits.{Leaves, other_id, other_test}
use Rattle.naming_laws.proofs.Counts.{count_agrees, count_none}

-- an id without a node has no path
pub no_path : (T : Tree) → IsTree T → (i : ℕ) → node_at T i ≡ None → path_count T i ≡ 0
no_path T t i none = count_none (λ j. j == i) T.names.entries T.names.sorted (λ q j found. other_test j i (other_id T i j none (t.present q j found)))

same_number : (o p : Option ℕ) (i : ℕ) → (o ≡ Some i → p ≡ Some i) → (p ≡ Some i → o ≡ Some i) → is_number o i ≡ is_number p i
same_number o p i to back =
    elim (is_number p i) as (λ b. is_number p i ≡ b → is_number o i ≡ b) [
      | true ↦ λ is. ap (λ o. is_number o i) (back (number_is p i is)) ∙ equal_test i i refl
      | false ↦ λ is. not_number o i (λ e. true≢false (sym (equal_test i i refl) ∙ ap (λ o. is_number o i) (sym (to e)) ∙ is))
    ] refl

module _ (T U : Tree) (t : IsTree T) (u : IsTree U) (c : Command) (leaves : Leaves T U c) (i : ℕ) (dir : is_directory T i ≡ true) (apart : names_inode T c i ≡ false) where
  there : is_some (node_at T i) ≡ true
  there = ap is_some (directory_is (node_at T i) dir)

  still_directory : is_directory U i ≡ true
  still_directory = ap is_directory_node (leaves.nodes i there apart) ∙ dir

  -- its path is the same
  at_both : (q : Route) → is_number (id_at U q) i ≡ is_number (id_at T q) i
  at_both q =
      let path = t.named i there in
      same_number (id_at U q) (id_at T q) i (λ e. ap (id_at T) (u.one_path i still_directory q path.0 e (leaves.ids path.0 i path.1 apart)) ∙ path.1) (λ e. leaves.ids q i e apart)

  in_both : (q : Route) → is_in U i q ≡ is_in T i q
  in_both [] = refl
  in_both (name ∷ names) = at_both (parent (name ∷ names))

  stays_in : (q : Route) → is_in T i q ≡ true → id_at U q ≡ id_at T q
  stays_in [] inside = absurd (true≢false (sym inside))
  stays_in (name ∷ names) inside = leaves.held (name ∷ names) i (number_is (id_at T (parent (name ∷ names))) i inside) apart

  found_in : (W : Tree) (q : Route) → find route_cmp q (entries_in W i) ≡ cond (is_in W i q) (id_at W q) None
  found_in W q = get-retain W.names (is_in W i) q (λ p e. ap (is_in W i) (sym (route_cmp-IsAntisymmetric q p e)))

  pub same_entries : entries_in U i ≡ entries_in T i
  same_entries =
      ap (λ (m : Table route_cmp ℕ). m.entries)
      (same_table route_cmp_total route_cmp-IsAntisymmetric (retain U.names (is_in U i)) (retain T.names (is_in T i))
      (λ q. found_in U q ∙ ap (λ b. cond b (id_at U q) None) (in_both q) ∙ either q (is_in T i q) refl ∙ sym (found_in T q)))
    where
      either : (q : Route) (b : Bool) → is_in T i q ≡ b → cond b (id_at U q) None ≡ cond b (id_at T q) None
      either q true inside = stays_in q inside
      either q false outside = refl

  same_child : (q : Route) (j : ℕ) → find route_cmp q (entries_in T i) ≡ Some j → is_directory U j ≡ is_directory T j
  same_child q j found =
      elim (chosen (is_in T i q) (id_at T q) None (find route_cmp q (entries_in T i)) (found_in T q)) [
        | inl h ↦ let at_q = sym h.1 ∙ found in leaves.kinds j (t.present q j at_q) (u.present q j (stays_in q h.0 ∙ at_q))
        | inr h ↦ none_some j (sym h.1 ∙ found)
      ]

  pub same_links : link_count U i ≡ link_count T i
  same_links =
      let children = count_agrees (is_directory U) (is_directory T) (entries_in T i) (is_sorted-where_key route_cmp (is_in T i) T.names.entries T.names.sorted) same_child in
      ap (λ b. cond b (2 + count_by (λ e. is_directory U e.1) (entries_in U i)) (path_count U i)) still_directory
      ∙ ap (λ es. 2 + count_by (λ (e : Route × ℕ). is_directory U e.1) es) same_entries ∙ ap (λ n. 2 + n) children
      ∙ sym (ap (λ b. cond b (2 + count_by (λ e. is_directory T e.1) (entries_in T i)) (path_count T i)) dir)
