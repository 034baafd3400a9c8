-- The room after a change, as entries.
use Rattle.std.proofs.Common.{◌≡◌, ℕ, ◌+◌, ◌-◌, Bool, true, false, cond, ◌&&◌, List, [], ◌∷◌, map, Option, Some, None, refl, sym, ap, ◌∙◌, nat_cmp, nat_eq, ◌<◌, ◌++◌, length, take, get_or, T}
use Rattle.std.proofs.lemmas.Bool.{eqb-true}
use Rattle.std.proofs.lemmas.List.{take_more, map-append}
use Rattle.std.proofs.lemmas.List.Elements.{filter_map-append}
use Rattle.std.specs.List.{filter_map}
use Rattle.std.specs.Cmp.{nat_cmp_total}
use Rattle.std.specs.FinMap.{nat_cmp-IsAntisymmetric}
use Rattle.std.specs.FinMap.Entries.{find, is_sorted}
use Rattle.std.specs.Ordering.{eq_by_cmp}
use Rattle.tree_model.specs.Table.{table_of}
use Rattle.tree_model.specs.Tree.{Tree, Room, Node, Directory, File, is_directory_node, is_number, pages_in}
use Rattle.tree_model.specs.Step.{directory_of, tree_after, gaining, losing, page_for_name, pages_after, room_after}
use Rattle.plain_tree.specs.Entries.{AreDistinct, pages_moved, room_moved}
use Rattle.tree_model.specs.declared.command.Command.{Command}
use Rattle.tree_model.proofs.TableLaws.{get-table_of, same_table}
use Rattle.tree_model.proofs.EntryLaws.{front, back, find-below}
use Rattle.tree_model.proofs.TreeLaws.{same_id}

pub AreDistinct-sorted : {X : Type 0} (es : List (ℕ × X)) → T (is_sorted nat_cmp es) → AreDistinct nat_cmp es
AreDistinct-sorted [] h = tt
AreDistinct-sorted (e ∷ es) h = (find-below nat_cmp e.0 es (front _ _ h), AreDistinct-sorted es (back _ _ h))

pub find-directories : (f : ℕ → ℕ) (q : ℕ) (es : List (ℕ × Node)) → AreDistinct nat_cmp es
    → find nat_cmp q (map (λ d. (d, f d)) (filter_map directory_of es)) ≡ cond (is_directory_node (find nat_cmp q es)) (Some (f q)) None
find-directories f q [] h = refl
find-directories f q ((k, Directory) ∷ es) h =
    let rest = find-directories f q es h.1 in
    elim (eq_by_cmp nat_cmp q k) as (λ t. eq_by_cmp nat_cmp q k ≡ t
    → cond t (Some (f k)) (find nat_cmp q (map (λ d. (d, f d)) (filter_map directory_of es))) ≡ cond (is_directory_node (cond t (Some Directory) (find nat_cmp q es))) (Some (f q)) None) [
      | true ↦ λ is. ap (λ d. Some (f d)) (sym (same_id q k is))
      | false ↦ λ is. rest
    ] refl
find-directories f q ((k, File bytes) ∷ es) h =
    let rest = find-directories f q es h.1 in
    elim (eq_by_cmp nat_cmp q k) as (λ t. eq_by_cmp nat_cmp q k ≡ t
    → find nat_cmp q (map (λ d. (d, f d)) (filter_map directory_of es)) ≡ cond (is_directory_node (cond t (Some (File bytes)) (find nat_cmp q es))) (Some (f q)) None) [
      | true ↦ λ is.
          let none = ap (λ i. find nat_cmp i es) (same_id q k is) ∙ h.0 in
          rest ∙ ap (λ o. cond (is_directory_node o) (Some (f q)) None) none
      | false ↦ λ is. rest
    ] refl

-- the room after a command has exactly the directories of the tree after it, each with its pages after it

abbrev pub listed : (ℕ → ℕ) → List (ℕ × Node) → List (ℕ × ℕ)
listed f es = map (λ d. (d, f d)) (filter_map directory_of es)

pub AreDistinct-listed : (f : ℕ → ℕ) (es : List (ℕ × Node)) → AreDistinct nat_cmp es → AreDistinct nat_cmp (listed f es)
AreDistinct-listed f [] distinct = tt
AreDistinct-listed f ((k, Directory) ∷ es) distinct =
    (find-directories f k es distinct.1 ∙ ap (λ o. cond (is_directory_node o) (Some (f k)) None) distinct.0, AreDistinct-listed f es distinct.1)
AreDistinct-listed f ((k, File bytes) ∷ es) distinct = AreDistinct-listed f es distinct.1

-- the directories of the table are those of its entries
pub table_of-listed : (f : ℕ → ℕ) (nodes : List (ℕ × Node)) → AreDistinct nat_cmp nodes
    → table_of nat_cmp_total (listed f nodes) ≡ table_of nat_cmp_total (listed f (table_of nat_cmp_total nodes).entries)
table_of-listed f nodes distinct =
    let table = table_of nat_cmp_total nodes in
    same_table nat_cmp_total nat_cmp-IsAntisymmetric (table_of nat_cmp_total (listed f nodes)) (table_of nat_cmp_total (listed f table.entries)) (λ q.
    get-table_of nat_cmp_total (listed f nodes) q
    ∙ find-directories f q nodes distinct
    ∙ ap (λ o. cond (is_directory_node o) (Some (f q)) None) (sym (get-table_of nat_cmp_total nodes q))
    ∙ sym (find-directories f q table.entries (AreDistinct-sorted table.entries table.sorted))
    ∙ sym (get-table_of nat_cmp_total (listed f table.entries) q))

-- ---- the room after a command

at_number : (T : Tree) (room : Room) (o : Option ℕ) (d : ℕ) → cond (is_number o d) (page_for_name T room o) 0 ≡ cond (is_number o d) (page_for_name T room (Some d)) 0
at_number T room None d = refl
at_number T room (Some k) d =
    elim (nat_eq k d) as (λ b. nat_eq k d ≡ b → cond b (page_for_name T room (Some k)) 0 ≡ cond b (page_for_name T room (Some d)) 0) [
      | true ↦ λ is. ap (λ i. page_for_name T room (Some i)) (eqb-true k d is)
      | false ↦ λ is. refl
    ] refl

pub room_after-moved : (id : ℕ) (T : Tree) (room : Room) (c : Command) (gives : Bool)
    → room_moved room (gaining T c) (losing T c) (page_for_name T room (gaining T c)) gives (tree_after id T c) ≡ room_after id T room c gives
room_after-moved id T room c gives =
    let same : pages_moved room (gaining T c) (losing T c) (page_for_name T room (gaining T c)) gives ≡ pages_after T room c gives =
    λ i d. let gained = pages_in room d + at_number T room (gaining T c) d i in cond (is_number (losing T c) d && gives) (gained - 1) gained in
    ap (λ f. table_of nat_cmp_total (listed f (tree_after id T c).nodes.entries)) same

-- ---- one node more

pub listed-more : (f : ℕ → ℕ) (es : List (ℕ × Node)) (i : ℕ) (d : ℕ × Node) → i < length es → listed f (take (i + 1) es) ≡ listed f (take i es) ++ listed f (get_or es i d ∷ [])
listed-more f es i d low =
    ap (listed f) (take_more es i d low)
    ∙ ap (map (λ d. (d, f d))) (filter_map-append directory_of (take i es) (get_or es i d ∷ []))
    ∙ map-append (λ d. (d, f d)) (filter_map directory_of (take i es)) (filter_map directory_of (get_or es i d ∷ []))
