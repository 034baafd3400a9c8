-- A command finds the same in two trees whose names are the same, and whose nodes are of the same kinds and sizes.
use Rattle.std.proofs.Common.{◌≡◌, ℕ, ◌+◌, ◌-◌, cond, ◌&&◌, ◌||◌, ◌==◌, nat_lt, List, [], ◌∷◌, ◌++◌, length, sum_by, count_by, Result, Ok, Err, refl, sym, ap, subst, ◌∙◌, nat_cmp}
use Rattle.layout.specs.Geometry.{pieces, inodes_of, data_pages_of}
use Rattle.tree_model.specs.PathText.{Route}
use Rattle.tree_model.specs.Table.{Table}
use Rattle.tree_model.specs.Tree.{Tree, Node, Room, is_root, parent, is_above, id_at, is_number, entries_in, name_count, path_count, link_count, page_bytes}
use Rattle.tree_model.specs.Capacity.{Supply, free_inodes, free_pages, file_limit}
use Rattle.tree_model.specs.Walk.{Place, root_place, place_at, step_into, walk_on, walk, only_directory, walk_to_parent}
use Rattle.tree_model.specs.Step.{first, at, fault_of, walk_faults, later_faults, refusal_with, id_of, is_there, is_same_node, need, read_limit}
use Rattle.tree_model.specs.declared.command.Command.{Command}
use Rattle.tree_model.specs.declared.command.Command.TheVariants.{Create, Mkdir, Link, Unlink, Rmdir, Rename, Write, Truncate, Read, Stat as Tell, List as Show, Df}
use Rattle.tree_model.specs.declared.reply.Refusal.{Refusal}
use Rattle.tree_model.specs.declared.reply.Refusal.TheVariants.{NotDir, Root, Exists, IsDir, NotEmpty, IntoItself, TooBig, NoInodes, NoPages}
use Rattle.naming_laws.specs.Naming.{paths_of, names_all, is_at_one_of, names_inode}
use Rattle.mixing_laws.specs.Mixed.{IsMixed, FindsAlike, FindsAlikeLaw}
use Rattle.mixing_laws.proofs.Alike.{AreAlike, alike_mixed, same_file_pages, same_inodes}

module _ (T : Tree) (nodes : Table nat_cmp Node) (alike : AreAlike T (record { names = T.names; nodes = nodes })) where
  abbrev V : Tree
  V = record { names = T.names; nodes = nodes }

  -- ---- walks

  same_step : (reached : Result Place Refusal) (name : List ℕ) → step_into V reached name ≡ step_into T reached name
  same_step (Err fault) name = refl
  same_step (Ok here) name =
      let next = here.path ++ name ∷ [] in
      let kind = (alike here.id).directory in λ k. cond (kind k) (place_at next (id_at T next)) (Err NotDir)

  same_walk_on : (reached : Result Place Refusal) (names : Route) → walk_on V reached names ≡ walk_on T reached names
  same_walk_on reached [] = refl
  same_walk_on reached (name ∷ names) = ap (λ r. walk_on V r names) (same_step reached name) ∙ same_walk_on (step_into T reached name) names

  same_only : (reached : Result Place Refusal) → only_directory V reached ≡ only_directory T reached
  same_only (Err fault) = refl
  same_only (Ok here) = let kind = (alike here.id).directory in λ k. cond (kind k) (Ok here) (Err NotDir)

  same_walk : (path : Route) → fault_of (walk V path) ≡ fault_of (walk T path)
  same_walk path = ap fault_of (same_walk_on (Ok root_place) path)

  same_walk_above : (path : Route) → fault_of (walk_to_parent V path) ≡ fault_of (walk_to_parent T path)
  same_walk_above path = ap (λ r. fault_of (only_directory V r)) (same_walk_on (Ok root_place) (parent path)) ∙ ap fault_of (same_only (walk T (parent path)))

  pub same_walks : (c : Command) → walk_faults V c ≡ walk_faults T c
  same_walks (Create path) = let up = same_walk_above path in λ k. up k ∷ []
  same_walks (Mkdir path) = let up = same_walk_above path in λ k. up k ∷ []
  same_walks (Link from to) = let there = same_walk from in let up = same_walk_above to in λ k. there k ∷ up k ∷ []
  same_walks (Unlink path) = let there = same_walk path in λ k. there k ∷ []
  same_walks (Rmdir path) = let there = same_walk path in λ k. there k ∷ []
  same_walks (Rename from to) = let there = same_walk from in let up = same_walk_above to in λ k. there k ∷ up k ∷ []
  same_walks (Write path offset bytes) = let there = same_walk path in λ k. there k ∷ []
  same_walks (Truncate path size) = let there = same_walk path in λ k. there k ∷ []
  same_walks (Read path offset count) = let there = same_walk path in λ k. there k ∷ []
  same_walks (Tell path) = let there = same_walk path in λ k. there k ∷ []
  same_walks (Show path) = let there = same_walk path in λ k. there k ∷ []
  same_walks Df = refl

  -- ---- the nodes that it names

  same_ones : (paths : List Route) (id : ℕ) → is_at_one_of V paths id ≡ is_at_one_of T paths id
  same_ones [] id = refl
  same_ones (path ∷ paths) id = ap (λ b. is_number (id_at T path) id || b) (same_ones paths id)

  pub same_named : (c : Command) (id : ℕ) → names_inode V c id ≡ names_inode T c id
  same_named c id =
      let there = (alike id).there in
      let ones = same_ones (paths_of c) id in
      λ k. cond (names_all c) (there k) (ones k)

  -- ---- what is free, and what is needed

  pub same_links : (id : ℕ) → link_count V id ≡ link_count T id
  same_links id =
      let kind = (alike id).directory in λ k. cond (kind k) (2 + count_by (λ e. (alike e.1).directory k) (entries_in T id)) (path_count T id)

  pub same_free_inodes : (supply : Supply) → free_inodes supply V ≡ free_inodes supply T
  same_free_inodes supply = ap (λ n. inodes_of supply.pages - (n + supply.taken_inodes)) (same_inodes T V alike)

  pub same_free_pages : (supply : Supply) (room : Room) → free_pages supply V room ≡ free_pages supply T room
  same_free_pages supply room = ap (λ n. data_pages_of supply.pages - (n + sum_by (λ e. e.1) room.entries + supply.taken_pages)) (same_file_pages T V alike)

  pub same_need : (room : Room) (c : Command) → need V room c ≡ need T room c
  same_need room (Create path) = refl
  same_need room (Mkdir path) = refl
  same_need room (Link from to) = refl
  same_need room (Unlink path) = refl
  same_need room (Rmdir path) = refl
  same_need room (Rename from to) = refl
  same_need room (Write path offset bytes) =
      let size = (alike (id_of T path)).size in λ k. cond (length bytes == 0) 0 (pieces (offset + length bytes) page_bytes - pieces (size k) page_bytes)
  same_need room (Truncate path new) = let size = (alike (id_of T path)).size in λ k. pieces new page_bytes - pieces (size k) page_bytes
  same_need room (Read path offset count) = refl
  same_need room (Tell path) = refl
  same_need room (Show path) = refl
  same_need room Df = refl

  -- ---- the rows

  module _ (supply : Supply) (room : Room) where
    same_lack : (c : Command) → nat_lt (free_pages supply V room) (need V room c) ≡ nat_lt (free_pages supply T room) (need T room c)
    same_lack c =
        let free = same_free_pages supply room in
        let needs = same_need room c in
        λ k. nat_lt (free k) (needs k)

    same_rows : (c : Command) → later_faults supply V room c ≡ later_faults supply T room c
    same_rows (Create path) =
        let inodes = same_free_inodes supply in
        let lack = same_lack (Create path) in
        λ k. at Root (is_root path) ∷ at Exists (is_there T path) ∷ at NoInodes (inodes k == 0) ∷ at NoPages (lack k) ∷ []
    same_rows (Mkdir path) =
        let inodes = same_free_inodes supply in
        let lack = same_lack (Mkdir path) in
        λ k. at Root (is_root path) ∷ at Exists (is_there T path) ∷ at NoInodes (inodes k == 0) ∷ at NoPages (lack k) ∷ []
    same_rows (Link from to) =
        let kind = (alike (id_of T from)).directory in
        let lack = same_lack (Link from to) in
        λ k. at Root (is_root to) ∷ at Exists (is_there T to) ∷ at IsDir (kind k) ∷ at NoPages (lack k) ∷ []
    same_rows (Unlink path) = let kind = (alike (id_of T path)).directory in λ k. at Root (is_root path) ∷ at IsDir (kind k) ∷ []
    same_rows (Rmdir path) =
        let file = (alike (id_of T path)).file in λ k. at Root (is_root path) ∷ at NotDir (file k) ∷ at NotEmpty (nat_lt 0 (name_count T (id_of T path))) ∷ []
    same_rows (Rename from to) =
        let moved = (alike (id_of T from)).directory in
        let moved_file = (alike (id_of T from)).file in
        let target = (alike (id_of T to)).directory in
        let target_file = (alike (id_of T to)).file in
        let lack = same_lack (Rename from to) in
        λ k. at Root (is_root from || is_root to) ∷ cond (is_same_node T from to) [] (
        at NotDir (moved k && is_there T to && target_file k)
        ∷ at IsDir (moved_file k && is_there T to && target k)
        ∷ at NotEmpty (moved k && is_there T to && target k && nat_lt 0 (name_count T (id_of T to)))
        ∷ at IntoItself (moved k && is_above from to)
        ∷ at NoPages (lack k) ∷ [])
    same_rows (Write path offset bytes) =
        let kind = (alike (id_of T path)).directory in
        let lack = same_lack (Write path offset bytes) in
        λ k. at IsDir (kind k) ∷ at TooBig (nat_lt file_limit (offset + length bytes)) ∷ at NoPages (lack k) ∷ []
    same_rows (Truncate path size) =
        let kind = (alike (id_of T path)).directory in
        let lack = same_lack (Truncate path size) in
        λ k. at IsDir (kind k) ∷ at TooBig (nat_lt file_limit size) ∷ at NoPages (lack k) ∷ []
    same_rows (Read path offset count) =
        let kind = (alike (id_of T path)).directory in λ k. at IsDir (kind k) ∷ at TooBig (nat_lt read_limit count) ∷ []
    same_rows (Tell path) = refl
    same_rows (Show path) = let file = (alike (id_of T path)).file in λ k. at NotDir (file k) ∷ []
    same_rows Df = refl

    pub same_refusal : (c : Command) → refusal_with supply V room c ≡ refusal_with supply T room c
    same_refusal c =
        let walks = same_walks c in
        let rows = same_rows c in
        λ k. first (walks k ++ rows k)

    finds_alike : (c : Command) → FindsAlike supply room c T V
    finds_alike c = record { walks = same_walks c; named = same_named c; refusal = same_refusal c; need = same_need room c }

-- ---- with the names of the other tree

pub with_names : (P : Tree → Type 0) (T U : Tree) → U.names ≡ T.names → P (record { names = T.names; nodes = U.nodes }) → P U
with_names P T U names holds = subst (λ n. P (record { names = n; nodes = U.nodes })) (sym names) holds

pub finds_alike_law : FindsAlikeLaw
finds_alike_law supply room c ranges T U m =
    with_names (λ (W : Tree). IsMixed ranges T W → FindsAlike supply room c T W) T U m.names
    (λ same. finds_alike T U.nodes (alike_mixed ranges T (record { names = T.names; nodes = U.nodes }) same) supply room c) m
