-- After a command a volume holds the tree with its room.
use Rattle.std.proofs.Common.{◌≡◌, ℕ, ◌+◌, ◌-◌, ◌≤◌, inl, inr, Bool, true, false, cond, ◌&&◌, ◌||◌, ◌==◌, nat_lt, List, [], ◌∷◌, ◌++◌, length, sum_by, take, drop, replicate, Option, Some, None, is_some, refl, sym, ap, subst, ◌∙◌, arith, nat_cmp, is_eq, IsTrue, true≢false, length-append, length-drop}
use Rattle.std.proofs.lemmas.List.{length-take, length-replicate}
use Rattle.std.specs.Ordering.{eq_by_cmp}
use Rattle.std.specs.Cmp.{nat_cmp_total}
use Rattle.std.specs.List.{list_any}
use Rattle.std.specs.FinMap.Entries.{find, length-put}
use Rattle.std.proofs.lemmas.Bool.Decides.{nat_tests}
use Rattle.layout.specs.Geometry.{IsVolumeSize, pieces, inodes_of}
use Rattle.layout.proofs.GeometryLaws.{some_inodes}
use Rattle.tree_model.specs.PathText.{Route}
use Rattle.tree_model.specs.Table.{Table, get, retain, insert}
use Rattle.tree_model.specs.Tree.{Tree, Node, Directory, File, Room, IsTree, IsRoom, fresh, fresh_room, root_id, node_at, node_pages, file_pages, bytes_of, bytes_of_node, is_root, parent, is_directory, is_directory_node, is_file, is_above, name_count}
use Rattle.tree_model.proofs.TableLaws.{get-insert, get-retain}
use Rattle.tree_model.specs.Capacity.{Supply, untaken, inodes_in_use, pages_in_use, free_pages, free_inodes, file_limit, Fits}
use Rattle.tree_model.specs.Walk.{walk, walk_to_parent}
use Rattle.tree_model.specs.Step.{first, at, fault_of, refusal_with, refusal_of, outcome_of, step, tree_after, least_free_id, with_bytes, with_moved, without_path, without_unnamed, overwritten, resized, is_there, id_of, is_same_node, gaining, page_for_name, rise, need, lacks_pages, lacks_inodes, room_after, RoomAfter, RoomAfterWith}
use Rattle.tree_model.specs.declared.command.Command.{Command}
use Rattle.tree_model.specs.declared.command.Command.TheVariants.{Create, Mkdir, Link, Unlink, Rmdir, Rename, Write, Truncate, Read, Stat as Tell, List as Show, Df}
use Rattle.tree_model.specs.declared.reply.Refusal.{Refusal}
use Rattle.tree_model.specs.declared.reply.Refusal.TheVariants.{Root, Exists, IsDir, NotDir, NotEmpty, IntoItself, TooBig, NoInodes, NoPages}
use Rattle.tree_model.proofs.EntryLaws.{measure_found, sum_by-put, sum_by-where_key-le, length-where_key-le}
use Rattle.tree_model.proofs.NodeLaws.{bytes_bounded}
use Rattle.tree_model.proofs.TreeLaws.{same_id, least_free_id-ge, least_free_id-free, least_free_id-le}
use Rattle.tree_model.proofs.TreeKept.{chosen, none_some, same_some}
use Rattle.tree_model.proofs.Accepted.{first-none, at-none, fault_of-none}
use Rattle.tree_model.proofs.StepLaws.{id_of-walk}
use Rattle.tree_model.proofs.WalkLaws.{id_at-from_walk}
use Rattle.tree_model.proofs.Sums.{room_total-room_after}

-- ---- rooms

pub IsRoom-fresh : IsRoom fresh fresh_room
IsRoom-fresh = refl

kept_room : (o : Option Refusal) (supply : Supply) (id : ℕ) (T : Tree) (room new : Room) (c : Command) → IsRoom T room → RoomAfterWith o id T room c new → IsRoom (outcome_of o supply id T room c).tree new
kept_room None supply id T room new c was after = after.2
kept_room (Some refusal) supply id T room new c was after = subst (IsRoom T) (sym after) was

pub IsRoom-step : (volume : ℕ) (T : Tree) (room new : Room) (c : Command) → IsRoom T room → RoomAfter (refusal_of volume T room c) T room c new → IsRoom (step volume T room c).tree new
IsRoom-step volume T room new c was after = kept_room (refusal_of volume T room c) (untaken volume) (least_free_id T) T room new c was after

-- ---- nodes

-- what a volume asks of the nodes alone
record NodesFit (volume : ℕ) (nodes : Table nat_cmp Node) : Type 0 where
  ids : (id : ℕ) → IsTrue (is_some (get nodes id)) → (1 ≤ id) × (id ≤ inodes_of volume)
  inodes : length nodes.entries ≤ inodes_of volume
  sizes : (id : ℕ) (bytes : List ℕ) → get nodes id ≡ Some (File bytes) → length bytes ≤ file_limit

abbrev node_total : Table nat_cmp Node → ℕ
node_total nodes = sum_by (λ e. node_pages e.1) nodes.entries

get-kept : (nodes : Table nat_cmp Node) (p : ℕ → Bool) (i : ℕ) → get (retain nodes p) i ≡ cond (p i) (get nodes i) None
get-kept nodes p i = get-retain nodes p i (λ x e. ap p (sym (same_id i x (ap is_eq e))))

some_kept : {X : Type 0} (b : Bool) (o : Option X) → is_some (cond b o None) ≡ true → is_some o ≡ true
some_kept true o h = h
some_kept false o h = cc

NodesFit-retain : (volume : ℕ) (nodes : Table nat_cmp Node) (p : ℕ → Bool) → NodesFit volume nodes → NodesFit volume (retain nodes p)
NodesFit-retain volume nodes p fit = record {
  ids = λ i there. fit.ids i (some_kept (p i) (get nodes i) (ap is_some (sym (get-kept nodes p i)) ∙ there));
  inodes = let fewer = length-where_key-le nat_cmp p nodes.entries in let old = fit.inodes in omega (arith, fewer, old);
  sizes = λ i bytes e. elim (chosen (p i) (get nodes i) None (get (retain nodes p) i) (get-kept nodes p i)) [
    | inl h ↦ fit.sizes i bytes (sym h.1 ∙ e)
    | inr h ↦ none_some (File bytes) (sym h.1 ∙ e)
  ];
}

NodesFit-insert : (volume : ℕ) (nodes : Table nat_cmp Node) (id : ℕ) (node : Node) → NodesFit volume nodes → (1 ≤ id) × (id ≤ inodes_of volume)
    → length (insert nat_cmp_total nodes id node).entries ≤ inodes_of volume → ((bytes : List ℕ) → node ≡ File bytes → length bytes ≤ file_limit)
    → NodesFit volume (insert nat_cmp_total nodes id node)
NodesFit-insert volume nodes id node fit in_range few short = record {
  ids = λ i there. elim (chosen (eq_by_cmp nat_cmp i id) (Some node) (get nodes i) (get (insert nat_cmp_total nodes id node) i) (get-insert nat_cmp_total nodes id node i)) [
    | inl h ↦ subst (λ x. (1 ≤ x) × (x ≤ inodes_of volume)) (sym (same_id i id h.0)) in_range
    | inr h ↦ fit.ids i (ap is_some (sym h.1) ∙ there)
  ];
  inodes = few;
  sizes = λ i bytes e. elim (chosen (eq_by_cmp nat_cmp i id) (Some node) (get nodes i) (get (insert nat_cmp_total nodes id node) i) (get-insert nat_cmp_total nodes id node i)) [
    | inl h ↦ short bytes (same_some node (File bytes) (sym h.1 ∙ e))
    | inr h ↦ fit.sizes i bytes (sym h.1 ∙ e)
  ];
}

-- ---- what an accepted command has passed

enough : (supply : Supply) (T : Tree) (room : Room) (c : Command) → at NoPages (lacks_pages supply T room c) ≡ None → need T room c ≤ free_pages supply T room
enough supply T room c e = not_less (free_pages supply T room) (need T room c) (at-none NoPages (lacks_pages supply T room c) e)
  where
    not_less : (a b : ℕ) → nat_lt a b ≡ false → b ≤ a
    not_less a b e = grind (arith, nat_tests)

at_most : (limit size : ℕ) → at TooBig (nat_lt limit size) ≡ None → size ≤ limit
at_most limit size e = not_less limit size (at-none TooBig (nat_lt limit size) e)
  where
    not_less : (a b : ℕ) → nat_lt a b ≡ false → b ≤ a
    not_less a b e = grind (arith, nat_tests)

some_inode_left : (volume : ℕ) (T : Tree) → at NoInodes (lacks_inodes (untaken volume) T) ≡ None → inodes_in_use T + 1 ≤ inodes_of volume
some_inode_left volume T e =
    let left = not_zero (free_inodes (untaken volume) T) (at-none NoInodes (lacks_inodes (untaken volume) T) e) in
    let sum : free_inodes (untaken volume) T ≡ inodes_of volume - (inodes_in_use T + 0) = refl in
    omega (arith, left, sum)
  where
    not_zero : (n : ℕ) → n == 0 ≡ false → 1 ≤ n
    not_zero n e = grind (arith, nat_tests)

pub there_by_sameness : (x y : Bool) → x && y ≡ true → y ≡ true
there_by_sameness true y e = e
there_by_sameness false y e = cc

rename_needs : (supply : Supply) (T : Tree) (room : Room) (from to : Route) (same : Bool) → is_same_node T from to ≡ same
    → first (cond same [] (
    at NotDir (is_directory T (id_of T from) && is_there T to && is_file T (id_of T to))
    ∷ at IsDir (is_file T (id_of T from) && is_there T to && is_directory T (id_of T to))
    ∷ at NotEmpty (is_directory T (id_of T from) && is_there T to && is_directory T (id_of T to) && nat_lt 0 (name_count T (id_of T to)))
    ∷ at IntoItself (is_directory T (id_of T from) && is_above from to) ∷ at NoPages (lacks_pages supply T room (Rename from to)) ∷ [])) ≡ None
    → need T room (Rename from to) ≤ free_pages supply T room
rename_needs supply T room from to true is e =
    let there = there_by_sameness _ (is_there T to) is in
    let nothing : need T room (Rename from to) ≡ 0 = ap (λ b. page_for_name T room (cond b None (Some (id_of T (parent to))))) there in
    omega (arith, nothing)
rename_needs supply T room from to false is e =
    let one = first-none (at NotDir (is_directory T (id_of T from) && is_there T to && is_file T (id_of T to))) _ e in
    let two = first-none (at IsDir (is_file T (id_of T from) && is_there T to && is_directory T (id_of T to))) _ one.1 in
    let three = first-none (at NotEmpty (is_directory T (id_of T from) && is_there T to && is_directory T (id_of T to) && nat_lt 0 (name_count T (id_of T to)))) _ two.1 in
    let four = first-none (at IntoItself (is_directory T (id_of T from) && is_above from to)) _ three.1 in
    enough supply T room (Rename from to) (first-none (at NoPages (lacks_pages supply T room (Rename from to))) [] four.1).0

-- what a command takes is free
pub need-le-free : (supply : Supply) (T : Tree) (room : Room) (c : Command) → refusal_with supply T room c ≡ None → need T room c ≤ free_pages supply T room
need-le-free supply T room (Create path) e =
    let one = first-none (fault_of (walk_to_parent T path)) _ e in
    let two = first-none (at Root (is_root path)) _ one.1 in
    let three = first-none (at Exists (is_there T path)) _ two.1 in
    let four = first-none (at NoInodes (lacks_inodes supply T)) _ three.1 in
    enough supply T room (Create path) (first-none (at NoPages (lacks_pages supply T room (Create path))) [] four.1).0
need-le-free supply T room (Mkdir path) e =
    let one = first-none (fault_of (walk_to_parent T path)) _ e in
    let two = first-none (at Root (is_root path)) _ one.1 in
    let three = first-none (at Exists (is_there T path)) _ two.1 in
    let four = first-none (at NoInodes (lacks_inodes supply T)) _ three.1 in
    enough supply T room (Mkdir path) (first-none (at NoPages (lacks_pages supply T room (Mkdir path))) [] four.1).0
need-le-free supply T room (Link from to) e =
    let one = first-none (fault_of (walk T from)) _ e in
    let two = first-none (fault_of (walk_to_parent T to)) _ one.1 in
    let three = first-none (at Root (is_root to)) _ two.1 in
    let four = first-none (at Exists (is_there T to)) _ three.1 in
    let five = first-none (at IsDir (is_directory T (id_of T from))) _ four.1 in
    enough supply T room (Link from to) (first-none (at NoPages (lacks_pages supply T room (Link from to))) [] five.1).0
need-le-free supply T room (Unlink path) e = omega arith
need-le-free supply T room (Rmdir path) e = omega arith
need-le-free supply T room (Rename from to) e =
    let one = first-none (fault_of (walk T from)) _ e in
    let two = first-none (fault_of (walk_to_parent T to)) _ one.1 in
    let three = first-none (at Root (is_root from || is_root to)) _ two.1 in
    rename_needs supply T room from to (is_same_node T from to) refl three.1
need-le-free supply T room (Write path offset bytes) e =
    let one = first-none (fault_of (walk T path)) _ e in
    let two = first-none (at IsDir (is_directory T (id_of T path))) _ one.1 in
    let three = first-none (at TooBig (nat_lt file_limit (offset + length bytes))) _ two.1 in
    enough supply T room (Write path offset bytes) (first-none (at NoPages (lacks_pages supply T room (Write path offset bytes))) [] three.1).0
need-le-free supply T room (Truncate path size) e =
    let one = first-none (fault_of (walk T path)) _ e in
    let two = first-none (at IsDir (is_directory T (id_of T path))) _ one.1 in
    let three = first-none (at TooBig (nat_lt file_limit size)) _ two.1 in
    enough supply T room (Truncate path size) (first-none (at NoPages (lacks_pages supply T room (Truncate path size))) [] three.1).0
need-le-free supply T room (Read path offset count) e = omega arith
need-le-free supply T room (Tell path) e = omega arith
need-le-free supply T room (Show path) e = omega arith
need-le-free supply T room Df e = omega arith

-- ---- the nodes after a command

-- they fit, and take no more pages than the command needs beside the page for its name
record NodesAfter (volume : ℕ) (T : Tree) (room : Room) (c : Command) (after : Table nat_cmp Node) : Type 0 where
  fit : NodesFit volume after
  pages : node_total after + page_for_name T room (gaining T c) ≤ node_total T.nodes + need T room c

created_nodes : (volume : ℕ) (T : Tree) (room : Room) (c : Command) (node : Node) → NodesFit volume T.nodes → is_some (node_at T root_id) ≡ true
    → inodes_in_use T + 1 ≤ inodes_of volume → node_pages node ≡ 0 → length (bytes_of_node (Some node)) ≡ 0
    → need T room c ≡ page_for_name T room (gaining T c) → NodesAfter volume T room c (insert nat_cmp_total T.nodes (least_free_id T) node)
created_nodes volume T room c node fit root left empty none is =
    let id = least_free_id T in
    let low = least_free_id-ge T in
    let high = least_free_id-le T root in
    let free = least_free_id-free T in
    let more = length-put nat_cmp nat_cmp_total id node T.nodes.entries T.nodes.sorted ∙ ap (λ o. cond (is_some o) (length T.nodes.entries) (length T.nodes.entries + 1)) free in
    let sum = sum_by-put nat_cmp nat_cmp_total node_pages id node T.nodes.entries T.nodes.sorted in
    let nothing : measure_found node_pages (find nat_cmp id T.nodes.entries) ≡ 0 = ap (measure_found node_pages) free in
    record {
      fit = NodesFit-insert volume T.nodes id node fit (omega (arith, low), omega (arith, high, left)) (omega (arith, more, left)) (λ bytes e. let same = ap (λ (n : Node). length (bytes_of_node (Some n))) e in omega (arith, same, none));
      pages = omega (arith, sum, nothing, empty, is);
    }

old_pages : (o : Option Node) → measure_found node_pages o ≡ file_pages (bytes_of_node o)
old_pages None = refl
old_pages (Some Directory) = refl
old_pages (Some (File bytes)) = refl

edited_nodes : (volume : ℕ) (T : Tree) (room : Room) (c : Command) (id : ℕ) (bytes : List ℕ) → NodesFit volume T.nodes → is_some (node_at T id) ≡ true
    → length bytes ≤ file_limit → gaining T c ≡ None → file_pages bytes ≤ file_pages (bytes_of T id) + need T room c
    → NodesAfter volume T room c (insert nat_cmp_total T.nodes id (File bytes))
edited_nodes volume T room c id bytes fit there short gains grown =
    let same = length-put nat_cmp nat_cmp_total id (File bytes) T.nodes.entries T.nodes.sorted ∙ ap (λ b. cond b (length T.nodes.entries) (length T.nodes.entries + 1)) there in
    let sum = sum_by-put nat_cmp nat_cmp_total node_pages id (File bytes) T.nodes.entries T.nodes.sorted in
    let old = old_pages (node_at T id) in
    let none : page_for_name T room (gaining T c) ≡ 0 = ap (page_for_name T room) gains in
    let was = fit.inodes in
    record {
      fit = NodesFit-insert volume T.nodes id (File bytes) fit (fit.ids id there) (omega (arith, same, was)) (λ b e. subst (λ l. length l ≤ file_limit) (same_bytes bytes b e) short);
      pages = omega (arith, sum, old, none, grown);
    }
  where
    same_bytes : (a b : List ℕ) → File a ≡ File b → a ≡ b
    same_bytes a b e = cc

fewer_nodes : (volume : ℕ) (T : Tree) (room : Room) (c : Command) (p : ℕ → Bool) → NodesFit volume T.nodes → page_for_name T room (gaining T c) ≤ need T room c
    → NodesAfter volume T room c (retain T.nodes p)
fewer_nodes volume T room c p fit is =
    let less = sum_by-where_key-le nat_cmp (λ (e : ℕ × Node). node_pages e.1) p T.nodes.entries in
    record { fit = NodesFit-retain volume T.nodes p fit; pages = omega (arith, less, is) }

same_nodes : (volume : ℕ) (T : Tree) (room : Room) (c : Command) → NodesFit volume T.nodes → page_for_name T room (gaining T c) ≤ need T room c
    → NodesAfter volume T room c T.nodes
same_nodes volume T room c fit is = record { fit = fit; pages = omega (arith, is) }

-- ---- bytes

length-resized : (bytes : List ℕ) (size : ℕ) → length (resized bytes size) ≡ size
length-resized bytes size =
    let zeros = length-replicate {A = ℕ} (size - length bytes) 0 in
    let long = length-append bytes (replicate (size - length bytes) 0) in
    let cut = length-take size (bytes ++ replicate (size - length bytes) 0) in
    omega (arith, zeros, long, cut)

length-overwritten : (old : List ℕ) (offset : ℕ) (new : List ℕ) → length (overwritten old offset new) ≡ length old + (offset + length new - length old)
length-overwritten old offset new =
    let more = offset + length new - length old in
    let long = old ++ replicate more 0 in
    let zeros = length-replicate {A = ℕ} more 0 in
    let all = length-append old (replicate more 0) in
    let head = length-take offset long in
    let tail = length-drop (offset + length new) long in
    let one = length-append (take offset long) new in
    let two = length-append (take offset long ++ new) (drop (offset + length new) long) in
    omega (arith, zeros, all, head, tail, one, two)

pages_of_more : (old size long : ℕ) → long ≡ old + (size - old) → pieces long 4096 ≤ pieces old 4096 + (pieces size 4096 - pieces old 4096)
pages_of_more old size long e = omega arith

pages_of_size : (old size : ℕ) → pieces size 4096 ≤ pieces old 4096 + (pieces size 4096 - pieces old 4096)
pages_of_size old size = omega arith

-- ---- every command

walked_there : (T : Tree) (t : IsTree T) (path : Route) → fault_of (walk T path) ≡ None → is_some (node_at T (id_of T path)) ≡ true
walked_there T t path e =
    let found = fault_of-none (walk T path) e in
    ap (λ n. is_some (node_at T n)) (id_of-walk T t path found.0 found.1) ∙ t.present path found.0.id (id_at-from_walk T path found.0 t found.1)

written_nodes : (volume : ℕ) (T : Tree) (room : Room) (path : Route) (offset : ℕ) (bytes : List ℕ) (none : Bool) → length bytes == 0 ≡ none → NodesFit volume T.nodes
    → is_some (node_at T (id_of T path)) ≡ true → offset + length bytes ≤ file_limit
    → NodesAfter volume T room (Write path offset bytes) (cond none T (with_bytes T (id_of T path) (overwritten (bytes_of T (id_of T path)) offset bytes))).nodes
written_nodes volume T room path offset bytes true is fit there short = same_nodes volume T room (Write path offset bytes) fit (omega arith)
written_nodes volume T room path offset bytes false is fit there short =
    let old = bytes_of T (id_of T path) in
    let new = overwritten old offset bytes in
    let long = length-overwritten old offset bytes in
    let needs : need T room (Write path offset bytes) ≡ rise old (offset + length bytes) = ap (λ b. cond b 0 (rise old (offset + length bytes))) is in
    let pages = pages_of_more (length old) (offset + length bytes) (length new) long in
    let was = bytes_bounded (node_at T (id_of T path)) file_limit (fit.sizes (id_of T path)) in
    edited_nodes volume T room (Write path offset bytes) (id_of T path) new fit there (omega (arith, long, short, was)) refl (omega (arith, needs, pages))

moved_nodes : (volume : ℕ) (T : Tree) (room : Room) (from to : Route) (same : Bool) → NodesFit volume T.nodes
    → NodesAfter volume T room (Rename from to) (cond same T (without_unnamed (with_moved (without_path T to) from to))).nodes
moved_nodes volume T room from to true fit = same_nodes volume T room (Rename from to) fit (omega arith)
moved_nodes volume T room from to false fit =
    fewer_nodes volume T room (Rename from to) (λ id. list_any (λ e. e.1 == id) (with_moved (without_path T to) from to).names.entries) fit (omega arith)

nodes_after : (volume : ℕ) (T : Tree) (room : Room) (c : Command) → IsTree T → NodesFit volume T.nodes → refusal_of volume T room c ≡ None
    → NodesAfter volume T room c (tree_after (least_free_id T) T c).nodes
nodes_after volume T room (Create path) t fit e =
    let one = first-none (fault_of (walk_to_parent T path)) _ e in
    let two = first-none (at Root (is_root path)) _ one.1 in
    let three = first-none (at Exists (is_there T path)) _ two.1 in
    let left = first-none (at NoInodes (lacks_inodes (untaken volume) T)) _ three.1 in
    created_nodes volume T room (Create path) _ fit (t.present [] root_id t.root) (some_inode_left volume T left.0) refl refl refl
nodes_after volume T room (Mkdir path) t fit e =
    let one = first-none (fault_of (walk_to_parent T path)) _ e in
    let two = first-none (at Root (is_root path)) _ one.1 in
    let three = first-none (at Exists (is_there T path)) _ two.1 in
    let left = first-none (at NoInodes (lacks_inodes (untaken volume) T)) _ three.1 in
    created_nodes volume T room (Mkdir path) _ fit (t.present [] root_id t.root) (some_inode_left volume T left.0) refl refl refl
nodes_after volume T room (Link from to) t fit e = same_nodes volume T room (Link from to) fit (omega arith)
nodes_after volume T room (Unlink path) t fit e =
    fewer_nodes volume T room (Unlink path) (λ id. list_any (λ e. e.1 == id) (without_path T path).names.entries) fit (omega arith)
nodes_after volume T room (Rmdir path) t fit e =
    fewer_nodes volume T room (Rmdir path) (λ id. list_any (λ e. e.1 == id) (without_path T path).names.entries) fit (omega arith)
nodes_after volume T room (Rename from to) t fit e = moved_nodes volume T room from to (is_same_node T from to) fit
nodes_after volume T room (Write path offset bytes) t fit e =
    let walked = first-none (fault_of (walk T path)) _ e in
    let file = first-none (at IsDir (is_directory T (id_of T path))) _ walked.1 in
    let short = first-none (at TooBig (nat_lt file_limit (offset + length bytes))) _ file.1 in
    written_nodes volume T room path offset bytes (length bytes == 0) refl fit (walked_there T t path walked.0) (at_most file_limit (offset + length bytes) short.0)
nodes_after volume T room (Truncate path size) t fit e =
    let walked = first-none (fault_of (walk T path)) _ e in
    let file = first-none (at IsDir (is_directory T (id_of T path))) _ walked.1 in
    let short = first-none (at TooBig (nat_lt file_limit size)) _ file.1 in
    let old = bytes_of T (id_of T path) in
    let long = length-resized old size in
    let pages = pages_of_size (length old) size in
    let same = ap (λ n. pieces n 4096) long in
    let within = at_most file_limit size short.0 in
    edited_nodes volume T room (Truncate path size) (id_of T path) (resized old size) fit (walked_there T t path walked.0) (omega (arith, long, within)) refl
    (omega (arith, same, pages))
nodes_after volume T room (Read path offset count) t fit e = same_nodes volume T room (Read path offset count) fit (omega arith)
nodes_after volume T room (Tell path) t fit e = same_nodes volume T room (Tell path) fit (omega arith)
nodes_after volume T room (Show path) t fit e = same_nodes volume T room (Show path) fit (omega arith)
nodes_after volume T room Df t fit e = same_nodes volume T room Df fit (omega arith)

accepted_fits : (volume : ℕ) (T : Tree) (room : Room) (c : Command) (gives : Bool) → IsTree T → Fits volume T room → refusal_of volume T room c ≡ None
    → Fits volume (tree_after (least_free_id T) T c) (room_after (least_free_id T) T room c gives)
accepted_fits volume T room c gives t fits e =
    let nodes = nodes_after volume T room c t (record { ids = fits.ids; inodes = fits.inodes; sizes = fits.sizes }) e in
    let pages = room_total-room_after (least_free_id T) T room c gives in
    let enough = need-le-free (untaken volume) T room c e in
    let old = fits.pages in
    let new = nodes.pages in
    record { ids = nodes.fit.ids; inodes = nodes.fit.inodes; pages = omega (arith, pages, enough, old, new); sizes = nodes.fit.sizes }

kept_fits : (o : Option Refusal) (volume : ℕ) (T : Tree) (room new : Room) (c : Command) → IsTree T → Fits volume T room → refusal_of volume T room c ≡ o
    → RoomAfter o T room c new → Fits volume (outcome_of o (untaken volume) (least_free_id T) T room c).tree new
kept_fits None volume T room new c t fits e after =
    subst (Fits volume (tree_after (least_free_id T) T c)) (sym after.1) (accepted_fits volume T room c after.0 t fits e)
kept_fits (Some refusal) volume T room new c t fits e after = subst (Fits volume T) (sym after) fits

pub Fits-step : (volume : ℕ) (T : Tree) (room new : Room) (c : Command) → IsTree T → IsRoom T room → Fits volume T room
    → RoomAfter (refusal_of volume T room c) T room c new → Fits volume (step volume T room c).tree new
Fits-step volume T room new c t is_room fits after = kept_fits (refusal_of volume T room c) volume T room new c t fits refl after

-- ---- the fresh tree

fresh_ids : (volume : ℕ) → IsVolumeSize volume → (id : ℕ) → IsTrue (is_some (node_at fresh id)) → (1 ≤ id) × (id ≤ inodes_of volume)
fresh_ids volume size id there =
    elim (chosen (eq_by_cmp nat_cmp id root_id) (Some Directory) None (node_at fresh id) refl) [
      | inl h ↦ let same = same_id id root_id h.0 in let some = some_inodes volume size in (omega (arith, same), omega (arith, same, some))
      | inr h ↦ absurd (true≢false (sym there ∙ ap is_some h.1))
    ]

fresh_sizes : (id : ℕ) (bytes : List ℕ) → node_at fresh id ≡ Some (File bytes) → length bytes ≤ file_limit
fresh_sizes id bytes e =
    elim (chosen (eq_by_cmp nat_cmp id root_id) (Some Directory) None (node_at fresh id) refl) [
      | inl h ↦ absurd (true≢false (ap is_directory_node (sym h.1 ∙ e)))
      | inr h ↦ none_some (File bytes) (sym h.1 ∙ e)
    ]

pub Fits-fresh : (volume : ℕ) → IsVolumeSize volume → Fits volume fresh fresh_room
Fits-fresh volume size =
    let nothing : pages_in_use fresh fresh_room ≡ 0 = refl in
    let one : inodes_in_use fresh ≡ 1 = refl in
    let some = some_inodes volume size in
    record { ids = fresh_ids volume size; inodes = omega (arith, one, some); pages = omega (arith, nothing); sizes = fresh_sizes }
