-- A command that names no file that is being written does the same in both trees.
use Rattle.std.proofs.Common.{◌≡◌, ℕ, ◌+◌, ◌-◌, Bool, true, false, cond, ◌&&◌, ◌==◌, List, [], length, take, drop, Option, Some, None, is_some, refl, sym, ap, ◌∙◌, nat_cmp}
use Rattle.std.specs.List.{Contains, list_any}
use Rattle.std.specs.Ordering.{eq_by_cmp}
use Rattle.layout.specs.Geometry.{inodes_of, data_pages_of}
use Rattle.tree_model.specs.PathText.{Route}
use Rattle.tree_model.specs.Table.{Table}
use Rattle.tree_model.specs.Tree.{Tree, Node, Directory, File, Room, IsTree, node_at, bytes_of_node, is_file_node, is_number, name_count, pages_in}
use Rattle.tree_model.specs.Capacity.{Supply}
use Rattle.tree_model.specs.Run.{IsVolumeState}
use Rattle.tree_model.specs.Step.{Status, Bytes, Space, refusal_with, id_of, is_same_node, with_new, with_bytes, with_moved, without_path, without_unnamed, overwritten, resized, page_for_name, pages_after, room_after, answer_of, tree_after}
use Rattle.tree_model.specs.Accepted.{IsFileAt, Accepted}
use Rattle.tree_model.specs.declared.command.Command.{Command}
use Rattle.tree_model.specs.declared.command.Command.TheVariants.{Create, Mkdir, Link, Unlink, Rmdir, Rename, Write, Truncate, Read, Stat as Tell, List as Show, Df}
use Rattle.tree_model.proofs.AcceptedLaws.{Accepted-from_row}
use Rattle.tree_model.proofs.RoomLaws.{get-room_after}
use Rattle.tree_model.proofs.TreeLaws.{same_room, not_true, node_at-with_new, node_at-with_bytes}
use Rattle.image_reading.specs.Counts.{IsIn}
use Rattle.naming_laws.specs.Naming.{paths_of, names_inode}
use Rattle.naming_laws.proofs.Named.{at_first, names_at}
use Rattle.naming_laws.proofs.Edits.{kept_at, leaves_by}
use Rattle.naming_laws.proofs.Still.{same_gaining, same_losing}
use Rattle.mixing_laws.specs.Mixed.{Range, files_of, IsMixed, DoesAlike, DoesAlikeLaw}
use Rattle.mixing_laws.proofs.Alike.{AreAlike, alike_mixed, unused_alike, tree_alike}
use Rattle.mixing_laws.proofs.Ranges.{file_of, mixed_file}
use Rattle.mixing_laws.proofs.Finds.{same_named, same_links, same_free_inodes, same_free_pages, same_refusal, with_names}

file_there : (o : Option Node) → is_file_node o ≡ true → is_some o ≡ true
file_there None e = cc
file_there (Some node) e = refl

module _ (T : Tree) (nodes : Table nat_cmp Node) where
  abbrev V : Tree
  V = record { names = T.names; nodes = nodes }

  -- ---- the names after it

  choice_names : (b : Bool) (W X : Tree) → W.names ≡ X.names → (cond b V W).names ≡ (cond b T X).names
  choice_names true W X e = refl
  choice_names false W X e = e

  pub same_names_after : (id : ℕ) (c : Command) → (tree_after id V c).names ≡ (tree_after id T c).names
  same_names_after id (Create path) = refl
  same_names_after id (Mkdir path) = refl
  same_names_after id (Link from to) = refl
  same_names_after id (Unlink path) = refl
  same_names_after id (Rmdir path) = refl
  same_names_after id (Rename from to) =
      choice_names (is_same_node T from to) (without_unnamed (with_moved (without_path V to) from to)) (without_unnamed (with_moved (without_path T to) from to)) refl
  same_names_after id (Write path offset bytes) = choice_names (length bytes == 0) (with_bytes V (id_of T path) _) (with_bytes T (id_of T path) _) refl
  same_names_after id (Truncate path size) = refl
  same_names_after id (Read path offset count) = refl
  same_names_after id (Tell path) = refl
  same_names_after id (Show path) = refl
  same_names_after id Df = refl

  -- ---- a node after it that was the same

  module _ (i : ℕ) (same : node_at V i ≡ node_at T i) where
    new_same : (path : Route) (id : ℕ) (node : Node) → node_at (with_new V path id node) i ≡ node_at (with_new T path id node) i
    new_same path id node = node_at-with_new V path id node i ∙ ap (cond (eq_by_cmp nat_cmp i id) (Some node)) same ∙ sym (node_at-with_new T path id node i)

    pruned_same : (W X : Tree) → W.names ≡ X.names → node_at W i ≡ node_at X i → node_at (without_unnamed W) i ≡ node_at (without_unnamed X) i
    pruned_same W X names node = kept_at W i ∙ (λ k. cond (list_any (λ e. e.1 == i) (names k).entries) (node k) None) ∙ sym (kept_at X i)

    pub bytes_same : (j : ℕ) (x y : List ℕ) → x ≡ y → node_at (with_bytes V j x) i ≡ node_at (with_bytes T j y) i
    bytes_same j x y e = node_at-with_bytes V j x i ∙ (λ k. cond (eq_by_cmp nat_cmp i j) (Some (File (e k))) (same k)) ∙ sym (node_at-with_bytes T j y i)

    choice_same : (b : Bool) (W X : Tree) → node_at W i ≡ node_at X i → node_at (cond b V W) i ≡ node_at (cond b T X) i
    choice_same true W X e = same
    choice_same false W X e = e

    -- where the node at each path that names a file is the same too
    same_after : (id : ℕ) (c : Command) → ((path : Route) → Contains (paths_of c) path → IsFileAt V path → node_at V (id_of T path) ≡ node_at T (id_of T path))
        → (supply : Supply) (room : Room) → Accepted supply V room c → node_at (tree_after id V c) i ≡ node_at (tree_after id T c) i
    same_after id (Create path) named supply room a = new_same path id (File [])
    same_after id (Mkdir path) named supply room a = new_same path id Directory
    same_after id (Link from to) named supply room a = same
    same_after id (Unlink path) named supply room a = pruned_same (without_path V path) (without_path T path) refl same
    same_after id (Rmdir path) named supply room a = pruned_same (without_path V path) (without_path T path) refl same
    same_after id (Rename from to) named supply room a =
        choice_same (is_same_node T from to) (without_unnamed (with_moved (without_path V to) from to)) (without_unnamed (with_moved (without_path T to) from to))
        (pruned_same (with_moved (without_path V to) from to) (with_moved (without_path T to) from to) refl same)
    same_after id (Write path offset bytes) named supply room a =
        let j = id_of T path in
        let node = named path (at_first path []) a.source in
        let now = overwritten (bytes_of_node (node_at V j)) offset bytes in
        let was = overwritten (bytes_of_node (node_at T j)) offset bytes in
        choice_same (length bytes == 0) (with_bytes V j now) (with_bytes T j was) (bytes_same j now was (ap (λ o. overwritten (bytes_of_node o) offset bytes) node))
    same_after id (Truncate path size) named supply room a =
        let j = id_of T path in
        let node = named path (at_first path []) a.source in
        bytes_same j (resized (bytes_of_node (node_at V j)) size) (resized (bytes_of_node (node_at T j)) size) (ap (λ o. resized (bytes_of_node o) size) node)
    same_after id (Read path offset count) named supply room a = same
    same_after id (Tell path) named supply room a = same
    same_after id (Show path) named supply room a = same
    same_after id Df named supply room a = same

  -- ---- the answer and the room

  module _ (alike : AreAlike T V) where
    same_answer : (c : Command) → ((path : Route) → Contains (paths_of c) path → IsFileAt V path → node_at V (id_of T path) ≡ node_at T (id_of T path))
        → (supply : Supply) (room : Room) → Accepted supply V room c → answer_of supply V room c ≡ answer_of supply T room c
    same_answer (Create path) named supply room a = refl
    same_answer (Mkdir path) named supply room a = refl
    same_answer (Link from to) named supply room a = refl
    same_answer (Unlink path) named supply room a = refl
    same_answer (Rmdir path) named supply room a = refl
    same_answer (Rename from to) named supply room a = refl
    same_answer (Write path offset bytes) named supply room a = refl
    same_answer (Truncate path size) named supply room a = refl
    same_answer (Read path offset count) named supply room a = ap (λ o. Bytes (take count (drop offset (bytes_of_node o)))) (named path (at_first path []) a.source)
    same_answer (Tell path) named supply room a =
        let i = id_of T path in
        let kind = (alike i).directory in
        let size = (alike i).size in
        let links = same_links T nodes alike i in
        λ k. Status (record { dir = kind k; inode = i; links = links k; amount = cond (kind k) (name_count T i) (size k) })
    same_answer (Show path) named supply room a = refl
    same_answer Df named supply room a =
        let inodes = same_free_inodes T nodes alike supply in
        let pages = same_free_pages T nodes alike supply room in
        λ k. Space (record { inodes = inodes k; inodes_all = inodes_of supply.pages; pages = pages k; pages_all = data_pages_of supply.pages })

  same_pages_after : (room : Room) (c : Command) (gives : Bool) (d : ℕ) → pages_after V room c gives d ≡ pages_after T room c gives d
  same_pages_after room c gives d =
      let gains = same_gaining T V c (λ path at. refl) in
      let loses = same_losing T V c (λ path at. refl) in
      let page = page_for_name T room (Some d) in
      λ k. cond (is_number (loses k) d && gives) (pages_in room d + cond (is_number (gains k) d) page 0 - 1) (pages_in room d + cond (is_number (gains k) d) page 0)

  pub same_room_after : (id : ℕ) (room : Room) (c : Command) → AreAlike (tree_after id T c) (tree_after id V c) → (gives : Bool)
      → room_after id V room c gives ≡ room_after id T room c gives
  same_room_after id room c after gives = same_room (room_after id V room c gives) (room_after id T room c gives) (λ d.
      let kind = (after d).directory in
      let pages = same_pages_after room c gives d in
      get-room_after id V room c gives d ∙ (λ k. cond (kind k) (Some (pages k)) None) ∙ sym (get-room_after id T room c gives d))

  -- ---- a command that names none of the files

  module _ (supply : Supply) (id : ℕ) (ranges : List Range) (room : Room) (c : Command) (v : IsTree V) (accepted : refusal_with supply V room c ≡ None)
      (unused : node_at V id ≡ None) (apart : (file : ℕ) → names_inode V c file ≡ true → ¬ IsIn file (files_of ranges)) (m : IsMixed ranges T V) where
    alike : AreAlike T V
    alike = alike_mixed ranges T V m

    found : Accepted supply V room c
    found = Accepted-from_row supply V room c v accepted

    named_same : (path : Route) → Contains (paths_of c) path → IsFileAt V path → node_at V (id_of T path) ≡ node_at T (id_of T path)
    named_same path here source = m.others (id_of T path) (apart (id_of T path) (names_at V v c path (id_of T path) here (source.named ∙ ap Some (sym source.is))))

    tree_same : IsMixed ranges (tree_after id T c) (tree_after id V c)
    tree_same = record {
      names = same_names_after id c;
      others = λ i none. same_after i (m.others i none) id c named_same supply room found;
      files = λ range held.
          let f = m.files range held in
          let unnamed = not_true (names_inode V c range.file) (λ named. apart range.file named (file_of ranges range held)) in
          let accepted_too = sym (same_refusal T nodes alike supply room c) ∙ accepted in
          mixed_file range T V (tree_after id T c) (tree_after id V c)
          ((leaves_by T (tree_alike T nodes alike v) id (unused_alike T V alike id unused) supply room c accepted_too).nodes range.file
          (file_there (node_at T range.file) f.file) (sym (same_named T nodes alike c range.file) ∙ unnamed))
          ((leaves_by V v id unused supply room c accepted).nodes range.file (file_there (node_at V range.file) f.file_still) unnamed) f;
    }

    does_alike : DoesAlike supply id room c T V ranges
    does_alike = record {
      answer = same_answer alike c named_same supply room found;
      tree = tree_same;
      room_same = same_room_after id room c (alike_mixed ranges (tree_after id T c) (tree_after id V c) tree_same);
    }

pub does_alike_law : DoesAlikeLaw
does_alike_law volume supply id ranges T U room c w accepted unused apart m =
    with_names (λ (W : Tree). IsVolumeState volume (record { tree = W; room = room }) → refusal_with supply W room c ≡ None → node_at W id ≡ None
    → ((file : ℕ) → names_inode W c file ≡ true → ¬ IsIn file (files_of ranges)) → IsMixed ranges T W → DoesAlike supply id room c T W ranges) T U m.names
    (λ w accepted unused apart m. does_alike T U.nodes supply id ranges room c w.tree accepted unused apart m) w accepted unused apart m
