-- A command that doesn't name a file does the same whatever the file's bytes are.
use Rattle.std.proofs.Common.{◌≡◌, ◌≢◌, ℕ, ◌+◌, ◌-◌, ◌≤◌, Bool, true, false, cond, ◌&&◌, ◌||◌, ◌==◌, List, [], ◌∷◌, length, take, drop, count_by, Option, Some, None, is_some, refl, sym, ap, subst, ◌∙◌, arith, true≢false, nat_cmp}
use Rattle.std.specs.List.{Contains, list_any}
use Rattle.std.specs.Ordering.{eq_by_cmp}
use Rattle.std.specs.Cmp.{nat_cmp_total}
use Rattle.std.specs.FinMap.{nat_cmp-IsAntisymmetric}
use Rattle.std.specs.FinMap.Entries.{length-put}
use Rattle.layout.specs.Geometry.{pieces, inodes_of, data_pages_of}
use Rattle.tree_model.specs.PathText.{Route}
use Rattle.tree_model.specs.Tree.{Tree, Node, File, Room, IsTree, id_at, node_at, node_pages, is_directory, is_directory_node, bytes_of_node, is_number, entries_in, name_count, path_count, page_bytes, pages_in}
use Rattle.tree_model.specs.Capacity.{Supply, inodes_in_use, pages_in_use, free_inodes, free_pages}
use Rattle.tree_model.specs.Step.{Status, Bytes, Space, refusal_with, id_of, without_path, without_unnamed, with_new, with_bytes, overwritten, resized, page_for_name, pages_after, room_after, answer_of, tree_after, need}
use Rattle.tree_model.specs.Accepted.{Accepted}
use Rattle.tree_model.specs.declared.command.Command.{Command}
use Rattle.tree_model.specs.declared.command.Command.TheVariants.{Create, Mkdir, Link, Unlink, Rmdir, Rename, Write, Truncate, Read, Stat as Tell, List as Show, Df}
use Rattle.tree_model.proofs.TableLaws.{same_table}
use Rattle.tree_model.proofs.EntryLaws.{measure_found, sum_by-put}
use Rattle.tree_model.proofs.TreeLaws.{same_id, same_room, node_at-with_new, same_id_itself, node_at-with_bytes, node_at-with_bytes_here, node_at-with_bytes_other}
use Rattle.tree_model.proofs.TreeEdits.{IsTree-with_bytes}
use Rattle.tree_model.proofs.RoomLaws.{get-room_after}
use Rattle.tree_model.proofs.AcceptedLaws.{Accepted-from_row}
use Rattle.tree_model.proofs.FitsLaws.{need-le-free}
use Rattle.naming_laws.specs.Naming.{paths_of, names_all, is_at_one_of, names_inode, inode_need}
use Rattle.naming_laws.specs.Still.{FindsSame, HasEnough, DifferInBytes, DoesSame, TornLaw}
use Rattle.naming_laws.proofs.Named.{at_first, names_at}
use Rattle.naming_laws.proofs.Edits.{same_kind, kept_at, leaves_by}
use Rattle.naming_laws.proofs.Walks.{same_walks}
use Rattle.naming_laws.proofs.Still.{same_gaining, same_losing, inodes_enough, still_in_tree}

-- ---- the torn tree is the tree with the torn bytes

torn_tree : (file : ℕ) (T U : Tree) (d : DifferInBytes file T U) → U ≡ with_bytes T file d.torn
torn_tree file T U d = λ k. record { names = d.names k; nodes = nodes k }
  where
    at_id : (i : ℕ) (b : Bool) → eq_by_cmp nat_cmp i file ≡ b → node_at U i ≡ cond b (Some (File d.torn)) (node_at T i)
    at_id i true is = ap (node_at U) (same_id i file is) ∙ d.is_torn
    at_id i false is = d.others i (λ same. true≢false (sym (itself i file same) ∙ is))
      where
        itself : (a b : ℕ) → a ≡ b → eq_by_cmp nat_cmp a b ≡ true
        itself a b e = ap (eq_by_cmp nat_cmp a) (sym e) ∙ same_id_itself a

    nodes : U.nodes ≡ (with_bytes T file d.torn).nodes
    nodes = same_table nat_cmp_total nat_cmp-IsAntisymmetric U.nodes (with_bytes T file d.torn).nodes (λ i.
        at_id i (eq_by_cmp nat_cmp i file) refl ∙ sym (node_at-with_bytes T file d.torn i))

-- ---- one file's bytes

module _ (T : Tree) (t : IsTree T) (file : ℕ) (bytes torn : List ℕ) (is : node_at T file ≡ Some (File bytes)) (size : length torn ≡ length bytes) where
  abbrev V : Tree
  V = with_bytes T file torn

  other_node : (i : ℕ) → (i ≢ file) → node_at V i ≡ node_at T i
  other_node i other = node_at-with_bytes_other T file torn i other

  is_torn : node_at V file ≡ Some (File torn)
  is_torn = node_at-with_bytes_here T file torn

  tree_torn : IsTree V
  tree_torn = IsTree-with_bytes T file torn t (ap is_directory_node is) (ap is_some is)

  same_kinds : (i : ℕ) → is_directory V i ≡ is_directory T i
  same_kinds = same_kind T file torn (ap is_directory_node is)

  same_inodes : inodes_in_use V ≡ inodes_in_use T
  same_inodes =
      length-put nat_cmp nat_cmp_total file (File torn) T.nodes.entries T.nodes.sorted
      ∙ ap (λ o. cond (is_some o) (length T.nodes.entries) (length T.nodes.entries + 1)) is

  same_pages : (room : Room) → pages_in_use V room ≡ pages_in_use T room
  same_pages room =
      let placed = sum_by-put nat_cmp nat_cmp_total node_pages file (File torn) T.nodes.entries T.nodes.sorted in
      let was : measure_found node_pages (node_at T file) ≡ pieces (length bytes) page_bytes = ap (measure_found node_pages) is in
      let same : pieces (length torn) page_bytes ≡ pieces (length bytes) page_bytes = ap (λ n. pieces n page_bytes) size in
      omega (arith, placed, was, same)

  free_inodes_same : (supply : Supply) → free_inodes supply V ≡ free_inodes supply T
  free_inodes_same supply = ap (λ n. inodes_of supply.pages - (n + supply.taken_inodes)) same_inodes

  free_pages_same : (supply : Supply) (room : Room) → free_pages supply V room ≡ free_pages supply T room
  free_pages_same supply room = ap (λ n. data_pages_of supply.pages - (n + supply.taken_pages)) (same_pages room)

  -- ---- what is found beside the file

  module _ (supply : Supply) (room : Room) (c : Command) (accepted : refusal_with supply T room c ≡ None) (apart : names_inode T c file ≡ false) where
    other_id : (i : ℕ) → names_inode T c i ≡ true → i ≢ file
    other_id i named same = true≢false (sym named ∙ ap (names_inode T c) same ∙ apart)

    -- a command that names all names the file
    names_few : names_all c ≡ false
    names_few = few (names_all c) apart
      where
        few : (b : Bool) → cond b (is_some (node_at T file)) (is_at_one_of T (paths_of c) file) ≡ false → b ≡ false
        few true e = absurd (true≢false (sym (ap is_some is) ∙ e))
        few false e = refl

    same_named : (i : ℕ) → names_inode V c i ≡ names_inode T c i
    same_named i =
        ap (λ b. cond b (is_some (node_at V i)) (is_at_one_of V (paths_of c) i)) names_few ∙ same_ones (paths_of c)
        ∙ sym (ap (λ b. cond b (is_some (node_at T i)) (is_at_one_of T (paths_of c) i)) names_few)
      where
        same_ones : (qs : List Route) → is_at_one_of V qs i ≡ is_at_one_of T qs i
        same_ones [] = refl
        same_ones (q ∷ qs) = ap (λ b. is_number (id_at T q) i || b) (same_ones qs)

    finds_beside : FindsSame c (record { tree = T; room = room }) (record { tree = V; room = room })
    finds_beside = record {
      walks = same_walks supply T V room t tree_torn c (Accepted-from_row supply T room c t accepted) (λ q at. refl) (λ q i at e. same_kinds i);
      ids = λ q at. refl;
      named = same_named;
      nodes = λ i named. other_node i (other_id i named);
      names = λ i named. refl;
      links = λ i named k. cond (same_kinds i k) (2 + count_by (λ e. same_kinds e.1 k) (entries_in T i)) (path_count T i);
      paths = λ i named. refl;
      pages = λ i named. refl;
    }

    has_enough : HasEnough supply (record { tree = T; room = room }) (record { tree = V; room = room }) c
    has_enough = record {
      inodes = subst (λ n. inode_need c ≤ n) (sym (free_inodes_same supply)) (inodes_enough supply T room c (Accepted-from_row supply T room c t accepted));
      pages = subst (λ n. need T room c ≤ n) (sym (free_pages_same supply room)) (need-le-free supply T room c accepted);
    }

    accepted_beside : refusal_with supply V room c ≡ None
    accepted_beside = (still_in_tree supply supply (record { tree = T; room = room }) (record { tree = V; room = room }) c t accepted finds_beside has_enough).accepted

    -- the node at a path of the command
    node_beside : (q : Route) (i : ℕ) → Contains (paths_of c) q → id_at T q ≡ Some i → id_of T q ≡ i → node_at V (id_of T q) ≡ node_at T (id_of T q)
    node_beside q i at named same = other_node (id_of T q) (other_id (id_of T q) (names_at T t c q (id_of T q) at (named ∙ ap Some (sym same))))

  -- ---- the answer

  answer_same : (supply : Supply) (room : Room) (c : Command) → refusal_with supply T room c ≡ None → names_inode T c file ≡ false → Accepted supply T room c
      → answer_of supply V room c ≡ answer_of supply T room c
  answer_same supply room (Create path) e apart a = refl
  answer_same supply room (Mkdir path) e apart a = refl
  answer_same supply room (Link from to) e apart a = refl
  answer_same supply room (Unlink path) e apart a = refl
  answer_same supply room (Rmdir path) e apart a = refl
  answer_same supply room (Rename from to) e apart a = refl
  answer_same supply room (Write path offset new) e apart a = refl
  answer_same supply room (Truncate path new) e apart a = refl
  answer_same supply room (Read path offset count) e apart a =
      let node = node_beside supply room (Read path offset count) e apart path a.source.id (at_first path []) a.source.named a.source.is in
      λ k. Bytes (take count (drop offset (bytes_of_node (node k))))
  answer_same supply room (Tell path) e apart a =
      let node = node_beside supply room (Tell path) e apart path a.id (at_first path []) a.named a.is in
      let i = id_of T path in
      λ k. Status (record {
        dir = is_directory_node (node k);
        inode = i;
        links = cond (is_directory_node (node k)) (2 + count_by (λ e. same_kinds e.1 k) (entries_in T i)) (path_count T i);
        amount = cond (is_directory_node (node k)) (name_count T i) (length (bytes_of_node (node k)));
      })
  answer_same supply room (Show path) e apart a = refl
  answer_same supply room Df e apart a =
      let inodes = free_inodes_same supply in
      let pages = free_pages_same supply room in
      λ k. Space (record { inodes = inodes k; inodes_all = inodes_of supply.pages; pages = pages k; pages_all = data_pages_of supply.pages })

  -- ---- the tree

  choice_names : (b : Bool) (j : ℕ) (x y : List ℕ) → (cond b V (with_bytes V j x)).names ≡ (cond b T (with_bytes T j y)).names
  choice_names true j x y = refl
  choice_names false j x y = refl

  names_same : (id : ℕ) (c : Command) → names_all c ≡ false → (tree_after id V c).names ≡ (tree_after id T c).names
  names_same id (Create path) one = refl
  names_same id (Mkdir path) one = refl
  names_same id (Link from to) one = refl
  names_same id (Unlink path) one = refl
  names_same id (Rmdir path) one = refl
  names_same id (Rename from to) one = absurd (true≢false one)
  names_same id (Write path offset new) one = choice_names (length new == 0) (id_of T path) _ _
  names_same id (Truncate path new) one = refl
  names_same id (Read path offset count) one = refl
  names_same id (Tell path) one = refl
  names_same id (Show path) one = refl
  names_same id Df one = refl

  new_same : (path : Route) (id : ℕ) (node : Node) (i : ℕ) → (i ≢ file) → node_at (with_new V path id node) i ≡ node_at (with_new T path id node) i
  new_same path id node i other =
      node_at-with_new V path id node i ∙ ap (cond (eq_by_cmp nat_cmp i id) (Some node)) (other_node i other) ∙ sym (node_at-with_new T path id node i)

  less_same : (path : Route) (i : ℕ) → (i ≢ file) → node_at (without_unnamed (without_path V path)) i ≡ node_at (without_unnamed (without_path T path)) i
  less_same path i other =
      kept_at (without_path V path) i ∙ ap (λ o. cond (list_any (λ e. e.1 == i) (without_path T path).names.entries) o None) (other_node i other) ∙ sym (kept_at (without_path T path) i)

  bytes_same : (j : ℕ) (x y : List ℕ) → x ≡ y → (i : ℕ) → (i ≢ file) → node_at (with_bytes V j x) i ≡ node_at (with_bytes T j y) i
  bytes_same j x y same i other =
      let node = other_node i other in
      node_at-with_bytes V j x i ∙ (λ k. cond (eq_by_cmp nat_cmp i j) (Some (File (same k))) (node k)) ∙ sym (node_at-with_bytes T j y i)

  choice_same : (b : Bool) (j : ℕ) (x y : List ℕ) → x ≡ y → (i : ℕ) → (i ≢ file) → node_at (cond b V (with_bytes V j x)) i ≡ node_at (cond b T (with_bytes T j y)) i
  choice_same true j x y same i other = other_node i other
  choice_same false j x y same i other = bytes_same j x y same i other

  others_same : (supply : Supply) (room : Room) (id : ℕ) (c : Command) → refusal_with supply T room c ≡ None → names_inode T c file ≡ false → Accepted supply T room c → names_all c ≡ false
      → (i : ℕ) → (i ≢ file) → node_at (tree_after id V c) i ≡ node_at (tree_after id T c) i
  others_same supply room id (Create path) e apart a one i other = new_same path id _ i other
  others_same supply room id (Mkdir path) e apart a one i other = new_same path id _ i other
  others_same supply room id (Link from to) e apart a one i other = other_node i other
  others_same supply room id (Unlink path) e apart a one i other = less_same path i other
  others_same supply room id (Rmdir path) e apart a one i other = less_same path i other
  others_same supply room id (Rename from to) e apart a one i other = absurd (true≢false one)
  others_same supply room id (Write path offset new) e apart a one i other =
      let node = node_beside supply room (Write path offset new) e apart path a.source.id (at_first path []) a.source.named a.source.is in
      choice_same (length new == 0) (id_of T path) _ _ (ap (λ o. overwritten (bytes_of_node o) offset new) node) i other
  others_same supply room id (Truncate path new) e apart a one i other =
      let node = node_beside supply room (Truncate path new) e apart path a.source.id (at_first path []) a.source.named a.source.is in
      bytes_same (id_of T path) _ _ (ap (λ o. resized (bytes_of_node o) new) node) i other
  others_same supply room id (Read path offset count) e apart a one i other = other_node i other
  others_same supply room id (Tell path) e apart a one i other = other_node i other
  others_same supply room id (Show path) e apart a one i other = other_node i other
  others_same supply room id Df e apart a one i other = other_node i other

  -- ---- all of it

  module _ (supply : Supply) (room : Room) (id : ℕ) (c : Command) (unused : node_at T id ≡ None) (accepted : refusal_with supply T room c ≡ None) (apart : names_inode T c file ≡ false) where
    few : names_all c ≡ false
    few = names_few supply room c accepted apart

    unused_beside : node_at V id ≡ None
    unused_beside = other_node id (λ same. none_some (File bytes) (sym unused ∙ ap (node_at T) same ∙ is)) ∙ unused
      where
        none_some : (n : Node) → ◌≡◌ {A = Option Node} None (Some n) → ⊥
        none_some n e = cc

    tree_same : DifferInBytes file (tree_after id T c) (tree_after id V c)
    tree_same = record {
      names = names_same id c few;
      others = others_same supply room id c accepted apart (Accepted-from_row supply T room c t accepted) few;
      bytes = bytes;
      torn = torn;
      is = (leaves_by T t id unused supply room c accepted).nodes file (ap is_some is) apart ∙ is;
      is_torn = (leaves_by V tree_torn id unused_beside supply room c (accepted_beside supply room c accepted apart)).nodes file (ap is_some is_torn)
          (same_named supply room c accepted apart file ∙ apart) ∙ is_torn;
      size = size;
    }

    kinds_after : (d : ℕ) → is_directory (tree_after id V c) d ≡ is_directory (tree_after id T c) d
    kinds_after d =
        elim (eq_by_cmp nat_cmp d file) as (λ b. eq_by_cmp nat_cmp d file ≡ b → is_directory (tree_after id V c) d ≡ is_directory (tree_after id T c) d) [
          | true ↦ λ same.
              let here = same_id d file same in
              ap (is_directory (tree_after id V c)) here ∙ ap is_directory_node tree_same.is_torn ∙ sym (ap (is_directory (tree_after id T c)) here ∙ ap is_directory_node tree_same.is)
          | false ↦ λ other. ap is_directory_node (tree_same.others d (λ same. true≢false (sym (itself d file same) ∙ other)))
        ] refl
      where
        itself : (a b : ℕ) → a ≡ b → eq_by_cmp nat_cmp a b ≡ true
        itself a b e = ap (eq_by_cmp nat_cmp a) (sym e) ∙ same_id_itself a

    pages_same : (gives : Bool) (d : ℕ) → pages_after V room c gives d ≡ pages_after T room c gives d
    pages_same gives d =
        let gains = same_gaining T V c (λ q at. refl) in
        let loses = same_losing T V c (λ q at. refl) in
        let page = page_for_name T room (Some d) in
        λ k. cond (is_number (loses k) d && gives) (pages_in room d + cond (is_number (gains k) d) page 0 - 1) (pages_in room d + cond (is_number (gains k) d) page 0)

    rooms_same : (gives : Bool) → room_after id V room c gives ≡ room_after id T room c gives
    rooms_same gives = same_room (room_after id V room c gives) (room_after id T room c gives) (λ d.
        let kind = kinds_after d in
        let pages = pages_same gives d in
        get-room_after id V room c gives d ∙ (λ k. cond (kind k) (Some (pages k)) None) ∙ sym (get-room_after id T room c gives d))

    does_same : DoesSame supply id file T V room c
    does_same = record {
      refusal = accepted_beside supply room c accepted apart ∙ sym accepted;
      answer = answer_same supply room c accepted apart (Accepted-from_row supply T room c t accepted);
      tree = tree_same;
      room_same = rooms_same;
    }

pub torn_law : TornLaw
torn_law volume supply id file T U room c v accepted unused apart d =
    subst (λ (W : Tree). DoesSame supply id file T W room c) (sym (torn_tree file T U d)) (does_same T v.tree file d.bytes d.torn d.is d.size supply room id c unused accepted apart)
