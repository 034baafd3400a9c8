-- An accepted command found what its record says.
use Rattle.std.proofs.Common.{◌≡◌, ℕ, ◌+◌, ◌-◌, ◌≤◌, ◌⊎◌, inl, inr, Bool, true, false, cond, max, ◌&&◌, ◌||◌, ◌==◌, nat_lt, List, [], ◌∷◌, ◌++◌, length, take, drop, replicate, length-append, length-drop, Option, Some, None, is_some, is_none, unwrap_or, refl, sym, ap, subst, ◌∙◌, arith, true≢false}
use Rattle.std.proofs.lemmas.List.{length-take, length-replicate}
use Rattle.std.proofs.lemmas.Bool.Decides.{nat_tests}
use Rattle.tree_model.specs.PathText.{Route}
use Rattle.tree_model.specs.Tree.{Tree, Node, File, Room, IsTree, root_id, is_root, parent, rest_after, is_above, id_at, node_at, is_directory, is_file, is_number, bytes_of, bytes_of_node, name_count, path_count}
use Rattle.tree_model.specs.Capacity.{Supply, free_inodes, free_pages, file_limit}
use Rattle.tree_model.specs.Walk.{walk, walk_to_parent}
use Rattle.tree_model.specs.Step.{first, at, fault_of, id_of, is_there, is_same_node, page_for_name, need, rise, read_limit, lacks_inodes, lacks_pages, refusal_with, with_bytes, with_moved, without_path, without_unnamed, resized, overwritten}
use Rattle.tree_model.specs.Accepted.{HasHolder, IsNodeAt, IsFileAt, IsDirectoryAt, MayName, MayMake, MayLink, MayUnlink, MayRemove, MayReplace, MayMove, MayRename, MayWrite, MayTruncate, MayRead, Accepted}
use Rattle.tree_model.specs.declared.command.Command.{Command}
use Rattle.tree_model.specs.declared.command.Command.TheVariants.{Create, Mkdir, Link, Unlink, Rmdir, Rename, Write, Truncate, Read, Stat as Tell, List as Show, Df}
use Rattle.tree_model.specs.declared.reply.Refusal.TheVariants.{Root, Exists, IsDir, NotDir, NotEmpty, IntoItself, TooBig, NoInodes, NoPages}
use Rattle.tree_model.proofs.NodeLaws.{file_is, two_kinds, a_file, a_directory}
use Rattle.tree_model.proofs.Accepted.{first-none, at-none, fault_of-none, not_there}
use Rattle.tree_model.proofs.WalkLaws.{holder-from_walk, id_at-from_walk}
use Rattle.tree_model.proofs.TreeLaws.{above, is_same_itself, least_free_id-free, name_count-not_directory, node_at-with_bytes_here}
use Rattle.tree_model.proofs.TreeMoved.{clear}
use Rattle.tree_model.proofs.TreePruned.{IsTree-without_unnamed}
use Rattle.tree_model.proofs.PathCounts.{path_count-without_path, path_count-with_moved, gone-where_unnamed}
use Rattle.tree_model.proofs.TreeLess.{HasNoNames, HasNoNames-empty, less_was, IsAlmostTree-without_path}
use Rattle.tree_model.proofs.TreeKept.{some_is}
use Rattle.tree_model.proofs.StepLaws.{neither_first, target_empty, not_inside, no_names}

-- ---- tests

not_less : (a b : ℕ) → nat_lt a b ≡ false → b ≤ a
not_less a b e = grind (arith, nat_tests)

not_zero : (n : ℕ) → n == 0 ≡ false → 1 ≤ n
not_zero n e = grind (arith, nat_tests)

one_test : (n m : ℕ) → n + 1 ≡ m → (n == 0) ≡ (m == 1)
one_test n m e = grind (arith, nat_tests)

-- ---- what stands at a path

module _ (T' : Tree) (t : IsTree T') (path : Route) where
  node_at_path : fault_of (walk T' path) ≡ None → IsNodeAt T' path
  node_at_path e =
      let found = fault_of-none (walk T' path) e in
      let named = id_at-from_walk T' path found.0 t found.1 in
      let node = some_is (node_at T' found.0.id) (t.present path found.0.id named) in
      record { id = found.0.id; node = node.0; named = named; is = ap (λ o. unwrap_or o root_id) named; present = node.1 }

  file_at_path : fault_of (walk T' path) ≡ None → at IsDir (is_directory T' (id_of T' path)) ≡ None → IsFileAt T' path
  file_at_path e kind =
      let n = node_at_path e in
      let file = file_is (node_at T' n.id) (a_file (node_at T' n.id) (ap is_some n.present) (ap (is_directory T') (sym n.is) ∙ at-none IsDir (is_directory T' (id_of T' path)) kind)) in
      record { id = n.id; bytes = file.0; named = n.named; is = n.is; file = file.1 }

  directory_at_path : fault_of (walk T' path) ≡ None → at NotDir (is_file T' (id_of T' path)) ≡ None → IsDirectoryAt T' path
  directory_at_path e kind =
      let n = node_at_path e in
      let directory = a_directory (node_at T' n.id) (ap is_some n.present) (ap (is_file T') (sym n.is) ∙ at-none NotDir (is_file T' (id_of T' path)) kind) in
      record { id = n.id; named = n.named; is = n.is; directory = directory }

  holder_of : fault_of (walk_to_parent T' path) ≡ None → is_root path ≡ false → HasHolder T' path
  holder_of e below =
      let found = fault_of-none (walk_to_parent T' path) e in
      let held = holder-from_walk T' path found.0 t found.1 in
      record { directory = found.0.id; below = below; held = held.0; is = ap (λ o. unwrap_or o root_id) held.0; holds = held.1 }

  holder_above : (id : ℕ) → id_at T' path ≡ Some id → is_root path ≡ false → HasHolder T' path
  holder_above id named below =
      let d = above T' t path id named below in
      record { directory = d.0; below = below; held = d.1; is = ap (λ o. unwrap_or o root_id) d.1; holds = d.2 }

  may_name : (supply : Supply) (room : Room) → HasHolder T' path → is_there T' path ≡ false → page_for_name T' room (Some (id_of T' (parent path))) ≤ free_pages supply T' room → MayName supply T' room path
  may_name supply room holder absent page =
      let same = ap (λ d. page_for_name T' room (Some d)) holder.is in
      record { holder = holder; absent = not_there (id_at T' path) absent; page = omega (arith, page, same) }

enough : (supply : Supply) (T' : Tree) (room : Room) (c : Command) → at NoPages (lacks_pages supply T' room c) ≡ None → need T' room c ≤ free_pages supply T' room
enough supply T' room c e = not_less (free_pages supply T' room) (need T' room c) (at-none NoPages (lacks_pages supply T' room c) e)

-- ---- create, mkdir, link

may_make : (supply : Supply) (T' : Tree) (room : Room) (path : Route) (lacks : Bool) → IsTree T' → nat_lt (free_pages supply T' room) (page_for_name T' room (Some (id_of T' (parent path)))) ≡ lacks
    → first (fault_of (walk_to_parent T' path) ∷ at Root (is_root path) ∷ at Exists (is_there T' path) ∷ at NoInodes (lacks_inodes supply T') ∷ at NoPages lacks ∷ []) ≡ None
    → MayMake supply T' room path
may_make supply T' room path lacks t is e =
    let walked = first-none (fault_of (walk_to_parent T' path)) _ e in
    let below = first-none (at Root (is_root path)) _ walked.1 in
    let absent = first-none (at Exists (is_there T' path)) _ below.1 in
    let inodes = first-none (at NoInodes (lacks_inodes supply T')) _ absent.1 in
    let pages = first-none (at NoPages lacks) [] inodes.1 in
    let holder = holder_of T' t path walked.0 (at-none Root (is_root path) below.0) in
    let page = not_less (free_pages supply T' room) (page_for_name T' room (Some (id_of T' (parent path)))) (is ∙ at-none NoPages lacks pages.0) in
    record {
      place = may_name T' t path supply room holder (at-none Exists (is_there T' path) absent.0) page;
      inode = not_zero (free_inodes supply T') (at-none NoInodes (lacks_inodes supply T') inodes.0);
      unused = least_free_id-free T';
    }

may_link : (supply : Supply) (T' : Tree) (room : Room) (from to : Route) → IsTree T' → refusal_with supply T' room (Link from to) ≡ None → MayLink supply T' room from to
may_link supply T' room from to t e =
    let walked = first-none (fault_of (walk T' from)) _ e in
    let held = first-none (fault_of (walk_to_parent T' to)) _ walked.1 in
    let below = first-none (at Root (is_root to)) _ held.1 in
    let absent = first-none (at Exists (is_there T' to)) _ below.1 in
    let kind = first-none (at IsDir (is_directory T' (id_of T' from))) _ absent.1 in
    let pages = first-none (at NoPages (lacks_pages supply T' room (Link from to))) [] kind.1 in
    let holder = holder_of T' t to held.0 (at-none Root (is_root to) below.0) in
    record {
      source = file_at_path T' t from walked.0 kind.0;
      place = may_name T' t to supply room holder (at-none Exists (is_there T' to) absent.0) (enough supply T' room (Link from to) pages.0);
    }

-- ---- unlink, rmdir

-- a file goes with its last path
goes_with_path : (T' : Tree) (path : Route) (id : ℕ) (node : Node) → id_at T' path ≡ Some id → node_at T' id ≡ Some node
    → is_none (node_at (without_unnamed (without_path T' path)) id) ≡ (path_count T' id == 1)
goes_with_path T' path id node named there =
    gone-where_unnamed (without_path T' path) id node there ∙ one_test (path_count (without_path T' path) id) (path_count T' id) (path_count-without_path T' path id named)

may_unlink : (supply : Supply) (T' : Tree) (room : Room) (path : Route) → IsTree T' → refusal_with supply T' room (Unlink path) ≡ None → MayUnlink T' path
may_unlink supply T' room path t e =
    let walked = first-none (fault_of (walk T' path)) _ e in
    let below = first-none (at Root (is_root path)) _ walked.1 in
    let kind = first-none (at IsDir (is_directory T' (id_of T' path))) [] below.1 in
    let file = file_at_path T' t path walked.0 kind.0 in
    record {
      holder = holder_above T' t path file.id file.named (at-none Root (is_root path) below.0);
      source = file;
      goes = λ new. goes_with_path T' path file.id (File file.bytes) file.named file.file;
    }

-- a directory has no other path
gone_with_its_path : (T' : Tree) (t : IsTree T') (path : Route) (id : ℕ) → is_root path ≡ false → id_at T' path ≡ Some id → is_directory T' id ≡ true → HasNoNames T' path
    → (o : Option Node) → node_at (without_unnamed (without_path T' path)) id ≡ o → o ≡ None
gone_with_its_path T' t path id below named dir empty None is = refl
gone_with_its_path T' t path id below named dir empty (Some node) is =
    let less = IsTree-without_unnamed (without_path T' path) (IsAlmostTree-without_path T' t path below empty) in
    let other = less.named id (ap is_some is) in
    let was = less_was T' t path below empty other.0 id other.1 in
    let same = t.one_path id dir other.0 path was.1 named in
    absurd (true≢false (sym (is_same_itself other.0 path same) ∙ was.0))

may_remove : (supply : Supply) (T' : Tree) (room : Room) (path : Route) → IsTree T' → refusal_with supply T' room (Rmdir path) ≡ None → MayRemove T' path
may_remove supply T' room path t e =
    let walked = first-none (fault_of (walk T' path)) _ e in
    let below = first-none (at Root (is_root path)) _ walked.1 in
    let kind = first-none (at NotDir (is_file T' (id_of T' path))) _ below.1 in
    let few = first-none (at NotEmpty (nat_lt 0 (name_count T' (id_of T' path)))) [] kind.1 in
    let directory = directory_at_path T' t path walked.0 kind.0 in
    let under = at-none Root (is_root path) below.0 in
    let empty = ap (name_count T') (sym directory.is) ∙ no_names (name_count T' (id_of T' path)) (at-none NotEmpty (nat_lt 0 (name_count T' (id_of T' path))) few.0) in
    record {
      holder = holder_above T' t path directory.id directory.named under;
      source = directory;
      empty = empty;
      goes = λ new. gone_with_its_path T' t path directory.id under directory.named directory.directory
          (HasNoNames-empty T' path directory.id directory.named empty) (node_at (without_unnamed (without_path T' path)) directory.id) refl;
    }

-- ---- rename

both_of_three : (x y z : Bool) → x && y && z ≡ false → x ≡ true → y ≡ true → z ≡ false
both_of_three true true z e p q = e
both_of_three true false z e p q = cc
both_of_three false y z e p q = cc

all_of_four : (x y z w : Bool) → x && y && z && w ≡ false → x ≡ true → y ≡ true → z ≡ true → w ≡ false
all_of_four true true true w e p q r = e
all_of_four true true false w e p q r = cc
all_of_four true false z w e p q r = cc
all_of_four false y z w e p q r = cc

equal_ids : (a b : ℕ) → a ≡ b → (a == b) && true ≡ true
equal_ids a b e = grind (arith, nat_tests)

module _ (T' : Tree) (t : IsTree T') (from to : Route) (source : IsNodeAt T' from) (differ : is_same_node T' from to ≡ false)
    (dir_onto : is_directory T' (id_of T' from) && is_there T' to && is_file T' (id_of T' to) ≡ false)
    (file_onto : is_file T' (id_of T' from) && is_there T' to && is_directory T' (id_of T' to) ≡ false)
    (full : is_directory T' (id_of T' from) && is_there T' to && is_directory T' (id_of T' to) && nat_lt 0 (name_count T' (id_of T' to)) ≡ false)
    (clear_of_target : (p : Route) → is_some (id_at (without_path T' to) p) ≡ true → rest_after to p ≡ None) where
  source_there : is_some (node_at T' (id_of T' from)) ≡ true
  source_there = ap (λ n. is_some (node_at T' n)) source.is ∙ ap is_some source.present

  may_replace : (id : ℕ) → id_at T' to ≡ Some id → MayReplace T' from to source.id
  may_replace id named =
      let node = some_is (node_at T' id) (t.present to id named) in
      let is : id_of T' to ≡ id = ap (λ o. unwrap_or o root_id) named in
      let there : is_there T' to ≡ true = ap is_some named in
      let target : IsNodeAt T' to = record { id = id; node = node.0; named = named; is = is; present = node.1 } in
      let target_there : is_some (node_at T' (id_of T' to)) ≡ true = ap (λ n. is_some (node_at T' n)) is ∙ ap is_some node.1 in
      let kinds = alike there target_there in
      record {
        target = target;
        other = λ same. true≢false (sym (one_node id named same) ∙ differ);
        kind = ap (is_directory T') (sym is) ∙ sym kinds.0 ∙ ap (is_directory T') source.is;
        empty = ap (name_count T') (sym is) ∙ kinds.1;
        goes = λ new. goes_with_target id node.0 named node.1;
      }
    where
      goes_with_target : (id : ℕ) (node : Node) → id_at T' to ≡ Some id → node_at T' id ≡ Some node
          → is_none (node_at (cond (is_same_node T' from to) T' (without_unnamed (with_moved (without_path T' to) from to))) id) ≡ (path_count T' id == 1)
      goes_with_target id node named there =
          ap (λ b. is_none (node_at (cond b T' (without_unnamed (with_moved (without_path T' to) from to))) id)) differ
          ∙ gone-where_unnamed (with_moved (without_path T' to) from to) id node there
          ∙ ap (λ n. n == 0) (path_count-with_moved (without_path T' to) from to id clear_of_target)
          ∙ one_test (path_count (without_path T' to) id) (path_count T' id) (path_count-without_path T' to id named)

      one_node : (id : ℕ) → id_at T' to ≡ Some id → id ≡ source.id → is_same_node T' from to ≡ true
      one_node id named same =
          ap (λ o. is_number o (id_of T' to) && is_there T' to) source.named ∙ ap (λ o. (source.id == unwrap_or o root_id) && is_some o) named ∙ equal_ids source.id id (sym same)

      alike : is_there T' to ≡ true → is_some (node_at T' (id_of T' to)) ≡ true → (is_directory T' (id_of T' from) ≡ is_directory T' (id_of T' to)) × (name_count T' (id_of T' to) ≡ 0)
      alike there target_there =
          elim (two_kinds (node_at T' (id_of T' from)) source_there) [
            | inl old ↦ elim (two_kinds (node_at T' (id_of T' to)) target_there) [
              | inl new ↦ (old.0 ∙ sym new.0, no_names (name_count T' (id_of T' to)) (all_of_four _ _ _ _ full old.0 there new.0))
              | inr new ↦ absurd (true≢false (sym new.1 ∙ both_of_three _ _ _ dir_onto old.0 there))
            ]
            | inr old ↦ elim (two_kinds (node_at T' (id_of T' to)) target_there) [
              | inl new ↦ absurd (true≢false (sym new.0 ∙ both_of_three _ _ _ file_onto old.1 there))
              | inr new ↦ (old.0 ∙ sym new.0, name_count-not_directory T' (id_of T' to) t new.0)
            ]
          ]

  target_of : (supply : Supply) (room : Room) → HasHolder T' to → need T' room (Rename from to) ≤ free_pages supply T' room → (o : Option ℕ) → id_at T' to ≡ o
      → MayName supply T' room to ⊎ MayReplace T' from to source.id
  target_of supply room holder page None is =
      let needs : need T' room (Rename from to) ≡ page_for_name T' room (Some (id_of T' (parent to))) =
      ap (λ b. page_for_name T' room (cond b None (Some (id_of T' (parent to))))) (ap is_some is) in
      inl (may_name T' t to supply room holder (ap is_some is) (omega (arith, page, needs)))
  target_of supply room holder page (Some id) is = inr (may_replace id is)

may_move : (supply : Supply) (T' : Tree) (room : Room) (from to : Route) (t : IsTree T') (source : IsNodeAt T' from) → is_root from ≡ false → HasHolder T' to → (same : Bool) → is_same_node T' from to ≡ same
    → first (cond same [] (
    at NotDir (is_directory T' (id_of T' from) && is_there T' to && is_file T' (id_of T' to))
    ∷ at IsDir (is_file T' (id_of T' from) && is_there T' to && is_directory T' (id_of T' to))
    ∷ at NotEmpty (is_directory T' (id_of T' from) && is_there T' to && is_directory T' (id_of T' to) && nat_lt 0 (name_count T' (id_of T' to)))
    ∷ at IntoItself (is_directory T' (id_of T' from) && is_above from to) ∷ at NoPages (lacks_pages supply T' room (Rename from to)) ∷ [])) ≡ None
    → (is_same_node T' from to ≡ true) ⊎ MayMove supply T' room from to source.id
may_move supply T' room from to t source from_below holder true is e = inl is
may_move supply T' room from to t source from_below holder false is e =
    let one = first-none (at NotDir (is_directory T' (id_of T' from) && is_there T' to && is_file T' (id_of T' to))) _ e in
    let two = first-none (at IsDir (is_file T' (id_of T' from) && is_there T' to && is_directory T' (id_of T' to))) _ one.1 in
    let three = first-none (at NotEmpty (is_directory T' (id_of T' from) && is_there T' to && is_directory T' (id_of T' to) && nat_lt 0 (name_count T' (id_of T' to)))) _ two.1 in
    let four = first-none (at IntoItself (is_directory T' (id_of T' from) && is_above from to)) _ three.1 in
    let pages = first-none (at NoPages (lacks_pages supply T' room (Rename from to))) [] four.1 in
    let empty = target_empty T' t from to source.id holder.directory source.named holder.held holder.holds is (at-none IsDir _ two.0) (at-none NotEmpty _ three.0) (at-none IntoItself _ four.0) (id_at T' to) refl in
    let outside = not_inside T' t from to source.id holder.directory source.named holder.held holder.holds is (at-none IsDir _ two.0) (at-none NotEmpty _ three.0) (at-none IntoItself _ four.0) (rest_after from to) refl in
    inr (record {
      differ = is;
      outside = outside;
      target = target_of T' t from to source is (at-none NotDir _ one.0) (at-none IsDir _ two.0) (at-none NotEmpty _ three.0)
          (clear T' t from to holder.directory from_below holder.below holder.held holder.holds empty outside) supply room holder
          (enough supply T' room (Rename from to) pages.0) (id_at T' to) refl;
    })

may_rename : (supply : Supply) (T' : Tree) (room : Room) (from to : Route) → IsTree T' → refusal_with supply T' room (Rename from to) ≡ None → MayRename supply T' room from to
may_rename supply T' room from to t e =
    let walked = first-none (fault_of (walk T' from)) _ e in
    let up = first-none (fault_of (walk_to_parent T' to)) _ walked.1 in
    let below = first-none (at Root (is_root from || is_root to)) _ up.1 in
    let apart = neither_first (is_root from) (is_root to) (at-none Root (is_root from || is_root to) below.0) in
    let source = node_at_path T' t from walked.0 in
    let holder = holder_of T' t to up.0 apart.1 in
    record {
      source = source;
      old_holder = holder_above T' t from source.id source.named apart.0;
      new_holder = holder;
      moves = may_move supply T' room from to t source apart.0 holder (is_same_node T' from to) refl below.1;
    }

-- ---- write, truncate, read

length-overwritten : (old : List ℕ) (offset : ℕ) (new : List ℕ) → length (overwritten old offset new) ≡ max (length old) (offset + length new)
length-overwritten old offset new =
    let more = offset + length new - length old in
    let long = old ++ replicate more 0 in
    let zeros = length-replicate {A = ℕ} more 0 in
    let all = length-append old (replicate more 0) in
    let head = length-take offset long in
    let tail = length-drop (offset + length new) long in
    let one = length-append (take offset long) new in
    let two = length-append (take offset long ++ new) (drop (offset + length new) long) in
    omega (arith, zeros, all, head, tail, one, two)

length-resized : (bytes : List ℕ) (size : ℕ) → length (resized bytes size) ≡ size
length-resized bytes size =
    let zeros = length-replicate {A = ℕ} (size - length bytes) 0 in
    let long = length-append bytes (replicate (size - length bytes) 0) in
    let cut = length-take size (bytes ++ replicate (size - length bytes) 0) in
    omega (arith, zeros, long, cut)

size_of_write : (none : Bool) (old : List ℕ) (offset : ℕ) (new : List ℕ)
    → length (cond none old (overwritten old offset new)) ≡ cond none (length old) (max (length old) (offset + length new))
size_of_write true old offset new = refl
size_of_write false old offset new = length-overwritten old offset new

-- the file after, where it is written to
node_written : (T' : Tree) (path : Route) (source : IsFileAt T' path) (none : Bool) (change : List ℕ → List ℕ)
    → node_at (cond none T' (with_bytes T' (id_of T' path) (change (bytes_of T' (id_of T' path))))) source.id ≡ Some (File (cond none source.bytes (change source.bytes)))
node_written T' path source true change = source.file
node_written T' path source false change =
    let old : bytes_of T' (id_of T' path) ≡ source.bytes = ap (bytes_of T') source.is ∙ ap bytes_of_node source.file in
    ap (λ id. node_at (with_bytes T' id (change (bytes_of T' (id_of T' path)))) source.id) source.is
    ∙ node_at-with_bytes_here T' source.id (change (bytes_of T' (id_of T' path))) ∙ ap (λ bytes. Some (File (change bytes))) old

may_write : (supply : Supply) (T' : Tree) (room : Room) (path : Route) (offset : ℕ) (bytes : List ℕ) → IsTree T' → refusal_with supply T' room (Write path offset bytes) ≡ None
    → MayWrite supply T' room path offset bytes
may_write supply T' room path offset bytes t e =
    let walked = first-none (fault_of (walk T' path)) _ e in
    let kind = first-none (at IsDir (is_directory T' (id_of T' path))) _ walked.1 in
    let short = first-none (at TooBig (nat_lt file_limit (offset + length bytes))) _ kind.1 in
    let pages = first-none (at NoPages (lacks_pages supply T' room (Write path offset bytes))) [] short.1 in
    let file = file_at_path T' t path walked.0 kind.0 in
    let old : bytes_of T' (id_of T' path) ≡ file.bytes = ap (bytes_of T') file.is ∙ ap bytes_of_node file.file in
    record {
      source = file;
      within = not_less file_limit (offset + length bytes) (at-none TooBig (nat_lt file_limit (offset + length bytes)) short.0);
      pages = subst (λ b. cond (length bytes == 0) 0 (rise b (offset + length bytes)) ≤ free_pages supply T' room) old (enough supply T' room (Write path offset bytes) pages.0);
      size = size_of_write (length bytes == 0) file.bytes offset bytes;
      written = λ new. node_written T' path file (length bytes == 0) (λ b. overwritten b offset bytes);
    }

may_truncate : (supply : Supply) (T' : Tree) (room : Room) (path : Route) (size : ℕ) → IsTree T' → refusal_with supply T' room (Truncate path size) ≡ None → MayTruncate supply T' room path size
may_truncate supply T' room path size t e =
    let walked = first-none (fault_of (walk T' path)) _ e in
    let kind = first-none (at IsDir (is_directory T' (id_of T' path))) _ walked.1 in
    let short = first-none (at TooBig (nat_lt file_limit size)) _ kind.1 in
    let pages = first-none (at NoPages (lacks_pages supply T' room (Truncate path size))) [] short.1 in
    let file = file_at_path T' t path walked.0 kind.0 in
    let old : bytes_of T' (id_of T' path) ≡ file.bytes = ap (bytes_of T') file.is ∙ ap bytes_of_node file.file in
    record {
      source = file;
      within = not_less file_limit size (at-none TooBig (nat_lt file_limit size) short.0);
      pages = subst (λ b. rise b size ≤ free_pages supply T' room) old (enough supply T' room (Truncate path size) pages.0);
      cut = length-resized file.bytes size;
      written = λ new. node_written T' path file false (λ b. resized b size);
    }

may_read : (supply : Supply) (T' : Tree) (room : Room) (path : Route) (offset count : ℕ) → IsTree T' → refusal_with supply T' room (Read path offset count) ≡ None → MayRead T' path count
may_read supply T' room path offset count t e =
    let walked = first-none (fault_of (walk T' path)) _ e in
    let kind = first-none (at IsDir (is_directory T' (id_of T' path))) _ walked.1 in
    let short = first-none (at TooBig (nat_lt read_limit count)) [] kind.1 in
    record {
      source = file_at_path T' t path walked.0 kind.0;
      within = not_less read_limit count (at-none TooBig (nat_lt read_limit count) short.0);
    }

may_show : (supply : Supply) (T' : Tree) (room : Room) (path : Route) → IsTree T' → refusal_with supply T' room (Show path) ≡ None → IsDirectoryAt T' path
may_show supply T' room path t e =
    let walked = first-none (fault_of (walk T' path)) _ e in
    directory_at_path T' t path walked.0 (first-none (at NotDir (is_file T' (id_of T' path))) [] walked.1).0

-- ---- every command

pub Accepted-from_row : (supply : Supply) (T' : Tree) (room : Room) (c : Command) → IsTree T' → refusal_with supply T' room c ≡ None → Accepted supply T' room c
Accepted-from_row supply T' room (Create path) t e = may_make supply T' room path (lacks_pages supply T' room (Create path)) t refl e
Accepted-from_row supply T' room (Mkdir path) t e = may_make supply T' room path (lacks_pages supply T' room (Mkdir path)) t refl e
Accepted-from_row supply T' room (Link from to) t e = may_link supply T' room from to t e
Accepted-from_row supply T' room (Unlink path) t e = may_unlink supply T' room path t e
Accepted-from_row supply T' room (Rmdir path) t e = may_remove supply T' room path t e
Accepted-from_row supply T' room (Rename from to) t e = may_rename supply T' room from to t e
Accepted-from_row supply T' room (Write path offset bytes) t e = may_write supply T' room path offset bytes t e
Accepted-from_row supply T' room (Truncate path size) t e = may_truncate supply T' room path size t e
Accepted-from_row supply T' room (Read path offset count) t e = may_read supply T' room path offset count t e
Accepted-from_row supply T' room (Tell path) t e = node_at_path T' t path (first-none (fault_of (walk T' path)) [] e).0
Accepted-from_row supply T' room (Show path) t e = may_show supply T' room path t e
Accepted-from_row supply T' room Df t e = tt
