-- The room after commands that leave the directories, and where a page is given back.
use Rattle.std.proofs.Common.{◌≡◌, ◌≢◌, ℕ, ◌+◌, ◌-◌, ◌≤◌, inl, inr, Bool, true, false, cond, ◌&&◌, ◌==◌, nat_lt, List, length, Option, Some, None, is_some, unwrap_or, refl, sym, ap, ◌∙◌, arith, true≢false, nat_cmp, add-zero}
use Rattle.std.specs.Cmp.{nat_cmp_total}
use Rattle.std.specs.Ordering.{eq_by_cmp}
use Rattle.std.proofs.lemmas.Bool.Decides.{nat_tests}
use Rattle.tree_model.specs.PathText.{Route}
use Rattle.tree_model.specs.Table.{get, insert}
use Rattle.tree_model.specs.Tree.{Tree, File, Room, IsTree, IsRoom, parent, rest_after, id_at, node_at, is_directory, is_directory_node, is_number, bytes_of, pages_in}
use Rattle.tree_model.proofs.TableLaws.{get-insert}
use Rattle.tree_model.specs.Capacity.{Supply}
use Rattle.tree_model.specs.Step.{id_of, is_same_node, gaining, losing, page_for_name, pages_after, room_after, tree_after, with_bytes, with_moved, without_path, without_unnamed, overwritten, resized, refusal_with, RoomAfterWith}
use Rattle.tree_model.specs.Run.{State}
use Rattle.tree_model.specs.Fences.{gave, gave_from}
use Rattle.tree_model.specs.Rooms.{LeavesDirectories, LeavesNames, ExchangesNames, pages_exchanged, IsRoomExchanged}
use Rattle.tree_model.specs.Accepted.{HasHolder, IsFileAt}
use Rattle.tree_model.specs.declared.command.Command.{Command}
use Rattle.tree_model.specs.declared.command.Command.TheVariants.{Create, Mkdir, Link, Unlink, Rmdir, Rename, Write, Truncate, Read, Stat as Tell, List as Show, Df}
use Rattle.tree_model.proofs.RoomLaws.{get-room_after, room_after-same, room-has_directory, directory-from_room}
use Rattle.tree_model.proofs.TreeLaws.{same_id, same_id_itself, same_room, node_at-with_bytes}
use Rattle.tree_model.proofs.TreeKept.{some_is, same_some, chosen}
use Rattle.tree_model.proofs.TreeLess.{HasNoNames-absent}
use Rattle.tree_model.proofs.TreeMoved.{clear}
use Rattle.tree_model.proofs.PathCounts.{path_count-node, path_count-absent, path_count-with_moved, node_at-without_unnamed}
use Rattle.tree_model.proofs.AcceptedLaws.{Accepted-from_row}

-- ---- commands that leave the directories

-- a file with other bytes is a file
with_bytes_leaves : (T : Tree) (path : Route) (source : IsFileAt T path) (bytes : List ℕ) (directory : ℕ) → is_directory (with_bytes T (id_of T path) bytes) directory ≡ is_directory T directory
with_bytes_leaves T path source bytes directory =
    elim (chosen (eq_by_cmp nat_cmp directory (id_of T path)) (Some (File bytes)) (node_at T directory) (node_at (with_bytes T (id_of T path) bytes) directory) (node_at-with_bytes T (id_of T path) bytes directory)) [
      | inl h ↦ ap is_directory_node h.1 ∙ sym (ap (is_directory T) (same_id directory (id_of T path) h.0 ∙ source.is) ∙ ap is_directory_node source.file)
      | inr h ↦ ap is_directory_node h.1
    ]

choice_leaves : (T U : Tree) (b : Bool) (directory : ℕ) → is_directory U directory ≡ is_directory T directory → is_directory (cond b T U) directory ≡ is_directory T directory
choice_leaves T U true directory same = refl
choice_leaves T U false directory same = same

-- a rename to a path that was not there leaves all nodes
moved_leaves : (T : Tree) (t : IsTree T) (from to : Route) (old_holder : HasHolder T from) (new_holder : HasHolder T to) → id_at T to ≡ None → rest_after from to ≡ None
    → (id : ℕ) → node_at (without_unnamed (with_moved (without_path T to) from to)) id ≡ node_at T id
moved_leaves T t from to old_holder new_holder absent outside id =
    let moved = with_moved (without_path T to) from to in
    let counted = path_count-with_moved (without_path T to) from to id
    (clear T t from to new_holder.directory old_holder.below new_holder.below new_holder.held new_holder.holds (HasNoNames-absent T t to absent) outside) in
    let same = path_count-absent T to id absent in
    node_at-without_unnamed moved id (λ there.
    let node = some_is (node_at T id) there in
    let some = path_count-node T t id node.0 node.1 in
    omega (arith, counted, same, some))

-- ---- no name comes or goes

-- the room stays where no directory gains or loses a name
pub RoomAfter-left : (supply : Supply) (id : ℕ) (T : Tree) (room new : Room) (c : Command) → IsTree T → IsRoom T room → refusal_with supply T room c ≡ None → LeavesNames T c
    → RoomAfterWith None id T room c new → new ≡ room
RoomAfter-left supply id T room new c t fits e leaves after =
    after.1 ∙ room_after-same id T room c after.0 fits leaves.gains leaves.loses (directories c e leaves)
  where
    directories : (c : Command) → refusal_with supply T room c ≡ None → LeavesNames T c → LeavesDirectories id T c
    directories (Create path) e leaves = let clash = leaves.gains in (λ directory. cc)
    directories (Mkdir path) e leaves = let clash = leaves.gains in (λ directory. cc)
    directories (Link from to) e leaves = let clash = leaves.gains in (λ directory. cc)
    directories (Unlink path) e leaves = let clash = leaves.loses in (λ directory. cc)
    directories (Rmdir path) e leaves = let clash = leaves.loses in (λ directory. cc)
    directories (Rename from to) e leaves = one_node (is_same_node T from to) refl leaves.loses
      where
        one_node : (same : Bool) → is_same_node T from to ≡ same → cond same None (Some (id_of T (parent from))) ≡ None
            → LeavesDirectories id T (Rename from to)
        one_node true is loses directory = ap (λ b. is_directory (cond b T (without_unnamed (with_moved (without_path T to) from to))) directory) is
        one_node false is loses directory = cc
    directories (Write path offset bytes) e leaves = λ directory.
        let found = Accepted-from_row supply T room (Write path offset bytes) t e in
        choice_leaves T (with_bytes T (id_of T path) (overwritten (bytes_of T (id_of T path)) offset bytes)) (length bytes == 0) directory
        (with_bytes_leaves T path found.source (overwritten (bytes_of T (id_of T path)) offset bytes) directory)
    directories (Truncate path size) e leaves = λ directory.
        let found = Accepted-from_row supply T room (Truncate path size) t e in
        with_bytes_leaves T path found.source (resized (bytes_of T (id_of T path)) size) directory
    directories (Read path offset count) e leaves = λ directory. refl
    directories (Tell path) e leaves = λ directory. refl
    directories (Show path) e leaves = λ directory. refl
    directories Df e leaves = λ directory. refl

-- ---- one directory gains and loses a name

module _ (id : ℕ) (T : Tree) (room : Room) (c : Command) (directory : ℕ) (fits : IsRoom T room) (names : ExchangesNames T c directory) (leaves : LeavesDirectories id T c)
    (holds : is_directory T directory ≡ true) where
  pages_by : Option ℕ → Option ℕ → Bool → ℕ → ℕ
  pages_by gains loses gives d =
      let gained = pages_in room d + cond (is_number gains d) (page_for_name T room (Some d)) 0 in
      cond (is_number loses d && gives) (gained - 1) gained

  pages_are : (gives : Bool) (d : ℕ) → pages_after T room c gives d ≡ pages_by (Some directory) (Some directory) gives d
  unfolding pages_by
  pages_are gives d = ap (λ o. pages_by o (losing T c) gives d) names.gains ∙ ap (λ o. pages_by (Some directory) o gives d) names.loses

  pages_here : (gives : Bool) → pages_after T room c gives directory ≡ pages_exchanged T room directory gives
  unfolding pages_by
  pages_here gives =
      pages_are gives directory
      ∙ ap (λ b. cond (b && gives) (pages_in room directory + cond b (page_for_name T room (Some directory)) 0 - 1) (pages_in room directory + cond b (page_for_name T room (Some directory)) 0)) (itself directory)
    where
      itself : (n : ℕ) → n == n ≡ true
      itself n = grind (arith, nat_tests)

  pages_elsewhere : (gives : Bool) (d : ℕ) → directory == d ≡ false → pages_after T room c gives d ≡ pages_in room d
  unfolding pages_by
  pages_elsewhere gives d other =
      pages_are gives d
      ∙ ap (λ b. cond (b && gives) (pages_in room d + cond b (page_for_name T room (Some d)) 0 - 1) (pages_in room d + cond b (page_for_name T room (Some d)) 0)) other
      ∙ add-zero (pages_in room d)

  room_of : (d : ℕ) (o : Option ℕ) → get room d ≡ o → (dir : Bool) → is_directory T d ≡ dir → cond dir (Some (pages_in room d)) None ≡ o
  room_of d (Some pages) is true dir = ap (λ o. Some (unwrap_or o 0)) is
  room_of d (Some pages) is false dir = absurd (true≢false (sym (directory-from_room T room fits d pages is) ∙ dir))
  room_of d None is true dir = let clash : true ≡ false = sym (room-has_directory T room fits d dir) ∙ ap is_some is in absurd (true≢false clash)
  room_of d None is false dir = refl

  get_exchanged : (gives : Bool) (d : ℕ) → get (room_after id T room c gives) d ≡ get (insert nat_cmp_total room directory (pages_exchanged T room directory gives)) d
  get_exchanged gives d =
      get-room_after id T room c gives d ∙ ap (λ b. cond b (Some (pages_after T room c gives d)) None) (leaves d)
      ∙ at_number (eq_by_cmp nat_cmp d directory) refl ∙ sym (get-insert nat_cmp_total room directory (pages_exchanged T room directory gives) d)
    where
      other : (a b : ℕ) → (a ≢ b) → b == a ≡ false
      other a b differ = grind (arith, nat_tests)

      at_number : (same : Bool) → eq_by_cmp nat_cmp d directory ≡ same
          → cond (is_directory T d) (Some (pages_after T room c gives d)) None ≡ cond same (Some (pages_exchanged T room directory gives)) (get room d)
      at_number true is =
          let here = same_id d directory is in
          ap (λ b. cond b (Some (pages_after T room c gives d)) None) (ap (is_directory T) here ∙ holds)
          ∙ ap (λ n. Some (pages_after T room c gives n)) here ∙ ap Some (pages_here gives)
      at_number false is =
          let differ : d ≢ directory = λ same. true≢false (sym (same_itself d directory same) ∙ is) in
          ap (λ n. cond (is_directory T d) (Some n) None) (pages_elsewhere gives d (other d directory differ)) ∙ room_of d (get room d) refl (is_directory T d) refl
        where
          same_itself : (a b : ℕ) → a ≡ b → eq_by_cmp nat_cmp a b ≡ true
          same_itself a b e = ap (λ x. eq_by_cmp nat_cmp a x) (sym e) ∙ same_id_itself a

  room_exchanged : (new : Room) → RoomAfterWith None id T room c new → IsRoomExchanged T room directory new
  room_exchanged new after =
      (after.0, after.1 ∙ same_room (room_after id T room c after.0) (insert nat_cmp_total room directory (pages_exchanged T room directory after.0)) (get_exchanged after.0))

not_there : (o : Option ℕ) (d : ℕ) (x : Option ℕ) → cond (is_some o) None x ≡ Some d → o ≡ None
not_there None d x e = refl
not_there (Some i) d x e = cc

two_nodes : (same : Bool) (d : ℕ) (x : Option ℕ) → cond same None x ≡ Some d → same ≡ false
two_nodes true d x e = cc
two_nodes false d x e = refl

-- a rename within one directory changes the number of that directory's pages alone
pub RoomAfter-exchanged : (supply : Supply) (id : ℕ) (T : Tree) (room new : Room) (from to : Route) (directory : ℕ) → IsTree T → IsRoom T room → refusal_with supply T room (Rename from to) ≡ None
    → ExchangesNames T (Rename from to) directory → RoomAfterWith None id T room (Rename from to) new → IsRoomExchanged T room directory new
RoomAfter-exchanged supply id T room new from to directory t fits e names after =
    let found = Accepted-from_row supply T room (Rename from to) t e in
    let absent = not_there (id_at T to) directory (Some (id_of T (parent to))) names.gains in
    let differ = two_nodes (is_same_node T from to) directory (Some (id_of T (parent from))) names.loses in
    elim found.moves [
      | inl same ↦ absurd (true≢false (sym same ∙ differ))
      | inr move ↦ room_exchanged id T room (Rename from to) directory fits names
          (λ d. ap (λ b. is_directory (cond b T (without_unnamed (with_moved (without_path T to) from to))) d) differ
          ∙ ap is_directory_node (moved_leaves T t from to found.old_holder found.new_holder absent move.outside d))
          (held found.old_holder) new after
    ]
  where
    held : HasHolder T from → is_directory T directory ≡ true
    held holder =
        let differ = two_nodes (is_same_node T from to) directory (Some (id_of T (parent from))) names.loses in
        let loses : Some (id_of T (parent from)) ≡ Some directory = sym (ap (λ b. cond b None (Some (id_of T (parent from)))) differ) ∙ names.loses in
        ap (is_directory T) (sym (same_some (id_of T (parent from)) directory loses) ∙ holder.is) ∙ holder.holds

-- ---- pages that are given back

abbrev kept_pages : State → ℕ → Bool → Bool → ℕ
kept_pages old directory gains loses =
    let gained = pages_in old.room directory + cond gains (page_for_name old.tree old.room (Some directory)) 0 in
    cond (loses && false) (gained - 1) gained

-- where the directory gained no name, it gave a page back exactly where it has fewer than before
pub gave-fewer : (old : State) (c : Command) (new : State) (directory : ℕ) → losing old.tree c ≡ Some directory → is_number (gaining old.tree c) directory ≡ false
    → gave old c new ≡ nat_lt (pages_in new.room directory) (pages_in old.room directory)
gave-fewer old c new directory loses gains =
    ap (λ o. gave_from old c o new) loses
    ∙ ap (λ n. nat_lt (pages_in new.room directory) n)
    (ap (λ b. kept_pages old directory b (is_number (losing old.tree c) directory)) gains ∙ whole (is_number (losing old.tree c) directory) (pages_in old.room directory + 0) ∙ add-zero (pages_in old.room directory))
  where
    whole : (b : Bool) (n : ℕ) → cond (b && false) (n - 1) n ≡ n
    whole true n = refl
    whole false n = refl

-- and it is the choice of the room after, where the directory has a page at all
pub gave-chosen : (id : ℕ) (old : State) (c : Command) (new : State) (directory : ℕ) → losing old.tree c ≡ Some directory → is_directory (tree_after id old.tree c) directory ≡ true
    → 1 ≤ pages_after old.tree old.room c false directory → (after : RoomAfterWith None id old.tree old.room c new.room) → gave old c new ≡ after.0
gave-chosen id old c new directory loses stays some after =
    ap (λ o. gave_from old c o new) loses
    ∙ ap (λ n. nat_lt n (pages_after old.tree old.room c false directory)) found
    ∙ by_choice after.0 (is_number (losing old.tree c) directory) (ap (λ o. is_number o directory) loses ∙ itself directory)
    (pages_in old.room directory + cond (is_number (gaining old.tree c) directory) (page_for_name old.tree old.room (Some directory)) 0) some
  where
    found : pages_in new.room directory ≡ pages_after old.tree old.room c after.0 directory
    found =
        ap (λ room. unwrap_or (get room directory) 0) after.1
        ∙ ap (λ o. unwrap_or o 0) (get-room_after id old.tree old.room c after.0 directory ∙ ap (λ b. cond b (Some (pages_after old.tree old.room c after.0 directory)) None) stays)

    itself : (n : ℕ) → n == n ≡ true
    itself n = grind (arith, nat_tests)

    less : (n : ℕ) → 1 ≤ n → nat_lt (n - 1) n ≡ true
    less n some = grind (arith, nat_tests)

    not_less : (n : ℕ) → nat_lt n n ≡ false
    not_less n = grind (arith, nat_tests)

    by_choice : (gives loses : Bool) → loses ≡ true → (n : ℕ) → 1 ≤ cond (loses && false) (n - 1) n → nat_lt (cond (loses && gives) (n - 1) n) (cond (loses && false) (n - 1) n) ≡ gives
    by_choice true true e n some = less n some
    by_choice false true e n some = not_less n
    by_choice gives false e n some = cc
