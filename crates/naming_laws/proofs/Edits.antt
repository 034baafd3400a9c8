-- What one command leaves of the paths and nodes that it doesn't name.
use Rattle.std.proofs.Common.{◌≡◌, ◌≢◌, ℕ, inl, inr, Bool, true, false, cond, ◌==◌, List, [], ◌∷◌, length, Option, Some, None, is_some, refl, sym, ap, ◌∙◌, arith, true≢false, nat_cmp}
use Rattle.std.specs.List.{Contains, list_any}
use Rattle.std.specs.Ordering.{is_eq, eq_by_cmp}
use Rattle.std.proofs.lemmas.Bool.Decides.{nat_tests}
use Rattle.tree_model.specs.PathText.{Route}
use Rattle.tree_model.specs.Table.{get, insert, remove}
use Rattle.tree_model.specs.Tree.{Tree, Node, File, Room, IsTree, route_cmp, route_cmp_total, is_root, parent, id_at, node_at, is_directory, is_directory_node, path_count, bytes_of}
use Rattle.tree_model.specs.Capacity.{Supply}
use Rattle.tree_model.specs.Step.{refusal_with, id_of, is_same_node, with_new, with_path, with_bytes, with_moved, without_path, without_unnamed, overwritten, resized, tree_after}
use Rattle.tree_model.specs.Accepted.{HasHolder, IsFileAt, MayMake, Accepted}
use Rattle.tree_model.specs.declared.command.Command.{Command}
use Rattle.tree_model.specs.declared.command.Command.TheVariants.{Create, Mkdir, Link, Unlink, Rmdir, Rename, Write, Truncate, Read, Stat as Tell, List as Show, Df}
use Rattle.tree_model.proofs.TableLaws.{get-insert, get-remove, get-retain, same_table, route_cmp-IsAntisymmetric}
use Rattle.tree_model.proofs.EntryLaws.{measure_found, sum_by-put}
use Rattle.tree_model.proofs.TreeLaws.{is_same, same_id, same_route, is_same_itself, other_route, id_at-with_path, id_at-without_path, node_at-with_new_other, node_at-with_bytes, node_at-with_bytes_other}
use Rattle.tree_model.proofs.TreeKept.{chosen, same_some}
use Rattle.tree_model.proofs.TreeLess.{HasNoNames, HasNoNames-file, HasNoNames-empty, less_kept, IsAlmostTree-without_path}
use Rattle.tree_model.proofs.TreePruned.{kept_named}
use Rattle.tree_model.proofs.AcceptedLaws.{Accepted-from_row}
use Rattle.naming_laws.specs.Naming.{paths_of, names_inode}
use Rattle.naming_laws.proofs.Named.{at_first, at_second, at_third, names_at}

-- what stays of paths and nodes
pub record Leaves (T U : Tree) (c : Command) : Type 0 where
  pub ids : (q : Route) (i : ℕ) → id_at T q ≡ Some i → names_inode T c i ≡ false → id_at U q ≡ Some i
  pub held : (q : Route) (h : ℕ) → id_at T (parent q) ≡ Some h → names_inode T c h ≡ false → id_at U q ≡ id_at T q
  pub nodes : (i : ℕ) → is_some (node_at T i) ≡ true → names_inode T c i ≡ false → node_at U i ≡ node_at T i
  pub paths : (i : ℕ) → is_some (node_at T i) ≡ true → names_inode T c i ≡ false → path_count U i ≡ path_count T i
  -- and no node that stays changes its kind
  pub kinds : (i : ℕ) → is_some (node_at T i) ≡ true → is_some (node_at U i) ≡ true → is_directory U i ≡ is_directory T i

pub other_test : (a b : ℕ) → (a ≢ b) → a == b ≡ false
other_test a b differ = elim (a == b) as (λ t. a == b ≡ t → t ≡ false) [ true ↦ λ is. absurd (differ (grind (arith, nat_tests))) | false ↦ λ is. refl ] refl

none_some : {P : Type 0} (i : ℕ) → ◌≡◌ {A = Option ℕ} None (Some i) → P
none_some i e = cc

-- an id that has a node isn't one that has none
pub other_id : (T : Tree) (id i : ℕ) → node_at T id ≡ None → is_some (node_at T i) ≡ true → i ≢ id
other_id T id i unused there same = true≢false (sym there ∙ ap (λ j. is_some (node_at T j)) same ∙ ap is_some unused)

-- a node that is named differs from one that isn't
module _ (T : Tree) (c : Command) where
  two_ids : (i j : ℕ) → names_inode T c i ≡ true → names_inode T c j ≡ false → i ≢ j
  two_ids i j named apart same = true≢false (sym named ∙ ap (names_inode T c) same ∙ apart)

  two_paths : (p q : Route) (i j : ℕ) → id_at T p ≡ Some i → id_at T q ≡ Some j → names_inode T c i ≡ true → names_inode T c j ≡ false → q ≢ p
  two_paths p q i j at_p at_q named apart same = two_ids i j named apart (same_some i j (sym at_p ∙ ap (id_at T) (sym same) ∙ at_q))

  two_paths_in : (p q : Route) (i j : ℕ) → id_at T (parent p) ≡ Some i → id_at T (parent q) ≡ Some j → names_inode T c i ≡ true → names_inode T c j ≡ false → q ≢ p
  two_paths_in p q i j in_p in_q named apart same = two_paths (parent p) (parent q) i j in_p in_q named apart (ap parent same)

-- ---- a path more

more_paths : (T : Tree) (path : Route) (id i : ℕ) → id_at T path ≡ None → (id ≢ i) → path_count (with_path T path id) i ≡ path_count T i
more_paths T path id i absent differ =
    let one : ℕ → ℕ = λ x. cond (x == i) 1 0 in
    let placed = sum_by-put route_cmp route_cmp_total one path id T.names.entries T.names.sorted in
    let nothing : measure_found one (id_at T path) ≡ 0 = ap (measure_found one) absent in
    let none : one id ≡ 0 = ap (λ b. cond b 1 0) (other_test id i differ) in
    omega (arith, placed, nothing, none)

module _ (T : Tree) (c : Command) (path : Route) (id h : ℕ) (absent : id_at T path ≡ None) (held : id_at T (parent path) ≡ Some h) (named : names_inode T c h ≡ true) where
  more_ids : (q : Route) (i : ℕ) → id_at T q ≡ Some i → id_at (with_path T path id) q ≡ Some i
  more_ids q i e =
      id_at-with_path T path id q
      ∙ ap (λ b. cond b (Some id) (id_at T q)) (other_route q path (λ same. none_some i (sym absent ∙ ap (id_at T) (sym same) ∙ e))) ∙ e

  more_held : (q : Route) (d : ℕ) → id_at T (parent q) ≡ Some d → names_inode T c d ≡ false → id_at (with_path T path id) q ≡ id_at T q
  more_held q d up apart = id_at-with_path T path id q ∙ ap (λ b. cond b (Some id) (id_at T q)) (other_route q path (two_paths_in T c path q h d held up named apart))

  leaves_with_new : (node : Node) → node_at T id ≡ None → Leaves T (with_new T path id node) c
  leaves_with_new node unused = record {
    ids = λ q i e apart. more_ids q i e;
    held = more_held;
    nodes = λ i there apart. node_at-with_new_other T path id node i (other_id T id i unused there);
    paths = λ i there apart. more_paths T path id i absent (λ same. other_id T id i unused there (sym same));
    kinds = λ i there stays. ap is_directory_node (node_at-with_new_other T path id node i (other_id T id i unused there));
  }

  leaves_with_path : names_inode T c id ≡ true → Leaves T (with_path T path id) c
  leaves_with_path linked = record {
    ids = λ q i e apart. more_ids q i e;
    held = more_held;
    nodes = λ i there apart. refl;
    paths = λ i there apart. more_paths T path id i absent (two_ids T c id i linked apart);
    kinds = λ i there stays. refl;
  }

-- ---- a path less

-- only what has a path stays
pub kept_at : (W : Tree) (i : ℕ) → node_at (without_unnamed W) i ≡ cond (list_any (λ e. e.1 == i) W.names.entries) (node_at W i) None
kept_at W i = get-retain W.nodes (λ id. list_any (λ e. e.1 == id) W.names.entries) i (λ x e. ap (λ id. list_any (λ e. e.1 == id) W.names.entries) (sym (same_id i x (ap is_eq e))))

kept_node : (W : Tree) (i : ℕ) → is_some (node_at (without_unnamed W) i) ≡ true → node_at (without_unnamed W) i ≡ node_at W i
kept_node W i stays =
    elim (chosen (list_any (λ e. e.1 == i) W.names.entries) (node_at W i) None (node_at (without_unnamed W) i) (kept_at W i)) [
      | inl kept ↦ kept.1
      | inr gone ↦ absurd (true≢false (sym stays ∙ ap is_some gone.1))
    ]

-- a tree's names are those without a path and then with it
names_again : (T : Tree) (path : Route) (j : ℕ) → id_at T path ≡ Some j → T.names ≡ insert route_cmp_total (remove T.names path) path j
names_again T path j there = same_table route_cmp_total route_cmp-IsAntisymmetric T.names (insert route_cmp_total (remove T.names path) path j) (λ q.
    sym (get-insert route_cmp_total (remove T.names path) path j q ∙ ap (cond (is_same q path) (Some j)) (get-remove route_cmp_total T.names path q) ∙ either q (is_same q path) refl))
  where
    either : (q : Route) (b : Bool) → is_same q path ≡ b → cond b (Some j) (cond b None (id_at T q)) ≡ id_at T q
    either q true same = sym (ap (id_at T) (same_route q path same) ∙ there)
    either q false other = refl

less_paths : (T : Tree) (path : Route) (j i : ℕ) → id_at T path ≡ Some j → (j ≢ i) → path_count (without_path T path) i ≡ path_count T i
less_paths T path j i there differ =
    let gone : id_at (without_path T path) path ≡ None = id_at-without_path T path path ∙ ap (λ b. cond b None (id_at T path)) (is_same_itself path path refl) in
    sym (more_paths (without_path T path) path j i gone differ) ∙ ap (λ names. path_count (record { names = names; nodes = T.nodes }) i) (sym (names_again T path j there))

module _ (T : Tree) (t : IsTree T) (c : Command) (path : Route) (j h : ℕ) (below : is_root path ≡ false) (empty : HasNoNames T path) (there : id_at T path ≡ Some j) (named : names_inode T c j ≡ true)
    (held : id_at T (parent path) ≡ Some h) (holds : names_inode T c h ≡ true) where
  less_ids : (q : Route) (i : ℕ) → id_at T q ≡ Some i → names_inode T c i ≡ false → id_at (without_path T path) q ≡ Some i
  less_ids q i e apart = less_kept T t path below empty q (two_paths T c path q j i there e named apart) ∙ e

  leaves_without : Leaves T (without_unnamed (without_path T path)) c
  leaves_without = record {
    ids = less_ids;
    held = λ q d up apart. less_kept T t path below empty q (two_paths_in T c path q h d held up holds apart);
    nodes = λ i is apart.
        let p = t.named i is in kept_named (without_path T path) (IsAlmostTree-without_path T t path below empty) p.0 i (less_ids p.0 i p.1 apart);
    paths = λ i is apart. less_paths T path j i there (two_ids T c j i named apart);
    kinds = λ i is stays. ap is_directory_node (kept_node (without_path T path) i stays);
  }

-- ---- other bytes, and nothing

leaves_all : (T : Tree) (c : Command) → Leaves T T c
leaves_all T c = record { ids = λ q i e apart. e; held = λ q d up apart. refl; nodes = λ i there apart. refl; paths = λ i there apart. refl; kinds = λ i there stays. refl }

-- a file stays a file
pub same_kind : (T : Tree) (j : ℕ) (bytes : List ℕ) → is_directory T j ≡ false → (i : ℕ) → is_directory (with_bytes T j bytes) i ≡ is_directory T i
same_kind T j bytes file i = ap is_directory_node (node_at-with_bytes T j bytes i) ∙ either (eq_by_cmp nat_cmp i j) refl
  where
    either : (b : Bool) → eq_by_cmp nat_cmp i j ≡ b → is_directory_node (cond b (Some (File bytes)) (node_at T i)) ≡ is_directory T i
    either true same = sym (ap (is_directory T) (same_id i j same) ∙ file)
    either false other = refl

leaves_with_bytes : (T : Tree) (c : Command) (j : ℕ) (bytes : List ℕ) → is_directory T j ≡ false → names_inode T c j ≡ true → Leaves T (with_bytes T j bytes) c
leaves_with_bytes T c j bytes file named = record {
  ids = λ q i e apart. e;
  held = λ q d up apart. refl;
  nodes = λ i there apart. node_at-with_bytes_other T j bytes i (λ same. two_ids T c j i named apart (sym same));
  paths = λ i there apart. refl;
  kinds = λ i there stays. same_kind T j bytes file i;
}

leaves_written : (T : Tree) (t : IsTree T) (c : Command) (path : Route) (bytes : List ℕ) → Contains (paths_of c) path → IsFileAt T path → Leaves T (with_bytes T (id_of T path) bytes) c
leaves_written T t c path bytes here source =
    leaves_with_bytes T c (id_of T path) bytes (ap (is_directory T) source.is ∙ ap is_directory_node source.file)
    (names_at T t c path (id_of T path) here (source.named ∙ ap Some (sym source.is)))

-- a command that names every node leaves those that stay their kind
leaves_pruned : (T : Tree) (t : IsTree T) (from to : Route) (W : Tree) → W.nodes ≡ T.nodes → Leaves T (without_unnamed W) (Rename from to)
leaves_pruned T t from to W same = record {
  ids = λ q i e apart. absurd (true≢false (sym (t.present q i e) ∙ apart));
  held = λ q d up apart. absurd (true≢false (sym (t.present (parent q) d up) ∙ apart));
  nodes = λ i there apart. absurd (true≢false (sym there ∙ apart));
  paths = λ i there apart. absurd (true≢false (sym there ∙ apart));
  kinds = λ i there stays. ap is_directory_node (kept_node W i stays) ∙ ap (λ nodes. is_directory_node (get nodes i)) same;
}

choice_leaves : (T U : Tree) (c : Command) (b : Bool) → Leaves T U c → Leaves T (cond b T U) c
choice_leaves T U c true leaves = leaves_all T c
choice_leaves T U c false leaves = leaves

-- ---- every command

module _ (T : Tree) (t : IsTree T) (id : ℕ) (unused : node_at T id ≡ None) where
  leaves_made : (supply : Supply) (room : Room) (c : Command) (path : Route) (node : Node) → MayMake supply T room path → Contains (paths_of c) (parent path) → Leaves T (with_new T path id node) c
  leaves_made supply room c path node a here =
      let holder = a.place.holder in
      leaves_with_new T c path id holder.directory a.place.absent holder.held (names_at T t c (parent path) holder.directory here holder.held) node unused

  leaves_less : (c : Command) (path : Route) (j : ℕ) → HasHolder T path → HasNoNames T path → id_at T path ≡ Some j → Contains (paths_of c) path → Contains (paths_of c) (parent path)
      → Leaves T (without_unnamed (without_path T path)) c
  leaves_less c path j holder empty there here up =
      leaves_without T t c path j holder.directory holder.below empty there (names_at T t c path j here there) holder.held (names_at T t c (parent path) holder.directory up holder.held)

  leaves_accepted : (supply : Supply) (room : Room) (c : Command) → Accepted supply T room c → Leaves T (tree_after id T c) c
  leaves_accepted supply room (Create path) a = leaves_made supply room (Create path) path _ a (at_second path (parent path) [])
  leaves_accepted supply room (Mkdir path) a = leaves_made supply room (Mkdir path) path _ a (at_second path (parent path) [])
  leaves_accepted supply room (Link from to) a =
      let c = Link from to in
      let holder = a.place.holder in
      leaves_with_path T c to (id_of T from) holder.directory a.place.absent holder.held (names_at T t c (parent to) holder.directory (at_third from to (parent to) []) holder.held)
      (names_at T t c from (id_of T from) (at_first from (to ∷ parent to ∷ [])) (a.source.named ∙ ap Some (sym a.source.is)))
  leaves_accepted supply room (Unlink path) a =
      leaves_less (Unlink path) path a.source.id a.holder (HasNoNames-file T t path a.source.id a.source.named (ap is_directory_node a.source.file)) a.source.named (at_first path (parent path ∷ []))
      (at_second path (parent path) [])
  leaves_accepted supply room (Rmdir path) a =
      leaves_less (Rmdir path) path a.source.id a.holder (HasNoNames-empty T path a.source.id a.source.named a.empty) a.source.named (at_first path (parent path ∷ [])) (at_second path (parent path) [])
  leaves_accepted supply room (Rename from to) a =
      let moved = with_moved (without_path T to) from to in choice_leaves T (without_unnamed moved) (Rename from to) (is_same_node T from to) (leaves_pruned T t from to moved refl)
  leaves_accepted supply room (Write path offset bytes) a =
      let c = Write path offset bytes in
      let new = overwritten (bytes_of T (id_of T path)) offset bytes in
      choice_leaves T (with_bytes T (id_of T path) new) c (length bytes == 0) (leaves_written T t c path new (at_first path []) a.source)
  leaves_accepted supply room (Truncate path size) a = leaves_written T t (Truncate path size) path (resized (bytes_of T (id_of T path)) size) (at_first path []) a.source
  leaves_accepted supply room (Read path offset count) a = leaves_all T (Read path offset count)
  leaves_accepted supply room (Tell path) a = leaves_all T (Tell path)
  leaves_accepted supply room (Show path) a = leaves_all T (Show path)
  leaves_accepted supply room Df a = leaves_all T Df

  pub leaves_by : (supply : Supply) (room : Room) (c : Command) → refusal_with supply T room c ≡ None → Leaves T (tree_after id T c) c
  leaves_by supply room c e = leaves_accepted supply room c (Accepted-from_row supply T room c t e)
