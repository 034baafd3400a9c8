-- How many names each directory has after each command but a rename.
use Rattle.std.proofs.Common.{◌≡◌, ◌≢◌, ℕ, ◌+◌, Bool, true, false, not, cond, ◌==◌, List, [], ◌∷◌, length, Option, Some, None, is_some, unwrap_or, refl, sym, ap, ◌∙◌, arith, true≢false, nat_lt}
use Rattle.std.proofs.lemmas.Bool.Decides.{nat_tests}
use Rattle.std.specs.Ordering.{eq_by_cmp}
use Rattle.std.specs.FinMap.Entries.{length_without, find-where_key, is_sorted-where_key}
use Rattle.tree_model.specs.PathText.{Route}
use Rattle.tree_model.specs.Tree.{Tree, Node, Directory, File, Room, IsTree, root_id, route_cmp, route_cmp_total, is_root, parent, id_at, is_directory, is_file, is_in, is_number, entries_in, name_count, bytes_of}
use Rattle.tree_model.proofs.TableLaws.{route_cmp-IsAntisymmetric}
use Rattle.tree_model.specs.Capacity.{Supply}
use Rattle.tree_model.specs.Walk.{walk, walk_to_parent}
use Rattle.tree_model.specs.Step.{first, at, fault_of, refusal_with, with_new, with_bytes, without_path, overwritten, tree_after, is_there, id_of, gaining, losing}
use Rattle.tree_model.specs.declared.command.Command.{Command}
use Rattle.tree_model.specs.declared.command.Command.TheVariants.{Create, Mkdir, Link, Unlink, Rmdir, Write}
use Rattle.tree_model.specs.declared.reply.Refusal.{Refusal}
use Rattle.tree_model.specs.declared.reply.Refusal.TheVariants.{Root, Exists, IsDir, NotDir, NotEmpty}
use Rattle.tree_model.proofs.EntryLaws.{where_key-agree, where_key-swap}
use Rattle.tree_model.proofs.TreeLaws.{name_count-with_new_here, name_count-with_new_other, is_in-at, above}
use Rattle.tree_model.proofs.TreeKept.{some_is, is_some_at}
use Rattle.tree_model.proofs.TreeLess.{HasNoNames, HasNoNames-file, HasNoNames-empty, less_was, less_kept}
use Rattle.tree_model.proofs.Accepted.{first-none, at-none, fault_of-none, not_there}
use Rattle.tree_model.proofs.StepLaws.{id_of-walk, no_names}
use Rattle.tree_model.proofs.WalkLaws.{id_at-from_walk, holder-from_walk}
use Rattle.tree_model.proofs.RoomsKept.{NamesMove, one_if}

-- ---- a new name

-- the directory that would hold a path has one name more
gained_name : (T : Tree) (path : Route) (id : ℕ) (node : Node) (holder : ℕ) → IsTree T → is_root path ≡ false → id_at T path ≡ None → id_at T (parent path) ≡ Some holder
    → (d : ℕ) → name_count (with_new T path id node) d + 0 ≡ name_count T d + one_if (is_number (Some (id_of T (parent path))) d)
gained_name T path id node holder t below absent held d =
    elim (holder == d) as (λ b. holder == d ≡ b → name_count (with_new T path id node) d + 0 ≡ name_count T d + one_if (is_number (Some (id_of T (parent path))) d)) [
      | true ↦ λ is.
          let same : d ≡ holder = grind (arith, nat_tests) in
          let more = ap (name_count (with_new T path id node)) same ∙ name_count-with_new_here T path id node holder t below absent held ∙ ap (λ x. name_count T x + 1) (sym same) in
          let one : one_if (is_number (Some (id_of T (parent path))) d) ≡ 1 = ap (λ o. one_if (unwrap_or o root_id == d)) held ∙ ap one_if is in
          omega (arith, more, one)
      | false ↦ λ is.
          let other : d ≢ holder = λ same. true≢false (sym (equal_test holder d (sym same)) ∙ is) in
          let as_before = name_count-with_new_other T path id node holder t below absent held d other in
          let none : one_if (is_number (Some (id_of T (parent path))) d) ≡ 0 = ap (λ o. one_if (unwrap_or o root_id == d)) held ∙ ap one_if is in
          omega (arith, as_before, none)
    ] refl
  where
    equal_test : (a b : ℕ) → a ≡ b → a == b ≡ true
    equal_test a b e = grind (arith, nat_tests)

created_name : (T : Tree) (path : Route) (id : ℕ) (node : Node) (rest : List (Option Refusal)) → IsTree T
    → first (fault_of (walk_to_parent T path) ∷ at Root (is_root path) ∷ at Exists (is_there T path) ∷ rest) ≡ None
    → (d : ℕ) → name_count (with_new T path id node) d + 0 ≡ name_count T d + one_if (is_number (Some (id_of T (parent path))) d)
created_name T path id node rest t e =
    let walked = first-none (fault_of (walk_to_parent T path)) (at Root (is_root path) ∷ at Exists (is_there T path) ∷ rest) e in
    let below = first-none (at Root (is_root path)) (at Exists (is_there T path) ∷ rest) walked.1 in
    let absent = first-none (at Exists (is_there T path)) rest below.1 in
    let holder = fault_of-none (walk_to_parent T path) walked.0 in
    let held = holder-from_walk T path holder.0 t holder.1 in
    gained_name T path id node holder.0.id t (at-none Root (is_root path) below.0) (not_there (id_at T path) (at-none Exists (is_there T path) absent.0)) held.0

pub NamesMove-create : (supply : Supply) (T : Tree) (room : Room) (id : ℕ) (path : Route) → IsTree T → refusal_with supply T room (Create path) ≡ None → NamesMove T (Create path) (tree_after id T (Create path))
NamesMove-create supply T room id path t e = record { names = λ d dir. created_name T path id (File []) _ t e d }

pub NamesMove-mkdir : (supply : Supply) (T : Tree) (room : Room) (id : ℕ) (path : Route) → IsTree T → refusal_with supply T room (Mkdir path) ≡ None → NamesMove T (Mkdir path) (tree_after id T (Mkdir path))
NamesMove-mkdir supply T room id path t e = record { names = λ d dir. created_name T path id Directory _ t e d }

-- a further path for an old id has the same names as a new id's would
pub NamesMove-link : (supply : Supply) (T : Tree) (room : Room) (id : ℕ) (from to : Route) → IsTree T → refusal_with supply T room (Link from to) ≡ None → NamesMove T (Link from to) (tree_after id T (Link from to))
NamesMove-link supply T room id from to t e =
    let walked = first-none (fault_of (walk T from)) _ e in
    record { names = λ d dir. created_name T to (id_of T from) Directory _ t walked.1 d }

-- ---- a name less

module _ (T : Tree) (t : IsTree T) (path : Route) (below : is_root path ≡ false) (empty : HasNoNames T path) where
  is_in_less : (d : ℕ) (q : Route) → is_some (id_at (without_path T path) q) ≡ true → is_in (without_path T path) d q ≡ is_in T d q
  is_in_less d q there =
      let found = some_is (id_at (without_path T path) q) there in
      let was = less_was T t path below empty q found.0 found.1 in
      at_root (is_root q) refl (is_some_at (id_at T q) found.0 was.1)
    where
      at_root : (b : Bool) → is_root q ≡ b → is_some (id_at T q) ≡ true → is_in (without_path T path) d q ≡ is_in T d q
      at_root true is there = root_in q is
        where
          root_in : (q : Route) → is_root q ≡ true → is_in (without_path T path) d q ≡ is_in T d q
          root_in [] is = refl
          root_in (name ∷ names) is = cc
      at_root false is there =
          is_in-at (without_path T path) d q is
          ∙ ap (λ o. is_number o d) (less_kept T t path below empty (parent q) (empty q there is))
          ∙ sym (is_in-at T d q is)

  -- whether the path was there, and in the directory
  abbrev pub lost_name : ℕ → Bool
  lost_name d = is_some (cond (is_in T d path) (id_at T path) None)

  pub name_count-without_path : (d : ℕ) → one_if (lost_name d) + name_count (without_path T path) d ≡ name_count T d
  name_count-without_path d =
      let agreed = where_key-agree route_cmp route_cmp_total (is_in (without_path T path) d) (is_in T d) (without_path T path).names.entries (is_in_less d) in
      let swapped = where_key-swap route_cmp (is_in T d) (λ q. not (eq_by_cmp route_cmp path q)) T.names.entries in
      let shorter = length_without route_cmp route_cmp_total path (entries_in T d) (is_sorted-where_key route_cmp (is_in T d) T.names.entries T.names.sorted) in
      let found = find-where_key route_cmp (is_in T d) path (λ x e. ap (is_in T d) (sym (route_cmp-IsAntisymmetric path x e))) T.names.entries in
      let lost = ap (λ o. one_if (is_some o)) found in
      let kept = ap length (agreed ∙ swapped) in
      omega (arith, shorter, lost, kept)

-- a path that is there is lost by the directory that holds it
lost_here : (T : Tree) (t : IsTree T) (path : Route) (i : ℕ) → id_at T path ≡ Some i → is_root path ≡ false → (d : ℕ)
    → is_some (cond (is_in T d path) (id_at T path) None) ≡ is_number (Some (id_of T (parent path))) d
lost_here T t path i named below d =
    let holder = above T t path i named below in
    let inside = is_in-at T d path below ∙ ap (λ o. is_number o d) holder.1 in
    let number : is_number (Some (id_of T (parent path))) d ≡ (holder.0 == d) = ap (λ o. unwrap_or o root_id == d) holder.1 in
    ap (λ b. is_some (cond b (id_at T path) None)) inside ∙ ap (λ o. is_some (cond (holder.0 == d) o None)) named
    ∙ either (holder.0 == d) i ∙ sym number
  where
    either : (b : Bool) (i : ℕ) → is_some (cond b (Some i) None) ≡ b
    either true i = refl
    either false i = refl

removed_name : (T : Tree) (t : IsTree T) (path : Route) (i : ℕ) → id_at T path ≡ Some i → is_root path ≡ false → HasNoNames T path → (d : ℕ)
    → name_count (without_path T path) d + one_if (is_number (Some (id_of T (parent path))) d) ≡ name_count T d + 0
removed_name T t path i named below empty d =
    let less = name_count-without_path T t path below empty d in
    let lost = ap one_if (lost_here T t path i named below d) in
    omega (arith, less, lost)

pub NamesMove-unlink : (supply : Supply) (T : Tree) (room : Room) (id : ℕ) (path : Route) → IsTree T → refusal_with supply T room (Unlink path) ≡ None → NamesMove T (Unlink path) (tree_after id T (Unlink path))
NamesMove-unlink supply T room id path t e =
    let walked = first-none (fault_of (walk T path)) _ e in
    let below = first-none (at Root (is_root path)) _ walked.1 in
    let file = first-none (at IsDir (is_directory T (id_of T path))) _ below.1 in
    let found = fault_of-none (walk T path) walked.0 in
    let named = id_at-from_walk T path found.0 t found.1 in
    let empty = HasNoNames-file T t path found.0.id named (ap (is_directory T) (sym (id_of-walk T t path found.0 found.1)) ∙ at-none IsDir (is_directory T (id_of T path)) file.0) in
    record { names = λ d dir. removed_name T t path found.0.id named (at-none Root (is_root path) below.0) empty d }

pub NamesMove-rmdir : (supply : Supply) (T : Tree) (room : Room) (id : ℕ) (path : Route) → IsTree T → refusal_with supply T room (Rmdir path) ≡ None → NamesMove T (Rmdir path) (tree_after id T (Rmdir path))
NamesMove-rmdir supply T room id path t e =
    let walked = first-none (fault_of (walk T path)) _ e in
    let below = first-none (at Root (is_root path)) _ walked.1 in
    let kind = first-none (at NotDir (is_file T (id_of T path))) _ below.1 in
    let few = first-none (at NotEmpty (nat_lt 0 (name_count T (id_of T path)))) _ kind.1 in
    let found = fault_of-none (walk T path) walked.0 in
    let named = id_at-from_walk T path found.0 t found.1 in
    let empty = HasNoNames-empty T path found.0.id named
    (ap (name_count T) (sym (id_of-walk T t path found.0 found.1)) ∙ no_names (name_count T (id_of T path)) (at-none NotEmpty (nat_lt 0 (name_count T (id_of T path))) few.0)) in
    record { names = λ d dir. removed_name T t path found.0.id named (at-none Root (is_root path) below.0) empty d }

-- ---- no name more or less

pub NamesMove-same : (T after : Tree) (c : Command) → gaining T c ≡ None → losing T c ≡ None → after.names ≡ T.names → NamesMove T c after
NamesMove-same T after c gains loses same = record {
  names = λ d dir.
      let count = ap (λ names. name_count (record { names = names; nodes = T.nodes }) d) same in
      let none = ap (λ o. one_if (is_number o d)) gains in
      let nothing = ap (λ o. one_if (is_number o d)) loses in
      omega (arith, count, none, nothing);
}

names_of_choice : (b : Bool) (T : Tree) (id : ℕ) (bytes : List ℕ) → (cond b T (with_bytes T id bytes)).names ≡ T.names
names_of_choice true T id bytes = refl
names_of_choice false T id bytes = refl

pub NamesMove-write : (T : Tree) (id : ℕ) (path : Route) (offset : ℕ) (bytes : List ℕ) → NamesMove T (Write path offset bytes) (tree_after id T (Write path offset bytes))
NamesMove-write T id path offset bytes =
    NamesMove-same T (tree_after id T (Write path offset bytes)) (Write path offset bytes) refl refl
    (names_of_choice (length bytes == 0) T (id_of T path) (overwritten (bytes_of T (id_of T path)) offset bytes))
