-- What an accepted command names: each of its paths is there, or would be a new name in a directory that it names.
use Rattle.std.proofs.Common.{◌≡◌, ◌≢◌, ℕ, zero, suc, ◌⊎◌, inl, inr, Bool, true, false, cond, ◌||◌, ◌==◌, List, [], ◌∷◌, Option, Some, None, is_some, refl, sym, ap, subst, ◌∙◌, arith, true≢false}
use Rattle.std.specs.List.{Contains}
use Rattle.std.proofs.lemmas.Bool.Decides.{nat_tests}
use Rattle.tree_model.specs.PathText.{Route}
use Rattle.tree_model.specs.Tree.{Tree, Room, IsTree, parent, id_at, node_at, is_number}
use Rattle.tree_model.specs.Capacity.{Supply}
use Rattle.tree_model.specs.Step.{refusal_with, id_of, is_there, is_same_node, gaining, losing}
use Rattle.tree_model.specs.Accepted.{HasHolder, Accepted}
use Rattle.tree_model.specs.declared.command.Command.{Command}
use Rattle.tree_model.specs.declared.command.Command.TheVariants.{Create, Mkdir, Link, Unlink, Rmdir, Rename, Write, Truncate, Read, Stat as Tell, List as Show, Df}
use Rattle.tree_model.proofs.AcceptedLaws.{Accepted-from_row}
use Rattle.naming_laws.specs.Naming.{paths_of, names_all, is_at_one_of, names_inode}

-- ---- tests

true_or : (x y : Bool) → x ≡ true → x || y ≡ true
true_or true y h = refl
true_or false y h = cc

or_true : (x y : Bool) → y ≡ true → x || y ≡ true
or_true true y h = refl
or_true false y h = h

pub equal_test : (a b : ℕ) → a ≡ b → a == b ≡ true
equal_test a b e = grind (arith, nat_tests)

equal_from : (a b : ℕ) → a == b ≡ true → a ≡ b
equal_from a b e = grind (arith, nat_tests)

pub number_is : (o : Option ℕ) (i : ℕ) → is_number o i ≡ true → o ≡ Some i
number_is None i e = cc
number_is (Some j) i e = ap Some (equal_from j i e)

pub not_number : (o : Option ℕ) (i : ℕ) → (o ≢ Some i) → is_number o i ≡ false
not_number None i other = refl
not_number (Some j) i other = elim (j == i) as (λ b. j == i ≡ b → b ≡ false) [ true ↦ λ is. absurd (other (ap Some (equal_from j i is))) | false ↦ λ is. refl ] refl

-- ---- the elements of a list of paths

pub at_first : (p : Route) (qs : List Route) → Contains (p ∷ qs) p
at_first p qs = (0, omega arith, refl)

pub at_second : (p q : Route) (qs : List Route) → Contains (p ∷ q ∷ qs) q
at_second p q qs = (1, omega arith, refl)

pub at_third : (p q r : Route) (qs : List Route) → Contains (p ∷ q ∷ r ∷ qs) r
at_third p q r qs = (2, omega arith, refl)

pub at_fourth : (p q r s : Route) (qs : List Route) → Contains (p ∷ q ∷ r ∷ s ∷ qs) s
at_fourth p q r s qs = (3, omega arith, refl)

abbrev pub Each : (Route → Type 0) → List Route → Type 0
Each P [] = Unit {0}
Each P (q ∷ qs) = P q × Each P qs

each_at : (P : Route → Type 0) (qs : List Route) → Each P qs → (q : Route) → Contains qs q → P q
each_at P [] all q (k, below, is) = absurd (omega arith)
each_at P (first ∷ qs) all q (zero, below, is) = subst P is all.0
each_at P (first ∷ qs) all q (suc k, below, is) = each_at P qs all.1 q (k, omega arith, is)

-- ---- what is named

one_of_them : (T : Tree) (qs : List Route) (q : Route) (i : ℕ) → Contains qs q → id_at T q ≡ Some i → is_at_one_of T qs i ≡ true
one_of_them T [] q i (k, below, is) e = absurd (omega arith)
one_of_them T (first ∷ qs) q i (zero, below, is) e =
    true_or (is_number (id_at T first) i) (is_at_one_of T qs i) (ap (λ p. is_number (id_at T p) i) is ∙ ap (λ o. is_number o i) e ∙ equal_test i i refl)
one_of_them T (first ∷ qs) q i (suc k, below, is) e =
    or_true (is_number (id_at T first) i) (is_at_one_of T qs i) (one_of_them T qs q i (k, omega arith, is) e)

path_of_one : (T : Tree) (qs : List Route) (i : ℕ) → is_at_one_of T qs i ≡ true → (q : Route) × (id_at T q ≡ Some i)
path_of_one T [] i e = absurd (true≢false (sym e))
path_of_one T (q ∷ qs) i e =
    elim (is_number (id_at T q) i) as (λ b. is_number (id_at T q) i ≡ b → b || is_at_one_of T qs i ≡ true → (q : Route) × (id_at T q ≡ Some i)) [
      | true ↦ λ is e. (q, number_is (id_at T q) i is)
      | false ↦ λ is e. path_of_one T qs i e
    ] refl e

-- a command names what stands at its paths
pub names_at : (T : Tree) (t : IsTree T) (c : Command) (q : Route) (i : ℕ) → Contains (paths_of c) q → id_at T q ≡ Some i → names_inode T c i ≡ true
names_at T t c q i at e =
    elim (names_all c) as (λ b. cond b (is_some (node_at T i)) (is_at_one_of T (paths_of c) i) ≡ true) [
      | true ↦ t.present q i e
      | false ↦ one_of_them T (paths_of c) q i at e
    ]

-- and nothing but nodes
pub present_named : (T : Tree) (t : IsTree T) (c : Command) (i : ℕ) → names_inode T c i ≡ true → is_some (node_at T i) ≡ true
present_named T t c i e =
    elim (names_all c) as (λ b. cond b (is_some (node_at T i)) (is_at_one_of T (paths_of c) i) ≡ true → is_some (node_at T i) ≡ true) [
      | true ↦ λ e. e
      | false ↦ λ e. let found = path_of_one T (paths_of c) i e in t.present found.0 i found.1
    ] e

-- ---- the paths of an accepted command

abbrev pub IsFound : Tree → Command → Route → Type 0
IsFound T c q =
    ((i : ℕ) × (id_at T q ≡ Some i) × (names_inode T c i ≡ true))
    ⊎ ((h : ℕ) × (id_at T q ≡ None) × (id_at T (parent q) ≡ Some h) × (names_inode T c h ≡ true))

module _ (T : Tree) (t : IsTree T) where
  there : (c : Command) (q : Route) (i : ℕ) → Contains (paths_of c) q → id_at T q ≡ Some i → IsFound T c q
  there c q i at e = inl (i, e, names_at T t c q i at e)

  new_name : (c : Command) (q : Route) (h : ℕ) → Contains (paths_of c) (parent q) → id_at T q ≡ None → id_at T (parent q) ≡ Some h → IsFound T c q
  new_name c q h at absent held = inr (h, absent, held, names_at T t c (parent q) h at held)

  either : (c : Command) (q : Route) (h : ℕ) → Contains (paths_of c) q → Contains (paths_of c) (parent q) → id_at T (parent q) ≡ Some h → (o : Option ℕ) → id_at T q ≡ o → IsFound T c q
  either c q h at up held None e = new_name c q h up e held
  either c q h at up held (Some i) e = there c q i at e

  found_each : (supply : Supply) (room : Room) (c : Command) → Accepted supply T room c → Each (IsFound T c) (paths_of c)
  found_each supply room (Create path) a =
      let c = Create path in
      let up = at_second path (parent path) [] in
      (new_name c path a.place.holder.directory up a.place.absent a.place.holder.held, (there c (parent path) a.place.holder.directory up a.place.holder.held, tt))
  found_each supply room (Mkdir path) a =
      let c = Mkdir path in
      let up = at_second path (parent path) [] in
      (new_name c path a.place.holder.directory up a.place.absent a.place.holder.held, (there c (parent path) a.place.holder.directory up a.place.holder.held, tt))
  found_each supply room (Link from to) a =
      let c = Link from to in
      let up = at_third from to (parent to) [] in (
        there c from a.source.id (at_first from (to ∷ parent to ∷ [])) a.source.named,
        (new_name c to a.place.holder.directory up a.place.absent a.place.holder.held, (there c (parent to) a.place.holder.directory up a.place.holder.held, tt)),
      )
  found_each supply room (Unlink path) a =
      let c = Unlink path in
      (there c path a.source.id (at_first path (parent path ∷ [])) a.source.named, (there c (parent path) a.holder.directory (at_second path (parent path) []) a.holder.held, tt))
  found_each supply room (Rmdir path) a =
      let c = Rmdir path in
      (there c path a.source.id (at_first path (parent path ∷ [])) a.source.named, (there c (parent path) a.holder.directory (at_second path (parent path) []) a.holder.held, tt))
  found_each supply room (Rename from to) a =
      let c = Rename from to in
      let up = at_fourth from (parent from) to (parent to) [] in (
        there c from a.source.id (at_first from (parent from ∷ to ∷ parent to ∷ [])) a.source.named,
        (
          there c (parent from) a.old_holder.directory (at_second from (parent from) (to ∷ parent to ∷ [])) a.old_holder.held,
          (
            either c to a.new_holder.directory (at_third from (parent from) to (parent to ∷ [])) up a.new_holder.held (id_at T to) refl,
            (there c (parent to) a.new_holder.directory up a.new_holder.held, tt),
          ),
        ),
      )
  found_each supply room (Write path offset bytes) a = (there (Write path offset bytes) path a.source.id (at_first path []) a.source.named, tt)
  found_each supply room (Truncate path size) a = (there (Truncate path size) path a.source.id (at_first path []) a.source.named, tt)
  found_each supply room (Read path offset count) a = (there (Read path offset count) path a.source.id (at_first path []) a.source.named, tt)
  found_each supply room (Tell path) a = (there (Tell path) path a.id (at_first path []) a.named, tt)
  found_each supply room (Show path) a = (there (Show path) path a.id (at_first path []) a.named, tt)
  found_each supply room Df a = tt

  -- each path of an accepted command
  pub found_at : (supply : Supply) (room : Room) (c : Command) → refusal_with supply T room c ≡ None → (q : Route) → Contains (paths_of c) q → IsFound T c q
  found_at supply room c e q at = each_at (IsFound T c) (paths_of c) (found_each supply room c (Accepted-from_row supply T room c t e)) q at

  -- ---- the directories that gain and lose a name

  holder_named : (c : Command) (path : Route) → HasHolder T path → Contains (paths_of c) (parent path) → (d : ℕ) → Some (id_of T (parent path)) ≡ Some d → names_inode T c d ≡ true
  holder_named c path holder at d e = names_at T t c (parent path) d at (holder.held ∙ ap Some (sym holder.is) ∙ e)

  not_none : (b : Bool) (o : Option ℕ) (d : ℕ) → cond b None o ≡ Some d → o ≡ Some d
  not_none true o d e = cc
  not_none false o d e = e

  none_some : (c : Command) (d : ℕ) → ◌≡◌ {A = Option ℕ} None (Some d) → names_inode T c d ≡ true
  none_some c d e = cc

  pub gains_named : (supply : Supply) (room : Room) (c : Command) → Accepted supply T room c → (d : ℕ) → gaining T c ≡ Some d → names_inode T c d ≡ true
  gains_named supply room (Create path) a d e = holder_named (Create path) path a.place.holder (at_second path (parent path) []) d e
  gains_named supply room (Mkdir path) a d e = holder_named (Mkdir path) path a.place.holder (at_second path (parent path) []) d e
  gains_named supply room (Link from to) a d e = holder_named (Link from to) to a.place.holder (at_third from to (parent to) []) d e
  gains_named supply room (Unlink path) a d e = none_some (Unlink path) d e
  gains_named supply room (Rmdir path) a d e = none_some (Rmdir path) d e
  gains_named supply room (Rename from to) a d e = holder_named (Rename from to) to a.new_holder (at_fourth from (parent from) to (parent to) []) d (not_none (is_there T to) (Some (id_of T (parent to))) d e)
  gains_named supply room (Write path offset bytes) a d e = none_some (Write path offset bytes) d e
  gains_named supply room (Truncate path size) a d e = none_some (Truncate path size) d e
  gains_named supply room (Read path offset count) a d e = none_some (Read path offset count) d e
  gains_named supply room (Tell path) a d e = none_some (Tell path) d e
  gains_named supply room (Show path) a d e = none_some (Show path) d e
  gains_named supply room Df a d e = none_some Df d e

  pub loses_named : (supply : Supply) (room : Room) (c : Command) → Accepted supply T room c → (d : ℕ) → losing T c ≡ Some d → names_inode T c d ≡ true
  loses_named supply room (Create path) a d e = none_some (Create path) d e
  loses_named supply room (Mkdir path) a d e = none_some (Mkdir path) d e
  loses_named supply room (Link from to) a d e = none_some (Link from to) d e
  loses_named supply room (Unlink path) a d e = holder_named (Unlink path) path a.holder (at_second path (parent path) []) d e
  loses_named supply room (Rmdir path) a d e = holder_named (Rmdir path) path a.holder (at_second path (parent path) []) d e
  loses_named supply room (Rename from to) a d e =
      holder_named (Rename from to) from a.old_holder (at_second from (parent from) (to ∷ parent to ∷ [])) d (not_none (is_same_node T from to) (Some (id_of T (parent from))) d e)
  loses_named supply room (Write path offset bytes) a d e = none_some (Write path offset bytes) d e
  loses_named supply room (Truncate path size) a d e = none_some (Truncate path size) d e
  loses_named supply room (Read path offset count) a d e = none_some (Read path offset count) d e
  loses_named supply room (Tell path) a d e = none_some (Tell path) d e
  loses_named supply room (Show path) a d e = none_some (Show path) d e
  loses_named supply room Df a d e = none_some Df d e

  -- an id that an accepted command doesn't name is no directory that gains or loses a name
  pub neither_changes : (supply : Supply) (room : Room) (c : Command) → refusal_with supply T room c ≡ None → (i : ℕ) → names_inode T c i ≡ false
      → (is_number (gaining T c) i ≡ false) × (is_number (losing T c) i ≡ false)
  neither_changes supply room c e i apart =
      let a = Accepted-from_row supply T room c t e in (
        not_number (gaining T c) i (λ is. true≢false (sym (gains_named supply room c a i is) ∙ apart)),
        not_number (losing T c) i (λ is. true≢false (sym (loses_named supply room c a i is) ∙ apart)),
      )
