-- A command finds the same after one that names nothing of what it names.
use Rattle.std.proofs.Common.{◌≡◌, ℕ, ◌⊎◌, inl, inr, true, false, cond, ◌||◌, List, [], ◌∷◌, None, is_some, refl, sym, ap, subst, ◌∙◌, suc, arith, true≢false}
use Rattle.std.specs.List.{Contains}
use Rattle.tree_model.specs.PathText.{Route}
use Rattle.tree_model.specs.Tree.{Tree, Room, IsTree, parent, id_at, node_at, is_directory_node, is_number}
use Rattle.tree_model.specs.Capacity.{Supply}
use Rattle.tree_model.specs.Step.{refusal_with, tree_after}
use Rattle.tree_model.specs.Run.{State}
use Rattle.tree_model.specs.declared.command.Command.{Command}
use Rattle.tree_model.specs.declared.command.Command.TheVariants.{Create, Mkdir, Link, Unlink, Rmdir, Rename, Write, Truncate, Read, Stat as Tell, List as Show, Df}
use Rattle.tree_model.proofs.AcceptedLaws.{Accepted-from_row}
use Rattle.naming_laws.specs.Naming.{paths_of, names_all, is_at_one_of, names_inode, AreApart}
use Rattle.naming_laws.specs.Still.{Enters, FindsSame, KeepsNode, KeepsOthers, ApartLaw}
use Rattle.naming_laws.proofs.Named.{IsFound, at_first, names_at, present_named, found_at}
use Rattle.naming_laws.proofs.Edits.{other_id}
use Rattle.naming_laws.proofs.Stays.{tree_stays, untouched_law}
use Rattle.naming_laws.proofs.Walks.{same_walks}

-- paths that name the same, name the same ids
same_ones : (T U : Tree) (qs : List Route) → ((q : Route) → Contains qs q → id_at U q ≡ id_at T q) → (i : ℕ) → is_at_one_of U qs i ≡ is_at_one_of T qs i
same_ones T U [] same i = refl
same_ones T U (q ∷ qs) same i =
    ap (λ o. is_number o i || is_at_one_of U qs i) (same q (at_first q qs))
    ∙ ap (λ b. is_number (id_at T q) i || b) (same_ones T U qs (λ p at. same p (suc at.0, omega (arith, at.1), at.2)) i)

-- ---- what is kept is found again

module _ (supply : Supply) (given : ℕ) (old new : State) (c other : Command) (t : IsTree old.tree) (u : IsTree new.tree) (accepted : refusal_with supply old.tree old.room c ≡ None)
    (unused : node_at old.tree given ≡ None) (kept : KeepsOthers given old new other) (apart : AreApart old.tree c other) where
  same_ids : (q : Route) → Contains (paths_of c) q → id_at new.tree q ≡ id_at old.tree q
  same_ids q at =
      elim (found_at old.tree t supply old.room c accepted q at) [
        | inl there ↦ kept.paths q there.0 there.1 (apart there.0 there.2) ∙ sym there.1
        | inr absent ↦ kept.names q absent.0 absent.2 (apart absent.0 absent.3)
      ]

  same_named : names_all c ≡ false → (i : ℕ) → names_inode new.tree c i ≡ names_inode old.tree c i
  same_named one i =
      ap (λ b. cond b (is_some (node_at new.tree i)) (is_at_one_of new.tree (paths_of c) i)) one ∙ same_ones old.tree new.tree (paths_of c) same_ids i
      ∙ sym (ap (λ b. cond b (is_some (node_at old.tree i)) (is_at_one_of old.tree (paths_of c) i)) one)

  keeps : (i : ℕ) → names_inode old.tree c i ≡ true → KeepsNode i old new
  keeps i named = kept.nodes i (apart i named) (other_id old.tree given i unused (present_named old.tree t c i named))

  finds : ((i : ℕ) → names_inode new.tree c i ≡ names_inode old.tree c i) → FindsSame c old new
  finds named = record {
    walks = same_walks supply old.tree new.tree old.room t u c (Accepted-from_row supply old.tree old.room c t accepted) same_ids
        (λ q i at e. ap is_directory_node (keeps i (names_at old.tree t c q i at e)).node);
    ids = same_ids;
    named = named;
    nodes = λ i n. (keeps i n).node;
    names = λ i n. (keeps i n).names;
    links = λ i n. (keeps i n).links;
    paths = λ i n. (keeps i n).paths;
    pages = λ i n. (keeps i n).pages;
  }

-- ---- where it names all

abbrev NamesSome : Tree → Command → Type 0
NamesSome T c = (i : ℕ) × (names_inode T c i ≡ true)

some_named : (T : Tree) (c : Command) (q : Route) → IsFound T c q → NamesSome T c
some_named T c q (inl there) = (there.0, there.2)
some_named T c q (inr absent) = (absent.0, absent.3)

-- every command but df names a node
names_some : (supply : Supply) (T : Tree) (room : Room) (c : Command) → IsTree T → refusal_with supply T room c ≡ None → (c ≡ Df) ⊎ NamesSome T c
names_some supply T room (Create path) t e = inr (some_named T (Create path) path (found_at T t supply room (Create path) e path (at_first path (parent path ∷ []))))
names_some supply T room (Mkdir path) t e = inr (some_named T (Mkdir path) path (found_at T t supply room (Mkdir path) e path (at_first path (parent path ∷ []))))
names_some supply T room (Link from to) t e = inr (some_named T (Link from to) from (found_at T t supply room (Link from to) e from (at_first from (to ∷ parent to ∷ []))))
names_some supply T room (Unlink path) t e = inr (some_named T (Unlink path) path (found_at T t supply room (Unlink path) e path (at_first path (parent path ∷ []))))
names_some supply T room (Rmdir path) t e = inr (some_named T (Rmdir path) path (found_at T t supply room (Rmdir path) e path (at_first path (parent path ∷ []))))
names_some supply T room (Rename from to) t e = inr (some_named T (Rename from to) from (found_at T t supply room (Rename from to) e from (at_first from (parent from ∷ to ∷ parent to ∷ []))))
names_some supply T room (Write path offset bytes) t e = inr (some_named T (Write path offset bytes) path (found_at T t supply room (Write path offset bytes) e path (at_first path [])))
names_some supply T room (Truncate path size) t e = inr (some_named T (Truncate path size) path (found_at T t supply room (Truncate path size) e path (at_first path [])))
names_some supply T room (Read path offset count) t e = inr (some_named T (Read path offset count) path (found_at T t supply room (Read path offset count) e path (at_first path [])))
names_some supply T room (Tell path) t e = inr (some_named T (Tell path) path (found_at T t supply room (Tell path) e path (at_first path [])))
names_some supply T room (Show path) t e = inr (some_named T (Show path) path (found_at T t supply room (Show path) e path (at_first path [])))
names_some supply T room Df t e = inl refl

-- one that names all names what is there
named_by_all : (T : Tree) (all c : Command) (i : ℕ) → IsTree T → names_all all ≡ true → names_inode T c i ≡ true → names_inode T all i ≡ true
named_by_all T all c i t is n = ap (λ b. cond b (is_some (node_at T i)) (is_at_one_of T (paths_of all) i)) is ∙ present_named T t c i n

-- ---- the law

module _ (old new : State) (c other : Command) (t : IsTree old.tree) (apart : AreApart old.tree c other) (supply : Supply) (id : ℕ) (enters : Enters supply id old new other) where
  -- beside a command that names all there is only df
  all_named : names_all c ≡ true → (i : ℕ) → names_inode new.tree c i ≡ names_inode old.tree c i
  all_named all i =
      elim (names_some supply old.tree old.room other t enters.accepted) [
        | inl df ↦ ap (λ (T : Tree). names_inode T c i) (enters.tree ∙ ap (tree_after id old.tree) df)
        | inr some ↦ absurd (true≢false (sym some.1 ∙ apart some.0 (named_by_all old.tree c other some.0 t all some.1)))
      ]

pub apart_law : ApartLaw
apart_law volume supply others id old new c other v accepted enters apart =
    let t = v.tree in
    let u : IsTree new.tree = subst IsTree (sym enters.tree) (tree_stays others old.tree old.room id other t enters.accepted enters.unused) in
    let kept = untouched_law volume others id old new other v enters in
    finds supply id old new c other t u accepted enters.unused kept apart
    (elim (names_all c) as (λ b. names_all c ≡ b → (i : ℕ) → names_inode new.tree c i ≡ names_inode old.tree c i) [
      | true ↦ all_named old new c other t apart others id enters
      | false ↦ same_named supply id old new c other t u accepted enters.unused kept apart
    ] refl)
