-- What a command names, by what its walks find.
use Rattle.std.proofs.Common.{◌≡◌, ℕ, zero, suc, ◌<◌, ◌==◌, nat_eq, Bool, true, false, ◌||◌, List, [], ◌∷◌, length, slice_index_or, Contains, Option, Some, None, is_some, Result, Ok, Err, refl, sym, ap, subst, ◌∙◌, arith, true≢false}
use Rattle.std.specs.List.{list_any}
use Rattle.std.specs.Option.{option_eq}
use Rattle.pm_trait.specs.DeviceView.{DeviceView}
use Rattle.tree_model.specs.PathText.{Route}
use Rattle.tree_model.specs.Tree.{Tree, is_root, parent, id_at, is_number}
use Rattle.tree_model.specs.Walk.{root_place, walk, walk_to_parent}
use Rattle.tree_model.specs.Step.{first, at, fault_of}
use Rattle.tree_model.specs.Run.{State}
use Rattle.tree_model.specs.declared.command.Command.{Command}
use Rattle.tree_model.specs.declared.command.Command.TheVariants.{Create, Link, Unlink, Rename, Stat as Tell}
use Rattle.tree_model.specs.declared.reply.Refusal.{Refusal}
use Rattle.tree_model.specs.declared.reply.Refusal.TheVariants.{Root}
use Rattle.tree_model.proofs.WalkLaws.{id_at-from_walk}
use Rattle.image_reading.specs.Residue.{Residue}
use Rattle.naming_laws.specs.Naming.{names_inode, names_all}
use Rattle.naming_laws.proofs.Named.{equal_test, number_is}
use Rattle.volume.specs.Volume.{VolumeView}
use Rattle.volume.specs.Beside.{StandsBeside}
use Rattle.volume.specs.Planned.{IsNameAt}
use Rattle.volume.specs.Walks.{name_row, place_of_parent, IsLastName, WouldHold}
use Rattle.volume.specs.declared.resolve.LastName.{LastName}
use Rattle.volume.specs.Named.{refusal_of_walks, AreNamedBy, IsNamedOrRefused}
use Rattle.volume.specs.declared.named.NamedNodes.{NamedNodes}
use Rattle.volume.specs.declared.named.NamedNodes.TheVariants.{All, These}
use Rattle.volume.proofs.WalkedBeside.{stands_tree}
use Rattle.volume.proofs.Holders.{held}

-- ---- lists of inodes

abbrev pub is_one_of : List (Option ℕ) → ℕ → Bool
is_one_of [] i = false
is_one_of (o ∷ os) i = is_number o i || is_one_of os i

or_true : (x y : Bool) → y ≡ true → x || y ≡ true
or_true true y is = refl
or_true false y is = is

one_of_them : (os : List (Option ℕ)) (i k : ℕ) → k < length os → slice_index_or os k (Some i) ≡ Some i → is_one_of os i ≡ true
one_of_them [] i k within is = absurd (omega arith)
one_of_them (o ∷ os) i zero within is = ap (λ p. is_number p i || is_one_of os i) is ∙ ap (λ b. b || is_one_of os i) (equal_test i i refl)
one_of_them (o ∷ os) i (suc k) within is = or_true (is_number o i) (is_one_of os i) (one_of_them os i k (omega arith) is)

place_of_one : (os : List (Option ℕ)) (i : ℕ) → is_one_of os i ≡ true → Contains os (Some i)
place_of_one [] i is = absurd (true≢false (sym is))
place_of_one (o ∷ os) i is =
    elim (is_number o i) as (λ b. is_number o i ≡ b → b || is_one_of os i ≡ true → Contains (o ∷ os) (Some i)) [
      | true ↦ λ here is. (0, omega arith, number_is o i here)
      | false ↦ λ other is. let (k, within, there) = place_of_one os i is in (suc k, omega (arith, within), there)
    ] refl is

same_test : (a b : Bool) → (a ≡ true → b ≡ true) → (b ≡ true → a ≡ true) → a ≡ b
same_test true b to from = sym (to refl)
same_test false true to from = from refl
same_test false false to from = refl

pub found_test : (os : List (Option ℕ)) (i : ℕ) → list_any (λ o. option_eq nat_eq o (Some i)) os ≡ is_one_of os i
found_test [] i = refl
found_test (None ∷ os) i = found_test os i
found_test (Some j ∷ os) i = ap (λ b. j == i || b) (found_test os i)

-- ---- what a command names

these : (T : Tree) (command : Command) (os : List (Option ℕ)) → names_all command ≡ false → ((i : ℕ) → is_one_of os i ≡ names_inode T command i) → AreNamedBy T command (These os)
these T command os some same = (some, λ i. ((λ has. sym (same i) ∙ one_of_them os i has.0 has.1 has.2), (λ is. place_of_one os i (same i ∙ is))))

each_of_these : (T : Tree) (command : Command) (os : List (Option ℕ)) → AreNamedBy T command (These os) → (i : ℕ) → is_one_of os i ≡ names_inode T command i
each_of_these T command os named i =
    let both = named.1 i in
    same_test (is_one_of os i) (names_inode T command i) (λ is. both.0 (place_of_one os i is)) (λ is. let has = both.1 is in one_of_them os i has.0 has.1 has.2)

pub names_nothing : (T : Tree) → AreNamedBy T Command.Df (These (None ∷ None ∷ None ∷ []))
names_nothing T = these T Command.Df (None ∷ None ∷ None ∷ []) refl (λ i. refl)

-- what two commands name is the same where their walks and paths are
alike : (volume : VolumeView) (device : DeviceView) (command other : Command) (result : Result NamedNodes Refusal)
    → ((T : Tree) → refusal_of_walks T command ≡ refusal_of_walks T other) → names_all command ≡ names_all other → ((T : Tree) (i : ℕ) → names_inode T command i ≡ names_inode T other i)
    → IsNamedOrRefused volume device command result → IsNamedOrRefused volume device other result
alike volume device command other (Ok All) walks all each named = λ state residue stands. let is = named state residue stands in (sym (walks state.tree) ∙ is.0, sym all ∙ is.1)
alike volume device command other (Ok (These inodes)) walks all each named = λ state residue stands.
    let is = named state residue stands in
    (sym (walks state.tree) ∙ is.0, (sym all ∙ is.1.0, λ i. ((λ has. sym (each state.tree i) ∙ (is.1.1 i).0 has), (λ names. (is.1.1 i).1 (each state.tree i ∙ names)))))
alike volume device command other (Err fault) walks all each named = λ state residue stands. sym (walks state.tree) ∙ named state residue stands

pub named_alike : (volume : VolumeView) (device : DeviceView) {asked other : Command} (command : Command) (result : Result NamedNodes Refusal) → asked ≡ other
    → ((T : Tree) → refusal_of_walks T command ≡ refusal_of_walks T other) → names_all command ≡ names_all other → ((T : Tree) (i : ℕ) → names_inode T command i ≡ names_inode T other i)
    → IsNamedOrRefused volume device command result → IsNamedOrRefused volume device asked result
named_alike volume device {other = other} command result is walks all each named = subst (λ (c : Command). IsNamedOrRefused volume device c result) (sym is) (alike volume device command other result walks all each named)

abbrev pub Names : Tree → Command → NamedNodes → Type 0
Names T command named = (refusal_of_walks T command ≡ None) × AreNamedBy T command named

-- so it is known whether a command names an inode
pub all_name : (T : Tree) (command : Command) (named : NamedNodes) (i : ℕ) → named ≡ All → Names T command named
    → (refusal_of_walks T command ≡ None) × (names_all command ≡ true → true ≡ true) × (names_all command ≡ false → true ≡ names_inode T command i)
all_name T command named i is names = let all = subst (AreNamedBy T command) is names.1 in (names.0, (λ e. refl), (λ e. absurd (true≢false (sym all ∙ e))))

pub these_name : (T : Tree) (command : Command) (named : NamedNodes) (os : List (Option ℕ)) (i : ℕ) (found : Bool) → named ≡ These os → found ≡ is_one_of os i → Names T command named
    → (refusal_of_walks T command ≡ None) × (names_all command ≡ true → found ≡ true) × (names_all command ≡ false → found ≡ names_inode T command i)
these_name T command named os i found is tested names =
    let some = subst (AreNamedBy T command) is names.1 in
    (names.0, (λ e. absurd (true≢false (sym e ∙ some.0))), (λ e. tested ∙ each_of_these T command os some i))

-- ---- where a walk fails

module _ (T : Tree) (path : Route) (fault : Refusal) where
  pub path_fails : walk T path ≡ Err fault → refusal_of_walks T (Tell path) ≡ Some fault
  path_fails e = ap (λ w. first (fault_of w ∷ None ∷ [])) e

  pub new_fails : walk_to_parent T path ≡ Err fault → refusal_of_walks T (Create path) ≡ Some fault
  new_fails e = ap (λ w. first (fault_of w ∷ at Root (is_root path) ∷ [])) e

pub new_at_root : (T : Tree) (path : Route) → walk_to_parent T path ≡ Ok root_place → path ≡ [] → refusal_of_walks T (Create path) ≡ Some Root
new_at_root T path walked none = λ i. first (fault_of (walked i) ∷ at Root (is_root (none i)) ∷ [])

second_fails : (a b : Option Refusal) (rest : List (Option Refusal)) (fault : Refusal) → a ≡ None → first (b ∷ rest) ≡ Some fault → first (a ∷ b ∷ rest) ≡ Some fault
second_fails a b rest fault passes e = ap (λ o. first (o ∷ b ∷ rest)) passes ∙ e

module _ (T : Tree) (from to : Route) where
  pub link_fails_first : (fault : Refusal) → walk T from ≡ Err fault → refusal_of_walks T (Link from to) ≡ Some fault
  link_fails_first fault e = ap (λ w. first (fault_of w ∷ fault_of (walk_to_parent T to) ∷ at Root (is_root to) ∷ [])) e

  pub rename_fails_first : (fault : Refusal) → walk T from ≡ Err fault → refusal_of_walks T (Rename from to) ≡ Some fault
  rename_fails_first fault e = ap (λ w. first (fault_of w ∷ fault_of (walk_to_parent T to) ∷ at Root (is_root from || is_root to) ∷ [])) e

  module _ (inode : ℕ) (walked : walk T from ≡ Ok (record { path = from; id = inode })) where
    passes : fault_of (walk T from) ≡ None
    passes = ap fault_of walked

    pub link_fails_second : (fault : Refusal) → walk_to_parent T to ≡ Err fault → refusal_of_walks T (Link from to) ≡ Some fault
    link_fails_second fault e = second_fails (fault_of (walk T from)) (fault_of (walk_to_parent T to)) (at Root (is_root to) ∷ []) fault passes (new_fails T to fault e)

    pub link_at_root : walk_to_parent T to ≡ Ok root_place → to ≡ [] → refusal_of_walks T (Link from to) ≡ Some Root
    link_at_root e none = second_fails (fault_of (walk T from)) (fault_of (walk_to_parent T to)) (at Root (is_root to) ∷ []) Root passes (new_at_root T to e none)

    pub rename_fails_second : (fault : Refusal) → walk_to_parent T to ≡ Err fault → refusal_of_walks T (Rename from to) ≡ Some fault
    rename_fails_second fault e = λ i. first (passes i ∷ fault_of (e i) ∷ at Root (is_root from || is_root to) ∷ [])

    pub rename_at_root : (found : Option LastName) → walk_to_parent T to ≡ place_of_parent to (Ok found) → IsLastName to found → is_some found ≡ false → refusal_of_walks T (Rename from to) ≡ Some Root
    rename_at_root None e none is = (λ i. first (passes i ∷ fault_of (e i) ∷ at Root (is_root from || is_root (none i)) ∷ [])) ∙ ap (λ b. first (None ∷ None ∷ at Root b ∷ [])) (or_true (is_root from) true refl)
    rename_at_root (Some last) e known is = absurd (true≢false is)

    module _ (found : Option LastName) (there : walk_to_parent T to ≡ place_of_parent to (Ok found)) (known : IsLastName to found) (some : is_some found ≡ true) where
      to_passes : (found : Option LastName) → walk_to_parent T to ≡ place_of_parent to (Ok found) → IsLastName to found → is_some found ≡ true → (fault_of (walk_to_parent T to) ≡ None) × (is_root to ≡ false)
      to_passes None e known some = absurd (true≢false (sym some))
      to_passes (Some last) e known some = (ap fault_of e, known.0)

      rename_row : (b : Bool) → refusal_of_walks T (Rename from to) ≡ first (None ∷ None ∷ at Root (is_root from || false) ∷ [])
      rename_row b = let second = to_passes found there known some in λ i. first (passes i ∷ second.0 i ∷ at Root (is_root from || second.1 i) ∷ [])

      same_row : (b : Bool) → first (None ∷ None ∷ at Root (b || false) ∷ []) ≡ first (None ∷ at Root b ∷ [])
      same_row true = refl
      same_row false = refl

      pub rename_is_name_row : refusal_of_walks T (Rename from to) ≡ name_row T from
      rename_is_name_row = rename_row true ∙ same_row (is_root from) ∙ ap (λ o. first (o ∷ at Root (is_root from) ∷ [])) (sym passes)

-- ---- where all walks pass

module _ (volume : VolumeView) (device : DeviceView) (state : State) (residue : Residue) (stands : StandsBeside volume device state residue) where
  id_here : (path : Route) (inode : ℕ) → walk state.tree path ≡ Ok (record { path = path; id = inode }) → Some inode ≡ id_at state.tree path
  id_here path inode walked = sym (id_at-from_walk state.tree path (record { path = path; id = inode }) (stands_tree volume device state residue stands) walked)

  id_of_parent : (path : Route) (d : ℕ) (name : List ℕ) → WouldHold state.tree path d name → Some d ≡ id_at state.tree (parent path)
  id_of_parent path d name holder = sym (held volume device state residue stands path d name holder).0

  pub path_named : (path : Route) (inode : ℕ) → walk state.tree path ≡ Ok (record { path = path; id = inode }) → Names state.tree (Tell path) (These (Some inode ∷ None ∷ None ∷ []))
  path_named path inode walked = (
    ap (λ w. first (fault_of w ∷ None ∷ [])) walked,
    these state.tree (Tell path) (Some inode ∷ None ∷ None ∷ []) refl (λ i. ap (λ o. is_one_of (o ∷ None ∷ None ∷ []) i) (id_here path inode walked)),
  )

  pub new_named : (path : Route) (d : ℕ) (name : List ℕ) (found : Option ℕ) → WouldHold state.tree path d name → found ≡ id_at state.tree path → Names state.tree (Create path) (These (found ∷ Some d ∷ None ∷ []))
  new_named path d name found holder is = (
    (λ i. first (fault_of (holder.walked i) ∷ at Root (holder.below i) ∷ [])),
    these state.tree (Create path) (found ∷ Some d ∷ None ∷ []) refl (λ k. λ i. is_one_of (is i ∷ id_of_parent path d name holder i ∷ None ∷ []) k),
  )

  pub link_named : (from to : Route) (inode d : ℕ) (name : List ℕ) (found : Option ℕ) → walk state.tree from ≡ Ok (record { path = from; id = inode }) → WouldHold state.tree to d name → found ≡ id_at state.tree to
      → Names state.tree (Link from to) (These (Some inode ∷ found ∷ Some d ∷ []))
  link_named from to inode d name found walked holder is = (
    (λ i. first (fault_of (walked i) ∷ fault_of (holder.walked i) ∷ at Root (holder.below i) ∷ [])),
    these state.tree (Link from to) (Some inode ∷ found ∷ Some d ∷ []) refl (λ k. λ i. is_one_of (id_here from inode walked i ∷ is i ∷ id_of_parent to d name holder i ∷ []) k),
  )

  pub removal_named : (path : Route) (d : ℕ) (name : List ℕ) (slot inode : ℕ) → name_row state.tree path ≡ None → IsNameAt volume.size device.words state path d name slot inode
      → Names state.tree (Unlink path) (These (Some inode ∷ Some d ∷ None ∷ []))
  removal_named path d name slot inode passes named = (
    passes,
    these state.tree (Unlink path) (Some inode ∷ Some d ∷ None ∷ []) refl (λ k. λ i. is_one_of (sym named.inode_is i ∷ sym named.directory_is i ∷ None ∷ []) k),
  )
