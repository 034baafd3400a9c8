-- The deepest place, as it stands in the list; and what a volume says of the places of a listing.
use Rattle.std.proofs.Common.{◌≡◌, inl, inr, ℕ, zero, suc, ◌+◌, ◌-◌, ◌<◌, ◌≤◌, true, List, [], ◌∷◌, ◌++◌, length, take, Some, Contains, sym, ap, subst, ◌∙◌, arith, take_all}
use Rattle.std.specs.Prelude.{slice_get, slice_index_or, slice_set, vec_len}
use Rattle.std.specs.declared.vec.Vec.{Vec}
use Rattle.std.specs.declared.alloc.Global.{Global}
use Rattle.std.proofs.lemmas.List.{take_more, take_more_set, length-set}
use Rattle.std.proofs.lemmas.List.Elements.{Contains-get_or}
use Rattle.std.proofs.lemmas.Option.{slice_get_within, get_or_from_slice_get}
use Rattle.pm_trait.specs.DeviceView.{DeviceView}
use Rattle.layout.specs.Geometry.{inodes_of}
use Rattle.tree_model.specs.Tree.{Tree, IsTree, is_directory}
use Rattle.tree_model.specs.Run.{State}
use Rattle.tree_model.specs.Step.{names_in}
use Rattle.image_reading.specs.Residue.{no_residue, Residue}
use Rattle.volatile_index.specs.Index.{NodeView, entries_of, inodes_of_index}
use Rattle.volume.specs.Volume.{VolumeView}
use Rattle.volume.specs.Stands.{StandsFor, HasNode}
use Rattle.volume.specs.Beside.{StandsBeside}
use Rattle.volume.proofs.Beside.{stands_beside}
use Rattle.engine.specs.declared.places.Place.{Place}
use Rattle.engine.specs.Places.{place_at, route_through, IsPlaceAt, IsWayFrom, IsWay, LeadsTo, AreWithin, IsPassed, IsLeft, IsSameOrEntered}
use Rattle.engine.proofs.PlaceLaws.{way_but_one}
use Rattle.engine.proofs.Told.{state_is, directory_within}

pub contains_got : {X : Type 0} (xs : List X) (k : ℕ) (x : X) → slice_get xs k ≡ Some x → Contains xs x
contains_got xs k x is = subst (Contains xs) (get_or_from_slice_get xs k x x is) (Contains-get_or xs k x (slice_get_within xs k x is))

-- what is read at a place is one element
one_element : {X : Type 0} (xs : List X) (k : ℕ) (a b : X) → k < length xs → a ≡ slice_index_or xs k a → b ≡ slice_index_or xs k b → a ≡ b
one_element [] k a b within is too = absurd (omega (arith, within))
one_element (x ∷ xs) zero a b within is too = is ∙ sym too
one_element (x ∷ xs) (suc k) a b within is too = one_element xs k a b (omega (arith, within)) is too

-- ---- the deepest place, as it is read

module _ (places : Vec Place Global) {len : ℕ} {place : Place} (some : 1 ≤ vec_len places) (is : len ≡ vec_len places) (read : place ≡ slice_index_or places.items (len - 1) place) where
  last : (len - 1) + 1 ≡ length places.items
  last = let size = places.ok.0 in omega (arith, some, is, size)

  pub split_last : places.items ≡ take (len - 1) places.items ++ place ∷ []
  split_last =
      sym (take_all ((len - 1) + 1) places.items (omega (arith, last))) ∙ take_more places.items (len - 1) place (omega (arith, last)) ∙ ap (λ (p : Place). take (len - 1) places.items ++ p ∷ []) (sym read)

  -- its next name is passed, by what is read once more
  pub set_last : {other : Place} → other ≡ slice_index_or places.items (len - 1) other
      → slice_set places.items (len - 1) (record { directory = other.directory; next = place.next + 1 }) ≡ take (len - 1) places.items ++ place_at place.directory (place.next + 1) ∷ []
  set_last {other} again =
      let new : Place = record { directory = other.directory; next = place.next + 1 } in
      sym (take_all ((len - 1) + 1) (slice_set places.items (len - 1) new) (omega (arith, last, length-set places.items (len - 1) new))) ∙ take_more_set places.items (len - 1) new (omega (arith, last))
      ∙ ap (λ (p : Place). take (len - 1) places.items ++ place_at p.directory (place.next + 1) ∷ []) (one_element places.items (len - 1) other place (omega (arith, last)) again read)

  pub deepest : {tree : Tree} → IsWay tree places.items → IsPlaceAt tree (route_through tree (take (len - 1) places.items)) place
  deepest {tree} way = (way_but_one tree [] (take (len - 1) places.items) place (subst (λ (ps : List Place). IsWayFrom tree [] ps) split_last way.way)).1

  -- a volume has its directory, and a next name there where it hasn't passed as many as there are
  module _ {volume : VolumeView} {device : DeviceView} (way : (state : State) × StandsFor volume device state × IsWay state.tree places.items) where
    pub in_index : (1 ≤ place.directory) × (place.directory ≤ inodes_of_index volume.index)
    in_index = directory_within volume device place.directory (stands_beside way.1) (deepest way.2).directory

    pub has_next : {count : ℕ} → ((device : DeviceView) (state : State) (residue : Residue) → StandsBeside volume device state residue → is_directory state.tree place.directory ≡ true → count ≡ length (names_in state.tree place.directory))
        → (place.next ≡ count → ⊥) → place.next < count
    has_next {count} names differ = less place.next count (deepest way.2).within (names device way.0 no_residue (stands_beside way.1) (deepest way.2).directory) differ
      where
        less : (a b : ℕ) {c : ℕ} → a ≤ c → b ≡ c → (a ≡ b → ⊥) → a < b
        less a b within same differ = omega (arith, within, same, differ)

-- ---- the index has the names of each place

module _ (index : List NodeView) where
  pub within_at : (places : List Place) (k : ℕ) (place : Place) → AreWithin index places → slice_get places k ≡ Some place → place.next ≤ length (entries_of index place.directory)
  within_at [] k place within is = absurd (cc is)
  within_at (first ∷ places) zero place within is =
      let same : first ≡ place = cc is in subst (λ (p : Place). p.next ≤ length (entries_of index p.directory)) same within.0
  within_at (first ∷ places) (suc k) place within is = within_at places k place within.1 is

  within_one : (places : List Place) (place : Place) → AreWithin index places → place.next ≤ length (entries_of index place.directory) → AreWithin index (places ++ place ∷ [])
  within_one [] place within one = (one, tt)
  within_one (first ∷ places) place within one = (within.0, within_one places place within.1 one)

  within_but_one : (places : List Place) (place : Place) → AreWithin index (places ++ place ∷ []) → AreWithin index places
  within_but_one [] place within = tt
  within_but_one (first ∷ places) place within = (within.0, within_but_one places place within.1)

  pub within_up : (old new : List Place) → AreWithin index old → IsLeft old new → AreWithin index new
  within_up old new within gone = within_but_one new gone.deepest (subst (λ (ps : List Place). AreWithin index ps) gone.old_is within)

  pub within_by : (old new : List Place) → AreWithin index old → IsPassed index old new → AreWithin index new
  within_by old new within passed =
      let low = passed.within in
      let front = within_but_one passed.front (place_at passed.directory passed.next) (subst (λ (ps : List Place). AreWithin index ps) passed.old_is within) in
      subst (λ (ps : List Place). AreWithin index ps) (sym passed.new_is)
      (within_one passed.front (place_at passed.directory (passed.next + 1)) front (omega (arith, low)))

  pub within_into : (inode : ℕ) (old new : List Place) → AreWithin index old → IsSameOrEntered inode old new → AreWithin index new
  within_into inode old new within entered = elim entered [
    | inl same ↦ subst (λ (ps : List Place). AreWithin index ps) (sym same) within
    | inr one ↦ subst (λ (ps : List Place). AreWithin index ps) (sym one) (within_one old (place_at inode 0) within (omega arith))
  ]

-- ---- what a volume says

module _ (volume : VolumeView) (device : DeviceView) (state : State) (stands : StandsFor volume device state) where
  pub is_tree : IsTree state.tree
  is_tree = (state_is volume device stands).tree

  -- each directory is one of the inodes
  pub numbered : (d : ℕ) → is_directory state.tree d ≡ true → (1 ≤ d) × (d ≤ inodes_of volume.size)
  numbered d directory =
      let within = directory_within volume device d (stands_beside stands) directory in
      let as_many = stands.knows.nodes.each_inode in
      (within.0, omega (arith, within.1, as_many))

  pub node_led_to : (places : List Place) (inode : ℕ) → LeadsTo state.tree places inode → HasNode volume device inode
  node_led_to places inode leads = (state, stands, is_tree.present (route_through state.tree places) inode leads.named)
