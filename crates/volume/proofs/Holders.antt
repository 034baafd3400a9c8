-- What the volume knows of the directory that would hold a path's last name.
use Rattle.std.proofs.Common.{◌≡◌, ◌≢◌, ℕ, zero, suc, ◌*◌, ◌≤◌, Bool, true, false, cond, nat_lt, List, [], ◌∷◌, ◌++◌, Contains, Option, Some, None, is_some, unwrap_or, Ok, refl, sym, ap, subst, ◌∙◌, arith, eq-eqb, eqb-true}
use Rattle.std.proofs.lemmas.Bool.{false_from_ne_true}
use Rattle.std.proofs.lemmas.Bool.Decides.{nat_tests}
use Rattle.pm_trait.specs.DeviceView.{DeviceView}
use Rattle.layout.specs.Geometry.{inodes_of}
use Rattle.layout.specs.Fields.{slot_inode}
use Rattle.tree_model.specs.PathText.{Route}
use Rattle.tree_model.specs.Tree.{Tree, root_id, parent, id_at, is_directory, name_count, pages_in}
use Rattle.tree_model.specs.Walk.{walk_to_parent}
use Rattle.tree_model.proofs.WalkLaws.{holder-from_walk}
use Rattle.tree_model.specs.Capacity.{free_pages}
use Rattle.tree_model.specs.Step.{id_of, is_there, is_full, page_for_name}
use Rattle.tree_model.specs.Run.{State}
use Rattle.image_reading.specs.Reading.{IsDirectory, Reached}
use Rattle.image_reading.specs.Residue.{Residue}
use Rattle.image_counts.specs.Entries.{IsUnusedDataPage}
use Rattle.image_counts.specs.Laws.{HasRoomWords, supply_beside}
use Rattle.image_counts.proofs.Nodes.{size_law}
use Rattle.image_counts.proofs.Beside.{room_beside_law}
use Rattle.allocators.specs.Numbers.{IsFree, free_in}
use Rattle.allocators.proofs.NumbersLaws.{none_is_free, some_is_free}
use Rattle.volatile_index.specs.Entries.{IsAbsent, IsPresent}
use Rattle.volatile_index.specs.Index.{inodes_of_index, entries_of}
use Rattle.volume.specs.Volume.{VolumeView}
use Rattle.volume.specs.Beside.{StandsBeside, IsUntouched}
use Rattle.volume.specs.Planned.{IsVacantSlot, IsPlace}
use Rattle.volume.specs.Walks.{place_of_parent, IsLastName, WouldHold}
use Rattle.volume.specs.declared.resolve.LastName.{LastName}
use Rattle.volume.proofs.Ways.{whole_path}
use Rattle.volume.proofs.WalkedBeside.{stands_tree, in_table, in_index, below_there, below_absent}
use Rattle.volume.proofs.Places.{page_free, free_page}
use Rattle.volume.proofs.Frees.{free_pages_beside, reads_beside}

pub would_hold : (T : Tree) (path : Route) (found : Option LastName) (last : LastName) → walk_to_parent T path ≡ place_of_parent path (Ok found) → IsLastName path found → found ≡ Some last → WouldHold T path last.directory last.name
would_hold T path found last walked named is =
    let known = subst (IsLastName path) is named in
    record { walked = walked ∙ ap (λ o. place_of_parent path (Ok o)) is; below = known.0; named = known.1 }

-- ---- tests of numbers

none_less : (n : ℕ) → nat_lt n 0 ≡ false
none_less n = grind (arith, nat_tests)

none_left : (n : ℕ) → n ≡ 0 → nat_lt n 1 ≡ true
none_left n none = grind (arith, nat_tests)

some_left : (n : ℕ) → (n ≢ 0) → nat_lt n 1 ≡ false
some_left n some = grind (arith, nat_tests)

pub no_free : (numbers : List Bool) → ((k : ℕ) → ¬ IsFree numbers k) → free_in numbers ≡ 0
no_free numbers none = at_count (free_in numbers) refl
  where
    at_count : (n : ℕ) → free_in numbers ≡ n → free_in numbers ≡ 0
    at_count zero is = is
    at_count (suc n) is = let (k, free) = some_is_free numbers (omega (arith, is)) in absurd (none k free)

module _ (volume : VolumeView) (device : DeviceView) (state : State) (residue : Residue) (stands : StandsBeside volume device state residue) (path : Route) (d : ℕ) (name : List ℕ) (holder : WouldHold state.tree path d name) where
  path_is : path ≡ parent path ++ name ∷ []
  path_is = whole_path path holder.below ∙ ap (λ last. parent path ++ last ∷ []) (sym holder.named)

  pub held : (id_at state.tree (parent path) ≡ Some d) × (is_directory state.tree d ≡ true)
  held = holder-from_walk state.tree path (record { path = parent path; id = d }) (stands_tree volume device state residue stands) holder.walked

  pub is_here : Reached volume.size device.words d × IsDirectory device.words d
  is_here = ((size_law volume.size device.words state stands.sound.coherent stands.reads).directories d).0 held.1

  pub in_inodes : (1 ≤ d) × (d ≤ inodes_of volume.size)
  in_inodes = in_table volume device d (state, residue, stands) is_here.0

  pub in_entries : (1 ≤ d) × (d ≤ inodes_of_index volume.index)
  in_entries = in_index volume device d (state, residue, stands) is_here.0

  -- ---- the name

  pub named_there : (slot : ℕ) → Contains (entries_of volume.index d) (record { name = name; slot = slot }) → id_at state.tree path ≡ Some (slot_inode volume.size device.words slot)
  named_there slot there = ap (id_at state.tree) path_is ∙ below_there volume device state residue (parent path) d slot name stands held.0 there

  pub present : IsPresent (entries_of volume.index d) name → is_there state.tree path ≡ true
  present (slot, there) = ap is_some (named_there slot there)

  pub named_absent : IsAbsent (entries_of volume.index d) name → id_at state.tree path ≡ None
  named_absent none = ap (id_at state.tree) path_is ∙ below_absent volume device state residue (parent path) d name stands held.0 none

  pub absent : IsAbsent (entries_of volume.index d) name → is_there state.tree path ≡ false
  absent none = ap is_some (named_absent none)

  -- ---- its place

  module _ (untouched : IsUntouched volume device.words residue d) where
    room_words : HasRoomWords volume.size device.words state d
    room_words = room_beside_law volume.size device.words residue state (reads_beside volume device state residue stands) d is_here.0 is_here.1 untouched.apart

    full : ((slot : ℕ) → ¬ IsVacantSlot volume.size device.words d slot) → is_full state.tree state.room d ≡ true
    full none = eq-eqb (name_count state.tree d) (32 * pages_in state.room d) (room_words.full.1 (λ slot inside vacant. none slot (record { page = inside; vacant = vacant })))

    not_full : (slot : ℕ) → IsVacantSlot volume.size device.words d slot → is_full state.tree state.room d ≡ false
    not_full slot vacant = false_from_ne_true (is_full state.tree state.room d) (λ is. room_words.full.0 (eqb-true (name_count state.tree d) (32 * pages_in state.room d) is) slot vacant.page vacant.vacant)

    needed : (b : Bool) → is_full state.tree state.room d ≡ b → page_for_name state.tree state.room (Some (id_of state.tree (parent path))) ≡ cond b 1 0
    needed b is = ap (λ o. page_for_name state.tree state.room (Some (unwrap_or o root_id))) held.0 ∙ ap (λ t. cond t 1 0) is

    -- whether a page that is needed is free
    pub lacks_page : ((slot : ℕ) → ¬ IsVacantSlot volume.size device.words d slot) → ((page : ℕ) → ¬ IsUnusedDataPage volume.size device.words page)
        → nat_lt (free_pages (supply_beside volume.size residue) state.tree state.room) (page_for_name state.tree state.room (Some (id_of state.tree (parent path)))) ≡ true
    lacks_page all_named all_used =
        let none = free_pages_beside volume device state residue stands ∙ no_free volume.data_pages (λ page unowned. all_used page (free_page volume device (state, residue, stands) page unowned)) in
        ap (nat_lt (free_pages (supply_beside volume.size residue) state.tree state.room)) (needed true (full all_named)) ∙ none_left (free_pages (supply_beside volume.size residue) state.tree state.room) none

    pub has_page : (slot : ℕ) (new_page : Option ℕ) → IsPlace volume.size device.words d slot new_page
        → nat_lt (free_pages (supply_beside volume.size residue) state.tree state.room) (page_for_name state.tree state.room (Some (id_of state.tree (parent path)))) ≡ false
    has_page slot None place =
        ap (nat_lt (free_pages (supply_beside volume.size residue) state.tree state.room)) (needed false (not_full slot place.vacant)) ∙ none_less (free_pages (supply_beside volume.size residue) state.tree state.room)
    has_page slot (Some page) place =
        let some : free_pages (supply_beside volume.size residue) state.tree state.room ≢ 0 = λ none.
        none_is_free volume.data_pages (sym (free_pages_beside volume device state residue stands) ∙ none) page (page_free volume device (state, residue, stands) page place.page_is.free) in
        ap (nat_lt (free_pages (supply_beside volume.size residue) state.tree state.room)) (needed true (full place.full)) ∙ some_left (free_pages (supply_beside volume.size residue) state.tree state.room) some
