-- What the index says of paths.
use Rattle.std.proofs.Common.{◌≡◌, ℕ, ◌<◌, ◌≤◌, true, List, [], ◌∷◌, ◌++◌, Contains, Some, None, Ok, Err}
use Rattle.pm_trait.specs.DeviceView.{DeviceView}
use Rattle.layout.specs.Geometry.{inodes_of, slots_of}
use Rattle.layout.specs.Fields.{slot_inode}
use Rattle.tree_model.specs.PathText.{Route}
use Rattle.tree_model.specs.Tree.{IsTree, id_at, is_directory}
use Rattle.tree_model.specs.Walk.{step_into}
use Rattle.tree_model.specs.Run.{State}
use Rattle.tree_model.specs.declared.reply.Refusal.TheVariants.{NotFound}
use Rattle.image_reading.specs.Reading.{Reached}
use Rattle.image_reading.specs.Residue.{no_residue}
use Rattle.image_counts.specs.Entries.{IsEntryOf}
use Rattle.volatile_index.specs.Entries.{IsAbsent}
use Rattle.volatile_index.specs.Index.{inodes_of_index, entries_of}
use Rattle.volume.specs.Volume.{VolumeView}
use Rattle.volume.specs.Stands.{StandsFor, IsStanding}
use Rattle.volume.proofs.Beside.{stands_beside, standing_beside}
use Rattle.volume.proofs.WalkedBeside as beside

module _ (volume : VolumeView) (device : DeviceView) where
  pub stands_tree : (state : State) → StandsFor volume device state → IsTree state.tree
  stands_tree state stands = beside.stands_tree volume device state no_residue (stands_beside stands)

  -- what a path names is reached
  pub reached_at : (state : State) (path : Route) (i : ℕ) → StandsFor volume device state → id_at state.tree path ≡ Some i → Reached volume.size device.words i
  reached_at state path i stands e = beside.reached_at volume device state no_residue path i (stands_beside stands) e

  -- what is reached is in the inode table
  pub in_table : (i : ℕ) → IsStanding volume device → Reached volume.size device.words i → (1 ≤ i) × (i ≤ inodes_of volume.size)
  in_table i standing reached = beside.in_table volume device i (standing_beside volume device standing) reached

  -- and so it is in the index
  pub in_index : (i : ℕ) → IsStanding volume device → Reached volume.size device.words i → (1 ≤ i) × (i ≤ inodes_of_index volume.index)
  in_index i standing reached = beside.in_index volume device i (standing_beside volume device standing) reached

  -- ---- entries

  pub entry_there : (d slot : ℕ) (name : List ℕ) → IsStanding volume device → Reached volume.size device.words d
      → Contains (entries_of volume.index d) (record { name = name; slot = slot }) → IsEntryOf volume.size device.words d name slot
  entry_there d slot name standing reached there = beside.entry_there volume device d slot name (standing_beside volume device standing) reached there

  pub slot_there : (d slot : ℕ) (name : List ℕ) → IsStanding volume device → Reached volume.size device.words d
      → Contains (entries_of volume.index d) (record { name = name; slot = slot }) → slot < slots_of volume.size
  slot_there d slot name standing reached there = beside.slot_there volume device d slot name (standing_beside volume device standing) reached there

  -- the path of a name that is there
  pub below_there : (state : State) (path : Route) (d slot : ℕ) (name : List ℕ) → StandsFor volume device state → id_at state.tree path ≡ Some d
      → Contains (entries_of volume.index d) (record { name = name; slot = slot }) → id_at state.tree (path ++ name ∷ []) ≡ Some (slot_inode volume.size device.words slot)
  below_there state path d slot name stands e there = beside.below_there volume device state no_residue path d slot name (stands_beside stands) e there

  -- and of one that isn't
  pub below_absent : (state : State) (path : Route) (d : ℕ) (name : List ℕ) → StandsFor volume device state → id_at state.tree path ≡ Some d
      → IsAbsent (entries_of volume.index d) name → id_at state.tree (path ++ name ∷ []) ≡ None
  below_absent state path d name stands e absent = beside.below_absent volume device state no_residue path d name (stands_beside stands) e absent

  -- ---- one name further

  pub step_there : (state : State) (path : Route) (d slot : ℕ) (name : List ℕ) → StandsFor volume device state → id_at state.tree path ≡ Some d → is_directory state.tree d ≡ true
      → Contains (entries_of volume.index d) (record { name = name; slot = slot })
      → step_into state.tree (Ok (record { path = path; id = d })) name ≡ Ok (record { path = path ++ name ∷ []; id = slot_inode volume.size device.words slot })
  step_there state path d slot name stands e directory there = beside.step_there volume device state no_residue path d slot name (stands_beside stands) e directory there

  pub step_absent : (state : State) (path : Route) (d : ℕ) (name : List ℕ) → StandsFor volume device state → id_at state.tree path ≡ Some d → is_directory state.tree d ≡ true
      → IsAbsent (entries_of volume.index d) name
      → step_into state.tree (Ok (record { path = path; id = d })) name ≡ Err NotFound
  step_absent state path d name stands e directory absent = beside.step_absent volume device state no_residue path d name (stands_beside stands) e directory absent
