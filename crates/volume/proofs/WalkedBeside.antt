-- What the index says of paths, beside calls that run.
use Rattle.std.proofs.Common.{◌≡◌, ℕ, ◌<◌, ◌≤◌, Bool, true, false, nat_eq, cond, List, [], ◌∷◌, ◌++◌, reverse, Contains, Some, None, Ok, Err, refl, sym, ap, ◌∙◌, arith}
use Rattle.std.proofs.lemmas.Bool.Decides.{nat_tests}
use Rattle.pm_trait.specs.DeviceView.{DeviceView}
use Rattle.layout.specs.Geometry.{inodes_of, slots_of}
use Rattle.layout.specs.Fields.{inode_kind, slot_inode}
use Rattle.tree_model.specs.PathText.{Route}
use Rattle.tree_model.specs.Tree.{IsTree, id_at, is_directory}
use Rattle.tree_model.specs.Walk.{step_into, place_at}
use Rattle.tree_model.specs.Run.{State}
use Rattle.tree_model.specs.declared.reply.Refusal.TheVariants.{NotFound, NotDir}
use Rattle.image_reading.specs.Reading.{Reached}
use Rattle.image_reading.specs.Residue.{Residue}
use Rattle.image_counts.specs.Entries.{IsEntryOf}
use Rattle.image_counts.proofs.Inodes.{inode_count_law}
use Rattle.image_counts.proofs.Nodes.{size_law}
use Rattle.image_counts.proofs.Paths.{entry_law}
use Rattle.image_counts.proofs.Slots.{absence_law}
use Rattle.image_counts.proofs.States.{state_law}
use Rattle.volatile_index.specs.Entries.{IsAbsent}
use Rattle.volatile_index.specs.Index.{inodes_of_index, entries_of}
use Rattle.volume.specs.Volume.{VolumeView}
use Rattle.volume.specs.Beside.{StandsBeside, IsStandingBeside}

is_two : (n : ℕ) → nat_eq n 2 ≡ true → n ≡ 2
is_two n e = grind (arith, nat_tests)

two_is : (n : ℕ) → n ≡ 2 → nat_eq n 2 ≡ true
two_is n e = grind (arith, nat_tests)

same_test : (a b : Bool) → (a ≡ true → b ≡ true) → (b ≡ true → a ≡ true) → a ≡ b
same_test true b to from = sym (to refl)
same_test false true to from = from refl
same_test false false to from = refl

module _ (volume : VolumeView) (device : DeviceView) where
  pub stands_tree : (state : State) (residue : Residue) → StandsBeside volume device state residue → IsTree state.tree
  stands_tree state residue stands = (state_law volume.size device.words state stands.sound.coherent stands.reads).tree

  -- what a path names is reached
  pub reached_at : (state : State) (residue : Residue) (path : Route) (i : ℕ) → StandsBeside volume device state residue → id_at state.tree path ≡ Some i → Reached volume.size device.words i
  reached_at state residue path i stands e = (reverse path, (stands.reads.tree.names path i).0 e)

  -- what is reached is in the inode table
  pub in_table : (i : ℕ) → IsStandingBeside volume device → Reached volume.size device.words i → (1 ≤ i) × (i ≤ inodes_of volume.size)
  in_table i (state, residue, stands) reached =
      let counted = inode_count_law volume.size device.words state stands.sound.coherent stands.reads in (counted.least i reached, counted.most i reached)

  -- and so it is in the index
  pub in_index : (i : ℕ) → IsStandingBeside volume device → Reached volume.size device.words i → (1 ≤ i) × (i ≤ inodes_of_index volume.index)
  in_index i (state, residue, stands) reached =
      let within = in_table i (state, residue, stands) reached in (within.0, omega (arith, within.1, stands.knows.nodes.each_inode))

  -- the kind says whether it is a directory
  pub directory_test : (state : State) (residue : Residue) (i kind : ℕ) → StandsBeside volume device state residue → Reached volume.size device.words i → kind ≡ inode_kind device.words i → nat_eq kind 2 ≡ is_directory state.tree i
  directory_test state residue i kind stands reached is =
      let directories = (size_law volume.size device.words state stands.sound.coherent stands.reads).directories i in
      same_test (nat_eq kind 2) (is_directory state.tree i) (λ two. directories.1 (reached, sym is ∙ is_two kind two)) (λ directory. two_is kind (is ∙ (directories.0 directory).1))

  -- ---- entries

  pub entry_there : (d slot : ℕ) (name : List ℕ) → IsStandingBeside volume device → Reached volume.size device.words d
      → Contains (entries_of volume.index d) (record { name = name; slot = slot }) → IsEntryOf volume.size device.words d name slot
  entry_there d slot name standing reached there =
      let within = in_table d standing reached in
      (standing.2.knows.nodes.entries d slot name within.0 within.1).0 there

  pub slot_there : (d slot : ℕ) (name : List ℕ) → IsStandingBeside volume device → Reached volume.size device.words d
      → Contains (entries_of volume.index d) (record { name = name; slot = slot }) → slot < slots_of volume.size
  slot_there d slot name standing reached there = (entry_there d slot name standing reached there).slot.live.held.in_range

  -- the path of a name that is there
  pub below_there : (state : State) (residue : Residue) (path : Route) (d slot : ℕ) (name : List ℕ) → StandsBeside volume device state residue → id_at state.tree path ≡ Some d
      → Contains (entries_of volume.index d) (record { name = name; slot = slot }) → id_at state.tree (path ++ name ∷ []) ≡ Some (slot_inode volume.size device.words slot)
  below_there state residue path d slot name stands e there =
      let entry = entry_there d slot name (state, residue, stands) (reached_at state residue path d stands e) there in
      (entry_law volume.size device.words state stands.sound.coherent stands.reads path d (slot_inode volume.size device.words slot) name e).1 (slot, entry, refl)

  -- and of one that isn't
  pub below_absent : (state : State) (residue : Residue) (path : Route) (d : ℕ) (name : List ℕ) → StandsBeside volume device state residue → id_at state.tree path ≡ Some d
      → IsAbsent (entries_of volume.index d) name → id_at state.tree (path ++ name ∷ []) ≡ None
  below_absent state residue path d name stands e absent =
      let within = in_table d (state, residue, stands) (reached_at state residue path d stands e) in
      ((absence_law volume.size device.words state stands.sound.coherent stands.reads).absent path d name e).1
      (λ slot entry. absent (record { name = name; slot = slot }) ((stands.knows.nodes.entries d slot name within.0 within.1).1 entry) refl)

  -- ---- one name further

  pub step_there : (state : State) (residue : Residue) (path : Route) (d slot : ℕ) (name : List ℕ) → StandsBeside volume device state residue → id_at state.tree path ≡ Some d → is_directory state.tree d ≡ true
      → Contains (entries_of volume.index d) (record { name = name; slot = slot })
      → step_into state.tree (Ok (record { path = path; id = d })) name ≡ Ok (record { path = path ++ name ∷ []; id = slot_inode volume.size device.words slot })
  step_there state residue path d slot name stands e directory there =
      ap (λ b. cond b (place_at (path ++ name ∷ []) (id_at state.tree (path ++ name ∷ []))) (Err NotDir)) directory
      ∙ ap (place_at (path ++ name ∷ [])) (below_there state residue path d slot name stands e there)

  pub step_absent : (state : State) (residue : Residue) (path : Route) (d : ℕ) (name : List ℕ) → StandsBeside volume device state residue → id_at state.tree path ≡ Some d → is_directory state.tree d ≡ true
      → IsAbsent (entries_of volume.index d) name
      → step_into state.tree (Ok (record { path = path; id = d })) name ≡ Err NotFound
  step_absent state residue path d name stands e directory absent =
      ap (λ b. cond b (place_at (path ++ name ∷ []) (id_at state.tree (path ++ name ∷ []))) (Err NotDir)) directory
      ∙ ap (place_at (path ++ name ∷ [])) (below_absent state residue path d name stands e absent)
