-- What the plan of an accepted write says of its file, beside other calls.
use Rattle.std.proofs.Common.{◌≡◌, ℕ, ◌+◌, ◌-◌, ◌==◌, ◌<◌, ◌≤◌, ◌^◌, Bool, true, false, cond, List, [], length, sym, ap, subst, ◌∙◌, arith}
use Rattle.std.proofs.lemmas.Bool.Decides.{nat_tests}
use Rattle.pm_trait.specs.DeviceView.{DeviceView}
use Rattle.layout.specs.Geometry.{pieces}
use Rattle.layout.specs.Fields.{inode_size}
use Rattle.tree_model.specs.PathText.{Route}
use Rattle.tree_model.specs.Run.{State}
use Rattle.tree_model.specs.Step.{id_of, rise}
use Rattle.tree_model.specs.Tree.{IsTree, is_file, bytes_of, page_bytes}
use Rattle.tree_model.specs.Accepted.{MayWrite as Accepts}
use Rattle.tree_model.specs.declared.command.Command.{Command}
use Rattle.tree_model.specs.declared.command.Command.TheVariants.{Write}
use Rattle.tree_model.proofs.AcceptedLaws.{Accepted-from_row}
use Rattle.naming_laws.proofs.Named.{at_first, names_at}
use Rattle.image_reading.specs.Reading.{pages_of_size}
use Rattle.image_reading.specs.Residue.{Residue}
use Rattle.image_counts.specs.Laws.{supply_beside}
use Rattle.volume.specs.Volume.{VolumeView}
use Rattle.volume.specs.Beside.{IsUntouched}
use Rattle.volume.specs.Planned.{IsPlanOf, IsWritingFor}
use Rattle.volume.specs.declared.plan.Writing.{Writing}
use Rattle.volume.specs.declared.plan.Action.TheVariants.{Write as WriteBytes, WriteNothing}
use Rattle.volume.proofs.ContentPlans.{planned_writing}
use Rattle.volume.proofs.WalkedBeside.{stands_tree}
use Rattle.waiting_laws.specs.Beside.{IsReady}
use Rattle.waiting_laws.proofs.FilePages as files
use Rattle.waiting_laws.proofs.ReadyStands.{not_nothing}

same_write : (path other : Route) (offset at : ℕ) (bytes more : List ℕ) → ◌≡◌ {A = Command} (Write path offset bytes) (Write other at more) → (other ≡ path) × (at ≡ offset) × (more ≡ bytes)
same_write path other offset at bytes more e = let one : other ≡ path = cc in let two : at ≡ offset = cc in let three : more ≡ bytes = cc in (one, two, three)

-- the row of a write, at its own path, offset and bytes
writing_at : (P : ℕ) (I : List ℕ) (state : State) (path : Route) (offset : ℕ) (bytes : List ℕ) (writing : Writing) → IsPlanOf P I state (Write path offset bytes) (WriteBytes writing) → IsWritingFor P I state path offset bytes writing
writing_at P I state path offset bytes writing plan =
    let (other, at, more, is, for) = planned_writing P I state (Write path offset bytes) writing plan in
    let (one, two, three) = same_write path other offset at bytes more is in
    subst (λ (q : Route). IsWritingFor P I state q offset bytes writing) one
    (subst (λ (n : ℕ). IsWritingFor P I state other n bytes writing) two
    (subst (λ (l : List ℕ). IsWritingFor P I state other at l writing) three for))

not_zero : (n : ℕ) → (n == 0) ≡ false → 0 < n
not_zero n test = grind (arith, nat_tests)

module _ (volume : VolumeView) (device : DeviceView) (state : State) (path : Route) (writing : Writing) (bytes : List ℕ) (others : Residue)
    (ready : IsReady volume device state (Write path writing.offset bytes) (WriteBytes writing) others) where
  tree : IsTree state.tree
  tree = stands_tree volume device state others ready.prepared.stands

  pub for_writing : IsWritingFor volume.size device.words state path writing.offset bytes writing
  for_writing = writing_at volume.size device.words state path writing.offset bytes writing ready.planned.plan_is

  pub some_test : (length bytes == 0) ≡ false
  some_test = not_nothing (length bytes == 0) WriteNothing (WriteBytes writing) (λ action. (x : Writing) × (action ≡ WriteBytes x) × IsWritingFor volume.size device.words state path writing.offset bytes x) (λ e. cc) ready.planned.plan_is

  pub some : 0 < length bytes
  some = not_zero (length bytes) some_test

  found : Accepts (supply_beside volume.size others) state.tree state.room path writing.offset bytes
  found = Accepted-from_row (supply_beside volume.size others) state.tree state.room (Write path writing.offset bytes) tree ready.planned.accepted

  pub file : is_file state.tree writing.inode ≡ true
  file = files.file_found volume device state others ready.prepared.stands path writing.inode found.source for_writing.inode_is

  pub size : inode_size device.words writing.inode ≡ writing.old_size
  size = files.size_found volume device state others ready.prepared.stands path writing.inode found.source for_writing.inode_is ∙ sym for_writing.size_is

  pub small : writing.offset + writing.count ≤ 2 ^ 40
  small = let most = found.within in let long = for_writing.count_is in omega (arith, most, long)

  -- the others have left nothing of the file
  pub untouched : IsUntouched volume device.words others writing.inode
  untouched = ready.prepared.untouched.each writing.inode (names_at state.tree tree (Write path writing.offset bytes) path writing.inode (at_first path []) for_writing.inode_is)

  same_id : id_of state.tree path ≡ writing.inode
  same_id = files.id_found volume device state others ready.prepared.stands path writing.inode found.source for_writing.inode_is

  needed : length writing.new_pages ≡ pieces (writing.offset + length bytes) page_bytes - pieces writing.old_size page_bytes
  needed =
      for_writing.new_pages.count_is
      ∙ ap (λ (t : Bool). cond t 0 (rise (bytes_of state.tree (id_of state.tree path)) (writing.offset + length bytes))) some_test
      ∙ ap (λ (i : ℕ). pieces (writing.offset + length bytes) page_bytes - pieces (length (bytes_of state.tree i)) page_bytes) same_id
      ∙ ap (λ (n : ℕ). pieces (writing.offset + length bytes) page_bytes - pieces n page_bytes) (sym for_writing.size_is)

  -- so many pages are new
  pub count : length writing.new_pages ≡ pages_of_size (writing.offset + writing.count) - pages_of_size writing.old_size
  unfolding pages_of_size
  count = needed ∙ ap (λ (n : ℕ). pieces (writing.offset + n) page_bytes - pieces writing.old_size page_bytes) (sym for_writing.count_is)
