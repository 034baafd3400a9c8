-- What the plan of an accepted truncation says of its file, beside other calls.
use Rattle.std.proofs.Common.{◌≡◌, ◌≢◌, ℕ, ◌-◌, ◌<◌, ◌≤◌, ◌^◌, true, false, List, [], length, sym, ap, subst, ◌∙◌, arith}
use Rattle.std.proofs.lemmas.Bool.{eqb-false}
use Rattle.pm_trait.specs.DeviceView.{DeviceView}
use Rattle.layout.specs.Geometry.{pieces}
use Rattle.layout.specs.Fields.{inode_size}
use Rattle.tree_model.specs.PathText.{Route}
use Rattle.tree_model.specs.Run.{State}
use Rattle.tree_model.specs.Step.{id_of}
use Rattle.tree_model.specs.Tree.{IsTree, is_file, bytes_of, page_bytes}
use Rattle.tree_model.specs.Accepted.{MayTruncate}
use Rattle.tree_model.specs.declared.command.Command.{Command}
use Rattle.tree_model.specs.declared.command.Command.TheVariants.{Truncate}
use Rattle.tree_model.proofs.AcceptedLaws.{Accepted-from_row}
use Rattle.naming_laws.proofs.Named.{at_first, names_at}
use Rattle.image_reading.specs.Reading.{pages_of_size}
use Rattle.image_reading.specs.Residue.{Residue}
use Rattle.image_counts.specs.Laws.{supply_beside}
use Rattle.volatile_index.specs.Index.{pages_of}
use Rattle.volume.specs.Volume.{VolumeView}
use Rattle.volume.specs.Beside.{IsUntouched}
use Rattle.volume.specs.Planned.{IsPlanOf, IsResizingFor, is_size_of}
use Rattle.volume.specs.declared.plan.Resizing.{Resizing}
use Rattle.volume.specs.declared.plan.Action.TheVariants.{Resize, KeepSize}
use Rattle.volume.proofs.ContentPlans.{planned_resizing}
use Rattle.volume.proofs.WalkedBeside.{stands_tree}
use Rattle.data_ops.specs.Files.{HasPages}
use Rattle.data_ops.specs.ResizeStages.{CanCutFile}
use Rattle.waiting_laws.specs.Beside.{IsReady}
use Rattle.waiting_laws.proofs.FilePages as files
use Rattle.waiting_laws.proofs.ReadyStands.{not_nothing}

same_truncation : (path other : Route) (size more : ℕ) → ◌≡◌ {A = Command} (Truncate path size) (Truncate other more) → (other ≡ path) × (more ≡ size)
same_truncation path other size more e = let one : other ≡ path = cc in let two : more ≡ size = cc in (one, two)

-- the row of a truncation, at its own path
resizing_at : (P : ℕ) (I : List ℕ) (state : State) (path : Route) (size : ℕ) (resizing : Resizing) → IsPlanOf P I state (Truncate path size) (Resize resizing) → IsResizingFor P I state path size resizing
resizing_at P I state path size resizing plan =
    let (other, more, is, for) = planned_resizing P I state (Truncate path size) resizing plan in
    let (one, two) = same_truncation path other size more is in
    subst (λ (q : Route). IsResizingFor P I state q size resizing) one (subst (λ (n : ℕ). IsResizingFor P I state other n resizing) two for)

module _ (volume : VolumeView) (device : DeviceView) (state : State) (path : Route) (resizing : Resizing) (others : Residue)
    (ready : IsReady volume device state (Truncate path resizing.new_size) (Resize resizing) others) where
  tree : IsTree state.tree
  tree = stands_tree volume device state others ready.prepared.stands

  pub for_resizing : IsResizingFor volume.size device.words state path resizing.new_size resizing
  for_resizing = resizing_at volume.size device.words state path resizing.new_size resizing ready.planned.plan_is

  found : MayTruncate (supply_beside volume.size others) state.tree state.room path resizing.new_size
  found = Accepted-from_row (supply_beside volume.size others) state.tree state.room (Truncate path resizing.new_size) tree ready.planned.accepted

  pub file : is_file state.tree resizing.inode ≡ true
  file = files.file_found volume device state others ready.prepared.stands path resizing.inode found.source for_resizing.inode_is

  pub size : inode_size device.words resizing.inode ≡ resizing.old_size
  size = files.size_found volume device state others ready.prepared.stands path resizing.inode found.source for_resizing.inode_is ∙ sym for_resizing.old_is

  pub small : resizing.new_size ≤ 2 ^ 40
  small = let most = found.within in omega (arith, most)

  -- the others have left nothing of the file
  pub untouched : IsUntouched volume device.words others resizing.inode
  untouched = ready.prepared.untouched.each resizing.inode (names_at state.tree tree (Truncate path resizing.new_size) path resizing.inode (at_first path []) for_resizing.inode_is)

  same_id : id_of state.tree path ≡ resizing.inode
  same_id = files.id_found volume device state others ready.prepared.stands path resizing.inode found.source for_resizing.inode_is

  needed : length resizing.new_pages ≡ pieces resizing.new_size page_bytes - pieces resizing.old_size page_bytes
  needed =
      for_resizing.new_pages.count_is
      ∙ ap (λ (i : ℕ). pieces resizing.new_size page_bytes - pieces (length (bytes_of state.tree i)) page_bytes) same_id
      ∙ ap (λ (n : ℕ). pieces resizing.new_size page_bytes - pieces n page_bytes) (sym for_resizing.old_is)

  -- so many pages are new, or go
  pub count : length resizing.new_pages ≡ pages_of_size resizing.new_size - pages_of_size resizing.old_size
  unfolding pages_of_size
  count = needed

  pub cut : resizing.cut ≡ pages_of_size resizing.old_size - pages_of_size resizing.new_size
  unfolding pages_of_size
  cut = for_resizing.cut_is

  size_differs : is_size_of state path resizing.new_size ≡ false
  size_differs = not_nothing (is_size_of state path resizing.new_size) KeepSize (Resize resizing) (λ action. (x : Resizing) × (action ≡ Resize x) × IsResizingFor volume.size device.words state path resizing.new_size x) (λ e. cc) ready.planned.plan_is

  pub other : resizing.new_size ≢ resizing.old_size
  other same =
      let size : resizing.new_size ≡ length (bytes_of state.tree (id_of state.tree path)) = same ∙ for_resizing.old_is ∙ ap (λ (i : ℕ). length (bytes_of state.tree i)) (sym same_id) in
      eqb-false resizing.new_size (length (bytes_of state.tree (id_of state.tree path))) size_differs size

  -- ---- a cut

  pub held : HasPages volume.size device.words resizing.inode (pages_of volume.index resizing.inode)
  held = files.has_pages volume device state others ready.prepared.stands resizing.inode file untouched

  -- its pages are as many
  pub enough : resizing.cut ≤ length (pages_of volume.index resizing.inode)
  enough = let all = held.count in let was = ap pages_of_size size in let less = cut in omega (arith, all, was, less)

  pub can_cut : resizing.new_size < resizing.old_size → CanCutFile volume.size device.words resizing (pages_of volume.index resizing.inode)
  can_cut less = record {
    lower = record { least = held.least; most = held.most; live = held.live; less = let was = size in omega (arith, was, less) };
    held = held;
    old_size = size;
    cut = cut;
  }
