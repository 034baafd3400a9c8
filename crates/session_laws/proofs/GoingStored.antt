-- The next step of a call that waits has a store, and behind it the volume keeps what no step changes.
use Rattle.std.proofs.Common.{◌≡◌, ℕ, ◌<◌, true, List, [], ◌∷◌, None, refl, ◌∙◌, arith}
use Rattle.pm_trait.specs.DeviceView.{DeviceView}
use Rattle.pm_trait.specs.Unfolds.{Step, fences_in}
use Rattle.fence_token.specs.declared.states.Clean.{Clean}
use Rattle.tree_model.specs.Run.{State}
use Rattle.tree_model.specs.declared.command.Command.{Command}
use Rattle.tree_model.specs.declared.reply.Reply.TheVariants.{Done}
use Rattle.image_reading.specs.Residue.{Residue}
use Rattle.volume.specs.Volume.{VolumeView}
use Rattle.volume.specs.Entered.{pages_of_option}
use Rattle.volume.specs.declared.plan.NewEntry.{NewEntry}
use Rattle.volume.specs.declared.plan.NewName.{NewName}
use Rattle.volume.specs.declared.plan.Removal.{Removal}
use Rattle.volume.proofs.Moments.{IsSameBeside, takes_beside, inode_beside, pages_beside, name_beside, removal_beside, page_beside, cut_beside, node_beside}
use Rattle.entry_steps.specs.declared.place.NamePlace.{NamePlace}
use Rattle.entry_steps.specs.declared.place.NamePlace.TheVariants.{Slot, Page}
use Rattle.entry_steps.specs.Waiting.{left_of_place}
use Rattle.create_ops.specs.Stages as entries
use Rattle.create_ops.specs.declared.run.Stage.{Stage as EntryStage}
use Rattle.create_ops.specs.declared.run.Stage.TheVariants.{Begun as EntryBegun, Written as EntryWritten, Claimed as EntryClaimed}
use Rattle.unlink_ops.specs.LinkStages as links
use Rattle.unlink_ops.specs.declared.link.Stage.{Stage as LinkStage}
use Rattle.unlink_ops.specs.declared.link.Stage.TheVariants.{Begun as LinkBegun, Written as LinkWritten, Claimed as LinkClaimed}
use Rattle.unlink_ops.specs.RemovalStages as removals
use Rattle.unlink_ops.specs.declared.removal.Stage.{Stage as RemovalStage}
use Rattle.unlink_ops.specs.declared.removal.Stage.TheVariants.{Begun as NameThere, Unnamed, Cleared as SlotCleared, Disowned as PagesDisowned}
use Rattle.unlink_ops.proofs.Passing.{some_store}
use Rattle.rename_ptr.specs.declared.rename.Stage.TheVariants.{Nothing as NamesKept, Moving as MovesName}
use Rattle.data_ops.specs.GrowthStages.{EntersGrowth}
use Rattle.data_ops.specs.declared.grow.Progress.{Progress}
use Rattle.data_ops.specs.declared.grow.Progress.TheVariants.{Begun, Filled, Owned}
use Rattle.data_ops.specs.declared.truncate.CutProgress.TheVariants.{Begun as CutBegun, Lowered, Trimmed}
use Rattle.data_ops.specs.declared.truncate.Stage.{Stage as ResizeStage}
use Rattle.data_ops.specs.declared.truncate.Stage.TheVariants.{Nothing as SizeKept, Growing as GrowsBySize, Cutting}
use Rattle.data_ops.specs.declared.write.Stage.{Stage as WriteStage}
use Rattle.data_ops.specs.declared.write.Stage.TheVariants.{Nothing as NothingWritten, Inside, Growing as GrowsByWrite}
use Rattle.data_ops.specs.ResizeStages as resizes
use Rattle.data_ops.specs.WriteStages as writes
use Rattle.running_calls.specs.declared.running.Running.{Running}
use Rattle.running_calls.specs.declared.running.Running.TheVariants.{Makes, Links, Removes, Moves, Writes, Resizes}
use Rattle.running_calls.specs.Stages.{StandsStage, EntersAt, left_of, step_of}
use Rattle.rename_ptr.specs.declared.rename.Stage.TheVariants.{Nothing as NamesKept, Moving as MovesName}
use Rattle.rename_ptr.proofs.Known.{enters_beside as move_enters}
use Rattle.waiting_laws.proofs.CostsResizing.{resizing_costs}
use Rattle.waiting_laws.proofs.CostsSteps.{costs_first}
use Rattle.running_laws.specs.Waits.{held_by, Waits}

-- ---- what a step doesn't change of the volume

module _ (old new : VolumeView) where
  same_beside : new ≡ old → IsSameBeside old new
  same_beside is = page_beside old new 0 None is

  entry_beside : (entry : NewEntry) (place : NamePlace Clean) → entries.EntersAfterPlace entry place old new → IsSameBeside old new
  entry_beside entry (Slot slot) enters = name_beside old new entry.directory entry.name entry.slot entry.new_page enters
  entry_beside entry (Page page) enters = same_beside enters

  entry_enters : (entry : NewEntry) (stage : EntryStage) → entries.EntersAtStage entry stage old new → IsSameBeside old new
  entry_enters entry EntryBegun (taken, takes, enters) =
      let first = takes_beside old taken (pages_of_option entry.new_page) takes in
      let last = inode_beside taken new entry.inode enters in
      record { size = last.size ∙ first.size; stopped = last.stopped ∙ first.stopped; marked = last.marked ∙ first.marked; kept = last.kept ∙ first.kept }
  entry_enters entry (EntryWritten node) enters = entry_beside entry node.place enters
  entry_enters entry (EntryClaimed node) enters = name_beside old new entry.directory entry.name entry.slot entry.new_page enters

  link_beside : (link : NewName) (place : NamePlace Clean) → links.EntersAfterPlace link place old new → IsSameBeside old new
  link_beside link (Slot slot) enters = name_beside old new link.directory link.name link.slot link.new_page enters
  link_beside link (Page page) enters = same_beside enters

  link_enters : (link : NewName) (stage : LinkStage) → links.EntersAtStage link stage old new → IsSameBeside old new
  link_enters link LinkBegun enters = takes_beside old new (pages_of_option link.new_page) enters
  link_enters link (LinkWritten file) enters = link_beside link file.place enters
  link_enters link (LinkClaimed file) enters = name_beside old new link.directory link.name link.slot link.new_page enters

  removal_enters : (removal : Removal) (stage : RemovalStage) → removals.EntersAtStage removal stage old new → IsSameBeside old new
  removal_enters removal NameThere enters = removal_beside old new removal.directory removal.name enters
  removal_enters removal Unnamed enters = same_beside enters
  removal_enters removal SlotCleared enters = same_beside enters
  removal_enters removal PagesDisowned enters =
      let first = page_beside old enters.given removal.directory removal.given_back enters.page in
      let last = node_beside enters.given new removal.loss.goes removal.loss.inode enters.inode in
      record { size = last.size ∙ first.size; stopped = last.stopped ∙ first.stopped; marked = last.marked ∙ first.marked; kept = last.kept ∙ first.kept }

  growth_enters : (inode : ℕ) (pages : List ℕ) (progress : Progress) → EntersGrowth inode pages progress old new → IsSameBeside old new
  growth_enters inode pages Begun enters = takes_beside old new pages enters
  growth_enters inode pages Filled enters = same_beside enters
  growth_enters inode pages Owned enters = pages_beside old new inode pages enters

  write_enters : (stage : WriteStage) → writes.EntersAt stage old new → IsSameBeside old new
  write_enters NothingWritten enters = same_beside enters
  write_enters (Inside writing) enters = same_beside enters
  write_enters (GrowsByWrite writing progress) enters = growth_enters writing.inode writing.new_pages progress enters

  resize_enters : (stage : ResizeStage) → resizes.EntersAt stage old new → IsSameBeside old new
  resize_enters SizeKept enters = same_beside enters
  resize_enters (GrowsBySize resizing progress) enters = growth_enters resizing.inode resizing.new_pages progress enters
  resize_enters (Cutting resizing CutBegun) enters = same_beside enters
  resize_enters (Cutting resizing Lowered) enters = same_beside enters
  resize_enters (Cutting resizing Trimmed) enters = cut_beside old new resizing.inode resizing.cut enters

-- of whatever call, a rename too
pub enters_same : (old new : VolumeView) (running : Running) → EntersAt running old new → IsSameBeside old new
enters_same old new (Makes running) enters = entry_enters old new running.entry running.stage enters
enters_same old new (Links running) enters = link_enters old new running.link running.stage enters
enters_same old new (Removes running) enters = removal_enters old new running.removal running.stage enters
enters_same old new (Moves NamesKept) enters = same_beside old new enters
enters_same old new (Moves (MovesName moving progress)) enters = move_enters old new moving progress enters
enters_same old new (Writes running) enters = write_enters old new running enters
enters_same old new (Resizes running) enters = resize_enters old new running enters

-- ---- its store

some_first : (step : Step) (later : List Step) → step.stores ≡ true → 0 < fences_in (step ∷ later)
some_first step later stores = let costs = (costs_first step later stores).fences in omega (arith, costs)

module _ (volume : VolumeView) (device : DeviceView) (bytes : List ℕ) (state : State) (command : Command) (others : Residue) where
  place_stores : (P d s i : ℕ) (place : NamePlace Clean) → 0 < fences_in (left_of_place P d s i place)
  place_stores P d s i (Slot slot) = omega arith
  place_stores P d s i (Page page) = omega arith

  entry_stores : (entry : NewEntry) (stage : EntryStage) → Waits volume device state command (Makes (record { entry = entry; stage = stage })) others
      → 0 < fences_in (left_of volume bytes (Makes (record { entry = entry; stage = stage })))
  entry_stores entry EntryBegun waits = absurd waits.2.name
  entry_stores entry (EntryWritten node) waits = place_stores volume.size entry.directory entry.slot entry.inode node.place
  entry_stores entry (EntryClaimed node) waits = omega arith

  link_stores : (link : NewName) (stage : LinkStage) → Waits volume device state command (Links (record { link = link; stage = stage })) others
      → 0 < fences_in (left_of volume bytes (Links (record { link = link; stage = stage })))
  link_stores link LinkBegun waits = absurd waits.3.name
  link_stores link (LinkWritten file) waits = place_stores volume.size link.directory link.slot link.inode file.place
  link_stores link (LinkClaimed file) waits = omega arith

  removal_stores : (removal : Removal) (stage : RemovalStage) → removals.StandsStage volume device (record { removal = removal; stage = stage })
      → 0 < fences_in (removals.left_of volume (record { removal = removal; stage = stage }))
  removal_stores removal NameThere stands = omega arith
  removal_stores removal Unnamed stands = omega arith
  removal_stores removal SlotCleared stands =
      let pages = removals.pages_gone volume removal in
      some_first (removals.step_at volume.size removal pages SlotCleared) (removals.left_at volume.size removal pages PagesDisowned)
      (some_store volume device removal SlotCleared stands)
  removal_stores removal PagesDisowned stands =
      some_first (removals.step_at volume.size removal (removals.pages_gone volume removal) PagesDisowned) [] (some_store volume device removal PagesDisowned stands)

  write_stores : (stage : WriteStage) → Waits volume device state command (Writes stage) others → 0 < fences_in (writes.left_of volume.size bytes stage)
  write_stores NothingWritten waits = absurd waits
  write_stores (Inside writing) waits = absurd waits
  write_stores (GrowsByWrite writing Begun) waits = absurd waits.6.new_pages
  write_stores (GrowsByWrite writing Filled) waits = omega arith
  write_stores (GrowsByWrite writing Owned) waits = omega arith

  resize_stores : (stage : ResizeStage) → Waits volume device state command (Resizes stage) others
      → resizes.StandsStage volume device stage → 0 < fences_in (resizes.left_of volume stage)
  resize_stores SizeKept waits stands = absurd waits
  resize_stores (GrowsBySize resizing Begun) waits stands = absurd waits.4.new_pages
  resize_stores (GrowsBySize resizing Filled) waits stands = omega arith
  resize_stores (GrowsBySize resizing Owned) waits stands = omega arith
  resize_stores (Cutting resizing CutBegun) waits stands = absurd waits.2.cut
  resize_stores (Cutting resizing Lowered) waits stands =
      let costs = (resizing_costs.goes_on volume device (Cutting resizing Lowered) (Cutting resizing Trimmed) stands refl).fences in
      omega (arith, costs)
  resize_stores (Cutting resizing Trimmed) waits stands =
      let costs = (resizing_costs.ends volume device (Cutting resizing Trimmed) Done stands refl (λ none. (cc))).fences in
      omega (arith, costs)

  pub some_fence : (running : Running) → Waits volume device state command running others → StandsStage volume device bytes running → 0 < fences_in (left_of volume bytes running)
  some_fence (Makes running) waits stands = entry_stores running.entry running.stage waits
  some_fence (Links running) waits stands = link_stores running.link running.stage waits
  some_fence (Removes running) waits stands = removal_stores running.removal running.stage stands
  some_fence (Moves running) waits stands = absurd waits
  some_fence (Writes running) waits stands = write_stores running waits
  some_fence (Resizes running) waits stands = resize_stores running waits stands

-- ---- what is the same whatever the volume keeps, or knows

-- the step has the same events however many are kept
pub step_events_kept : (k : ℕ) (volume : VolumeView) (bytes : List ℕ) (running : Running)
    → (step_of (record volume { kept = k }) bytes running).events ≡ (step_of volume bytes running).events
step_events_kept k volume bytes (Makes running) = refl
step_events_kept k volume bytes (Links running) = refl
step_events_kept k volume bytes (Removes running) = refl
step_events_kept k volume bytes (Moves NamesKept) = refl
step_events_kept k volume bytes (Moves (MovesName moving progress)) = refl
step_events_kept k volume bytes (Writes running) = refl
step_events_kept k volume bytes (Resizes SizeKept) = refl
step_events_kept k volume bytes (Resizes (GrowsBySize resizing progress)) = refl
step_events_kept k volume bytes (Resizes (Cutting resizing progress)) = refl

-- the call holds the same inodes
pub same_inodes : (one other : VolumeView) (running : Running) → (held_by one running).inodes ≡ (held_by other running).inodes
same_inodes one other (Makes running) = refl
same_inodes one other (Links running) = refl
same_inodes one other (Removes running) = refl
same_inodes one other (Moves running) = refl
same_inodes one other (Writes NothingWritten) = refl
same_inodes one other (Writes (Inside writing)) = refl
same_inodes one other (Writes (GrowsByWrite writing progress)) = refl
same_inodes one other (Resizes SizeKept) = refl
same_inodes one other (Resizes (GrowsBySize resizing progress)) = refl
same_inodes one other (Resizes (Cutting resizing progress)) = refl
