-- A running call that waits waits still when another call has made a step, and has the same steps to come.
use Rattle.std.proofs.Common.{◌≡◌, inl, ℕ, cond, List, [], refl, ap, ◌∙◌}
use Rattle.pm_trait.specs.DeviceView.{DeviceView}
use Rattle.pm_trait.specs.Unfolds.{events_in, fences_in}
use Rattle.tree_model.specs.Run.{State}
use Rattle.tree_model.specs.declared.command.Command.{Command}
use Rattle.image_reading.specs.Residue.{Residue}
use Rattle.volatile_index.specs.Index.{pages_of}
use Rattle.volume.specs.Volume.{VolumeView}
use Rattle.create_ops.specs.Stages as entries
use Rattle.unlink_ops.specs.LinkStages as links
use Rattle.unlink_ops.specs.RemovalStages as removals
use Rattle.data_ops.specs.declared.write.Stage.{Stage as WriteStage}
use Rattle.data_ops.specs.declared.write.Stage.TheVariants.{Nothing as NothingWritten, Inside, Growing as GrowsByWrite}
use Rattle.data_ops.specs.declared.truncate.Stage.{Stage as ResizeStage}
use Rattle.data_ops.specs.declared.truncate.Stage.TheVariants.{Nothing as SizeKept, Growing as GrowsBySize, Cutting}
use Rattle.data_ops.specs.Cutting.{growth_to}
use Rattle.data_ops.specs.ResizeStages as resizes
use Rattle.data_ops.specs.Writing.{growth_of}
use Rattle.data_ops.specs.WriteStages as writes
use Rattle.running_calls.specs.declared.running.Running.{Running}
use Rattle.running_calls.specs.declared.running.Running.TheVariants.{Makes, Links, Removes, Moves, Writes, Resizes}
use Rattle.running_calls.specs.Stages.{left_of}
use Rattle.waiting_laws.specs.Beside.{PassesBy, StandsWith}
use Rattle.waiting_laws.specs.Removing as removing
use Rattle.waiting_laws.proofs.CuttingWaits.{cut_still_law}
use Rattle.waiting_laws.proofs.GrowingStill.{growth_still_law}
use Rattle.waiting_laws.proofs.LinkingStill.{linking_still}
use Rattle.waiting_laws.proofs.MakingStill.{making_still}
use Rattle.waiting_laws.proofs.RemovingStill.{removing_still_law}
use Rattle.running_laws.specs.Waits.{held_by, left_by, bytes_of_command, Waits, LeavesAlone, WaitsStill, StillWaitsLaw}

module _ (old new : VolumeView) (before after : DeviceView) (state later : State) (command : Command) (others now : Residue) where
  -- the same steps have the same events and fences
  still : (running : Running) → Waits new after later command running now → left_by new running ≡ left_by old running → held_by new running ≡ held_by old running
      → left_of new (bytes_of_command command) running ≡ left_of old (bytes_of_command command) running → WaitsStill old new after later command running now
  still running waits left held steps = record { waits = waits; left = left; held = held; events = ap events_in steps; fences = ap fences_in steps }

  -- the pages that go are the same, and so are the steps over them
  removal_steps : (running : removals.RunningView) → PassesBy old new before after state later (removing.held_by old running.removal)
      → removals.left_of new running ≡ removals.left_of old running
  removal_steps running passes =
      ap (λ (P : ℕ). removals.left_at P running.removal (removals.pages_gone new running.removal) running.stage) passes.size
      ∙ ap (λ (pages : List ℕ). removals.left_at old.size running.removal pages running.stage) gone
    where
      gone : removals.pages_gone new running.removal ≡ removals.pages_gone old running.removal
      gone = ap (λ (pages : List ℕ). cond running.removal.loss.goes pages []) (passes.index running.removal.loss.inode (inl refl)).pages

  writes_still : (running : WriteStage) → Waits old before state command (Writes running) others → PassesBy old new before after state later (held_by old (Writes running))
      → StandsWith new after later (left_by old (Writes running)) now → LeavesAlone new.size after.words (held_by old (Writes running)) now
      → WaitsStill old new after later command (Writes running) now
  writes_still NothingWritten waits passes stands alone = absurd waits
  writes_still (Inside writing) waits passes stands alone = absurd waits
  writes_still (GrowsByWrite writing progress) (path, bytes, is, at, written, some, waits) passes stands alone =
      let bare = alone.pages writing.inode (inl refl) in
      let (grown, held) = growth_still_law old new before after state later (growth_of writing) bytes writing.new_pages progress others now waits passes stands bare in
      let here : writes.IsWriteAt new writing bytes = record { bounded = written.bounded; least = written.least; most = grown.knows.most; count = written.count } in
      still (Writes (GrowsByWrite writing progress)) (path, bytes, is, passes.nodes.paths path writing.inode (inl refl) at, here, some, grown) refl held
      (ap (λ (P : ℕ). writes.left_of P (bytes_of_command command) (GrowsByWrite writing progress)) passes.size)

  resizes_still : (running : ResizeStage) → Waits old before state command (Resizes running) others → PassesBy old new before after state later (held_by old (Resizes running))
      → StandsWith new after later (left_by old (Resizes running)) now → LeavesAlone new.size after.words (held_by old (Resizes running)) now
      → WaitsStill old new after later command (Resizes running) now
  resizes_still SizeKept waits passes stands alone = absurd waits
  resizes_still (GrowsBySize resizing progress) (path, is, at, bounded, waits) passes stands alone =
      let bare = alone.pages resizing.inode (inl refl) in
      let (grown, held) = growth_still_law old new before after state later (growth_to resizing) [] resizing.new_pages progress others now waits passes stands bare in
      still (Resizes (GrowsBySize resizing progress)) (path, is, passes.nodes.paths path resizing.inode (inl refl) at, bounded, grown) refl held
      (ap (λ (P : ℕ). resizes.left_at P old (GrowsBySize resizing progress)) passes.size)
  resizes_still (Cutting resizing progress) (path, is, waits) passes stands alone =
      let (cut, left, held) = cut_still_law old new before after state later resizing progress others now waits passes stands (alone.pages resizing.inode (inl refl)) in
      still (Resizes (Cutting resizing progress)) (path, is, cut) left held
      (ap (λ (P : ℕ). resizes.left_of_cut P resizing (pages_of new.index resizing.inode) progress) passes.size
      ∙ ap (λ (pages : List ℕ). resizes.left_of_cut old.size resizing pages progress) (passes.index resizing.inode (inl refl)).pages)

  waits_still : (running : Running) → Waits old before state command running others → PassesBy old new before after state later (held_by old running)
      → StandsWith new after later (left_by old running) now → LeavesAlone new.size after.words (held_by old running) now → WaitsStill old new after later command running now
  waits_still (Makes running) (path, is, waits) passes stands alone =
      let made = making_still old new before after state later path running others now waits passes stands (alone.pages running.entry.inode (inl refl)) in
      still (Makes running) (path, is, made) refl refl (ap (λ (P : ℕ). entries.left_of P running) passes.size)
  waits_still (Links running) (from, path, is, waits) passes stands alone =
      let linked = linking_still old new before after state later from path running others now waits passes stands in
      still (Links running) (from, path, is, linked) refl refl (ap (λ (P : ℕ). links.left_of P running) passes.size)
  waits_still (Removes running) (path, is, waits) passes stands alone =
      let bare = alone.pages running.removal.loss.inode (inl refl) in
      let (removed, left, held) = removing_still_law old new before after state later running others now waits passes stands bare alone.bare in
      still (Removes running) (path, is, removed) left held (removal_steps running passes)
  waits_still (Moves running) waits passes stands alone = absurd waits
  waits_still (Writes running) waits passes stands alone = writes_still running waits passes stands alone
  waits_still (Resizes running) waits passes stands alone = resizes_still running waits passes stands alone

pub still_waits_law : StillWaitsLaw
still_waits_law old new before after state later command running others now waits passes stands alone =
    waits_still old new before after state later command others now running waits passes stands alone
