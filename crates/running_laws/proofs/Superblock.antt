-- No step of a call stores to the superblock.
use Rattle.std.proofs.Common.{◌≡◌, ℕ, List, [], Option, Some, None, ap}
use Rattle.std.specs.Prelude.{Contains, slice_index}
use Rattle.pm_trait.specs.Unfolds.{KeepsWords}
use Rattle.layout.specs.Superblock.{IsSuperblockWord}
use Rattle.fence_token.specs.declared.states.Clean.{Clean}
use Rattle.image_laws.proofs.Beside.{gives_keeps}
use Rattle.content_laws.proofs.Beside.{sized_keeps, inside_keeps, fills_keeps, takes_keeps, clears_keeps}
use Rattle.volume.specs.Volume.{VolumeView}
use Rattle.volume.specs.declared.plan.NewEntry.{NewEntry}
use Rattle.volume.specs.declared.plan.NewName.{NewName}
use Rattle.volume.specs.declared.plan.Resizing.{Resizing}
use Rattle.volume.specs.declared.plan.Removal.{Removal}
use Rattle.entry_steps.specs.declared.place.NamePlace.{NamePlace}
use Rattle.entry_steps.specs.declared.place.NamePlace.TheVariants.{Slot, Page}
use Rattle.entry_steps.specs.Waiting.{step_of_place}
use Rattle.entry_steps.proofs.Beside.{owning_keeps, naming_keeps}
use Rattle.removal_steps.specs.Steps.{gone_pages}
use Rattle.removal_steps.proofs.Beside.{unnaming_keeps, clearing_keeps, giving_keeps, freeing_keeps}
use Rattle.create_ops.specs.Stages as entries
use Rattle.create_ops.specs.declared.run.Stage.{Stage as EntryStage}
use Rattle.create_ops.specs.declared.run.Stage.TheVariants.{Begun as EntryBegun, Written as EntryWritten, Claimed as EntryClaimed}
use Rattle.create_ops.proofs.Course as entry_course
use Rattle.unlink_ops.specs.LinkStages as links
use Rattle.unlink_ops.specs.RemovalStages as removals
use Rattle.unlink_ops.specs.Taking.{falling_by}
use Rattle.unlink_ops.specs.declared.link.Stage.{Stage as LinkStage}
use Rattle.unlink_ops.specs.declared.link.Stage.TheVariants.{Begun as LinkBegun, Written as LinkWritten, Claimed as LinkClaimed}
use Rattle.unlink_ops.specs.declared.removal.Stage.{Stage as RemovalStage}
use Rattle.unlink_ops.specs.declared.removal.Stage.TheVariants.{Begun as NameThere, Unnamed, Cleared as SlotCleared, Disowned as PagesDisowned}
use Rattle.unlink_ops.proofs.LinkCourse as link_course
use Rattle.rename_ptr.specs.declared.rename.Stage.TheVariants.{Nothing as NamesKept, Moving as MovesName}
use Rattle.data_ops.specs.Cutting.{gone_pages as cut_pages, growth_to}
use Rattle.data_ops.specs.Writing.{growth_of}
use Rattle.data_ops.specs.GrowthStages.{step_of_growth}
use Rattle.data_ops.specs.ResizeStages as resizes
use Rattle.data_ops.specs.WriteStages as writes
use Rattle.data_ops.specs.declared.grow.Growth.{Growth}
use Rattle.data_ops.specs.declared.grow.Progress.{Progress}
use Rattle.data_ops.specs.declared.grow.Progress.TheVariants.{Begun, Filled, Owned}
use Rattle.data_ops.specs.declared.truncate.CutProgress.{CutProgress}
use Rattle.data_ops.specs.declared.truncate.CutProgress.TheVariants.{Begun as CutBegun, Lowered, Trimmed}
use Rattle.data_ops.specs.declared.truncate.Stage.{Stage as ResizeStage}
use Rattle.data_ops.specs.declared.truncate.Stage.TheVariants.{Nothing as SizeKept, Growing as GrowsBySize, Cutting}
use Rattle.data_ops.specs.declared.write.Stage.{Stage as WriteStage}
use Rattle.data_ops.specs.declared.write.Stage.TheVariants.{Nothing as NothingWritten, Inside, Growing as GrowsByWrite}
use Rattle.waiting_laws.proofs.MovingMark.{step_keeps as moving_keeps}
use Rattle.running_calls.specs.Stages.{step_of}
use Rattle.running_calls.specs.declared.running.Running.{Running}
use Rattle.running_calls.specs.declared.running.Running.TheVariants.{Makes, Links, Removes, Moves, Writes, Resizes}
use Rattle.running_laws.specs.Steps.{SuperblockLaw}

module _ (P : ℕ) (bytes I J : List ℕ) where
  abbrev Keeps : Type 0
  Keeps = KeepsWords IsSuperblockWord I J

  idle_keeps : J ≡ I → Keeps
  idle_keeps same = λ word is. ap (λ (words : List ℕ). slice_index words word) same

  place_keeps : (directory slot inode : ℕ) (place : NamePlace Clean) → (step_of_place P directory slot inode place).Makes I J → Keeps
  place_keeps directory slot inode (Slot dentry) makes = naming_keeps P slot inode I J makes
  place_keeps directory slot inode (Page page) makes = owning_keeps P page directory I J makes

  entry_keeps : (entry : NewEntry) (stage : EntryStage) → (entries.step_at P entry stage).Makes I J → Keeps
  entry_keeps entry EntryBegun makes = (entry_course.keeps P entry).0 I J makes
  entry_keeps entry (EntryWritten node) makes = place_keeps entry.directory entry.slot entry.inode node.place makes
  entry_keeps entry (EntryClaimed node) makes = naming_keeps P entry.slot entry.inode I J makes

  link_keeps : (link : NewName) (stage : LinkStage) → (links.step_at P link stage).Makes I J → Keeps
  link_keeps link LinkBegun makes = (link_course.keeps P link).0 I J makes
  link_keeps link (LinkWritten file) makes = place_keeps link.directory link.slot link.inode file.place makes
  link_keeps link (LinkClaimed file) makes = naming_keeps P link.slot link.inode I J makes

  removal_keeps : (removal : Removal) (pages : List ℕ) (stage : RemovalStage) → (removals.step_at P removal pages stage).Makes I J → Keeps
  removal_keeps removal pages NameThere makes = unnaming_keeps P removal.slot I J makes
  removal_keeps removal pages Unnamed makes = clearing_keeps P removal.slot (falling_by removal.loss.kind removal) I J makes
  removal_keeps removal pages SlotCleared makes = giving_keeps P pages removal.given_back I J makes
  removal_keeps removal pages PagesDisowned makes = freeing_keeps P pages removal.given_back removal.loss.goes removal.loss.inode I J makes

  growth_keeps : (growth : Growth) (written pages : List ℕ) (progress : Progress) → (step_of_growth P growth written pages progress).Makes I J → Keeps
  growth_keeps growth written pages Begun makes = fills_keeps P I J growth.inode growth.offset written pages makes
  growth_keeps growth written pages Filled makes = takes_keeps P I J growth.inode pages makes
  growth_keeps growth written pages Owned makes = sized_keeps I J growth.inode growth.new_size makes

  cut_keeps : (resizing : Resizing) (pages : List ℕ) (progress : CutProgress) → (resizes.step_of_cut P resizing pages progress).Makes I J → Keeps
  cut_keeps resizing pages CutBegun makes = sized_keeps I J resizing.inode resizing.new_size makes
  cut_keeps resizing pages Lowered makes = gives_keeps P I J (Contains (cut_pages resizing pages)) makes
  cut_keeps resizing pages Trimmed makes = clears_keeps P I J (Contains (cut_pages resizing pages)) makes

  write_keeps : (stage : WriteStage) → (writes.step_of P bytes stage).Makes I J → Keeps
  write_keeps NothingWritten makes = idle_keeps makes
  write_keeps (Inside writing) makes = inside_keeps P I J writing.inode writing.offset bytes makes.writes
  write_keeps (GrowsByWrite writing progress) makes = growth_keeps (growth_of writing) bytes writing.new_pages progress makes

module _ (volume : VolumeView) (bytes I J : List ℕ) where
  resize_keeps : (stage : ResizeStage) → (resizes.step_of volume stage).Makes I J → KeepsWords IsSuperblockWord I J
  resize_keeps SizeKept makes = idle_keeps volume.size bytes I J makes
  resize_keeps (GrowsBySize resizing progress) makes = growth_keeps volume.size bytes I J (growth_to resizing) [] resizing.new_pages progress makes
  resize_keeps (Cutting resizing progress) makes = cut_keeps volume.size bytes I J resizing _ progress makes

  step_keeps : (running : Running) → (step_of volume bytes running).Makes I J → KeepsWords IsSuperblockWord I J
  step_keeps (Makes running) makes = entry_keeps volume.size bytes I J running.entry running.stage makes
  step_keeps (Links running) makes = link_keeps volume.size bytes I J running.link running.stage makes
  step_keeps (Removes running) makes = removal_keeps volume.size bytes I J running.removal _ running.stage makes
  step_keeps (Moves NamesKept) makes = idle_keeps volume.size bytes I J makes
  step_keeps (Moves (MovesName moving progress)) makes = moving_keeps volume.size moving (gone_pages volume moving.replaced) I J progress makes
  step_keeps (Writes running) makes = write_keeps volume.size bytes I J running makes
  step_keeps (Resizes running) makes = resize_keeps running makes

pub superblock_law : SuperblockLaw
superblock_law volume bytes words next running makes = step_keeps volume bytes words next running makes
