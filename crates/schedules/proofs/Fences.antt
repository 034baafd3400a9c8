-- A running call has at most eight fences left, whatever the volume.
use Rattle.std.proofs.Common.{ℕ, ◌+◌, ◌≤◌, Bool, true, false, if◌then◌else◌, List, [], ◌∷◌, ◌++◌, length, Option, None, Some, arith}
use Rattle.pm_trait.specs.Unfolds.{Step, fences_in}
use Rattle.fence_token.specs.declared.states.Clean.{Clean}
use Rattle.volume.specs.Volume.{VolumeView}
use Rattle.volume.specs.declared.plan.Moving.{Moving}
use Rattle.volume.specs.declared.plan.NewEntry.{NewEntry}
use Rattle.volume.specs.declared.plan.NewName.{NewName}
use Rattle.volume.specs.declared.plan.Removal.{Removal}
use Rattle.volume.specs.declared.plan.Resizing.{Resizing}
use Rattle.entry_steps.specs.Steps.{claim_steps, naming}
use Rattle.entry_steps.specs.Waiting.{left_of_place}
use Rattle.entry_steps.specs.declared.place.NamePlace.{NamePlace}
use Rattle.entry_steps.specs.declared.place.NamePlace.TheVariants.{Slot, Page}
use Rattle.create_ops.specs.Stages as entries
use Rattle.create_ops.specs.declared.run.Stage.{Stage as EntryStage}
use Rattle.create_ops.specs.declared.run.Stage.TheVariants.{Begun as EntryBegun, Written as EntryWritten, Claimed as EntryClaimed}
use Rattle.unlink_ops.specs.LinkStages as links
use Rattle.unlink_ops.specs.RemovalStages as removals
use Rattle.unlink_ops.specs.declared.link.Stage.{Stage as LinkStage}
use Rattle.unlink_ops.specs.declared.link.Stage.TheVariants.{Begun as LinkBegun, Written as LinkWritten, Claimed as LinkClaimed}
use Rattle.unlink_ops.specs.declared.removal.Stage.{Stage as RemovalStage}
use Rattle.unlink_ops.specs.declared.removal.Stage.TheVariants.{Begun as NameThere, Unnamed, Cleared as SlotCleared, Disowned as PagesDisowned}
use Rattle.rename_ptr.specs.Stages as moves
use Rattle.rename_ptr.specs.Steps.{opening, moving_steps}
use Rattle.rename_ptr.specs.declared.rename.Progress.{Progress as MoveProgress}
use Rattle.rename_ptr.specs.declared.rename.Progress.TheVariants.{Begun as MoveBegun, Filled as MoveFilled, Opened, Pointed, Moved, Left, Cleared, Disowned}
use Rattle.rename_ptr.specs.declared.rename.Stage.{Stage as MoveStage}
use Rattle.rename_ptr.specs.declared.rename.Stage.TheVariants.{Nothing as NamesKept, Moving as MovesName}
use Rattle.data_ops.specs.GrowthStages.{left_of_growth}
use Rattle.data_ops.specs.WriteStages as writes
use Rattle.data_ops.specs.ResizeStages as resizes
use Rattle.data_ops.specs.declared.grow.Growth.{Growth}
use Rattle.data_ops.specs.declared.grow.Progress.{Progress}
use Rattle.data_ops.specs.declared.grow.Progress.TheVariants.{Begun, Filled, Owned}
use Rattle.data_ops.specs.declared.truncate.CutProgress.{CutProgress}
use Rattle.data_ops.specs.declared.truncate.CutProgress.TheVariants.{Begun as CutBegun, Lowered, Trimmed}
use Rattle.data_ops.specs.declared.truncate.Stage.{Stage as ResizeStage}
use Rattle.data_ops.specs.declared.truncate.Stage.TheVariants.{Nothing as SizeKept, Growing as GrowsBySize, Cutting}
use Rattle.data_ops.specs.declared.write.Stage.{Stage as WriteStage}
use Rattle.data_ops.specs.declared.write.Stage.TheVariants.{Nothing as NothingWritten, Inside, Growing as GrowsByWrite}
use Rattle.running_calls.specs.declared.running.Running.{Running}
use Rattle.running_calls.specs.declared.running.Running.TheVariants.{Makes, Links, Removes, Moves, Writes, Resizes}
use Rattle.running_calls.specs.Stages.{left_of}
use Rattle.running_laws.specs.Waits.{bytes_of_command}
use Rattle.session_laws.specs.Calls.{Call, fences_of_call}

-- a step has at most one
few_fences : (steps : List Step) → fences_in steps ≤ length steps
few_fences [] = omega arith
few_fences (step ∷ steps) =
    let rest = few_fences steps in
    elim (step.stores) as (λ (t : Bool). (if t then 1 else 0) + fences_in steps ≤ length (step ∷ steps)) [ true ↦ omega (arith, rest) | false ↦ omega (arith, rest) ]

-- these steps have at most eight
pub record HasFew (steps : List Step) : Type 0 where
  pub few : fences_in steps ≤ 8

short_few : (steps : List Step) → length steps ≤ 8 → HasFew steps
short_few steps short = let few = few_fences steps in record { few = omega (arith, few, short) }

-- ---- a name

place_few : (P directory slot inode : ℕ) (place : NamePlace Clean) → HasFew (left_of_place P directory slot inode place)
place_few P directory slot inode (Slot dentry) = short_few _ (omega arith)
place_few P directory slot inode (Page page) = short_few _ (omega arith)

begun_few : (first : Step) (P directory slot inode : ℕ) (page : Option ℕ) → HasFew (first ∷ (claim_steps P directory page ++ naming P slot inode ∷ []))
begun_few first P directory slot inode None = short_few _ (omega arith)
begun_few first P directory slot inode (Some page) = short_few _ (omega arith)

entry_few : (P : ℕ) (entry : NewEntry) (stage : EntryStage) → HasFew (entries.left_at P entry stage)
entry_few P entry EntryBegun = begun_few _ P entry.directory entry.slot entry.inode entry.new_page
entry_few P entry (EntryWritten node) = place_few P entry.directory entry.slot entry.inode node.place
entry_few P entry (EntryClaimed node) = short_few _ (omega arith)

link_few : (P : ℕ) (link : NewName) (stage : LinkStage) → HasFew (links.left_at P link stage)
link_few P link LinkBegun = begun_few _ P link.directory link.slot link.inode link.new_page
link_few P link (LinkWritten file) = place_few P link.directory link.slot link.inode file.place
link_few P link (LinkClaimed file) = short_few _ (omega arith)

removal_few : (P : ℕ) (removal : Removal) (pages : List ℕ) (stage : RemovalStage) → HasFew (removals.left_at P removal pages stage)
removal_few P removal pages NameThere = short_few _ (omega arith)
removal_few P removal pages Unnamed = short_few _ (omega arith)
removal_few P removal pages SlotCleared = short_few _ (omega arith)
removal_few P removal pages PagesDisowned = short_few _ (omega arith)

-- ---- a move

opening_few : (P : ℕ) (moving : Moving) (pages : List ℕ) (page : Option ℕ) → HasFew (opening P moving page ++ moving_steps P moving pages)
opening_few P moving pages None = short_few _ (omega arith)
opening_few P moving pages (Some page) = short_few _ (omega arith)

claiming_few : (P : ℕ) (moving : Moving) (pages : List ℕ) (page : Option ℕ) → HasFew (claim_steps P moving.to_directory page ++ moving_steps P moving pages)
claiming_few P moving pages None = short_few _ (omega arith)
claiming_few P moving pages (Some page) = short_few _ (omega arith)

move_few : (P : ℕ) (moving : Moving) (pages : List ℕ) (progress : MoveProgress) → HasFew (moves.left_at P moving pages progress)
move_few P moving pages MoveBegun = opening_few P moving pages moving.new_page
move_few P moving pages MoveFilled = claiming_few P moving pages moving.new_page
move_few P moving pages Opened = short_few _ (omega arith)
move_few P moving pages Pointed = short_few _ (omega arith)
move_few P moving pages Moved = short_few _ (omega arith)
move_few P moving pages Left = short_few _ (omega arith)
move_few P moving pages Cleared = short_few _ (omega arith)
move_few P moving pages Disowned = short_few _ (omega arith)

moves_few : (volume : VolumeView) (stage : MoveStage) → HasFew (moves.left_of volume stage)
moves_few volume NamesKept = short_few _ (omega arith)
moves_few volume (MovesName moving progress) = move_few volume.size moving _ progress

-- ---- bytes and sizes

growth_few : (P : ℕ) (growth : Growth) (bytes pages : List ℕ) (progress : Progress) → HasFew (left_of_growth P growth bytes pages progress)
growth_few P growth bytes pages Begun = short_few _ (omega arith)
growth_few P growth bytes pages Filled = short_few _ (omega arith)
growth_few P growth bytes pages Owned = short_few _ (omega arith)

writes_few : (P : ℕ) (bytes : List ℕ) (stage : WriteStage) → HasFew (writes.left_of P bytes stage)
writes_few P bytes NothingWritten = short_few _ (omega arith)
writes_few P bytes (Inside writing) = short_few _ (omega arith)
writes_few P bytes (GrowsByWrite writing progress) = growth_few P _ bytes writing.new_pages progress

cut_few : (P : ℕ) (resizing : Resizing) (pages : List ℕ) (progress : CutProgress) → HasFew (resizes.left_of_cut P resizing pages progress)
cut_few P resizing pages CutBegun = short_few _ (omega arith)
cut_few P resizing pages Lowered = short_few _ (omega arith)
cut_few P resizing pages Trimmed = short_few _ (omega arith)

resizes_few : (volume : VolumeView) (stage : ResizeStage) → HasFew (resizes.left_of volume stage)
resizes_few volume SizeKept = short_few _ (omega arith)
resizes_few volume (GrowsBySize resizing progress) = growth_few volume.size _ [] resizing.new_pages progress
resizes_few volume (Cutting resizing progress) = cut_few volume.size resizing _ progress

-- ---- of whatever kind

running_few : (volume : VolumeView) (bytes : List ℕ) (running : Running) → HasFew (left_of volume bytes running)
running_few volume bytes (Makes running) = entry_few volume.size running.entry running.stage
running_few volume bytes (Links running) = link_few volume.size running.link running.stage
running_few volume bytes (Removes running) = removal_few volume.size running.removal (removals.pages_gone volume running.removal) running.stage
running_few volume bytes (Moves running) = moves_few volume running
running_few volume bytes (Writes running) = writes_few volume.size bytes running
running_few volume bytes (Resizes running) = resizes_few volume running

pub call_few : (volume : VolumeView) (call : Call) → fences_of_call volume call ≤ 8
call_few volume call = (running_few volume (bytes_of_command call.command) call.running).few
