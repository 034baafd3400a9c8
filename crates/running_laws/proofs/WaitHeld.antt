-- A call holds the same inodes from its plan to its end.
use Rattle.std.proofs.Common.{◌≡◌, ◌+◌, ℕ, Bool, true, false, List, [], ◌∷◌, Option, Some, None, refl, sym, subst, ◌∙◌}
use Rattle.std.specs.Prelude.{nat_le, nat_lt, if◌then◌else◌}
use Rattle.tree_model.proofs.TreeKept.{same_some}
use Rattle.volume.specs.Volume.{VolumeView}
use Rattle.volume.specs.declared.next.Next.{Next}
use Rattle.volume.specs.declared.next.Next.TheVariants.{More, Ended}
use Rattle.volume.specs.declared.plan.NewEntry.{NewEntry}
use Rattle.volume.specs.declared.plan.NewName.{NewName}
use Rattle.volume.specs.declared.plan.Removal.{Removal}
use Rattle.volume.specs.declared.plan.Resizing.{Resizing}
use Rattle.volume.specs.declared.plan.Writing.{Writing}
use Rattle.volume.specs.declared.plan.Action.{Action}
use Rattle.volume.specs.declared.plan.Action.TheVariants.{Make, Name, Remove, Move, Write as WriteBytes, WriteNothing, Resize, KeepSize, KeepNames, Read as ReadBytes, Status, Names, Space}
use Rattle.volume.specs.Costs.{pages_removed}
use Rattle.fence_token.specs.declared.states.Clean.{Clean}
use Rattle.tree_model.specs.declared.reply.Reply.TheVariants.{Done}
use Rattle.entry_steps.specs.declared.place.NamePlace.{NamePlace}
use Rattle.entry_steps.specs.declared.place.NamePlace.TheVariants.{Slot, Page}
use Rattle.create_ops.specs.Stages as entries
use Rattle.create_ops.specs.declared.run.Stage.{Stage as EntryStage}
use Rattle.create_ops.specs.declared.run.Stage.TheVariants.{Begun as EntryBegun, Written as EntryWritten, Claimed as EntryClaimed}
use Rattle.data_ops.specs.GrowthStages.{next_of_growth}
use Rattle.data_ops.specs.ResizeStages as resizes
use Rattle.data_ops.specs.WriteStages as writes
use Rattle.data_ops.specs.declared.grow.Progress.{Progress}
use Rattle.data_ops.specs.declared.grow.Progress.TheVariants.{Begun as GrowthBegun}
use Rattle.data_ops.specs.declared.truncate.CutProgress.{CutProgress}
use Rattle.data_ops.specs.declared.truncate.CutProgress.TheVariants.{Begun as CutBegun, Lowered, Trimmed}
use Rattle.data_ops.specs.declared.truncate.Stage.{Stage as ResizeStage}
use Rattle.data_ops.specs.declared.truncate.Stage.TheVariants.{Nothing as SizeKept, Growing as GrowsBySize, Cutting}
use Rattle.data_ops.specs.declared.write.Stage.{Stage as WriteStage}
use Rattle.data_ops.specs.declared.write.Stage.TheVariants.{Nothing as NothingWritten, Inside, Growing as GrowsByWrite}
use Rattle.rename_ptr.specs.Stages as moves
use Rattle.rename_ptr.specs.declared.rename.Stage.{Stage as MoveStage}
use Rattle.rename_ptr.specs.declared.rename.Stage.TheVariants.{Nothing as NamesKept}
use Rattle.unlink_ops.specs.LinkStages as links
use Rattle.unlink_ops.specs.RemovalStages as removals
use Rattle.unlink_ops.specs.declared.link.Stage.{Stage as LinkStage}
use Rattle.unlink_ops.specs.declared.link.Stage.TheVariants.{Begun as LinkBegun, Written as LinkWritten, Claimed as LinkClaimed}
use Rattle.unlink_ops.specs.declared.removal.Stage.{Stage as RemovalStage}
use Rattle.unlink_ops.specs.declared.removal.Stage.TheVariants.{Begun as NameThere, Unnamed, Cleared as SlotCleared, Disowned as PagesDisowned}
use Rattle.running_calls.specs.declared.running.Running.{Running}
use Rattle.running_calls.specs.declared.running.Running.TheVariants.{Makes, Links, Removes, Moves, Writes, Resizes}
use Rattle.running_calls.specs.Stages.{IsNext, as_call, begun}
use Rattle.waiting_laws.specs.Begins.{held_of_plan}
use Rattle.running_laws.specs.Waits.{held_by_write, held_by_resize, held_by, BegunHoldsLaw, NextHoldsLaw}

-- ---- from its plan

-- a plan that reads begins none
begins_none : {X : Type 0} (running : Running) → None ≡ Some running → X
begins_none running is = absurd (cc)

-- a write holds its file inside the size and past it
write_held : (volume : VolumeView) (writing : Writing) (inside : Bool)
    → (held_by_write volume (if inside then Inside writing else GrowsByWrite writing GrowthBegun)).inodes ≡ writing.inode ∷ []
write_held volume writing true = refl
write_held volume writing false = refl

resize_held : (volume : VolumeView) (resizing : Resizing) (grows : Bool)
    → (held_by_resize volume (if grows then GrowsBySize resizing GrowthBegun else Cutting resizing CutBegun)).inodes ≡ resizing.inode ∷ []
resize_held volume resizing true = refl
resize_held volume resizing false = refl

-- the call of a plan
begun_held : (volume : VolumeView) (action : Action) (call running : Running) → begun action ≡ Some call → (held_by volume call).inodes ≡ (held_of_plan volume action).inodes
    → begun action ≡ Some running → (held_by volume running).inodes ≡ (held_of_plan volume action).inodes
begun_held volume action call running this same is =
    subst (λ c. (held_by volume c).inodes ≡ (held_of_plan volume action).inodes) (same_some call running (sym this ∙ is)) same

pub begun_holds_law : BegunHoldsLaw
begun_holds_law volume (Make entry) running is = begun_held volume (Make entry) (Makes (entries.begun entry)) running refl refl is
begun_holds_law volume (Name link) running is = begun_held volume (Name link) (Links (links.begun link)) running refl refl is
begun_holds_law volume (Remove removal) running is = begun_held volume (Remove removal) (Removes (removals.begun removal)) running refl refl is
begun_holds_law volume (Move moving) running is = begun_held volume (Move moving) (Moves (moves.begun (Move moving))) running refl refl is
begun_holds_law volume (WriteBytes writing) running is =
    begun_held volume (WriteBytes writing) (Writes (writes.begun_writing writing)) running refl
    (write_held volume writing (nat_le (writing.offset + writing.count) writing.old_size)) is
begun_holds_law volume WriteNothing running is = begun_held volume WriteNothing (Writes NothingWritten) running refl refl is
begun_holds_law volume (Resize resizing) running is =
    begun_held volume (Resize resizing) (Resizes (resizes.begun_resizing resizing)) running refl (resize_held volume resizing (nat_lt resizing.old_size resizing.new_size)) is
begun_holds_law volume KeepSize running is = begun_held volume KeepSize (Resizes SizeKept) running refl refl is
begun_holds_law volume KeepNames running is = begun_held volume KeepNames (Moves NamesKept) running refl refl is
begun_holds_law volume (ReadBytes reading) running is = begins_none running is
begun_holds_law volume (Status inode) running is = begins_none running is
begun_holds_law volume (Names inode) running is = begins_none running is
begun_holds_law volume Space running is = begins_none running is

-- ---- from step to step

-- what is left behind a step holds these inodes
abbrev HoldsStill : VolumeView → List ℕ → Next Running → Type 0
HoldsStill new inodes (More next) = (held_by new next).inodes ≡ inodes
HoldsStill new inodes (Ended reply) = Unit {0}

-- of an entry, a link, a removal and a file
abbrev EntryHolds : VolumeView → NewEntry → Next entries.RunningView → Type 0
EntryHolds new entry left = HoldsStill new (entry.inode ∷ entry.directory ∷ []) (as_call Makes left)

abbrev LinkHolds : VolumeView → NewName → Next links.RunningView → Type 0
LinkHolds new link left = HoldsStill new (link.inode ∷ link.directory ∷ []) (as_call Links left)

abbrev RemovalHolds : VolumeView → Removal → Next removals.RunningView → Type 0
RemovalHolds new removal left = HoldsStill new (removal.loss.inode ∷ removal.directory ∷ []) (as_call Removes left)

abbrev ResizeHolds : VolumeView → Resizing → Next ResizeStage → Type 0
ResizeHolds new resizing left = HoldsStill new (resizing.inode ∷ []) (as_call Resizes left)

entry_placed : (new : VolumeView) (entry : NewEntry) (place : NamePlace Clean) (left : Next entries.RunningView) → entries.IsAfterPlace entry place left → EntryHolds new entry left
entry_placed new entry (Slot slot) left is = subst (EntryHolds new entry) (sym is) tt
entry_placed new entry (Page page) left (node, is) = subst (EntryHolds new entry) (sym is) refl

entry_holds : (new : VolumeView) (entry : NewEntry) (stage : EntryStage) (left : Next entries.RunningView) → entries.IsAfter entry stage left → EntryHolds new entry left
entry_holds new entry EntryBegun left (node, is) = subst (EntryHolds new entry) (sym is) refl
entry_holds new entry (EntryWritten node) left after = entry_placed new entry node.place left after
entry_holds new entry (EntryClaimed node) left is = subst (EntryHolds new entry) (sym is) tt

link_placed : (new : VolumeView) (link : NewName) (place : NamePlace Clean) (left : Next links.RunningView) → links.IsAfterPlace link place left → LinkHolds new link left
link_placed new link (Slot slot) left is = subst (LinkHolds new link) (sym is) tt
link_placed new link (Page page) left (file, is) = subst (LinkHolds new link) (sym is) refl

link_holds : (new : VolumeView) (link : NewName) (stage : LinkStage) (left : Next links.RunningView) → links.IsAfter link stage left → LinkHolds new link left
link_holds new link LinkBegun left (file, is) = subst (LinkHolds new link) (sym is) refl
link_holds new link (LinkWritten file) left after = link_placed new link file.place left after
link_holds new link (LinkClaimed file) left is = subst (LinkHolds new link) (sym is) tt

-- behind the clearing of the slot pages are given back, or the node alone, or nothing is left
cleared_holds : (new : VolumeView) (removal : Removal) (gives goes : Bool)
    → RemovalHolds new removal (if gives then removals.at_stage removal SlotCleared else if goes then removals.at_stage removal PagesDisowned else Ended Done)
cleared_holds new removal true goes = refl
cleared_holds new removal false true = refl
cleared_holds new removal false false = tt

removal_holds : (new : VolumeView) (removal : Removal) (stage : RemovalStage) → RemovalHolds new removal (removals.next_of removal stage)
removal_holds new removal NameThere = refl
removal_holds new removal Unnamed = cleared_holds new removal (nat_lt 0 (pages_removed removal)) removal.loss.goes
removal_holds new removal SlotCleared = refl
removal_holds new removal PagesDisowned = tt

-- (nothing is asked of what a rename holds)
move_left : (new : VolumeView) (left : Next MoveStage) → HoldsStill new [] (as_call Moves left)
move_left new (More next) = refl
move_left new (Ended reply) = tt

written_holds : (new : VolumeView) (writing : Writing) (next : Option Progress) → HoldsStill new (writing.inode ∷ []) (as_call Writes (writes.next_growing writing next))
written_holds new writing (Some progress) = refl
written_holds new writing None = tt

write_holds : (old new : VolumeView) (stage : WriteStage) → HoldsStill new (held_by_write old stage).inodes (as_call Writes (writes.next_of stage))
write_holds old new NothingWritten = tt
write_holds old new (Inside writing) = tt
write_holds old new (GrowsByWrite writing progress) = written_holds new writing (next_of_growth progress writing.new_pages)

grown_holds : (new : VolumeView) (resizing : Resizing) (next : Option Progress) → ResizeHolds new resizing (resizes.next_growing resizing next)
grown_holds new resizing (Some progress) = refl
grown_holds new resizing None = tt

lowered_holds : (new : VolumeView) (resizing : Resizing) (gives : Bool) → ResizeHolds new resizing (if gives then More (Cutting resizing Lowered) else Ended Done)
lowered_holds new resizing true = refl
lowered_holds new resizing false = tt

cut_holds : (new : VolumeView) (resizing : Resizing) (progress : CutProgress) → ResizeHolds new resizing (resizes.next_cutting resizing progress)
cut_holds new resizing CutBegun = lowered_holds new resizing (nat_lt 0 resizing.cut)
cut_holds new resizing Lowered = refl
cut_holds new resizing Trimmed = tt

resize_holds : (old new : VolumeView) (stage : ResizeStage) → HoldsStill new (held_by_resize old stage).inodes (as_call Resizes (resizes.next_of stage))
resize_holds old new SizeKept = tt
resize_holds old new (GrowsBySize resizing progress) = grown_holds new resizing (next_of_growth progress resizing.new_pages)
resize_holds old new (Cutting resizing progress) = cut_holds new resizing progress

next_holds : (old new : VolumeView) (running : Running) (next : Next Running) → IsNext running next → HoldsStill new (held_by old running).inodes next
next_holds old new (Makes running) next (left, after, is) =
    subst (HoldsStill new (running.entry.inode ∷ running.entry.directory ∷ [])) (sym is) (entry_holds new running.entry running.stage left after)
next_holds old new (Links running) next (left, after, is) =
    subst (HoldsStill new (running.link.inode ∷ running.link.directory ∷ [])) (sym is) (link_holds new running.link running.stage left after)
next_holds old new (Removes running) next is =
    subst (HoldsStill new (running.removal.loss.inode ∷ running.removal.directory ∷ [])) (sym is) (removal_holds new running.removal running.stage)
next_holds old new (Moves running) next is = subst (HoldsStill new []) (sym is) (move_left new (moves.next_of running))
next_holds old new (Writes running) next is = subst (HoldsStill new (held_by_write old running).inodes) (sym is) (write_holds old new running)
next_holds old new (Resizes running) next is = subst (HoldsStill new (held_by_resize old running).inodes) (sym is) (resize_holds old new running)

pub next_holds_law : NextHoldsLaw
next_holds_law old new running next is = next_holds old new running (More next) is
