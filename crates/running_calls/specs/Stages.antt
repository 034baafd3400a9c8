-- A running call between two of its steps, whatever its command: what is left of it, what stands before its next step, and what that makes.
-- The bytes are those of a write, which each of its steps is handed.
use Rattle.std.specs.Prelude.{◌≡◌, ℕ, List, Option, Some, None}
use Rattle.pm_trait.specs.DeviceView.{DeviceView}
use Rattle.pm_trait.specs.Unfolds.{Step}
use Rattle.volume.specs.Volume.{VolumeView}
use Rattle.volume.specs.declared.next.Held.{Held}
use Rattle.volume.specs.declared.next.Next.{Next}
use Rattle.volume.specs.declared.next.Next.TheVariants.{More, Ended}
use Rattle.volume.specs.declared.plan.Action.{Action}
use Rattle.volume.specs.declared.plan.Action.TheVariants.{Make, Name, Remove, Move, Write as WriteBytes, WriteNothing, Resize, KeepSize, KeepNames, Read as ReadBytes, Status, Names, Space}
use Rattle.create_ops.specs.Stages as entries
use Rattle.unlink_ops.specs.LinkStages as links
use Rattle.unlink_ops.specs.RemovalStages as removals
use Rattle.rename_ptr.specs.Stages as moves
use Rattle.data_ops.specs.WriteStages as writes
use Rattle.data_ops.specs.ResizeStages as resizes
use Rattle.running_calls.specs.declared.running.Running.{Running}
use Rattle.running_calls.specs.declared.running.Running.TheVariants.{Makes, Links, Removes, Moves, Writes, Resizes}

-- ---- it begins

-- by its plan; one that reads begins no call
abbrev pub begun : Action → Option Running
begun (Make entry) = Some (Makes (entries.begun entry))
begun (Name link) = Some (Links (links.begun link))
begun (Remove removal) = Some (Removes (removals.begun removal))
begun (Move moving) = Some (Moves (moves.begun (Move moving)))
begun (WriteBytes writing) = Some (Writes (writes.begun (WriteBytes writing)))
begun WriteNothing = Some (Writes (writes.begun WriteNothing))
begun (Resize resizing) = Some (Resizes (resizes.begun (Resize resizing)))
begun KeepSize = Some (Resizes (resizes.begun KeepSize))
begun KeepNames = Some (Moves (moves.begun KeepNames))
begun (ReadBytes reading) = None
begun (Status inode) = None
begun (Names inode) = None
begun Space = None

-- The volume has no mark where the plan has an event, and once its events are kept, the first stage stands.
abbrev pub MayBegin : VolumeView → DeviceView → List ℕ → Action → Type 0
MayBegin volume device bytes (Make entry) = entries.MayBegin volume device (Make entry)
MayBegin volume device bytes (Name link) = links.MayBegin volume device (Name link)
MayBegin volume device bytes (Remove removal) = removals.MayBegin volume device (Remove removal)
MayBegin volume device bytes (Move moving) = moves.MayBegin volume device (Move moving)
MayBegin volume device bytes (WriteBytes writing) = writes.MayBegin volume device bytes (WriteBytes writing)
MayBegin volume device bytes WriteNothing = writes.MayBegin volume device bytes WriteNothing
MayBegin volume device bytes (Resize resizing) = resizes.MayBegin volume device (Resize resizing)
MayBegin volume device bytes KeepSize = resizes.MayBegin volume device KeepSize
MayBegin volume device bytes KeepNames = moves.MayBegin volume device KeepNames
MayBegin volume device bytes (ReadBytes reading) = ⊥
MayBegin volume device bytes (Status inode) = ⊥
MayBegin volume device bytes (Names inode) = ⊥
MayBegin volume device bytes Space = ⊥

-- ---- the steps that are left

abbrev pub left_of : VolumeView → List ℕ → Running → List Step
left_of volume bytes (Makes running) = entries.left_of volume.size running
left_of volume bytes (Links running) = links.left_of volume.size running
left_of volume bytes (Removes running) = removals.left_of volume running
left_of volume bytes (Moves running) = moves.left_of volume running
left_of volume bytes (Writes running) = writes.left_of volume.size bytes running
left_of volume bytes (Resizes running) = resizes.left_of volume running

-- and the first of them
abbrev pub step_of : VolumeView → List ℕ → Running → Step
step_of volume bytes (Makes running) = entries.step_of volume.size running
step_of volume bytes (Links running) = links.step_of volume.size running
step_of volume bytes (Removes running) = removals.step_of volume running
step_of volume bytes (Moves running) = moves.step_of volume running
step_of volume bytes (Writes running) = writes.step_of volume.size bytes running
step_of volume bytes (Resizes running) = resizes.step_of volume running

-- ---- what stands before it

-- The call may make its next step.
abbrev pub StandsStage : VolumeView → DeviceView → List ℕ → Running → Type 0
StandsStage volume device bytes (Makes running) = entries.StandsStage volume device running
StandsStage volume device bytes (Links running) = links.StandsStage volume device running
StandsStage volume device bytes (Removes running) = removals.StandsStage volume device running
StandsStage volume device bytes (Moves running) = moves.StandsStage volume device running
StandsStage volume device bytes (Writes running) = writes.StandsStage volume device bytes running
StandsStage volume device bytes (Resizes running) = resizes.StandsStage volume device running

abbrev pub StandsNext : VolumeView → DeviceView → List ℕ → Next Running → Type 0
StandsNext volume device bytes (More running) = StandsStage volume device bytes running
StandsNext volume device bytes (Ended reply) = Unit {0}

-- ---- what comes of it

-- what is left of a call of one kind is left of a call
abbrev pub as_call : {Stage : Type 0} → (Stage → Running) → Next Stage → Next Running
as_call of_kind (More running) = More (of_kind running)
as_call of_kind (Ended reply) = Ended reply

-- what is left behind the step
abbrev pub IsNext : Running → Next Running → Type 0
IsNext (Makes running) next = (left : Next entries.RunningView) × entries.IsNext running left × (next ≡ as_call Makes left)
IsNext (Links running) next = (left : Next links.RunningView) × links.IsNext running left × (next ≡ as_call Links left)
IsNext (Removes running) next = next ≡ as_call Removes (removals.next_of running.removal running.stage)
IsNext (Moves running) next = next ≡ as_call Moves (moves.next_of running)
IsNext (Writes running) next = next ≡ as_call Writes (writes.next_of running)
IsNext (Resizes running) next = next ≡ as_call Resizes (resizes.next_of running)

-- what the volume takes in behind the step
abbrev pub EntersAt : Running → VolumeView → VolumeView → Type 0
EntersAt (Makes running) old new = entries.EntersAt running old new
EntersAt (Links running) old new = links.EntersAt running old new
EntersAt (Removes running) old new = removals.EntersAt running old new
EntersAt (Moves running) old new = moves.EntersAt running old new
EntersAt (Writes running) old new = writes.EntersAt running old new
EntersAt (Resizes running) old new = resizes.EntersAt running old new

-- the inodes and data pages that it holds, which aren't free for others
abbrev pub held_of : Running → Held
held_of (Makes running) = entries.held_of running
held_of (Links running) = links.held_of running
held_of (Removes running) = removals.held_of running
held_of (Moves running) = moves.held_of running
held_of (Writes running) = writes.held_of running
held_of (Resizes running) = resizes.held_of running
