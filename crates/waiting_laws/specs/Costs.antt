-- What is left of a call takes the events and fences of its next step, and those of what is left behind it: so the events that are kept are those
-- that running calls have left, and a call takes as many steps as its plan has fences. P is the number of pages.
use Rattle.std.specs.Prelude.{◌≡◌, ℕ, ◌+◌, List, []}
use Rattle.pm_trait.specs.DeviceView.{DeviceView}
use Rattle.pm_trait.specs.Unfolds.{Step, events_in, fences_in}
use Rattle.tree_model.specs.declared.reply.Reply.{Reply}
use Rattle.volume.specs.Volume.{VolumeView}
use Rattle.volume.specs.Costs.{events_of, fences_of_plan}
use Rattle.volume.specs.declared.next.Next.TheVariants.{More, Ended}
use Rattle.volume.specs.declared.plan.NewEntry.{NewEntry}
use Rattle.volume.specs.declared.plan.NewName.{NewName}
use Rattle.volume.specs.declared.plan.Removal.{Removal}
use Rattle.volume.specs.declared.plan.Moving.{Moving}
use Rattle.volume.specs.declared.plan.Writing.{Writing}
use Rattle.volume.specs.declared.plan.Resizing.{Resizing}
use Rattle.volume.specs.declared.plan.Action.{Action}
use Rattle.volume.specs.declared.plan.Action.TheVariants.{Make, Name, Remove, Move, Write as WriteBytes, Resize}
use Rattle.create_ops.specs.Stages as entries
use Rattle.unlink_ops.specs.LinkStages as links
use Rattle.unlink_ops.specs.RemovalStages as removals
use Rattle.rename_ptr.specs.declared.rename.Progress.{Progress}
use Rattle.rename_ptr.specs.declared.rename.Stage.{Stage as MoveStage}
use Rattle.rename_ptr.specs.declared.rename.Stage.TheVariants.{Moving as Moves}
use Rattle.rename_ptr.specs.Stages as moves
use Rattle.data_ops.specs.declared.truncate.Stage.{Stage as ResizeStage}
use Rattle.data_ops.specs.declared.truncate.Stage.TheVariants.{Nothing as SizeKept}
use Rattle.data_ops.specs.declared.write.Stage.{Stage as WriteStage}
use Rattle.data_ops.specs.declared.write.Stage.TheVariants.{Nothing as NothingWritten}
use Rattle.data_ops.specs.ResizeStages as resizes
use Rattle.data_ops.specs.WriteStages as writes

-- ---- one step of what is left

pub record Costs (left : List Step) (step : Step) (later : List Step) : Type 0 where
  pub events : events_in left ≡ step.events + events_in later
  pub fences : fences_in left ≡ 1 + fences_in later

-- all of a plan
pub record CostsPlan (action : Action) (left : List Step) : Type 0 where
  pub events : events_of action ≡ events_in left
  pub fences : fences_of_plan action ≡ fences_in left

-- ---- an entry

pub record MakingCosts : Type 0 where
  pub plan : (P : ℕ) (entry : NewEntry) → CostsPlan (Make entry) (entries.left_of P (entries.begun entry))
  pub goes_on : (volume : VolumeView) (device : DeviceView) (running next : entries.RunningView) → entries.IsNext running (More next) → entries.StandsStage volume device next
      → Costs (entries.left_of volume.size running) (entries.step_of volume.size running) (entries.left_of volume.size next)
  pub ends : (P : ℕ) (running : entries.RunningView) (reply : Reply) → entries.IsNext running (Ended reply) → Costs (entries.left_of P running) (entries.step_of P running) []

-- ---- one more name

pub record LinkingCosts : Type 0 where
  pub plan : (P : ℕ) (link : NewName) → CostsPlan (Name link) (links.left_of P (links.begun link))
  pub goes_on : (volume : VolumeView) (device : DeviceView) (running next : links.RunningView) → links.IsNext running (More next) → links.StandsStage volume device next
      → Costs (links.left_of volume.size running) (links.step_of volume.size running) (links.left_of volume.size next)
  pub ends : (P : ℕ) (running : links.RunningView) (reply : Reply) → links.IsNext running (Ended reply) → Costs (links.left_of P running) (links.step_of P running) []

-- ---- a name goes

pub record RemovingCosts : Type 0 where
  pub plan : (volume : VolumeView) (removal : Removal) → removals.HasLosses volume removal → CostsPlan (Remove removal) (removals.left_of volume (removals.begun removal))
  pub goes_on : (volume : VolumeView) (device : DeviceView) (running next : removals.RunningView) → removals.StandsStage volume device running → removals.next_of running.removal running.stage ≡ More next
      → Costs (removals.left_of volume running) (removals.step_of volume running) (removals.left_of volume next)
  pub ends : (volume : VolumeView) (device : DeviceView) (running : removals.RunningView) (reply : Reply) → removals.StandsStage volume device running → removals.next_of running.removal running.stage ≡ Ended reply
      → Costs (removals.left_of volume running) (removals.step_of volume running) []

-- ---- a name moves

pub record MovingCosts : Type 0 where
  pub plan : (volume : VolumeView) (moving : Moving) → moves.HasLosses volume moving → CostsPlan (Move moving) (moves.left_of volume (moves.begun (Move moving)))
  pub goes_on : (volume : VolumeView) (device : DeviceView) (running next : MoveStage) → moves.StandsStage volume device running → moves.next_of running ≡ More next
      → Costs (moves.left_of volume running) (moves.step_of volume running) (moves.left_of volume next)
  pub ends : (volume : VolumeView) (device : DeviceView) (moving : Moving) (progress : Progress) (reply : Reply) → moves.StandsStage volume device (Moves moving progress)
      → moves.next_of (Moves moving progress) ≡ Ended reply → Costs (moves.left_of volume (Moves moving progress)) (moves.step_of volume (Moves moving progress)) []

-- ---- a file is written

pub record WritingCosts : Type 0 where
  pub plan : (volume : VolumeView) (device : DeviceView) (bytes : List ℕ) (writing : Writing) → writes.StandsStage volume device bytes (writes.begun (WriteBytes writing))
      → CostsPlan (WriteBytes writing) (writes.left_of volume.size bytes (writes.begun (WriteBytes writing)))
  pub goes_on : (volume : VolumeView) (device : DeviceView) (bytes : List ℕ) (running next : WriteStage) → writes.StandsStage volume device bytes running → writes.next_of running ≡ More next
      → Costs (writes.left_of volume.size bytes running) (writes.step_of volume.size bytes running) (writes.left_of volume.size bytes next)
  pub ends : (P : ℕ) (bytes : List ℕ) (running : WriteStage) (reply : Reply) → writes.next_of running ≡ Ended reply → (running ≡ NothingWritten → ⊥)
      → Costs (writes.left_of P bytes running) (writes.step_of P bytes running) []

-- ---- or gets another size

pub record ResizingCosts : Type 0 where
  pub plan : (volume : VolumeView) (device : DeviceView) (resizing : Resizing) → resizes.StandsStage volume device (resizes.begun (Resize resizing))
      → CostsPlan (Resize resizing) (resizes.left_of volume (resizes.begun (Resize resizing)))
  pub goes_on : (volume : VolumeView) (device : DeviceView) (running next : ResizeStage) → resizes.StandsStage volume device running → resizes.next_of running ≡ More next
      → Costs (resizes.left_of volume running) (resizes.step_of volume running) (resizes.left_of volume next)
  pub ends : (volume : VolumeView) (device : DeviceView) (running : ResizeStage) (reply : Reply) → resizes.StandsStage volume device running → resizes.next_of running ≡ Ended reply → (running ≡ SizeKept → ⊥)
      → Costs (resizes.left_of volume running) (resizes.step_of volume running) []
