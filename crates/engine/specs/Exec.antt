-- What one line of a script does to a volume and its device.
use Rattle.std.specs.Prelude.{◌≡◌, ◌≢◌, ◌⊎◌, ℕ, ◌+◌, ◌<◌, ◌≤◌, true, false, IsTrue, ◌==◌, ◌&&◌, nat_lt, if◌then◌else◌, List, slice_index, Some, None, Result, Ok, Err, IfOk, OnOk, OnErr}
use Rattle.pm_trait.specs.declared.event.Event.TheVariants.{Ack}
use Rattle.pm_trait.specs.declared.event.PmFault.{PmFault}
use Rattle.pm_trait.specs.Trail.{Trail}
use Rattle.pm_trait.specs.Device.{HasRisen, LeavesOnly, AcksSettled, StaysOnce, EndsInFault, acks_from, moment_of, with_event}
use Rattle.pm_trait.specs.DeviceView.{DeviceView, GrowsBy}
use Rattle.tree_model.specs.Step.{Answer, Refused, Fault}
use Rattle.tree_model.specs.Run.{Line, State, LineStep, LineFails}
use Rattle.tree_model.specs.declared.reply.Refusal.TheVariants.{NoMemory}
use Rattle.tree_model.specs.declared.reply.Reply.{Reply}
use Rattle.tree_model.specs.declared.reply.Reply.TheVariants as replies
use Rattle.image_reading.specs.Reading.{Reads}
use Rattle.volume.specs.Volume.{VolumeView}
use Rattle.layout.specs.Superblock.{KeepsSuperblock, has_mark, mark_word, closed_mark, open_mark}
use Rattle.volume.specs.Costs.{events_of, fences_of_plan, events_with_mark, fences_with_mark}
use Rattle.volume.specs.LineEvents.{events_of_line}
use Rattle.volume.specs.declared.plan.Action.{Action}
use Rattle.volume.specs.Planned.{IsPlanned}
use Rattle.volume.specs.Prepared.{IsSameButPlaces}
use Rattle.volume.specs.Crashes.{MayReadAs}
use Rattle.tree_model.specs.Fences.{fences_of, most_fences}
use Rattle.tree_model.specs.Places.{line_needs_places}
use Rattle.engine.specs.Quiet.{ActsOnly}
use Rattle.engine.specs.Replies.{IsReplyOf, IsChangeReply}
use Rattle.engine.specs.Run.{command_of, tree_after_line, IsAt}
use Rattle.engine.specs.Session.{SessionView}
use Rattle.volume.specs.Stands.{StandsFor}

-- ---- the superblock

-- the mark after so many fences: taken away by the first of them where it was there, and else as it was
abbrev pub mark_left : ℕ → ℕ → ℕ
mark_left mark fences = if (mark == closed_mark) && nat_lt 0 fences then open_mark else mark

-- The word of the mark is what so many fences leave of it, and no other word of the superblock changes.
pub record LeavesMark (fences : ℕ) (before after : DeviceView) : Type 0 where
  pub mark : slice_index after.words mark_word ≡ mark_left (slice_index before.words mark_word) fences
  pub beside : KeepsSuperblock before.words after.words

-- a line makes at most so many fences, that of the mark among them
abbrev pub most_fences_with_mark : ℕ
most_fences_with_mark = 1 + most_fences

-- ---- before the acknowledgement

-- The line was executed and not acknowledged yet: the volume stands for a state that the line may leave, and a crash at any
-- moment leaves a tree that it may leave.
pub record Executed (P : ℕ) (old : State) (line : Line) (session : SessionView) (reply : Reply) (before after : DeviceView) : Type 0 where
  pub answer : Answer
  pub new : State
  pub replied : IsReplyOf session after answer reply
  pub step : LineStep P old line answer new
  pub stands : StandsFor session.volume after new
  pub any_moment : LeavesOnly before.trail after.trail (λ acks image. (acks ≡ 0) × MayReadAs P old (command_of (Some line)) image)
  pub no_ack : acks_from before.trail after.trail (moment_of after.trail) ≡ 0
  pub fences : after.fences ≡ before.fences + fences_with_mark (has_mark before.words) (fences_of old line answer new)
  pub events : GrowsBy (events_with_mark (has_mark before.words) (fences_of old line answer new) (events_of_line old line answer new)) before after
  pub mark : LeavesMark (fences_of old line answer new) before after
  -- a line that takes no fence does nothing to the device
  pub quiet : fences_of old line answer new ≡ 0 → (after.words ≡ before.words) × (after.trail ≡ before.trail)
  -- one that needs no place of a table is answered NoMemory only where the device refused room
  pub no_memory : answer ≡ Refused NoMemory → IsTrue (line_needs_places old line) ⊎ HasRisen before.refused after.refused

-- the action of a plan that is made for the line
abbrev pub IsPlannedFor : ℕ → List ℕ → State → Line → Action → Type 0
IsPlannedFor P words old (Ok command) action = IsPlanned P words old command action
IsPlannedFor P words old (Err fault) action = ⊥

-- So many fences and events are what the line takes with some answer and state that it might have had.
pub record MightTake (P : ℕ) (old : State) (line : Line) (fences events : ℕ) : Type 0 where
  pub answer : Answer
  pub new : State
  pub step : LineStep P old line answer new
  pub fences_are : fences ≡ fences_of old line answer new
  pub events_are : events ≡ events_of_line old line answer new

-- A fence failed in it, and nothing was done after that. Fewer fences were made than the line's plan has, with that of the mark, and no
-- more events. The mark is as after them all: it is stored before the first of them.
pub record HasFailed (P : ℕ) (old : State) (line : Line) (before after : DeviceView) : Type 0 where
  pub fails : LineFails P old line Fault
  pub any_moment : LeavesOnly before.trail after.trail (λ acks image. (acks ≡ 0) × MayReadAs P old (command_of (Some line)) image)
  pub no_ack : acks_from before.trail after.trail (moment_of after.trail) ≡ 0
  pub last : EndsInFault after.trail
  pub action : Action
  pub planned : IsPlannedFor P before.words old line action
  pub might : MightTake P old line (fences_of_plan action) (events_of action)
  pub least : before.fences ≤ after.fences
  pub fewer : after.fences < before.fences + fences_with_mark (has_mark before.words) (fences_of_plan action)
  pub events : GrowsBy (events_with_mark (has_mark before.words) (fences_of_plan action) (events_of action)) before after
  pub mark : LeavesMark (fences_of_plan action) before after

-- Once all that a crash may leave reads as the tree that the line leaves, it stays so.
abbrev pub StaysAsAfter : ℕ → State → Line → DeviceView → DeviceView → Type 0
StaysAsAfter P old line before after = StaysOnce before.trail after.trail (λ image. Reads P image (tree_after_line P old line))

-- It was executed, or a fence failed in it.
pub record Does (old new : SessionView) (before after : DeviceView) (state : State) (line : Line) (result : Result Reply PmFault) : Type 0 where
  pub executed : IfOk result (λ reply. Executed old.volume.size state line new reply before after)
  pub failed : OnErr result (HasFailed old.volume.size state line before after)
  pub stays : StaysAsAfter old.volume.size state line before after

-- nothing is on the device, and all that the volume knows is as before, but for places in its index
pub record LeavesAll (old new : VolumeView) (before after : DeviceView) : Type 0 where
  pub words : after.words ≡ before.words
  pub trail : after.trail ≡ before.trail
  pub kept : IsSameButPlaces old new

-- What it leaves of the volume whatever the tree. A line that is not answered by a change's reply stores nothing, and takes no memory
-- unless memory is what was short. The volume is stopped exactly where a fence failed.
pub record LeavesVolume (old new : VolumeView) (before after : DeviceView) (result : Result Reply PmFault) : Type 0 where
  pub quiet : IfOk result (λ reply. ¬ IsChangeReply reply → LeavesAll old new before after)
  pub same : IfOk result (λ reply. ¬ IsChangeReply reply → reply ≢ replies.Refused NoMemory → (new ≡ old) × (after.spare ≡ before.spare))
  pub size : new.size ≡ old.size
  pub going : OnOk result (new.stopped ≡ false)
  pub stopped : OnErr result (new.stopped ≡ true)
  pub faults : before.faults ≤ after.faults
  pub no_fault : OnOk result (after.faults ≡ before.faults)
  pub cause : OnErr result (HasRisen before.faults after.faults)
  pub refused : before.refused ≤ after.refused
  pub not_refused : IfOk result (λ reply. reply ≢ replies.Refused NoMemory → after.refused ≡ before.refused)
  pub fault_not_refused : OnErr result (after.refused ≡ before.refused)
  pub fences : after.fences ≤ before.fences + most_fences_with_mark
  pub acks : after.acks ≡ before.acks

-- only a read changes the bytes of the last one
abbrev pub KeepsBytes : List ℕ → List ℕ → Result Reply PmFault → Type 0
KeepsBytes old new (Ok reply) = ((count : ℕ) → reply ≢ replies.Bytes count) → new ≡ old
KeepsBytes old new (Err fault) = new ≡ old

-- ---- with the acknowledgement

-- The line was executed and acknowledged.
pub record HasAnswered (P : ℕ) (old : State) (line : Line) (session : SessionView) (reply : Reply) (before after : DeviceView) : Type 0 where
  pub answer : Answer
  pub new : State
  pub replied : IsReplyOf session after answer reply
  pub step : LineStep P old line answer new
  pub stands : StandsFor session.volume after new
  pub acks : AcksSettled before.trail after.trail (λ acks image. (acks ≡ 1) × IsAt P new image)
  pub any_moment : LeavesOnly before.trail after.trail (λ acks image. ((acks ≡ 0) × MayReadAs P old (command_of (Some line)) image) ⊎ ((acks ≡ 1) × MayReadAs P new None image))
  -- nothing is done to the device after the acknowledgement, and before it only where the change takes a fence
  pub quiet : ActsOnly before.trail after.trail (λ acks. (acks ≡ 0) × (0 < fences_of old line answer new))
  pub one_ack : (trail : Trail) → after.trail ≡ Some trail → acks_from before.trail after.trail (moment_of after.trail) ≡ 1
  pub fences : after.fences ≡ before.fences + fences_with_mark (has_mark before.words) (fences_of old line answer new)
  -- its own events, those of the mark, and the acknowledgement
  pub events : GrowsBy (events_with_mark (has_mark before.words) (fences_of old line answer new) (events_of_line old line answer new) + 1) before after
  pub mark : LeavesMark (fences_of old line answer new) before after
  -- a line that needs no place of a table is answered NoMemory only where the device refused room
  pub no_memory : answer ≡ Refused NoMemory → IsTrue (line_needs_places old line) ⊎ HasRisen before.refused after.refused

-- The session goes on exactly where the line was answered and acknowledged; else a fence failed in it.
pub record ExecutesLine (old new : SessionView) (before after : DeviceView) (state : State) (line : Line) (reply : Reply) : Type 0 where
  pub answered : new.volume.stopped ≡ false → HasAnswered old.volume.size state line new reply before after
  pub failed : new.volume.stopped ≡ true → HasFailed old.volume.size state line before after
  pub stays : StaysAsAfter old.volume.size state line before after

-- nothing but an acknowledgement is on the device, and all that the volume knows is as before, but for places in its index
pub record LeavesAllAcked (old new : SessionView) (before after : DeviceView) : Type 0 where
  pub words : after.words ≡ before.words
  pub trail : after.trail ≡ with_event before.trail Ack
  pub kept : IsSameButPlaces old.volume new.volume

-- What an answered line leaves whatever the tree. One that is not answered by a change's reply stores nothing, and takes no memory
-- unless memory is what was short.
pub record LeavesAnswered (old new : SessionView) (before after : DeviceView) (reply : Reply) : Type 0 where
  pub no_fault_told : reply ≢ replies.Fault
  pub not_stopped_told : reply ≢ replies.Stopped
  pub quiet : ¬ IsChangeReply reply → LeavesAllAcked old new before after
  pub same : ¬ IsChangeReply reply → reply ≢ replies.Refused NoMemory → (new.volume ≡ old.volume) × (after.spare ≡ before.spare)
  pub no_fault : after.faults ≡ before.faults
  pub one_ack : after.acks ≡ before.acks + 1

-- what a line leaves in which a fence failed
pub record LeavesFailed (before after : DeviceView) (reply : Reply) : Type 0 where
  pub told : reply ≡ replies.Fault
  pub cause : HasRisen before.faults after.faults
  pub no_ack : after.acks ≡ before.acks

-- What a line leaves of a session that is not stopped, whatever the tree.
pub record LeavesSession (old new : SessionView) (before after : DeviceView) (reply : Reply) : Type 0 where
  pub answered : new.volume.stopped ≡ false → LeavesAnswered old new before after reply
  pub failed : new.volume.stopped ≡ true → LeavesFailed before after reply
  pub size : new.volume.size ≡ old.volume.size
  -- only a read changes the bytes of the last one
  pub bytes : ((count : ℕ) → reply ≢ replies.Bytes count) → new.bytes ≡ old.bytes
  pub faults : before.faults ≤ after.faults
  pub refused : before.refused ≤ after.refused
  pub not_refused : reply ≢ replies.Refused NoMemory → after.refused ≡ before.refused
  pub fences : after.fences ≤ before.fences + most_fences_with_mark
