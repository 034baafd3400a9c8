-- A mount, and the run of the script after it.
use Rattle.std.specs.Prelude.{◌≡◌, ◌⊎◌, ℕ, ◌+◌, ◌<◌, ◌≤◌, IsTrue, List, length, slice_get, Option, Some, Ok, Err}
use Rattle.pm_trait.specs.Trail.{Trail}
use Rattle.pm_trait.specs.Device.{HasRisen, LeavesOnly, AcksSettled, EndsInFault, IsAckAt, acks_from, moment_of}
use Rattle.pm_trait.specs.DeviceView.{DeviceView, GrowsBy}
use Rattle.tree_model.specs.Step.{Refused}
use Rattle.tree_model.specs.declared.reply.Refusal.TheVariants.{NoMemory}
use Rattle.tree_model.specs.Fences.{fences_of_run}
use Rattle.image_reading.specs.Reading.{ReadsAs}
use Rattle.script.specs.declared.run_end.RunEnd.{RunEnd}
use Rattle.script.specs.declared.run_end.RunEnd.TheVariants as ends
use Rattle.mark_ops.specs.Marking.{Closes}
use Rattle.tree_model.specs.Run.{Line, State}
use Rattle.recovery.specs.Repairs.{events_of_repairs, fences_of_repairs}
use Rattle.layout.specs.Superblock.{has_mark, KeepsSuperblock}
use Rattle.volume.specs.Costs.{fences_with_mark, mark_after}
use Rattle.mount_scan.specs.Mounts.{Mounts}
use Rattle.engine.specs.Memory.{needs_places_at}
use Rattle.engine.specs.Quiet.{MayStore}
use Rattle.engine.specs.Run.{IsBetween, IsStateAfter, last_state}
use Rattle.engine.specs.Exec.{LeavesMark}
use Rattle.engine.specs.Script.{IsCutShort, RunsScript, events_of_marked_run}
use Rattle.image_reading.specs.Soundness.{pages_in_image}
use Rattle.squirrel_cli.specs.declared.status.Status.{Status}
use Rattle.squirrel_cli.specs.declared.status.Status.TheVariants.{Done, DeviceFault, ReadFault, WriteFault, ScriptLimit}
use Rattle.squirrel_cli.specs.Ends.{GaveAll}
use Rattle.squirrel_cli.specs.Seen.{Seen}

-- Each event from the end of the old trail to the end of the new one is one of the mount, or an acknowledgement, or came after a number
-- of acknowledgements that has F.
pub record ActsAfterMount (old mounted new : Option Trail) (F : ℕ → Type 0) : Type 0 where
  pub each : (moment : ℕ) → moment_of old ≤ moment → moment < moment_of new → ¬ IsAckAt new moment
      → (moment < moment_of mounted) ⊎ F (acks_from old new moment)

-- A job that mounts the device and runs the script on it.
pub record MountsAndRuns (P : ℕ) (before after : DeviceView) (end : RunEnd) (script rest : Option (List ℕ)) (took now : List ℕ → Type 0) : Type 0 where
  -- the device after the mount; the run of the script from there; the words at entry read as the state that the run starts with
  pub mounted : DeviceView
  pub run : RunsScript P mounted after end script rest took now
  pub reads : ReadsAs P before.words run.start
  pub mount : Mounts P run.start before mounted
  -- A crash at any moment from entry to return leaves the tree after all acknowledged lines, or one that the running line may leave.
  pub any_moment : LeavesOnly before.trail after.trail (IsBetween P run.start run.states run.lines)
  -- at the k-th acknowledgement every word has one candidate, and the words are tidy and read as the state after k lines
  pub acks : AcksSettled before.trail after.trail (IsStateAfter P run.start run.states)
  -- every answered line was acknowledged, but those that were answered Fault or Stopped, and nothing else was
  pub acked : (trail : Trail) → after.trail ≡ Some trail → acks_from before.trail after.trail (moment_of after.trail) ≡ length run.states
  pub ack_count : after.acks ≡ before.acks + length run.states
  -- every store, flush and fence was one of the mount, or made for a line that may store
  pub quiet : ActsAfterMount before.trail mounted.trail after.trail (MayStore run.start run.lines run.answers run.states)
  -- where a line was answered Fault, nothing was done to the device after the fence that failed
  pub halts : length run.states < length run.answers → EndsInFault after.trail
  -- where none was, the fences are those of the mount, those of the lines, and the one that takes the mark away before them
  pub fences : length run.states ≡ length run.answers
      → after.fences ≡ before.fences + fences_of_repairs mount.repairs + fences_with_mark (has_mark before.words) (fences_of_run run.start run.lines run.answers run.states)
  -- and the events are no more than those, the acknowledgements among them
  pub events : length run.states ≡ length run.answers
      → GrowsBy (events_of_repairs mount.repairs + events_of_marked_run (has_mark before.words) run.start run.lines run.answers run.states) before after
  -- the word of the mark is what the fences of the lines leave of it
  pub mark : length run.states ≡ length run.answers → LeavesMark (fences_of_run run.start run.lines run.answers run.states) before after
  -- where one was, the fences are fewer, and the events no more, than with those of that line
  pub cut : length run.states < length run.answers → IsCutShort P run.start run.lines run.states
      (mark_after (has_mark before.words) (fences_of_run run.start run.lines run.answers run.states))
      (fences_of_repairs mount.repairs + fences_with_mark (has_mark before.words) (fences_of_run run.start run.lines run.answers run.states))
      (events_of_repairs mount.repairs + events_of_marked_run (has_mark before.words) run.start run.lines run.answers run.states) before after
  -- no word of the superblock but the mark is another
  pub beside : KeepsSuperblock before.words after.words
  -- a line that needs no place of a table was answered NoMemory only where the device refused room
  pub refused : before.refused ≤ after.refused
  pub no_memory : (k : ℕ) → slice_get run.answers k ≡ Some (Refused NoMemory)
      → IsTrue (needs_places_at run.start run.lines run.states k) ⊎ HasRisen before.refused after.refused

-- ---- the close

-- The volume was closed, from a device that stood for the state: the job is done, or its fence failed.
abbrev pub ClosesAs : ℕ → State → DeviceView → DeviceView → Status → Type 0
ClosesAs P state ran after status =
    (status ≡ Done) × Closes {T = Unit {0}} {E = Unit {0}} (has_mark ran.words) P state ran after (Ok tt)
    ⊎ (status ≡ DeviceFault) × Closes {T = Unit {0}} {E = Unit {0}} (has_mark ran.words) P state ran after (Err tt)

-- A run that was done is closed, and every other end is told and leaves the device.
abbrev pub ClosesAfter : RunEnd → ℕ → State → DeviceView → DeviceView → Status → Type 0
ClosesAfter ends.Done P state ran after status = ClosesAs P state ran after status
ClosesAfter ends.Faulted P state ran after status = (status ≡ DeviceFault) × (after ≡ ran)
ClosesAfter ends.ReadFault P state ran after status = (status ≡ ReadFault) × (after ≡ ran)
ClosesAfter ends.WriteFault P state ran after status = (status ≡ WriteFault) × (after ≡ ran)
ClosesAfter ends.Limit P state ran after status = (status ≡ ScriptLimit) × (after ≡ ran)

-- What is promised of a run is promised over the close too.
pub record KeepsRun (P : ℕ) (start : State) (lines : List Line) (states : List State) (before after : DeviceView) : Type 0 where
  -- a crash at any moment from entry to return leaves the tree after all acknowledged lines, or one that the running line may leave
  pub any_moment : LeavesOnly before.trail after.trail (IsBetween P start states lines)
  pub acks : AcksSettled before.trail after.trail (IsStateAfter P start states)
  pub acked : (trail : Trail) → after.trail ≡ Some trail → acks_from before.trail after.trail (moment_of after.trail) ≡ length states
  pub ack_count : after.acks ≡ before.acks + length states
  -- no word of the superblock but the mark is another
  pub beside : KeepsSuperblock before.words after.words

-- The main promise: the volume is mounted, whatever a crash left in it to repair, the script is run on it to an end, and where that is
-- its own the volume is closed.
pub record HasRun {S K : Type 0} (old new : Seen S K) (status : Status) : Type 0 where
  pub end : RunEnd
  -- the device after the run, before the close
  pub ran : DeviceView
  pub runs : MountsAndRuns (pages_in_image old.device.words) old.device ran end old.left new.left old.took new.took
  pub closes : ClosesAfter end (pages_in_image old.device.words) (last_state runs.run.start runs.run.states) ran new.device status
  pub keeps : KeepsRun (pages_in_image old.device.words) runs.run.start runs.run.lines runs.run.states old.device new.device
  pub open keeps use *
  -- where a fence failed, nothing was done to the device after it
  pub halts : status ≡ DeviceFault → EndsInFault new.device.trail
  pub limit : status ≡ ScriptLimit → GaveAll old.left new.left
