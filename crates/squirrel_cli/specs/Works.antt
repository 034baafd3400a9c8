-- What `work` runs, and what it tells of it.
use Rattle.std.specs.Prelude.{◌≡◌, ◌⊎◌, ℕ, ◌+◌, List, [], Some}
use Rattle.pm_trait.specs.DeviceView.{DeviceView}
use Rattle.image_reading.specs.Soundness.{pages_in_image}
use Rattle.tree_model.specs.Capacity.{untaken}
use Rattle.tree_model.specs.Run.{State}
use Rattle.tree_model.specs.Step.{Answer, space_of}
use Rattle.script.specs.Work.{work_text}
use Rattle.script.specs.declared.run_end.RunEnd.{RunEnd}
use Rattle.script.specs.declared.run_end.RunEnd.TheVariants as ends
use Rattle.script.specs.declared.work.WorkSummary.{WorkSummary}
use Rattle.volume.specs.Totals.{totals_of}
use Rattle.engine.specs.Run.{last_state}
use Rattle.crash_replay.specs.Tally.{accepted_in, refused_in}
use Rattle.crash_replay.specs.Work.{work_script}
use Rattle.squirrel_cli.specs.declared.status.Status.{Status}
use Rattle.squirrel_cli.specs.declared.status.Status.TheVariants.{DeviceFault}
use Rattle.squirrel_cli.specs.Seen.{Seen, IsSilent}
use Rattle.squirrel_cli.specs.Replays.{RunsThrough}
use Rattle.squirrel_cli.specs.Mounts.{KeepsRun}
use Rattle.squirrel_cli.specs.Tells.{TellsAndCloses}

-- The device was mounted, and the generated script run through on it to this end. Of what the run's own sink took nothing is asked.
abbrev pub RunsWork : ℕ → ℕ → ℕ → DeviceView → DeviceView → RunEnd → Type 0
RunsWork P seed count before after end = RunsThrough P before after end (Some (work_script seed count)) (Some [])

-- the sums of `count` lines and the four before them, of which so many were accepted and refused, and of the state after the last
abbrev pub summary_of : ℕ → ℕ → ℕ → ℕ → State → WorkSummary
summary_of P count accepted refused last = record {
  lines = count + 4;
  accepted = accepted;
  refused = refused;
  space = space_of (untaken P) last.tree last.room;
  names = (totals_of last.tree).names;
  bytes = (totals_of last.tree).bytes;
}

-- the sums of the answers and of the last state
abbrev pub sums_of : ℕ → ℕ → State → List Answer → List State → WorkSummary
sums_of P count start answers states = summary_of P count (accepted_in answers) (refused_in answers) (last_state start states)

-- A fence failed in the run of the generated script, and nothing was written.
pub record FaultsInWork {S K : Type 0} (seed count : ℕ) (old new : Seen S K) (status : Status) : Type 0 where
  pub is : status ≡ DeviceFault
  pub silent : IsSilent old new
  pub ran : RunsWork (pages_in_image old.device.words) seed count old.device new.device ends.Faulted

-- The generated script was run through, no line of it was answered Fault, its sums were told, or a prefix of them where a write failed,
-- and the volume was closed.
pub record WorksScript {S K : Type 0} (seed count : ℕ) (old new : Seen S K) (status : Status) : Type 0 where
  pub script : new.script ≡ old.script
  pub worked : DeviceView
  pub ran : RunsWork (pages_in_image old.device.words) seed count old.device worked ends.Done
  pub all : accepted_in ran.run.answers + refused_in ran.run.answers ≡ count + 4
  pub told : TellsAndCloses (pages_in_image old.device.words) (last_state ran.run.start ran.run.states)
      (work_text (sums_of (pages_in_image old.device.words) count ran.run.start ran.run.answers ran.run.states)) worked new.device status old.took new.took
  pub keeps : KeepsRun (pages_in_image old.device.words) ran.run.start ran.run.lines ran.run.states old.device new.device
  pub open keeps use *

-- What `work` does on a sound volume: what `run` says of a crash is said of the generated lines.
abbrev pub HasWorked : {S K : Type 0} → ℕ → ℕ → Seen S K → Seen S K → Status → Type 0
HasWorked seed count old new status = FaultsInWork seed count old new status ⊎ WorksScript seed count old new status
