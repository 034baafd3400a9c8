-- The steps of `work`, from the mount on.
use Rattle.std.specs.Prelude.{◌≡◌, ◌⊎◌, ℕ, ◌+◌, [], Some}
use Rattle.pm_trait.specs.DeviceView.{DeviceView}
use Rattle.script.specs.Work.{work_text}
use Rattle.script.specs.declared.run_end.RunEnd.{RunEnd}
use Rattle.script.specs.declared.run_end.RunEnd.TheVariants as ends
use Rattle.engine.specs.Run.{last_state}
use Rattle.crash_replay.specs.Tally.{accepted_count, refused_count, accepted_in, refused_in}
use Rattle.crash_replay.specs.Work.{work_script}
use Rattle.crash_replay.specs.declared.tally.Tally.{Tally}
use Rattle.squirrel_cli.specs.declared.status.Status.{Status}
use Rattle.squirrel_cli.specs.declared.status.Status.TheVariants.{DeviceFault}
use Rattle.squirrel_cli.specs.Seen.{Seen, IsSilent}
use Rattle.squirrel_cli.specs.ReplaySteps.{RunsMounted}
use Rattle.squirrel_cli.specs.Tells.{TellsAndCloses}
use Rattle.squirrel_cli.specs.Works.{sums_of}

-- the generated script was run through to this end
abbrev pub RunsGenerated : ℕ → ℕ → ℕ → DeviceView → DeviceView → RunEnd → Type 0
RunsGenerated P seed count before after end = RunsMounted P before after end (Some (work_script seed count)) (Some [])

-- no line was answered Fault, and the tally has counted each answer
pub record CountsGenerated (P seed count : ℕ) (before after : DeviceView) (tally : Tally) : Type 0 where
  pub run : RunsGenerated P seed count before after ends.Done
  pub accepted : accepted_count tally ≡ accepted_in run.answers
  pub refused : refused_count tally ≡ refused_in run.answers
  pub all : accepted_in run.answers + refused_in run.answers ≡ count + 4

-- A fence failed in the run, and nothing was written; or the script was run through, its sums were told, and the volume was closed.
pub record FaultsGenerated {S K : Type 0} (P seed count : ℕ) (old new : Seen S K) (status : Status) : Type 0 where
  pub is : status ≡ DeviceFault
  pub silent : IsSilent old new
  pub run : RunsGenerated P seed count old.device new.device ends.Faulted

pub record SumsGenerated {S K : Type 0} (P seed count : ℕ) (old new : Seen S K) (status : Status) : Type 0 where
  pub script : new.script ≡ old.script
  pub worked : DeviceView
  pub run : RunsGenerated P seed count old.device worked ends.Done
  pub all : accepted_in run.answers + refused_in run.answers ≡ count + 4
  pub told : TellsAndCloses P (last_state run.start run.states) (work_text (sums_of P count run.start run.answers run.states)) worked new.device status old.took new.took

abbrev pub WorksOn : {S K : Type 0} → ℕ → ℕ → ℕ → Seen S K → Seen S K → Status → Type 0
WorksOn P seed count old new status = FaultsGenerated P seed count old new status ⊎ SumsGenerated P seed count old new status
