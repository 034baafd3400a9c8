-- When a job is done.
use Rattle.std.specs.Prelude.{◌≡◌, ◌≢◌, ◌⊎◌, ℕ, List, Some}
use Rattle.pm_trait.specs.Device.{HasRisen}
use Rattle.pm_trait.specs.DeviceView.{DeviceView}
use Rattle.io_edge.specs.declared.source.Source.{Ghosts as Sources}
use Rattle.io_edge.specs.declared.sink.Sink.{Ghosts as Sinks}
use Rattle.crash_replay.specs.declared.moment.Moment.{Moment}
use Rattle.layout.specs.Superblock.{HasMark}
use Rattle.command_line.specs.declared.job.Job.{Job}
use Rattle.command_line.specs.declared.job.Job.TheVariants.{Mkfs, Run, Tree, Check, Crash, Work, Weave}
use Rattle.squirrel_cli.specs.declared.status.Status.{Status}
use Rattle.squirrel_cli.specs.declared.status.Status.TheVariants.{Done, NoMemory, ScriptLimit}
use Rattle.squirrel_cli.specs.Asked.{ReadsScript}
use Rattle.squirrel_cli.specs.Causes.{TellsFaults}
use Rattle.squirrel_cli.specs.Ends.{IsMountable, IsReadyFor, IsShortFor, IsShortScript}
use Rattle.squirrel_cli.specs.Rows.{DoesJob, ReplaysCrash}
use Rattle.squirrel_cli.specs.Seen.{Seen, seen}

-- no fence and no write failed
abbrev pub HasNoFault : {S K : Type 0} → Seen S K → Seen S K → Type 0
HasNoFault old new = ¬ HasRisen old.device.faults new.device.faults × ¬ HasRisen old.write_faults new.write_faults

-- A job on a device as it needs it, where nothing fails, is done, or memory is short, or its script is too long. A job that reads no
-- script needs nothing of it. A script within the limits of the job is not too long.
pub record Completes {S K : Type 0} (job : Job) (old new : Seen S K) (status : Status) : Type 0 where
  pub complete : IsReadyFor job old.device.words → HasNoFault old new → ¬ ReadsScript job ⊎ ¬ HasRisen old.read_faults new.read_faults
      → (status ≡ Done) ⊎ (status ≡ NoMemory) ⊎ ReadsScript job × (status ≡ ScriptLimit)
  pub short : IsShortFor job old.left → status ≢ ScriptLimit

abbrev pub CompleteLaw : {S K : Type 0} → Sources S → Sinks K → Type 0
CompleteLaw {S} {K} source sink = (job : Job) (before after : DeviceView) (script rest : S) (output written : K) (status : Status)
    → DoesJob (Some job) (seen source sink before script output) (seen source sink after rest written) status
    → TellsFaults (seen source sink before script output) (seen source sink after rest written) status
    → Completes job (seen source sink before script output) (seen source sink after rest written) status

-- Of a replay of a short script, where nothing fails, memory alone may be short.
abbrev pub ReplayCompleteLaw : {S K : Type 0} → Sources S → Sinks K → Type 0
ReplayCompleteLaw {S} {K} source sink = (moment : Moment) (keep : List ℕ) (before after : DeviceView) (script rest : S) (output written : K) (status : Status)
    → ReplaysCrash moment keep (seen source sink before script output) (seen source sink after rest written) status
    → TellsFaults (seen source sink before script output) (seen source sink after rest written) status
    → IsMountable before.words → IsShortScript (source.left script) → HasNoFault (seen source sink before script output) (seen source sink after rest written)
    → ¬ HasRisen (source.faults script) (source.faults rest) → (status ≡ Done) ⊎ (status ≡ NoMemory)

-- ---- what a job that is done leaves

-- it closes the volume where it is done
abbrev pub ClosesVolume : Job → Type 0
ClosesVolume (Mkfs pages) = ⊥
ClosesVolume Run = Unit {0}
ClosesVolume Tree = Unit {0}
ClosesVolume Check = ⊥
ClosesVolume (Crash moment keep again) = ⊥
ClosesVolume (Work seed count) = Unit {0}
ClosesVolume (Weave sessions schedule) = Unit {0}

-- Such a job that is done leaves the mark of a volume that was closed.
abbrev pub ClosedLaw : {S K : Type 0} → Sources S → Sinks K → Type 0
ClosedLaw {S} {K} source sink = (job : Job) (before after : DeviceView) (script rest : S) (output written : K) (status : Status)
    → DoesJob (Some job) (seen source sink before script output) (seen source sink after rest written) status
    → ClosesVolume job → status ≡ Done → HasMark after.words
