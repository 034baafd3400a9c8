-- The steps of a replay.
use Rattle.std.specs.Prelude.{◌≡◌, ◌≢◌, ℕ, ◌≤◌, List, [], ◌∷◌, length, slice_get, Option, Some, None}
use Rattle.pm_trait.specs.Trail.{Trail, trail_at, IsCrashImage}
use Rattle.pm_trait.specs.Device.{MayLeave, moment_of}
use Rattle.pm_trait.specs.DeviceView.{DeviceView}
use Rattle.pm_memory.specs.Chosen.{IsChosenImage}
use Rattle.tree_model.specs.Step.{Refused}
use Rattle.tree_model.specs.declared.reply.Refusal.TheVariants.{NoMemory as OutOfMemory}
use Rattle.image_reading.specs.Soundness.{Sound, pages_in_image}
use Rattle.image_laws.specs.Frame.{SameMeaning}
use Rattle.mount_scan.specs.Mounting.{IsSound}
use Rattle.remounts.specs.InTurn.{LeaveInTurn}
use Rattle.remounts.specs.declared.Crash.{Crash}
use Rattle.script.specs.declared.run_end.RunEnd.{RunEnd}
use Rattle.script.specs.declared.run_end.RunEnd.TheVariants as ends
use Rattle.engine.specs.Script.{RunsScript}
use Rattle.crash_replay.specs.declared.moment.Moment.{Moment}
use Rattle.squirrel_cli.specs.declared.chosen.SecondCrash.{SecondCrash}
use Rattle.squirrel_cli.specs.declared.status.Status.{Status}
use Rattle.squirrel_cli.specs.Replays.{Anything, ListsLeft}

-- whatever a crash at any moment leaves is sound
abbrev pub LeavesSound : Trail → Type 0
LeavesSound trail = (place : ℕ) (image : List ℕ) → place ≤ length trail.events → IsCrashImage (trail_at trail place) image → IsSound image

-- and so it was on a device so far
abbrev pub LeavesSoundSoFar : ℕ → Option Trail → Type 0
LeavesSoundSoFar P trail = (moment : ℕ) (image : List ℕ) → moment ≤ moment_of trail → MayLeave trail moment image → Sound P image

-- the script was run through on the mounted device to this end; of what the run's own sink took nothing is asked
abbrev pub RunsMounted : ℕ → DeviceView → DeviceView → RunEnd → Option (List ℕ) → Option (List ℕ) → Type 0
RunsMounted P before after end script rest = RunsScript P before after end script rest Anything Anything

-- it was run to its end, and what a crash at the moment leaves was listed
pub record ReplaysMounted (moment : Moment) (keep : List ℕ) (P : ℕ) (before after : DeviceView) (result : Status) (script rest : Option (List ℕ)) (took now : List ℕ → Type 0) : Type 0 where
  pub run : RunsMounted P before after ends.Done script rest
  pub unfailed : length run.states ≡ length run.answers
  pub ample : (k : ℕ) → slice_get run.answers k ≢ Some (Refused OutOfMemory)
  pub trail : Trail
  pub recorded : after.trail ≡ Some trail
  pub listed : ListsLeft moment keep (moment_of before.trail) trail result took now

-- the second crash, where one is asked
abbrev pub crashes_of : Option SecondCrash → List Crash
crashes_of None = []
crashes_of (Some crash) = record { moment = crash.at; keep = crash.keep } ∷ []

-- what a crash left, and where one is asked a second one in the mount of that: it is sound, and means what the chosen image means
pub record HasLeft (keep : List ℕ) (again : Option SecondCrash) (trail : Trail) (words : List ℕ) : Type 0 where
  pub image : List ℕ
  pub chosen : IsChosenImage trail keep image
  pub crash : IsCrashImage trail image
  pub whole : IsSound image
  pub in_turn : LeaveInTurn (crashes_of again) image words
  pub sound : IsSound words
  pub means : SameMeaning (pages_in_image image) image words
