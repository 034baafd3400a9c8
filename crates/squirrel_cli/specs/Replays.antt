-- What a replay of a crash runs, what it lists, and what another end leaves.
use Rattle.std.specs.Prelude.{◌≡◌, ◌≢◌, ◌⊎◌, ℕ, ◌++◌, List, [], length, take, slice_get, Option, Some, None}
use Rattle.pm_trait.specs.Trail.{Trail, trail_at, IsCrashImage, count_acks}
use Rattle.pm_trait.specs.Device.{moment_of}
use Rattle.pm_trait.specs.DeviceView.{DeviceView}
use Rattle.pm_memory.specs.Chosen.{IsChosenImage}
use Rattle.tree_model.specs.Tree.{Tree}
use Rattle.tree_model.specs.Step.{Refused}
use Rattle.tree_model.specs.declared.reply.Refusal.TheVariants.{NoMemory as OutOfMemory}
use Rattle.image_reading.specs.Reading.{Reads}
use Rattle.image_reading.specs.Soundness.{pages_in_image}
use Rattle.script.specs.Texts.{acked_text, listing_text}
use Rattle.script.specs.declared.run_end.RunEnd.{RunEnd}
use Rattle.script.specs.declared.run_end.RunEnd.TheVariants as ends
use Rattle.crash_replay.specs.Place.{place_in}
use Rattle.crash_replay.specs.declared.moment.Moment.{Moment}
use Rattle.squirrel_cli.specs.declared.status.Status.{Status}
use Rattle.squirrel_cli.specs.declared.status.Status.TheVariants.{Done, Usage, NoMemory, NotVolume, Damaged, DeviceFault, ReadFault, WriteFault, ScriptLimit}
use Rattle.squirrel_cli.specs.Ends.{GaveAll}
use Rattle.squirrel_cli.specs.Seen.{Seen}
use Rattle.squirrel_cli.specs.Mounts.{MountsAndRuns}
use Rattle.squirrel_cli.specs.Told.{IsToldOrCut}

-- a device that records its trail, in which there is no event yet
pub record IsUnbegun (device : DeviceView) : Type 0 where
  pub base : List ℕ
  pub recorded : device.trail ≡ Some (record { base = base; events = [] })

-- a sink of which nothing is known may be said to have taken any bytes
abbrev pub Anything : List ℕ → Type 0
Anything bytes = Unit {0}

-- The device was mounted, and the script run through on it to this end. Of what the run's own sink took nothing is asked.
abbrev pub RunsThrough : ℕ → DeviceView → DeviceView → RunEnd → Option (List ℕ) → Option (List ℕ) → Type 0
RunsThrough P before after end script rest = MountsAndRuns P before after end script rest Anything Anything

-- how the run of the script ended that a replay's status tells where nothing was listed: out of memory may come behind it too
abbrev pub unlisted_end : Status → Option RunEnd
unlisted_end Done = None
unlisted_end Usage = None
unlisted_end NoMemory = Some ends.Done
unlisted_end NotVolume = None
unlisted_end (Damaged violation) = None
unlisted_end DeviceFault = Some ends.Faulted
unlisted_end ReadFault = Some ends.ReadFault
unlisted_end WriteFault = None
unlisted_end ScriptLimit = Some ends.Limit

-- the number of acknowledgements before the moment; the mount's events are the first `mark`
abbrev pub acked_before : Trail → ℕ → Moment → ℕ
acked_before trail mark moment = count_acks (take (place_in trail.events mark moment) trail.events)

-- the image that the bytes choose at the moment, and the tree that it reads as
pub record ReadsLeft (moment : Moment) (keep : List ℕ) (mark : ℕ) (trail : Trail) : Type 0 where
  pub image : List ℕ
  pub chosen : IsChosenImage (trail_at trail (place_in trail.events mark moment)) keep image
  -- it is one that a crash may leave
  pub crash : IsCrashImage (trail_at trail (place_in trail.events mark moment)) image
  pub tree : Tree
  pub reads : Reads (pages_in_image image) image tree

-- The number of acknowledgements before the moment and the listing of that tree were written, or a prefix of them where a write failed.
pub record ListsLeft (moment : Moment) (keep : List ℕ) (mark : ℕ) (trail : Trail) (result : Status) (took now : List ℕ → Type 0) : Type 0 where
  pub left : ReadsLeft moment keep mark trail
  pub told : IsToldOrCut Done (acked_text (acked_before trail mark moment) ++ listing_text left.tree) result took now

-- The whole script was run through, no line of it was answered NoMemory or Fault, and what a crash at the moment leaves was read.
pub record Replayed (moment : Moment) (keep : List ℕ) (P : ℕ) (before after : DeviceView) (script rest : Option (List ℕ)) : Type 0 where
  pub ran : RunsThrough P before after ends.Done script rest
  pub unfailed : length ran.run.states ≡ length ran.run.answers
  pub ample : (k : ℕ) → slice_get ran.run.answers k ≢ Some (Refused OutOfMemory)
  pub trail : Trail
  pub recorded : after.trail ≡ Some trail
  pub left : ReadsLeft moment keep (moment_of ran.mounted.trail) trail
  pub open left use *

-- And it was listed, with the number of acknowledgements before the moment.
pub record Replays (moment : Moment) (keep : List ℕ) (P : ℕ) (before after : DeviceView) (result : Status) (script rest : Option (List ℕ)) (took now : List ℕ → Type 0) : Type 0 where
  pub replayed : Replayed moment keep P before after script rest
  pub open replayed use *
  pub told : IsToldOrCut Done (acked_text (acked_before trail (moment_of ran.mounted.trail) moment) ++ listing_text tree) result took now

-- The script was run through to the end that the status tells, and nothing was written.
pub record EndsUnlisted {S K : Type 0} (old new : Seen S K) (status : Status) : Type 0 where
  pub end : RunEnd
  pub ended : unlisted_end status ≡ Some end
  pub output : new.output ≡ old.output
  pub ran : RunsThrough (pages_in_image old.device.words) old.device new.device end old.left new.left
  pub limit : status ≡ ScriptLimit → GaveAll old.left new.left

-- What a replay does on a sound volume.
abbrev pub HasReplayed : {S K : Type 0} → Moment → List ℕ → Seen S K → Seen S K → Status → Type 0
HasReplayed moment keep old new status =
    EndsUnlisted old new status
    ⊎ Replays moment keep (pages_in_image old.device.words) old.device new.device status old.left new.left old.took new.took
