-- What holds of turns.
use Rattle.std.specs.Prelude.{◌≡◌, ℕ, ◌+◌, ◌<◌, ◌≤◌, true, false, List, [], Some}
use Rattle.pm_trait.specs.Trail.{Trail}
use Rattle.pm_trait.specs.Device.{LeavesOnly, HasRisen, acks_from, moment_of}
use Rattle.pm_trait.specs.Unfolds.{KeepsWords}
use Rattle.layout.specs.Superblock.{IsSuperblockWord}
use Rattle.schedules.specs.Turns.{Border, Turn, IsTurn, AreTurns, border_behind}
use Rattle.schedules.specs.Entries.{MakesHistory}
use Rattle.schedules.specs.Crashes.{IsLeftBy, acks_in, acks_of_turns}
use Rattle.schedules.specs.Borders.{IsBorder, turns_left}

-- ---- one turn

-- Behind it all stands again, and a turn fewer may come.
pub record IsTaken (old : Border) (turn : Turn) : Type 0 where
  pub border : IsBorder turn.behind
  pub fewer : turns_left turn.behind < turns_left old
  pub fences : turn.behind.device.fences ≤ old.device.fences + 1
  pub acks : turn.behind.device.acks ≡ old.device.acks + acks_in turn.reply
  pub size : turn.behind.weave.volume.size ≡ old.weave.volume.size
  pub stays : old.weave.volume.stopped ≡ true → turn.behind.weave.volume.stopped ≡ true
  pub cause : old.weave.volume.stopped ≡ false → turn.behind.weave.volume.stopped ≡ true → HasRisen old.device.faults turn.behind.device.faults
  pub no_fault : turn.behind.weave.volume.stopped ≡ old.weave.volume.stopped → turn.behind.device.faults ≡ old.device.faults

abbrev pub TurnLaw : Type 0
TurnLaw = (schedule : List ℕ) (count : ℕ) (old : Border) (turn : Turn) → IsBorder old → IsTurn schedule count old turn → IsTaken old turn

-- ---- a list of them

-- No entry was made before.
pub record IsFirst (start : Border) : Type 0 where
  pub border : IsBorder start
  pub none : start.weave.entries ≡ []
  pub unbegun : start.weave.begun ≡ 0
  pub going : start.weave.volume.stopped ≡ false

abbrev pub HistoryLaw : Type 0
HistoryLaw = (schedule : List ℕ) (start : Border) (turns : List Turn) → IsFirst start → AreTurns schedule 0 start turns → MakesHistory start turns

-- What a crash leaves of them, which acknowledgements stand on the trail, and what they leave of the superblock.
pub record LeavesTurns (start : Border) (turns : List Turn) : Type 0 where
  pub any_moment : LeavesOnly start.device.trail (border_behind start turns).device.trail (IsLeftBy start turns)
  pub acked : (told : Trail) → (border_behind start turns).device.trail ≡ Some told
      → acks_from start.device.trail (border_behind start turns).device.trail (moment_of (border_behind start turns).device.trail) ≡ acks_of_turns turns
  -- no word of it is another, the mark among them
  pub beside : KeepsWords IsSuperblockWord start.device.words (border_behind start turns).device.words

abbrev pub CrashLaw : Type 0
CrashLaw = (schedule : List ℕ) (start : Border) (turns : List Turn) → IsFirst start → AreTurns schedule 0 start turns → LeavesTurns start turns
