-- What a schedule does, whole: from the sessions as they start to the end of their lines, or to a write that fails.
use Rattle.std.specs.Prelude.{◌≡◌, ◌⊎◌, ℕ, ◌+◌, ◌^◌, ◌<◌, ◌≤◌, Bool, true, false, ◌&&◌, List, [], ◌∷◌, ◌++◌, length, replicate, take, None, Some, Ok, Err}
use Rattle.pm_trait.specs.Trail.{Trail}
use Rattle.pm_trait.specs.Device.{HasRisen, LeavesOnly, acks_from, moment_of}
use Rattle.pm_trait.specs.DeviceView.{DeviceView}
use Rattle.io_edge.specs.Bytes.{Takes}
use Rattle.pm_trait.specs.Unfolds.{KeepsWords}
use Rattle.layout.specs.Superblock.{IsSuperblockWord, open_mark}
use Rattle.tree_model.specs.Tree.{Tree}
use Rattle.tree_model.specs.Run.{State, Line}
use Rattle.script.specs.SessionLines.{session_calls}
use Rattle.session_laws.specs.Calls.{AreIdle}
use Rattle.mark_ops.specs.Marking.{SetsMark}
use Rattle.volume.specs.Prepared.{IsSameButRoom}
use Rattle.session_lines.specs.Turns.{has_change}
use Rattle.sessions.specs.Interleave.{InterleaveView, IsWeaving}
use Rattle.sessions.specs.Texts.{told_text}
use Rattle.sessions.specs.declared.entry.StepReply.{StepReply}
use Rattle.sessions.specs.declared.entry.StepReply.TheVariants.{Running, Ended}
use Rattle.schedules.specs.Turns.{Border, Turn, AreTurns, border_behind}
use Rattle.schedules.specs.Entries.{MakesHistory}
use Rattle.schedules.specs.Crashes.{IsLeftBy, acks_of_turns}
use Rattle.schedules.specs.Borders.{AreOfSessions}
use Rattle.schedules.specs.Laws.{IsFirst}
use Rattle.schedules.specs.declared.weave_end.WeaveEnd.{WeaveEnd}
use Rattle.schedules.specs.declared.weave_end.WeaveEnd.TheVariants.{Done, Faulted, WriteFault}

-- ---- what is written

-- of a call that ended, over the tree of the history before its step
abbrev pub text_of_reply : Tree → ℕ → Line → StepReply → List ℕ
text_of_reply T session line (Running number) = []
text_of_reply T session line (Ended number reply) = told_text session T line reply

abbrev pub text_of : Border → Turn → List ℕ
text_of old turn = text_of_reply old.history.tree turn.session turn.line turn.reply

abbrev pub texts_of : Border → List Turn → List ℕ
texts_of old [] = []
texts_of old (turn ∷ turns) = text_of old turn ++ texts_of turn.behind turns

-- all texts but the last, and a prefix of that one
pub record WritesPrefix (took : List ℕ → Type 0) (start : Border) (turns : List Turn) (now : List ℕ → Type 0) : Type 0 where
  pub front : List Turn
  pub last : Turn
  pub split : turns ≡ front ++ last ∷ []
  pub count : ℕ
  pub short : count < length (text_of (border_behind start front) last)
  pub takes : Takes took (texts_of start front ++ take count (text_of (border_behind start front) last)) now

abbrev pub WritesTexts : WeaveEnd → (List ℕ → Type 0) → Border → List Turn → (List ℕ → Type 0) → Type 0
WritesTexts Done took start turns now = Takes took (texts_of start turns) now
WritesTexts Faulted took start turns now = Takes took (texts_of start turns) now
WritesTexts WriteFault took start turns now = WritesPrefix took start turns now

-- ---- the turns

-- The sessions as they start, with all lines of a script.
abbrev pub start_of : InterleaveView → DeviceView → State → List ℕ → Border
start_of weave device state script = record {
  weave = weave;
  device = device;
  calls = replicate (length weave.tasks) None;
  history = state;
  left = record { sessions = length weave.tasks; lines = session_calls (length weave.tasks) script };
}

-- All lines were taken, and a fence has failed or not; or a write has failed.
abbrev pub EndsAt : WeaveEnd → Border → Type 0
EndsAt Done last = (last.left.lines ≡ []) × (last.weave.volume.stopped ≡ false)
EndsAt Faulted last = (last.left.lines ≡ []) × (last.weave.volume.stopped ≡ true)
EndsAt WriteFault last = Unit {0}

-- From the start on turns were taken by the schedule, to this end, and their texts were written.
pub record TakesTurns (schedule : List ℕ) (start : Border) (end : WeaveEnd) (new : InterleaveView) (after : DeviceView) (took now : List ℕ → Type 0) : Type 0 where
  -- no call has begun at the start, and each line is of one of the sessions
  pub begins : IsFirst start
  pub of_sessions : AreOfSessions start.left.sessions start.left.lines
  pub turns : List Turn
  pub are : AreTurns schedule 0 start turns
  pub weave : new ≡ (border_behind start turns).weave
  pub device : after ≡ (border_behind start turns).device
  pub ends : EndsAt end (border_behind start turns)
  pub writes : WritesTexts end took start turns now
  pub history : MakesHistory start turns
  pub any_moment : LeavesOnly start.device.trail after.trail (IsLeftBy start turns)
  pub acks : after.acks ≡ start.device.acks + acks_of_turns turns
  pub acked : (told : Trail) → after.trail ≡ Some told → acks_from start.device.trail after.trail (moment_of after.trail) ≡ acks_of_turns turns
  -- no word of the superblock is another, the mark among them
  pub beside : KeepsWords IsSuperblockWord start.device.words after.words
  -- where no fence failed the calls wait, and where no line is left none runs
  pub waits : new.volume.stopped ≡ false → IsWeaving new after (border_behind start turns).calls (border_behind start turns).history
  pub idle : new.volume.stopped ≡ false → (border_behind start turns).left.lines ≡ [] → AreIdle (border_behind start turns).calls
  pub no_fault : new.volume.stopped ≡ false → after.faults ≡ start.device.faults
  pub cause : new.volume.stopped ≡ true → HasRisen start.device.faults after.faults
  pub fences : after.fences ≤ start.device.fences + 2 ^ 20

-- ---- the mark

-- some line changes the volume, which has the mark of one that was closed
abbrev pub needs_unmark : InterleaveView → List ℕ → Bool
needs_unmark weave script = weave.volume.marked && has_change (session_calls (length weave.tasks) script)

-- Before the first step the mark is taken away where that is needed.
abbrev pub Unmarks : Bool → State → InterleaveView → InterleaveView → DeviceView → DeviceView → Type 0
Unmarks false state old new before after = (new ≡ old) × (after ≡ before)
Unmarks true state old new before after =
    (new ≡ record old { volume = record old.volume { marked = false } })
    × (between : DeviceView) × IsSameButRoom before between × SetsMark {T = Unit {0}} {E = Unit {0}} old.volume.size open_mark state between after (Ok tt)

-- Its fence failed, and nothing is executed or written.
pub record FailsToUnmark (state : State) (script : List ℕ) (end : WeaveEnd) (old new : InterleaveView) (before after : DeviceView) (took now : List ℕ → Type 0) : Type 0 where
  pub needed : needs_unmark old script ≡ true
  pub end_is : end ≡ Faulted
  pub weave : new ≡ record old { volume = record old.volume { stopped = true } }
  pub between : DeviceView
  pub room : IsSameButRoom before between
  pub failed : SetsMark {T = Unit {0}} {E = Unit {0}} old.volume.size open_mark state between after (Err tt)
  pub unwritten : Takes took [] now

-- ---- whole

-- The mark was taken away where that was needed, and then the turns were taken.
pub record RunsTurns (state : State) (script schedule : List ℕ) (end : WeaveEnd) (old new : InterleaveView) (before after : DeviceView) (took now : List ℕ → Type 0) : Type 0 where
  pub first : InterleaveView
  pub began : DeviceView
  pub unmarks : Unmarks (needs_unmark old script) state old first before began
  pub takes : TakesTurns schedule (start_of first began state script) end new after took now

abbrev pub RunsSchedule : State → List ℕ → List ℕ → WeaveEnd → InterleaveView → InterleaveView → DeviceView → DeviceView → (List ℕ → Type 0) → (List ℕ → Type 0) → Type 0
RunsSchedule state script schedule end old new before after took now =
    FailsToUnmark state script end old new before after took now ⊎ RunsTurns state script schedule end old new before after took now

-- Memory was short before the first event, and nothing was executed or written.
pub record IsShortOfMemory (old new : InterleaveView) (before after : DeviceView) (took now : List ℕ → Type 0) : Type 0 where
  pub weave : new ≡ old
  pub device : IsSameButRoom before after
  pub unwritten : Takes took [] now
