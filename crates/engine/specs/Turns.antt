-- What stands between two lines of a run.
use Rattle.std.specs.Prelude.{◌≡◌, ◌⊎◌, ℕ, ◌+◌, ◌<◌, ◌≤◌, Bool, true, false, IsTrue, List, ◌++◌, map, length, slice_get, Option, Some, None, Result, Ok, Err}
use Rattle.std.specs.declared.ops.ControlFlow.{ControlFlow}
use Rattle.std.specs.declared.ops.ControlFlow.TheVariants.{Continue, Break}
use Rattle.pm_trait.specs.Trail.{Trail}
use Rattle.pm_trait.specs.Device.{HasRisen, LeavesOnly, AcksSettled, EndsInFault, acks_from, moment_of}
use Rattle.pm_trait.specs.DeviceView.{DeviceView, GrowsBy}
use Rattle.io_edge.specs.declared.sink.WriteFault.{WriteFault}
use Rattle.io_edge.specs.Bytes.{Takes, TakesPrefix}
use Rattle.tree_model.specs.Step.{Answer, Refused, Fault, Stopped}
use Rattle.tree_model.specs.Run.{Line, State}
use Rattle.tree_model.specs.declared.reply.Refusal.TheVariants.{NoMemory}
use Rattle.tree_model.specs.declared.reply.Reply.{Reply}
use Rattle.image_reading.specs.Reading.{ReadsAs}
use Rattle.script.specs.declared.lines.Lines.{Lines}
use Rattle.script.specs.declared.run_end.RunEnd.{RunEnd}
use Rattle.script.specs.declared.run_end.RunEnd.TheVariants as end
use Rattle.script.specs.Lines.{call_of, calls_of, complete_lines_of}
use Rattle.script.specs.Reader.{pending, read_count, has_ended}
use Rattle.script.specs.Reading.{rest_of, IfTold, ReadPrefix}
use Rattle.script.specs.Texts.{answer_text}
use Rattle.layout.specs.Superblock.{has_mark, KeepsSuperblock}
use Rattle.engine.specs.Exec.{HasAnswered, HasFailed, LeavesMark, most_fences_with_mark}
use Rattle.tree_model.specs.Fences.{fences_of_run}
use Rattle.volume.specs.Costs.{fences_with_mark, mark_after}
use Rattle.engine.specs.Memory.{needs_places_at}
use Rattle.engine.specs.Quiet.{MayStore, ActsOnly}
use Rattle.engine.specs.Run.{Run, last_state, IsBetween, IsStateAfter}
use Rattle.engine.specs.Script.{texts_of, events_of_marked_run, IsCutShort}
use Rattle.engine.specs.Session.{Mounted}
use Rattle.volume.specs.Stands.{StandsFor, IsStanding}

-- ---- how a run goes on or ends

-- by a reply that was written, or not
abbrev pub flow_of : Result (Unit {0}) WriteFault → ControlFlow RunEnd (Unit {0})
flow_of (Ok done) = Continue done
flow_of (Err fault) = Break end.WriteFault

-- at the end of its input, on a volume that is stopped or not
abbrev pub end_at : Bool → RunEnd
end_at true = end.Faulted
end_at false = end.Done

-- a volume that is stopped has another end than one that goes on
pub record IsEndOf (stopped : Bool) (ended : RunEnd) : Type 0 where
  pub faulted : ended ≡ end.Faulted → stopped ≡ true
  pub done : ended ≡ end.Done → stopped ≡ false

-- a line of the script was given, and no read and no write has failed
pub record GivesAll (given_before given reads_before reads writes_before writes : ℕ) : Type 0 where
  pub more : given_before < given
  pub no_read_fault : reads ≡ reads_before
  pub no_write_fault : writes ≡ writes_before

-- ---- one line and its reply

-- the sink took the text, or where a write failed a prefix of it
abbrev pub Wrote : Result (Unit {0}) WriteFault → (List ℕ → Type 0) → List ℕ → (List ℕ → Type 0) → Type 0
Wrote (Ok done) took text now = Takes took text now
Wrote (Err fault) took text now = TakesPrefix took text now

-- the line was answered, and the answer written
pub record IsAnswered (P : ℕ) (state : State) (line : Line) (old : DeviceView) (new : Mounted) (written : Result (Unit {0}) WriteFault) (took now : List ℕ → Type 0) : Type 0 where
  pub reply : Reply
  pub done : HasAnswered P state line new.session reply old new.device
  pub wrote : Wrote written took (answer_text done.answer) now
  pub one_ack : new.device.acks ≡ old.acks + 1

-- A line was executed and its reply written. On a stopped volume nothing is done; a fence that fails stops the volume.
pub record Turned (P : ℕ) (state : State) (line : Line) (old new : Mounted) (written : Result (Unit {0}) WriteFault) (took now : List ℕ → Type 0) : Type 0 where
  pub answered : old.volume.stopped ≡ false → new.volume.stopped ≡ false → IsAnswered P state line old.device new written took now
  pub failed : old.volume.stopped ≡ false → new.volume.stopped ≡ true → HasFailed P state line old.device new.device × Wrote written took (answer_text Fault) now × (new.device.acks ≡ old.device.acks)
  pub still : old.volume.stopped ≡ true → (new ≡ old) × Wrote written took (answer_text Stopped) now

-- What it leaves whatever the tree: a volume that stands on its device, or one that is stopped since a fence failed.
pub record MovesOn (old new : Mounted) : Type 0 where
  pub stands : new.volume.stopped ≡ false → IsStanding new.volume new.device
  pub size : new.volume.size ≡ old.volume.size
  pub stays : old.volume.stopped ≡ true → new.volume.stopped ≡ true
  pub cause : new.volume.stopped ≡ true → (old.volume.stopped ≡ true) ⊎ HasRisen old.device.faults new.device.faults
  pub no_fault : new.volume.stopped ≡ false → new.device.faults ≡ old.device.faults
  pub faults : old.device.faults ≤ new.device.faults
  pub refused : old.device.refused ≤ new.device.refused
  pub fences : new.device.fences ≤ old.device.fences + most_fences_with_mark
  pub acks : new.device.acks ≤ old.device.acks + 1

-- ---- a run so far

-- What a run has of its script: whether the end was seen, how many bytes were read, what the source has left, and what is still to
-- be given.
pub record Input : Type 0 where
  pub seen : Bool
  pub read : ℕ
  pub left : Option (List ℕ)
  pub rest : Option (List ℕ)

abbrev pub input_of : Lines → Option (List ℕ) → Input
input_of lines left = record {
  seen = has_ended lines;
  read = read_count lines;
  left = left;
  rest = rest_of (pending lines) left;
}

-- no line has failed: the volume stands for the state after the last line
pub record IsGoing (start : State) (answers : List Answer) (states : List State) (now : Mounted) : Type 0 where
  pub each : length states ≡ length answers
  pub stands : StandsFor now.volume now.device (last_state start states)

-- The lines were taken off the script, and the rest is still to be given. While the end of the input was not seen, each of
-- them ended with a newline.
pub record AreTaken (lines : List Line) (seen : Bool) (script rest : List ℕ) : Type 0 where
  pub front : List ℕ
  pub split : script ≡ front ++ rest
  pub all : calls_of script ≡ lines ++ calls_of rest
  pub complete : seen ≡ false → (more : List ℕ) → map call_of (complete_lines_of (front ++ more)) ≡ lines ++ map call_of (complete_lines_of more)

abbrev pub AreTakenTold : List Line → Bool → Option (List ℕ) → Option (List ℕ) → Type 0
AreTakenTold lines seen None rest = rest ≡ None
AreTakenTold lines seen (Some script) None = ⊥
AreTakenTold lines seen (Some script) (Some rest) = AreTaken lines seen script rest

-- the lines were taken off the script, and what was read of it is counted
pub record HasTaken (lines : List Line) (script : Option (List ℕ)) (input : Input) : Type 0 where
  pub told : AreTakenTold lines input.seen script input.rest
  pub counted : IfTold script input.left (ReadPrefix 0 input.read)

-- the device's count of faults has risen where the volume is stopped, and is as before where it isn't
pub record CountsFaults (stopped : Bool) (before now : ℕ) : Type 0 where
  pub cause : stopped ≡ true → HasRisen before now
  pub no_fault : stopped ≡ false → now ≡ before

-- From this start some lines were executed and answered, and the replies written.
pub record RanSoFar (P : ℕ) (start : State) (first : DeviceView) (script : Option (List ℕ)) (taken : List ℕ → Type 0) (now : Mounted) (input : Input) (took : List ℕ → Type 0) : Type 0 where
  pub reads : ReadsAs P first.words start
  pub size : now.volume.size ≡ P
  pub lines : List Line
  pub answers : List Answer
  pub states : List State
  pub run : Run P start lines answers states
  pub going : now.volume.stopped ≡ false → IsGoing start answers states now
  pub halted : now.volume.stopped ≡ true → length states < length answers
  pub faults : CountsFaults now.volume.stopped first.faults now.device.faults
  pub order : first.faults ≤ now.device.faults
  pub has_taken : HasTaken lines script input
  pub texts : Takes taken (texts_of answers) took
  pub acks : AcksSettled first.trail now.device.trail (IsStateAfter P start states)
  pub any_moment : LeavesOnly first.trail now.device.trail (IsBetween P start states lines)
  pub quiet : ActsOnly first.trail now.device.trail (MayStore start lines answers states)
  pub halts : now.volume.stopped ≡ true → EndsInFault now.device.trail
  pub counted : (told : Trail) → now.device.trail ≡ Some told → acks_from first.trail now.device.trail (moment_of now.device.trail) ≡ length states
  pub no_memory : (k : ℕ) → slice_get answers k ≡ Some (Refused NoMemory) → IsTrue (needs_places_at start lines states k) ⊎ HasRisen first.refused now.device.refused
  pub refused : first.refused ≤ now.device.refused
  pub fences : now.volume.stopped ≡ false → now.device.fences ≡ first.fences + fences_with_mark (has_mark first.words) (fences_of_run start lines answers states)
  pub events : now.volume.stopped ≡ false → GrowsBy (events_of_marked_run (has_mark first.words) start lines answers states) first now.device
  pub mark : now.volume.stopped ≡ false → LeavesMark (fences_of_run start lines answers states) first now.device
  pub cut : now.volume.stopped ≡ true → IsCutShort P start lines states (mark_after (has_mark first.words) (fences_of_run start lines answers states))
      (fences_with_mark (has_mark first.words) (fences_of_run start lines answers states)) (events_of_marked_run (has_mark first.words) start lines answers states) first now.device
  pub beside : KeepsSuperblock first.words now.device.words
  pub ack_count : now.device.acks ≡ first.acks + length states
