-- One session alone, whatever the schedule: its replies are such as `run` may give to its lines.
use Rattle.std.specs.Prelude.{◌≡◌, ℕ, false, List, ◌++◌, map, flat_map}
use Rattle.tree_model.specs.Run.{Line, State}
use Rattle.tree_model.specs.Step.{Answer}
use Rattle.script.specs.Texts.{answer_text, session_text}
use Rattle.engine.specs.Run.{Run, last_state}
use Rattle.session_lines.specs.Turns.{LeftView}
use Rattle.session_laws.specs.Calls.{AreIdle}
use Rattle.schedules.specs.Borders.{AreOfSessions}
use Rattle.schedules.specs.Laws.{IsFirst}
use Rattle.schedules.specs.Schedules.{texts_of}
use Rattle.schedules.specs.Turns.{Border, Turn, AreTurns, border_behind}

-- the lines that are left, without the number of their session
abbrev pub lines_in : LeftView → List Line
lines_in left = map (λ line. line.1) left.lines

-- the line of an answer, behind the number of the only session
abbrev pub lone_text : Answer → List ℕ
lone_text answer = session_text 0 ++ answer_text answer

-- These lines came to their end in the turns; `run` may give these answers to them, from the history at the start, and these were written.
pub record AnswersAsRun (start : Border) (turns : List Turn) : Type 0 where
  pub taken : List Line
  pub lines : lines_in start.left ≡ taken ++ lines_in (border_behind start turns).left
  pub answers : List Answer
  pub states : List State
  pub run : Run start.weave.volume.size start.history taken answers states
  pub texts : texts_of start turns ≡ flat_map lone_text answers
  -- where no fence failed and no call runs, its last state is the history
  pub last : (border_behind start turns).weave.volume.stopped ≡ false → AreIdle (border_behind start turns).calls
      → (border_behind start turns).history ≡ last_state start.history states

abbrev pub LoneLaw : Type 0
LoneLaw = (schedule : List ℕ) (start : Border) (turns : List Turn) → IsFirst start → start.left.sessions ≡ 1 → AreOfSessions start.left.sessions start.left.lines
    → AreTurns schedule 0 start turns → AnswersAsRun start turns
