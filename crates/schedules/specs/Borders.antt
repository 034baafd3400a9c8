-- What stands at a border between two turns, so that the next one may be taken, and how many may still come.
use Rattle.std.specs.Prelude.{◌≡◌, ℕ, ◌+◌, ◌*◌, ◌<◌, ◌≤◌, true, false, if◌then◌else◌, List, [], ◌∷◌, length, set, Option, None, Some, is_some, Ok}
use Rattle.pm_trait.specs.DeviceView.{DeviceView}
use Rattle.tree_model.specs.Run.{State, Line}
use Rattle.volume.specs.Volume.{VolumeView}
use Rattle.session_lines.specs.Turns.{LeftView, next_line, has_change}
use Rattle.session_laws.specs.Calls.{Call, Calls, call_at, fences_of_call}
use Rattle.sessions.specs.Interleave.{InterleaveView, IsWeaving}
use Rattle.sessions.specs.Tasks.{task_in}
use Rattle.sessions.specs.declared.interleave.TheConstants.{MOST_CALLS}
use Rattle.sessions.specs.declared.task.Task.{Task}
use Rattle.schedules.specs.Turns.{Border, Turn, IsTurn}

-- ---- lines that have not begun

-- A line has begun where it is the next one of a session that runs a call.
abbrev pub to_begin : List (Option Task) → List (ℕ × Line) → ℕ
to_begin tasks [] = 0
to_begin tasks (line ∷ lines) = if is_some (task_in tasks line.0) then to_begin (set tasks line.0 None) lines else 1 + to_begin tasks lines

-- ---- turns that may still come

-- no line takes more
abbrev pub most_turns : ℕ
most_turns = 10

-- those of the calls that run, with the one in which each ends
abbrev pub turns_of_calls : VolumeView → Calls → ℕ
turns_of_calls volume [] = 0
turns_of_calls volume (None ∷ calls) = turns_of_calls volume calls
turns_of_calls volume (Some call ∷ calls) = 1 + fences_of_call volume call + turns_of_calls volume calls

-- where a fence has failed each ends in its next one
abbrev pub turns_of_tasks : List (Option Task) → ℕ
turns_of_tasks [] = 0
turns_of_tasks (None ∷ tasks) = turns_of_tasks tasks
turns_of_tasks (Some task ∷ tasks) = 1 + turns_of_tasks tasks

abbrev pub turns_running : Border → ℕ
turns_running border = if border.weave.volume.stopped then turns_of_tasks border.weave.tasks else turns_of_calls border.weave.volume border.calls

abbrev pub turns_left : Border → ℕ
turns_left border = most_turns * to_begin border.weave.tasks border.left.lines + turns_running border

-- ---- what stands

-- each line is of a session
abbrev pub AreOfSessions : ℕ → List (ℕ × Line) → Type 0
AreOfSessions sessions [] = Unit {0}
AreOfSessions sessions (line ∷ lines) = (line.0 < sessions) × AreOfSessions sessions lines

-- The calls wait, each is its session's next line, and where a line changes the volume has no mark.
pub record AllStand (border : Border) : Type 0 where
  pub weaving : IsWeaving border.weave border.device border.calls border.history
  pub same : (s : ℕ) (call : Call) → call_at border.calls s ≡ Some call → next_line border.left.lines s ≡ Some (Ok call.command)
  pub unmarked : has_change border.left.lines ≡ true → border.weave.volume.marked ≡ false

-- They do unless a fence has failed. A session that runs a call has a line left, and the lines are few.
pub record IsBorder (border : Border) : Type 0 where
  pub going : border.weave.volume.stopped ≡ false → AllStand border
  pub sessions : length border.weave.tasks ≡ border.left.sessions
  pub few : border.left.sessions ≤ 16
  pub some : 1 ≤ border.left.sessions
  pub runs : (s : ℕ) (task : Task) → task_in border.weave.tasks s ≡ Some task → (line : Line) × (next_line border.left.lines s ≡ Some line)
  pub calls : border.weave.begun + to_begin border.weave.tasks border.left.lines ≤ MOST_CALLS

-- ---- of the code

abbrev pub border_of : InterleaveView → DeviceView → Calls → State → LeftView → Border
border_of weave device calls history left = record { weave = weave; device = device; calls = calls; history = history; left = left }

-- The code has come to this border.
pub record IsReached (border : Border) (weave : InterleaveView) (device : DeviceView) (left : LeftView) : Type 0 where
  pub weave_is : border.weave ≡ weave
  pub device_is : border.device ≡ device
  pub left_is : border.left ≡ left

-- A turn was taken from this border on, and the code has come behind it.
pub record HasTurned (schedule : List ℕ) (count : ℕ) (old : Border) (new : InterleaveView) (after : DeviceView) (left : LeftView) (turn : Turn) : Type 0 where
  pub is_turn : IsTurn schedule count old turn
  pub reached : IsReached turn.behind new after left
