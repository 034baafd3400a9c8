-- Where the next lines of sessions stand among all lines.
use Rattle.std.specs.Prelude.{◌≡◌, ℕ, ◌+◌, ◌<◌, ◌≤◌, ◌==◌, nat_le, if◌then◌else◌, List, [], ◌∷◌, length, drop, map, slice_index}
use Rattle.std.specs.List.{All}
use Rattle.tree_model.specs.Run.{Line}
use Rattle.script.specs.Lines.{call_of}
use Rattle.script.specs.SessionLines.{session_calls}
use Rattle.script.specs.declared.session_line.SessionLine.{SessionLine}

-- whose line it is, and what it asks for
abbrev pub call_in : SessionLine → ℕ × Line
call_in line = (line.session, call_of line.text.now)

-- A line is left where its session's next one stands there or before. The first of these has this place.
abbrev pub left_from : List ℕ → ℕ → List SessionLine → List (ℕ × Line)
left_from next place [] = []
left_from next place (line ∷ lines) =
    if nat_le (slice_index next line.session) place then call_in line ∷ left_from next (place + 1) lines else left_from next (place + 1) lines

-- Where the session's first of these lines stands, of which the first has this place; where it has none, the place behind them.
abbrev pub first_place : ℕ → ℕ → List SessionLine → ℕ
first_place session place [] = place
first_place session place (line ∷ lines) = if line.session == session then place else first_place session (place + 1) lines

-- each is of one of so many sessions
abbrev pub AreOf : ℕ → List SessionLine → Type 0
AreOf sessions lines = All (λ line. line.session < sessions) lines

-- They are those of the script, and each is of a session.
pub record AreLines (lines : List SessionLine) (script : List ℕ) (sessions : ℕ) : Type 0 where
  pub calls : map call_in lines ≡ session_calls sessions script
  pub below : AreOf sessions lines

-- A line of the session stands at this place, or it is their number.
pub record IsNext (lines : List SessionLine) (session place : ℕ) : Type 0 where
  pub within : place ≤ length lines
  pub there : first_place session place (drop place lines) ≡ place

-- From this place on the session's first line stands there; where it has none it is their number.
pub record IsNextFrom (lines : List SessionLine) (start session place : ℕ) : Type 0 where
  pub first : place ≡ first_place session start (drop start lines)
  pub next : IsNext lines session place

-- Each line is of a session, and for each session the place of its next line is known.
pub record AreLeft (lines : List SessionLine) (next : List ℕ) : Type 0 where
  pub below : AreOf (length next) lines
  pub places : (session : ℕ) → session < length next → IsNext lines session (slice_index next session)
