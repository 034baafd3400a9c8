-- The lines that sessions have left, and whose turn it is.
use Rattle.std.specs.Prelude.{ℕ, zero, suc, ◌+◌, ◌%◌, ◌==◌, Bool, false, if◌then◌else◌, List, [], ◌∷◌, length, slice_index, Option, None, Some, is_some, Ok, Err}
use Rattle.std.specs.List.{list_any}
use Rattle.tree_model.specs.Run.{Line, is_changing}

-- So many sessions, and the lines that they have left, each with its session, in the order of the script. The first of a session is the one
-- that it runs, or that begins next.
pub record LeftView : Type 0 where
  pub sessions : ℕ
  pub lines : List (ℕ × Line)

-- ---- a session's next line

abbrev pub next_line : List (ℕ × Line) → ℕ → Option Line
next_line [] session = None
next_line (line ∷ lines) session = if line.0 == session then Some line.1 else next_line lines session

abbrev pub without_next : List (ℕ × Line) → ℕ → List (ℕ × Line)
without_next [] session = []
without_next (line ∷ lines) session = if line.0 == session then lines else line ∷ without_next lines session

-- it has a line left
abbrev pub has_line : List (ℕ × Line) → ℕ → Bool
has_line lines session = is_some (next_line lines session)

-- ---- whose turn it is

-- the first that has a line left, of so many sessions from this one on, round and round
abbrev pub first_with_line : LeftView → ℕ → ℕ → Option ℕ
first_with_line left zero session = None
first_with_line left (suc more) session =
    if has_line left.lines (session % left.sessions) then Some (session % left.sessions) else first_with_line left more (session + 1)

-- that of this number, or the next one round that has a line left
abbrev pub turn_from : LeftView → ℕ → Option ℕ
turn_from left session = first_with_line left left.sessions session

-- The bytes of a schedule are taken one a turn, round and round.
abbrev pub turn_of : List ℕ → ℕ → LeftView → Option ℕ
turn_of schedule turn left = turn_from left (slice_index schedule (turn % length schedule))

-- ---- which lines change

abbrev pub is_change : Line → Bool
is_change (Ok command) = is_changing command
is_change (Err fault) = false

abbrev pub has_change : List (ℕ × Line) → Bool
has_change lines = list_any (λ line. is_change line.1) lines
