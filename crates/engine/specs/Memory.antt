-- Which lines of a run may be answered NoMemory though the device refused no room.
use Rattle.std.specs.Prelude.{ℕ, zero, suc, Bool, false, List, [], ◌∷◌}
use Rattle.tree_model.specs.Run.{Line, State}
use Rattle.tree_model.specs.Places.{line_needs_places}

-- whether line number k of a run, counted from 0, needs a place of a table at the state before it; no line past the end does
abbrev pub needs_places_at : State → List Line → List State → ℕ → Bool
needs_places_at start [] states k = false
needs_places_at start (line ∷ lines) states zero = line_needs_places start line
needs_places_at start (line ∷ lines) [] (suc k) = false
needs_places_at start (line ∷ lines) (state ∷ states) (suc k) = needs_places_at state lines states k
