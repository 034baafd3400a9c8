-- Laws of runs.
use Rattle.std.specs.Prelude.{◌≡◌, ℕ, List}
use Rattle.tree_model.specs.Run.{State, Line, IsVolumeState, plain_answers, plain_states, plain_end}
use Rattle.engine.specs.Run.{Run, last_state}

-- From each state of a volume the run in which nothing fails is one that may happen, and it leaves the state that it ends with.
pub record PlainRunsAreRuns : Type 0 where
  pub runs : (volume : ℕ) (start : State) (lines : List Line) → IsVolumeState volume start
      → Run volume start lines (plain_answers volume start lines) (plain_states volume start lines)
  pub last : (volume : ℕ) (start : State) (lines : List Line) → last_state start (plain_states volume start lines) ≡ plain_end volume start lines
