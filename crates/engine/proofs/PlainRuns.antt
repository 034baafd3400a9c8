-- The run in which nothing fails is one that may happen.
use Rattle.std.proofs.Common.{◌≡◌, ℕ, List, [], ◌∷◌, refl}
use Rattle.tree_model.specs.Run.{State, Line, IsVolumeState, plain_answer, plain_next, plain_answers, plain_states, plain_end}
use Rattle.tree_model.proofs.PlainRuns.{plain_line, IsVolumeState-line}
use Rattle.engine.specs.Run.{Run, last_state}

pub plain_runs : (volume : ℕ) (start : State) (lines : List Line) → IsVolumeState volume start → Run volume start lines (plain_answers volume start lines) (plain_states volume start lines)
plain_runs volume start [] is = tt
plain_runs volume start (line ∷ lines) is =
    let step = plain_line volume start line is in
    (step, plain_runs volume (plain_next volume start line) lines (IsVolumeState-line volume start (plain_next volume start line) line (plain_answer volume start line) is step))

pub plain_last : (volume : ℕ) (start : State) (lines : List Line) → last_state start (plain_states volume start lines) ≡ plain_end volume start lines
plain_last volume start [] = refl
plain_last volume start (line ∷ lines) = plain_last volume (plain_next volume start line) lines
