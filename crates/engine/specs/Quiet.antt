-- Which lines may store.
use Rattle.std.specs.Prelude.{◌≡◌, ◌⊎◌, ℕ, zero, suc, ◌<◌, ◌≤◌, List, [], ◌∷◌, Option, Some, slice_get}
use Rattle.pm_trait.specs.Trail.{Trail}
use Rattle.pm_trait.specs.Device.{acks_from, moment_of, IsAckAt}
use Rattle.tree_model.specs.Step.{Answer, Fault}
use Rattle.tree_model.specs.Run.{Line, State}
use Rattle.tree_model.specs.Fences.{fences_of}

-- the fences of line number k of a run, counted from 0; none where it left no state
abbrev pub fences_at : State → List Line → List Answer → List State → ℕ → ℕ
fences_at start [] answers states k = 0
fences_at start (line ∷ lines) [] states k = 0
fences_at start (line ∷ lines) (answer ∷ answers) [] k = 0
fences_at start (line ∷ lines) (answer ∷ answers) (state ∷ states) zero = fences_of start line answer state
fences_at start (line ∷ lines) (answer ∷ answers) (state ∷ states) (suc k) = fences_at state lines answers states k

-- a line may store, flush and fence where its change takes a fence, or where a fence failed in it
abbrev pub MayStore : State → List Line → List Answer → List State → ℕ → Type 0
MayStore start lines answers states k = (slice_get answers k ≡ Some Fault) ⊎ (0 < fences_at start lines answers states k)

-- Each event from the end of the old trail to the end of the new one is an acknowledgement, or came after a number of
-- acknowledgements that has F.
pub record ActsOnly (old new : Option Trail) (F : ℕ → Type 0) : Type 0 where
  pub each : (moment : ℕ) → moment_of old ≤ moment → moment < moment_of new → ¬ IsAckAt new moment → F (acks_from old new moment)
