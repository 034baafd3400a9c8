-- What the place of a moment tells of the acknowledgements before it.
use Rattle.std.specs.Prelude.{◌≡◌, ◌⊎◌, ℕ, ◌+◌, ◌<◌, ◌≤◌, List, [], ◌∷◌, length, take, drop, Some, slice_get}
use Rattle.pm_trait.specs.declared.event.Event.{Event}
use Rattle.pm_trait.specs.declared.event.Event.TheVariants.{Store, Flush, Fence, BadFence, Ack}
use Rattle.pm_trait.specs.Trail.{count_acks}
use Rattle.crash_replay.specs.Place.{from_call, place_in}
use Rattle.crash_replay.specs.declared.moment.Moment.{Moment}
use Rattle.crash_replay.specs.declared.moment.Moment.TheVariants.{At, Before}

-- the acknowledgements after `mark` and before a place
abbrev pub acked_at : List Event → ℕ → ℕ → ℕ
acked_at events mark place = count_acks (drop mark (take place events))

-- all acknowledgements after `mark`
abbrev pub acked_in_all : List Event → ℕ → ℕ
acked_in_all events mark = count_acks (drop mark events)

-- the fences before the first acknowledgement, failed ones too
abbrev pub fences_before_ack : List Event → ℕ
fences_before_ack [] = 0
fences_before_ack (Store word value ∷ later) = fences_before_ack later
fences_before_ack (Flush line ∷ later) = fences_before_ack later
fences_before_ack (Fence ∷ later) = 1 + fences_before_ack later
fences_before_ack (BadFence ∷ later) = 1 + fences_before_ack later
fences_before_ack (Ack ∷ later) = 0

-- the fences of a call
abbrev pub fences_of_call : List Event → ℕ → ℕ → ℕ
fences_of_call events mark call = fences_before_ack (from_call events mark call)

-- all that is acknowledged comes before the place
pub record IsBehindAll (events : List Event) (mark place : ℕ) : Type 0 where
  pub acked : acked_at events mark place ≡ acked_in_all events mark

-- the place lies in call 0, before anything is acknowledged
pub record IsBeforeAll (events : List Event) (mark place : ℕ) : Type 0 where
  pub acked : acked_at events mark place ≡ 0
  pub within : place ≤ mark

-- The place lies in a call that is acknowledged, and right before its acknowledgement where its fence is asked for by 0 or by
-- more than it has.
pub record IsInCall (events : List Event) (mark place call fence : ℕ) : Type 0 where
  pub acked : acked_at events mark place + 1 ≡ call
  pub behind_mark : mark ≤ place
  pub before_ack : (fence ≡ 0) ⊎ (fences_of_call events mark call < fence) → slice_get events place ≡ Some Ack

-- what the places of moments are, of a trail in which nothing is acknowledged before `mark`
pub record PlacesTell (events : List Event) (mark : ℕ) : Type 0 where
  pub within : (moment : Moment) → place_in events mark moment ≤ length events
  -- counted from the trail's begin it is the same number
  pub counted : (place : ℕ) → count_acks (take place events) ≡ acked_at events mark place
  pub at_mark : (k : ℕ) → k ≤ mark → IsBeforeAll events mark (place_in events mark (At k))
  pub at_end : (k : ℕ) → length events ≤ k → (place_in events mark (At k) ≡ length events) × IsBehindAll events mark (place_in events mark (At k))
  pub mount : (fence : ℕ) → IsBeforeAll events mark (place_in events mark (Before 0 fence))
  pub call : (call fence : ℕ) → 1 ≤ call → call ≤ acked_in_all events mark → IsInCall events mark (place_in events mark (Before call fence)) call fence
  pub open_call : (call fence : ℕ) → acked_in_all events mark < call → IsBehindAll events mark (place_in events mark (Before call fence))
  pub no_call : (call fence : ℕ) → acked_in_all events mark + 1 < call → place_in events mark (Before call fence) ≡ length events

abbrev pub ReplayLaw : Type 0
ReplayLaw = (events : List Event) (mark : ℕ) → mark ≤ length events → count_acks (take mark events) ≡ 0 → PlacesTell events mark
