-- Where among the events of a trail a moment stands.
use Rattle.std.specs.Prelude.{ℕ, zero, suc, ◌+◌, ◌-◌, ◌==◌, min, if◌then◌else◌, List, [], ◌∷◌, length, take, drop}
use Rattle.pm_trait.specs.declared.event.Event.{Event}
use Rattle.pm_trait.specs.declared.event.Event.TheVariants.{Store, Flush, Fence, BadFence, Ack}
use Rattle.crash_replay.specs.declared.moment.Moment.{Moment}
use Rattle.crash_replay.specs.declared.moment.Moment.TheVariants.{At, Before}

-- how many events come up to the last of so many acknowledgements, that one among them; all where there are fewer
abbrev pub through_acks : ℕ → List Event → ℕ
through_acks zero events = 0
through_acks (suc acks) [] = 0
through_acks (suc acks) (Store word value ∷ later) = suc (through_acks (suc acks) later)
through_acks (suc acks) (Flush line ∷ later) = suc (through_acks (suc acks) later)
through_acks (suc acks) (Fence ∷ later) = suc (through_acks (suc acks) later)
through_acks (suc acks) (BadFence ∷ later) = suc (through_acks (suc acks) later)
through_acks (suc acks) (Ack ∷ later) = suc (through_acks acks later)

-- How many events come before this fence, counted from 1, a failed one too; before the first acknowledgement where that
-- comes first, all where there is neither.
abbrev pub fence_within : ℕ → List Event → ℕ
fence_within fence [] = 0
fence_within fence (Store word value ∷ later) = suc (fence_within fence later)
fence_within fence (Flush line ∷ later) = suc (fence_within fence later)
fence_within fence (Fence ∷ later) = if fence == 1 then 0 else suc (fence_within (fence - 1) later)
fence_within fence (BadFence ∷ later) = if fence == 1 then 0 else suc (fence_within (fence - 1) later)
fence_within fence (Ack ∷ later) = 0

-- How many events come before a call: call 0 is the first `mark` events, and each later one what lies between two
-- acknowledgements after these. Where there is no such call, all.
abbrev pub start_of : List Event → ℕ → ℕ → ℕ
start_of events mark zero = 0
start_of events mark (suc acks) = min mark (length events) + through_acks acks (drop mark events)

-- the events from a call on; of call 0 its own alone
abbrev pub from_call : List Event → ℕ → ℕ → List Event
from_call events mark zero = take mark events
from_call events mark (suc acks) = drop (start_of events mark (suc acks)) events

-- how many events come before a moment
abbrev pub place_in : List Event → ℕ → Moment → ℕ
place_in events mark (At k) = min k (length events)
place_in events mark (Before call fence) = start_of events mark call + fence_within fence (from_call events mark call)
