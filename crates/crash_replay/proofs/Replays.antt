-- How many acknowledgements come before a place.
use Rattle.std.proofs.Common.{◌≡◌, ℕ, zero, suc, ◌+◌, ◌<◌, ◌≤◌, min, List, [], ◌∷◌, length, take, drop, Some, refl, sym, ap, subst, ◌∙◌, arith, length-drop}
use Rattle.std.specs.Prelude.{slice_get, ◌⊎◌}
use Rattle.std.proofs.lemmas.List.{drop_all, take_all, take-append-drop, drop-drop, drop-take, length-take}
use Rattle.std.proofs.Math.Seq.{take-add}
use Rattle.pm_trait.specs.declared.event.Event.{Event}
use Rattle.pm_trait.specs.declared.event.Event.TheVariants.{Ack}
use Rattle.pm_trait.specs.Trail.{count_acks}
use Rattle.pm_trait.proofs.TrailLaws.{count_acks-append}
use Rattle.crash_replay.specs.Place.{through_acks, fence_within, from_call, place_in}
use Rattle.crash_replay.specs.Replay.{acked_at, acked_in_all, fences_of_call, IsBehindAll, IsBeforeAll, IsInCall, PlacesTell, ReplayLaw}
use Rattle.crash_replay.specs.declared.moment.Moment.{Moment}
use Rattle.crash_replay.specs.declared.moment.Moment.TheVariants.{At, Before}
use Rattle.crash_replay.proofs.Places.{fence_inside, none_acked, IsNoFence, acked_there, acked_through, through_all, place_inside}

-- what stands in a list from a place on
slice_get-drop : (events : List Event) (start k : ℕ) → slice_get (drop start events) k ≡ slice_get events (start + k)
slice_get-drop events zero k = let same : k ≡ 0 + k = omega arith in ap (slice_get events) same
slice_get-drop [] (suc start) k = refl
slice_get-drop (event ∷ events) (suc start) k =
    let same : suc (start + k) ≡ suc start + k = omega arith in
    slice_get-drop events start k ∙ ap (slice_get (event ∷ events)) same

acks_split : (n : ℕ) (events : List Event) → count_acks events ≡ count_acks (take n events) + count_acks (drop n events)
acks_split n events = ap count_acks (sym (take-append-drop n events)) ∙ count_acks-append (take n events) (drop n events)

-- fewer of the front
take_of_take : (n m : ℕ) (events : List Event) → count_acks (take n (take m events)) ≤ count_acks (take n events)
take_of_take zero m events = omega arith
take_of_take (suc n) zero events = omega arith
take_of_take (suc n) (suc m) [] = omega arith
take_of_take (suc n) (suc m) (event ∷ events) =
    let more = take_of_take n m events in
    omega (arith, more, count_acks-append (event ∷ []) (take n (take m events)), count_acks-append (event ∷ []) (take n events))

-- nothing is acknowledged up to the mark
before_mark : (events : List Event) (mark place : ℕ) → place ≤ mark → acked_at events mark place ≡ 0
before_mark events mark place early = ap count_acks (drop_all mark (take place events) (omega (arith, length-take place events, early)))

behind_all : (events : List Event) (mark : ℕ) → acked_at events mark (length events) ≡ acked_in_all events mark
behind_all events mark = ap (λ (l : List Event). count_acks (drop mark l)) (take_all (length events) events (omega arith))

from_begin : (events : List Event) (mark : ℕ) → count_acks (take mark events) ≡ 0 → (place : ℕ) → count_acks (take place events) ≡ acked_at events mark place
from_begin events mark none place = omega (arith, none, acks_split mark (take place events), take_of_take mark place events)

-- how far a call behind so many acknowledgements begins behind the mark, and how far its place is from there
abbrev begins : List Event → ℕ → ℕ → ℕ
begins events mark acks = through_acks acks (drop mark events)

abbrev called : List Event → ℕ → ℕ → List Event
called events mark acks = drop (begins events mark acks) (drop mark events)

abbrev goes_on : List Event → ℕ → ℕ → ℕ → ℕ
goes_on events mark acks fence = fence_within fence (called events mark acks)

-- ---- the place in a call, from the mark on

called_is : (events : List Event) (mark acks : ℕ) → mark ≤ length events → from_call events mark (suc acks) ≡ called events mark acks
called_is events mark acks inside =
    let all : min mark (length events) ≡ mark = omega arith in
    ap (λ n. drop (n + begins events mark acks) events) all ∙ sym (drop-drop (begins events mark acks) mark events)

place_is : (events : List Event) (mark acks fence : ℕ) → mark ≤ length events
    → place_in events mark (Before (suc acks) fence) ≡ mark + (begins events mark acks + goes_on events mark acks fence)
place_is events mark acks fence inside =
    let within = ap (fence_within fence) (called_is events mark acks inside) in
    let all : min mark (length events) ≡ mark = omega arith in
    omega (arith, within, all)

acked_is : (events : List Event) (mark acks fence : ℕ) → mark ≤ length events
    → acked_at events mark (place_in events mark (Before (suc acks) fence)) ≡ min acks (acked_in_all events mark)
acked_is events mark acks fence inside =
    let rest = drop mark events in
    let start = begins events mark acks in
    let more = goes_on events mark acks fence in
    ap (acked_at events mark) (place_is events mark acks fence inside)
    ∙ ap count_acks (drop-take mark (start + more) events ∙ take-add start more rest)
    ∙ count_acks-append (take start rest) (take more (drop start rest))
    ∙ omega (arith, acked_through acks rest, none_acked fence (drop start rest))

there : (events : List Event) (mark acks fence : ℕ) → mark ≤ length events → acks < acked_in_all events mark
    → (fence ≡ 0) ⊎ (fences_of_call events mark (suc acks) < fence) → slice_get events (place_in events mark (Before (suc acks) fence)) ≡ Some Ack
there events mark acks fence inside below none =
    let rest = drop mark events in
    let start = begins events mark acks in
    let none-there : IsNoFence fence (called events mark acks) =
    subst (λ (l : List Event). IsNoFence fence l) (called_is events mark acks inside) none in
    let some : 0 < count_acks (called events mark acks) = omega (arith, acks_split start rest, acked_through acks rest, below) in
    ap (slice_get events) (place_is events mark acks fence inside)
    ∙ sym (slice_get-drop events mark (start + goes_on events mark acks fence))
    ∙ sym (slice_get-drop rest start (goes_on events mark acks fence))
    ∙ acked_there fence (called events mark acks) none-there some

-- ---- the law

module _ (events : List Event) (mark : ℕ) (inside : mark ≤ length events) (none : count_acks (take mark events) ≡ 0) where
  inside_all : (moment : Moment) → place_in events mark moment ≤ length events
  inside_all (At k) = omega arith
  inside_all (Before call fence) = place_inside events mark call fence

  in_mount : (fence : ℕ) → IsBeforeAll events mark (place_in events mark (Before 0 fence))
  in_mount fence =
      let early : fence_within fence (take mark events) ≤ mark = omega (arith, fence_inside fence (take mark events), length-take mark events) in
      record {
        acked = before_mark events mark (0 + fence_within fence (take mark events)) (omega (arith, early));
        within = omega (arith, early);
      }

  in_call : (call fence : ℕ) → 1 ≤ call → call ≤ acked_in_all events mark → IsInCall events mark (place_in events mark (Before call fence)) call fence
  in_call zero fence some known = absurd (omega arith)
  in_call (suc acks) fence some known = record {
    acked = omega (arith, acked_is events mark acks fence inside, known);
    behind_mark = omega (arith, place_is events mark acks fence inside);
    before_ack = there events mark acks fence inside (omega (arith, known));
  }

  in_open_call : (call fence : ℕ) → acked_in_all events mark < call → IsBehindAll events mark (place_in events mark (Before call fence))
  in_open_call zero fence above = absurd (omega arith)
  in_open_call (suc acks) fence above = record { acked = omega (arith, acked_is events mark acks fence inside, above) }

  in_no_call : (call fence : ℕ) → acked_in_all events mark + 1 < call → place_in events mark (Before call fence) ≡ length events
  in_no_call zero fence above = absurd (omega arith)
  in_no_call (suc acks) fence above =
      let all = through_all acks (drop mark events) (omega (arith, above)) in
      let past : length (called events mark acks) ≡ 0 = omega (arith, length-drop (begins events mark acks) (drop mark events), all) in
      omega (arith, place_is events mark acks fence inside, all, length-drop mark events, fence_inside fence (called events mark acks), past)

  pub places_tell : PlacesTell events mark
  places_tell = record {
    within = inside_all;
    counted = from_begin events mark none;
    at_mark = λ k early. record { acked = before_mark events mark (min k (length events)) (omega (arith, early)); within = omega (arith, early) };
    at_end = λ k late.
        let end : min k (length events) ≡ length events = omega (arith, late) in
        (end, record { acked = ap (acked_at events mark) end ∙ behind_all events mark });
    mount = in_mount;
    call = in_call;
    open_call = in_open_call;
    no_call = in_no_call;
  }

pub replay_law-holds : ReplayLaw
replay_law-holds events mark inside none = places_tell events mark inside none
