-- What the places among events are.
use Rattle.std.proofs.Common.{◌≡◌, ◌≢◌, ℕ, zero, suc, ◌+◌, ◌-◌, ◌<◌, ◌≤◌, ◌==◌, min, List, [], ◌∷◌, length, take, drop, Some, refl, sym, ap, ◌∙◌, inl, inr, arith, length-append, length-drop}
use Rattle.std.specs.Prelude.{Option, None, IfSome, slice_get, ◌⊎◌}
use Rattle.std.proofs.lemmas.Bool.{cases_Bool, cases_lt, eqb-true}
use Rattle.std.proofs.lemmas.List.{drop_all, take-append-drop, drop-drop}
use Rattle.pm_trait.specs.declared.event.Event.{Event}
use Rattle.pm_trait.specs.declared.event.Event.TheVariants.{Store, Flush, Fence, BadFence, Ack}
use Rattle.pm_trait.specs.Trail.{Trail, count_acks}
use Rattle.crash_replay.specs.Place.{through_acks, fence_within, start_of, from_call, place_in}
use Rattle.crash_replay.specs.declared.moment.Moment.{Moment}
use Rattle.crash_replay.specs.declared.moment.Moment.TheVariants.{At, Before}
use Rattle.crash_replay.specs.Replay.{fences_before_ack}

-- ---- to a fence

pub fence_inside : (fence : ℕ) (events : List Event) → fence_within fence events ≤ length events
fence_inside fence [] = omega arith
fence_inside fence (Store word value ∷ later) = omega (arith, fence_inside fence later)
fence_inside fence (Flush line ∷ later) = omega (arith, fence_inside fence later)
fence_inside fence (Fence ∷ later) = elim (cases_Bool (fence == 1)) [
  | inl here ↦ rw here (omega arith)
  | inr behind ↦ rw behind (omega (arith, fence_inside (fence - 1) later))
]
fence_inside fence (BadFence ∷ later) = elim (cases_Bool (fence == 1)) [
  | inl here ↦ rw here (omega arith)
  | inr behind ↦ rw behind (omega (arith, fence_inside (fence - 1) later))
]
fence_inside fence (Ack ∷ later) = omega arith

-- none is acknowledged on the way
pub none_acked : (fence : ℕ) (events : List Event) → count_acks (take (fence_within fence events) events) ≡ 0
none_acked fence [] = refl
none_acked fence (Store word value ∷ later) = none_acked fence later
none_acked fence (Flush line ∷ later) = none_acked fence later
none_acked fence (Fence ∷ later) = elim (cases_Bool (fence == 1)) [
  | inl here ↦ rw here refl
  | inr behind ↦ rw behind (none_acked (fence - 1) later)
]
none_acked fence (BadFence ∷ later) = elim (cases_Bool (fence == 1)) [
  | inl here ↦ rw here refl
  | inr behind ↦ rw behind (none_acked (fence - 1) later)
]
none_acked fence (Ack ∷ later) = refl

-- the fence isn't among those before the first acknowledgement
abbrev pub IsNoFence : ℕ → List Event → Type 0
IsNoFence fence events = (fence ≡ 0) ⊎ (fences_before_ack events < fence)

none_here : (fence fences : ℕ) → (fence ≡ 0) ⊎ (1 + fences < fence) → fence ≢ 1
none_here fence fences (inl none) = λ is. omega arith
none_here fence fences (inr more) = λ is. omega arith

none_later : (fence fences : ℕ) → (fence ≡ 0) ⊎ (1 + fences < fence) → (fence - 1 ≡ 0) ⊎ (fences < fence - 1)
none_later fence fences (inl none) = inl (omega arith)
none_later fence fences (inr more) = inr (omega arith)

-- then the first acknowledgement stands at the place
pub acked_there : (fence : ℕ) (events : List Event) → IsNoFence fence events → 0 < count_acks events → slice_get events (fence_within fence events) ≡ Some Ack
acked_there fence [] none some = absurd (omega arith)
acked_there fence (Store word value ∷ later) none some = acked_there fence later none some
acked_there fence (Flush line ∷ later) none some = acked_there fence later none some
acked_there fence (Fence ∷ later) none some = elim (cases_Bool (fence == 1)) [
  | inl here ↦ absurd (none_here fence (fences_before_ack later) none (eqb-true fence 1 here))
  | inr behind ↦ rw behind (acked_there (fence - 1) later (none_later fence (fences_before_ack later) none) some)
]
acked_there fence (BadFence ∷ later) none some = elim (cases_Bool (fence == 1)) [
  | inl here ↦ absurd (none_here fence (fences_before_ack later) none (eqb-true fence 1 here))
  | inr behind ↦ rw behind (acked_there (fence - 1) later (none_later fence (fences_before_ack later) none) some)
]
acked_there fence (Ack ∷ later) none some = refl

-- ---- through acknowledgements

pub acks_inside : (acks : ℕ) (events : List Event) → through_acks acks events ≤ length events
acks_inside zero events = omega arith
acks_inside (suc acks) [] = omega arith
acks_inside (suc acks) (Store word value ∷ later) = omega (arith, acks_inside (suc acks) later)
acks_inside (suc acks) (Flush line ∷ later) = omega (arith, acks_inside (suc acks) later)
acks_inside (suc acks) (Fence ∷ later) = omega (arith, acks_inside (suc acks) later)
acks_inside (suc acks) (BadFence ∷ later) = omega (arith, acks_inside (suc acks) later)
acks_inside (suc acks) (Ack ∷ later) = omega (arith, acks_inside acks later)

-- so many are acknowledged, or all
pub acked_through : (acks : ℕ) (events : List Event) → count_acks (take (through_acks acks events) events) ≡ min acks (count_acks events)
acked_through zero events = omega arith
acked_through (suc acks) [] = omega arith
acked_through (suc acks) (Store word value ∷ later) = acked_through (suc acks) later
acked_through (suc acks) (Flush line ∷ later) = acked_through (suc acks) later
acked_through (suc acks) (Fence ∷ later) = acked_through (suc acks) later
acked_through (suc acks) (BadFence ∷ later) = acked_through (suc acks) later
acked_through (suc acks) (Ack ∷ later) = omega (arith, acked_through acks later)

pub through_all : (acks : ℕ) (events : List Event) → count_acks events < acks → through_acks acks events ≡ length events
through_all zero events fewer = absurd (omega arith)
through_all (suc acks) [] fewer = refl
through_all (suc acks) (Store word value ∷ later) fewer = ap suc (through_all (suc acks) later fewer)
through_all (suc acks) (Flush line ∷ later) fewer = ap suc (through_all (suc acks) later fewer)
through_all (suc acks) (Fence ∷ later) fewer = ap suc (through_all (suc acks) later fewer)
through_all (suc acks) (BadFence ∷ later) fewer = ap suc (through_all (suc acks) later fewer)
through_all (suc acks) (Ack ∷ later) fewer = ap suc (through_all acks later (omega arith))

-- ---- to a call

pub start_inside : (events : List Event) (mark call : ℕ) → start_of events mark call ≤ length events
start_inside events mark zero = omega arith
start_inside events mark (suc acks) = omega (arith, acks_inside acks (drop mark events), length-drop mark events)

-- a place is never above the events
pub place_inside : (events : List Event) (mark call fence : ℕ) → start_of events mark call + fence_within fence (from_call events mark call) ≤ length events
place_inside events mark zero fence = omega (arith, fence_inside fence (take mark events), length-append (take mark events) (drop mark events), ap length (take-append-drop mark events))
place_inside events mark (suc acks) fence =
    let start = start_of events mark (suc acks) in
    omega (arith, fence_inside fence (drop start events), length-drop start events, start_inside events mark (suc acks))

-- where a trail is recorded, the place of a moment is within it
pub place_within : (trail : Option Trail) (mark : ℕ) (moment : Moment) (place : ℕ) → IfSome trail (λ t. place ≡ place_in t.events mark moment)
    → IfSome trail (λ t. place ≤ length t.events)
place_within None mark moment place is = tt
place_within (Some trail) mark (At k) place is = omega (arith, is)
place_within (Some trail) mark (Before call fence) place is = omega (arith, is, place_inside trail.events mark call fence)

-- ---- a walk

-- the rest of a list behind its first
pub rest_is : (n : ℕ) (event : Event) (later events : List Event) → drop n events ≡ event ∷ later → later ≡ drop (n + 1) events
rest_is n event later events is = ap (drop 1) (sym is) ∙ drop-drop 1 n events

pub rest_inside : (n : ℕ) (event : Event) (later events : List Event) → drop n events ≡ event ∷ later → n + 1 ≤ length events
rest_inside n event later events is = omega (arith, length-drop n events, ap length is)

pub none_left : (n : ℕ) (events : List Event) → drop n events ≡ [] → n ≤ length events → n ≡ length events
none_left n events is inside = omega (arith, length-drop n events, ap length is)

-- the first of the events up to a limit
pub first_of_limit : (n limit : ℕ) (event : Event) (later : List Event) → n < limit → take (limit - n) (event ∷ later) ≡ event ∷ take (limit - (n + 1)) later
first_of_limit n limit event later below =
    let more : limit - n ≡ suc (limit - (n + 1)) = omega arith in
    ap (λ k. take k (event ∷ later)) more

-- the start of a call, as a walk comes to it
pub start_more : (events rest : List Event) (mark acks mount called : ℕ) → mount ≡ min mark (length events) → rest ≡ drop mount events → called ≡ through_acks acks rest
    → mount + called ≡ start_of events mark (acks + 1)
start_more events rest mark acks mount called passed left through =
    let same : rest ≡ drop mark events = left ∙ ap (λ n. drop n events) passed ∙ drop_least events mark in
    let more : acks + 1 ≡ suc acks = omega arith in
    let start : start_of events mark (acks + 1) ≡ min mark (length events) + through_acks acks (drop mark events) = ap (start_of events mark) more in
    omega (arith, passed, through, ap (through_acks acks) same, start)
  where
    drop_least : (l : List Event) (n : ℕ) → drop (min n (length l)) l ≡ drop n l
    drop_least l n = elim (cases_lt n (length l)) [
      | inl inside ↦ let least : min n (length l) ≡ n = omega (arith, inside) in ap (λ k. drop k l) least
      | inr past ↦ drop_all (min n (length l)) l (omega (arith, past)) ∙ sym (drop_all n l (omega (arith, past)))
    ]
