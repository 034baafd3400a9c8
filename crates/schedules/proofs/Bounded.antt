-- No moment has more acknowledgements than the last.
use Rattle.std.proofs.Common.{◌≡◌, ℕ, zero, suc, ◌≤◌, List, [], ◌∷◌, take, drop, length, Option, None, Some, refl, sym, ap, ◌∙◌, arith, take_all}
use Rattle.pm_trait.specs.declared.event.Event.{Event}
use Rattle.pm_trait.specs.declared.event.Event.TheVariants.{Store, Flush, Fence, BadFence, Ack}
use Rattle.pm_trait.specs.Trail.{Trail, count_acks}
use Rattle.pm_trait.specs.Device.{LeavesOnly, MayLeave, acks_from, moment_of}
use Rattle.engine.proofs.After.{Acked}

more_events : (event : Event) (few all : List Event) → count_acks few ≤ count_acks all → count_acks (event ∷ few) ≤ count_acks (event ∷ all)
more_events (Store word value) few all less = less
more_events (Flush line) few all less = less
more_events Fence few all less = less
more_events BadFence few all less = less
more_events Ack few all less = omega (arith, less)

fewer_acks : (events : List Event) (from to : ℕ) → count_acks (drop from (take to events)) ≤ count_acks (drop from events)
fewer_acks [] zero zero = omega arith
fewer_acks [] zero (suc to) = omega arith
fewer_acks [] (suc from) zero = omega arith
fewer_acks [] (suc from) (suc to) = omega arith
fewer_acks (event ∷ events) zero zero = omega arith
fewer_acks (event ∷ events) (suc from) zero = omega arith
fewer_acks (event ∷ events) zero (suc to) = more_events event (take to events) events (fewer_acks events zero to)
fewer_acks (event ∷ events) (suc from) (suc to) = fewer_acks events from to

within : (old new : Option Trail) (n moment : ℕ) (image : List ℕ) → Acked old new n → MayLeave new moment image → acks_from old new moment ≤ n
within old None n moment image acked may = absurd may
within old (Some trail) n moment image acked may =
    let fewer = fewer_acks trail.events (moment_of old) moment in
    let all : count_acks (drop (moment_of old) trail.events) ≡ n =
    ap (λ (events : List Event). count_acks (drop (moment_of old) events)) (sym (take_all (length trail.events) trail.events (omega arith))) ∙ acked trail refl in
    omega (arith, fewer, all)

pub leaves_within : {P : ℕ → List ℕ → Type 0} {old new : Option Trail} (n : ℕ) → Acked old new n → LeavesOnly old new P → LeavesOnly old new (λ acks image. (acks ≤ n) × P acks image)
leaves_within {P} {old} {new} n acked leaves = record {
  continues = leaves.continues;
  each = λ moment image from to may. (within old new n moment image acked may, leaves.each moment image from to may);
}
