-- A call that makes its steps one by one: from what is left to the whole list, whatever its stages are.
use Rattle.std.proofs.Common.{◌≡◌, ℕ, ◌+◌, ◌≤◌, Bool, true, false, List, [], ◌∷◌, length, refl, arith}
use Rattle.std.specs.Prelude.{Result, Ok, Err, IsErr}
use Rattle.pm_trait.specs.declared.event.PmFault.{PmFault}
use Rattle.pm_trait.specs.DeviceView.{DeviceView}
use Rattle.pm_trait.specs.Unfolds.{Fenced, MayFence, Step, Takes, Unfolds, events_in}
use Rattle.pm_trait.proofs.Unfolding.{then, failed, next}

-- Whatever the steps that are left make of now, the whole list makes of old; and now they may begin.
pub record IsOnward (words : ℕ) (steps : List Step) (old : DeviceView) (left : List Step) (now : DeviceView) : Type 0 where
  pub begins : MayFence now words (events_in left) (length left)
  pub onward : (last : DeviceView) (result : Result (Unit {0}) PmFault) → Unfolds left now last result → Unfolds steps old last result

pub starts : (words n : ℕ) (steps : List Step) (old : DeviceView) → length steps ≤ n → MayFence old words (events_in steps) n → IsOnward words steps old steps old
starts words n steps old less begins = record {
  begins = record { whole = begins.whole; settled = begins.settled; room = begins.room; countable = let few = begins.countable in omega (arith, few, less) };
  onward = λ last result made. made;
}

pub one_more : {T E : Type 0} (words : ℕ) (steps : List Step) (old : DeviceView) (step : Step) (later : List Step) (now after : DeviceView) (value : T) → Takes {E = E} step now after (Ok value) → IsOnward words steps old (step ∷ later) now
    → IsOnward words steps old later after
one_more words steps old step later now after value takes o = record { begins = next step later after takes o.begins; onward = λ last result rest. o.onward last result (then takes rest) }

nothing_takes : (stores : Bool) (events : ℕ) (now : DeviceView) → stores ≡ false → Fenced {T = Unit {0}} {E = Unit {0}} stores events now now (Ok (tt {0}))
nothing_takes true events now none = let clash : true ≡ false = none in absurd cc
nothing_takes false events now none = (refl, refl)

-- a step without a store falls away
pub skips : (words : ℕ) (steps : List Step) (old : DeviceView) (step : Step) (later : List Step) (now : DeviceView) → step.stores ≡ false → step.Makes now.words now.words → IsOnward words steps old (step ∷ later) now
    → IsOnward words steps old later now
skips words steps old step later now none makes o =
    one_more {T = Unit {0}} {E = Unit {0}} words steps old step later now now (tt {0}) (record { makes = makes; fenced = nothing_takes step.stores step.events now none }) o

pub fails : {T E : Type 0} (words : ℕ) (steps : List Step) (old : DeviceView) (step : Step) (later : List Step) (now after : DeviceView) (fault : E) (result : Result (Unit {0}) PmFault) → IsErr result → Takes {T = T} step now after (Err fault)
    → IsOnward words steps old (step ∷ later) now → Unfolds steps old after result
fails words steps old step later now after fault result is takes o = o.onward after result (failed result is takes)

pub ends : (words : ℕ) (steps : List Step) (old now : DeviceView) → IsOnward words steps old [] now → Unfolds {T = Unit {0}} {E = PmFault} steps old now (Ok (tt {0}))
ends words steps old now o = o.onward now (Ok (tt {0})) (record { in_turn = (refl, refl) })
