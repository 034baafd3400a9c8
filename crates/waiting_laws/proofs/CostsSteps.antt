-- What steps cost: a list costs what its first step and its rest cost, and steps without a store cost nothing.
use Rattle.std.proofs.Common.{◌≡◌, ℕ, ◌+◌, Bool, true, false, if◌then◌else◌, List, ◌∷◌, ap, ◌∙◌, arith}
use Rattle.pm_trait.specs.Unfolds.{Step, events_in, fences_in}
use Rattle.waiting_laws.specs.Costs.{Costs}

-- these steps have as many events and fences as those
pub record CostsAlike (steps others : List Step) : Type 0 where
  pub events : events_in steps ≡ events_in others
  pub fences : fences_in steps ≡ fences_in others

pub alike_same : (steps others : List Step) → steps ≡ others → CostsAlike steps others
alike_same steps others same = record { events = ap events_in same; fences = ap fences_in same }

pub alike_through : (steps between others : List Step) → CostsAlike steps between → CostsAlike between others → CostsAlike steps others
alike_through steps between others one two = record { events = one.events ∙ two.events; fences = one.fences ∙ two.fences }

zero_and : (n : ℕ) → 0 + n ≡ n
zero_and n = omega arith

-- a step without a store costs nothing
pub falls : (step : Step) (later : List Step) → step.stores ≡ false → CostsAlike (step ∷ later) later
falls step later none = record {
  events = ap (λ (t : Bool). (if t then step.events else 0) + events_in later) none ∙ zero_and (events_in later);
  fences = ap (λ (t : Bool). (if t then 1 else 0) + fences_in later) none ∙ zero_and (fences_in later);
}

-- one with a store costs its events and a fence
pub costs_first : (step : Step) (later : List Step) → step.stores ≡ true → Costs (step ∷ later) step later
costs_first step later some = record {
  events = ap (λ (t : Bool). (if t then step.events else 0) + events_in later) some;
  fences = ap (λ (t : Bool). (if t then 1 else 0) + fences_in later) some;
}

-- what is left may be told by other steps that cost as much
pub costs_behind : (left : List Step) (step : Step) (later next : List Step) → Costs left step later → CostsAlike later next → Costs left step next
costs_behind left step later next costs alike = record {
  events = costs.events ∙ ap (λ (n : ℕ). step.events + n) alike.events;
  fences = costs.fences ∙ ap (λ (n : ℕ). 1 + n) alike.fences;
}
