-- A plan makes no fence exactly where it has no event.
use Rattle.std.proofs.Common.{◌≡◌, ◌⊎◌, inl, inr, ℕ, ◌+◌, ◌<◌, Bool, true, false, List, [], ◌∷◌, refl, arith}
use Rattle.std.specs.Prelude.{if◌then◌else◌, nat_lt, nat_le}
use Rattle.volume.specs.Costs.{events_of, fences_of_plan, fences_for_growth}
use Rattle.volume.specs.declared.plan.Action.{Action}
use Rattle.volume.specs.declared.plan.Action.TheVariants.{Make, Name, Remove, Move, Write as WriteBytes, WriteNothing, Resize, KeepSize, KeepNames, Read as ReadBytes, Status, Names, Space}

-- it has both, or neither
abbrev BothOrNone : ℕ → ℕ → Type 0
BothOrNone events fences = ((0 < events) × (0 < fences)) ⊎ ((events ≡ 0) × (fences ≡ 0))

either_more : (test : Bool) (one other : ℕ) → 0 < one → 0 < other → 0 < (if test then one else other)
either_more true one other more there = more
either_more false one other more there = there

growth_more : (pages : List ℕ) → 0 < fences_for_growth pages
growth_more [] = omega arith
growth_more (page ∷ pages) = omega arith

both_or_none : (action : Action) → BothOrNone (events_of action) (fences_of_plan action)
both_or_none (Make entry) = inl (omega arith, omega arith)
both_or_none (Name link) = inl (omega arith, omega arith)
both_or_none (Remove removal) = inl (omega arith, omega arith)
both_or_none (Move moving) = inl (omega arith, omega arith)
both_or_none (WriteBytes writing) = inl (
  either_more (nat_le (writing.offset + writing.count) writing.old_size) _ _ (omega arith) (omega arith),
  either_more (nat_le (writing.offset + writing.count) writing.old_size) _ _ (omega arith) (growth_more writing.new_pages),
)
both_or_none (Resize resizing) = inl (
  either_more (nat_lt resizing.old_size resizing.new_size) _ _ (omega arith) (omega arith),
  either_more (nat_lt resizing.old_size resizing.new_size) _ _ (growth_more resizing.new_pages) (omega arith),
)
both_or_none WriteNothing = inr (refl, refl)
both_or_none KeepSize = inr (refl, refl)
both_or_none KeepNames = inr (refl, refl)
both_or_none (ReadBytes reading) = inr (refl, refl)
both_or_none (Status inode) = inr (refl, refl)
both_or_none (Names inode) = inr (refl, refl)
both_or_none Space = inr (refl, refl)

pub fences_none : (action : Action) → fences_of_plan action ≡ 0 → events_of action ≡ 0
fences_none action none = elim (both_or_none action) [
  | inl both ↦ let more = both.1 in absurd (omega (arith, more, none))
  | inr neither ↦ neither.0
]

pub events_none : (action : Action) → events_of action ≡ 0 → fences_of_plan action ≡ 0
events_none action none = elim (both_or_none action) [
  | inl both ↦ let more = both.0 in absurd (omega (arith, more, none))
  | inr neither ↦ neither.1
]

pub fences_more : (action : Action) → 0 < events_of action → 0 < fences_of_plan action
fences_more action more = elim (both_or_none action) [
  | inl both ↦ both.1
  | inr neither ↦ let none = neither.0 in absurd (omega (arith, more, none))
]
