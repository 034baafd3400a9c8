-- What each session runs once one of them is set, and what is left where none runs.
use Rattle.std.proofs.Common.{◌≡◌, inl, inr, ℕ, zero, suc, ◌<◌, [], ◌∷◌, length, set, Option, Some, None, refl, sym, ap, subst, ◌∙◌, arith}
use Rattle.std.proofs.lemmas.Bool.{cases_eq}
use Rattle.pm_trait.specs.DeviceView.{DeviceView}
use Rattle.tree_model.specs.Run.{State}
use Rattle.image_reading.specs.Residue.{Residue, no_residue}
use Rattle.volume.specs.Volume.{VolumeView}
use Rattle.waiting_laws.specs.Beside.{StandsWith}
use Rattle.session_laws.specs.Calls.{Call, Calls, call_at, left_of_all, CallsWait}

not_some : (call : Call) → ◌≡◌ {A = Option Call} None (Some call) → ⊥
not_some call is = cc

pub at_set : (calls : Calls) (s : ℕ) (new : Option Call) → s < length calls → call_at (set calls s new) s ≡ new
at_set [] s new within = absurd (omega (arith, within))
at_set (first ∷ calls) zero new within = refl
at_set (first ∷ calls) (suc s) new within = at_set calls s new (omega (arith, within))

pub at_other : (calls : Calls) (s r : ℕ) (new : Option Call) → (s ≡ r → ⊥) → call_at (set calls s new) r ≡ call_at calls r
at_other [] s r new other = refl
at_other (first ∷ calls) zero zero new other = absurd (other refl)
at_other (first ∷ calls) zero (suc r) new other = refl
at_other (first ∷ calls) (suc s) zero new other = refl
at_other (first ∷ calls) (suc s) (suc r) new other = at_other calls s r new (λ same. other (ap suc same))

-- one that runs has a place in the list
pub within_calls : (calls : Calls) (s : ℕ) (call : Call) → call_at calls s ≡ Some call → s < length calls
within_calls [] s call runs = absurd (not_some call runs)
within_calls (first ∷ calls) zero call runs = omega arith
within_calls (first ∷ calls) (suc s) call runs = let within = within_calls calls s call runs in omega (arith, within)

-- ---- where none runs

-- where the only one has ended
pub none_runs : (calls : Calls) (s r : ℕ) → s < length calls → ((other : ℕ) → (s ≡ other → ⊥) → call_at calls other ≡ None) → call_at (set calls s None) r ≡ None
none_runs calls s r within alone = elim (cases_eq s r) [
  | inl same ↦ subst (λ (at : ℕ). call_at (set calls s None) at ≡ None) same (at_set calls s None within)
  | inr other ↦ at_other calls s r None other ∙ alone r other
]

pub none_left : (volume : VolumeView) (calls : Calls) → ((r : ℕ) → call_at calls r ≡ None) → left_of_all volume calls ≡ no_residue
none_left volume [] none = refl
none_left volume (None ∷ calls) none = none_left volume calls (λ r. none (suc r))
none_left volume (Some call ∷ calls) none = absurd (not_some call (sym (none 0)))

pub none_wait : (volume : VolumeView) (device : DeviceView) (words : State) (calls : Calls) → ((r : ℕ) → call_at calls r ≡ None)
    → StandsWith volume device words no_residue no_residue → CallsWait volume device words no_residue calls
none_wait volume device words calls none stands = record {
  beside = subst (λ (left : Residue). StandsWith volume device words no_residue left) (sym (none_left volume calls none)) stands;
  each = λ s call runs. absurd (not_some call (sym (none s) ∙ runs));
  apart = λ s r call other differ runs too. absurd (not_some call (sym (none s) ∙ runs));
}
