-- A plan that moves a name, or none, begins the call of a rename.
use Rattle.std.proofs.Common.{◌≡◌, ◌⊎◌, ℕ, List, sym, subst, ◌∙◌, inl, inr}
use Rattle.pm_trait.specs.DeviceView.{DeviceView}
use Rattle.volume.specs.Volume.{VolumeView}
use Rattle.volume.specs.declared.plan.Moving.{Moving}
use Rattle.volume.specs.declared.plan.Action.{Action}
use Rattle.volume.specs.declared.plan.Action.TheVariants.{Move, KeepNames}
use Rattle.rename_ptr.specs.Stages as moves
use Rattle.running_calls.specs.Stages.{MayBegin}

pub move_begins : (volume : VolumeView) (device : DeviceView) (bytes : List ℕ) (action taken : Action) → action ≡ taken → MayBegin volume device bytes action
    → ((moving : Moving) × (taken ≡ Move moving)) ⊎ (taken ≡ KeepNames) → moves.MayBegin volume device action
move_begins volume device bytes action taken same may (inl (moving, is)) =
    subst (λ a. moves.MayBegin volume device a) (sym (same ∙ is)) (subst (λ a. MayBegin volume device bytes a) (same ∙ is) may)
move_begins volume device bytes action taken same may (inr is) =
    subst (λ a. moves.MayBegin volume device a) (sym (same ∙ is)) (subst (λ a. MayBegin volume device bytes a) (same ∙ is) may)
