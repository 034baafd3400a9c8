-- What is done to a closed volume before the first plan that stores.
use Rattle.std.specs.Prelude.{◌≡◌, ◌⊎◌, ◌<◌, true, false, Result, IsOk, OnOk, MatchResult}
use Rattle.pm_trait.specs.DeviceView.{DeviceView}
use Rattle.pm_trait.specs.declared.event.PmFault.{PmFault}
use Rattle.layout.specs.Superblock.{open_mark}
use Rattle.tree_model.specs.Run.{State}
use Rattle.volume.specs.Costs.{fences_of_plan}
use Rattle.volume.specs.declared.plan.Action.{Action}
use Rattle.volume.specs.Stands.{StandsFor}
use Rattle.volume.specs.Volume.{VolumeView}
use Rattle.mark_ops.specs.Marking.{SetsMark}

-- The volume has the mark and the plan makes a fence: the mark was taken away by a step of its own, or a fence failed in that.
pub record Unmarks (old new : VolumeView) (before after : DeviceView) (action : Action) (result : Result (Unit {0}) PmFault) : Type 0 where
  pub marked : old.marked ≡ true
  pub some : 0 < fences_of_plan action
  pub sets : (state : State) → StandsFor old before state → SetsMark old.size open_mark state before after result
  pub stands : (state : State) → StandsFor old before state → OnOk result (StandsFor new after state)
  pub view : MatchResult result (λ done. new ≡ record old { marked = false }) (λ fault. new ≡ record old { stopped = true })

-- so, or nothing was done
abbrev pub MakesReady : VolumeView → VolumeView → DeviceView → DeviceView → Action → Result (Unit {0}) PmFault → Type 0
MakesReady old new before after action result = (IsOk result × (new ≡ old) × (after ≡ before)) ⊎ Unmarks old new before after action result
