-- What is left of a call that begins has the events and the fences of its plan.
use Rattle.std.proofs.Common.{◌≡◌, ℕ, List, Some, refl, sym, subst}
use Rattle.pm_trait.specs.DeviceView.{DeviceView}
use Rattle.volume.specs.Volume.{VolumeView}
use Rattle.volume.specs.Stages.{keeping}
use Rattle.volume.specs.declared.plan.Action.{Action}
use Rattle.volume.specs.declared.plan.Action.TheVariants.{Make, Name, Remove, Move, Write as WriteBytes, WriteNothing, Resize, KeepSize, KeepNames, Read as ReadBytes, Status, Names, Space}
use Rattle.volume.specs.declared.plan.Removal.{Removal}
use Rattle.create_ops.specs.Stages as entries
use Rattle.unlink_ops.specs.LinkStages as links
use Rattle.unlink_ops.specs.RemovalStages as removals
use Rattle.rename_ptr.specs.Stages as moves
use Rattle.data_ops.specs.ResizeStages as resizes
use Rattle.data_ops.specs.WriteStages as writes
use Rattle.running_calls.specs.declared.running.Running.{Running}
use Rattle.running_calls.specs.declared.running.Running.TheVariants.{Makes, Links, Removes, Moves, Writes, Resizes}
use Rattle.running_calls.specs.Stages.{MayBegin, begun, left_of}
use Rattle.waiting_laws.specs.Costs.{CostsPlan}
use Rattle.waiting_laws.proofs.CostsMoving.{moving_costs}
use Rattle.waiting_laws.proofs.CostsNaming.{making_costs, linking_costs}
use Rattle.waiting_laws.proofs.CostsRemoving.{removing_costs}
use Rattle.waiting_laws.proofs.CostsResizing.{resizing_costs}
use Rattle.waiting_laws.proofs.CostsWriting.{writing_plan}
use Rattle.running_laws.specs.Numbers.{CostsAllOf, PlanCostsLaw}

-- a plan begins one call
same_call : (one other : Running) → Some one ≡ Some other → one ≡ other
same_call one other is = cc

same_removal : (one other : Removal) → ◌≡◌ {A = Action} (Remove one) (Remove other) → one ≡ other
same_removal one other is = cc

module _ (volume : VolumeView) (device : DeviceView) (bytes : List ℕ) where
  begun_costs : (action : Action) (first running : Running) → Some first ≡ Some running → CostsPlan action (left_of (keeping volume action) bytes first)
      → CostsAllOf volume bytes action running
  begun_costs action first running is costs =
      subst (λ (call : Running). CostsAllOf volume bytes action call) (same_call first running is) (record { events = costs.events; fences = costs.fences })

  plan_costs : (action : Action) (running : Running) → MayBegin volume device bytes action → begun action ≡ Some running → CostsAllOf volume bytes action running
  plan_costs (Make entry) running may is = begun_costs (Make entry) (Makes (entries.begun entry)) running is (making_costs.plan volume.size entry)
  plan_costs (Name link) running may is = begun_costs (Name link) (Links (links.begun link)) running is (linking_costs.plan volume.size link)
  plan_costs (Remove removal) running (taken, same, unmarked, stands) is =
      let kept = keeping volume (Remove removal) in
      begun_costs (Remove removal) (Removes (removals.begun removal)) running is
      (removing_costs.plan kept removal (subst (λ (other : Removal). removals.HasLosses kept other) (sym (same_removal removal taken same)) stands.losses))
  plan_costs (Move moving) running (which, unmarked, stands) is =
      begun_costs (Move moving) (Moves (moves.begun (Move moving))) running is (moving_costs.plan (keeping volume (Move moving)) moving stands.at.1.losses)
  plan_costs (WriteBytes writing) running (which, unmarked, stands) is =
      begun_costs (WriteBytes writing) (Writes (writes.begun (WriteBytes writing))) running is (writing_plan (keeping volume (WriteBytes writing)) device bytes writing stands)
  plan_costs WriteNothing running may is = begun_costs WriteNothing (Writes (writes.begun WriteNothing)) running is (record { events = refl; fences = refl })
  plan_costs (Resize resizing) running (which, unmarked, stands) is =
      begun_costs (Resize resizing) (Resizes (resizes.begun (Resize resizing))) running is (resizing_costs.plan (keeping volume (Resize resizing)) device resizing stands)
  plan_costs KeepSize running may is = begun_costs KeepSize (Resizes (resizes.begun KeepSize)) running is (record { events = refl; fences = refl })
  plan_costs KeepNames running may is = begun_costs KeepNames (Moves (moves.begun KeepNames)) running is (record { events = refl; fences = refl })
  plan_costs (ReadBytes reading) running may is = absurd may
  plan_costs (Status inode) running may is = absurd may
  plan_costs (Names inode) running may is = absurd may
  plan_costs Space running may is = absurd may

pub plan_costs_law : PlanCostsLaw
plan_costs_law volume device bytes action running may is = plan_costs volume device bytes action running may is
