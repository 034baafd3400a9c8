-- A call that may run beside others makes its first step, whatever its command.
use Rattle.std.proofs.Common.{◌≡◌, ◌<◌, true, false, Option, Some, None, refl, sym, ap, subst, ◌∙◌, arith, true≢false}
use Rattle.pm_trait.specs.DeviceView.{DeviceView}
use Rattle.tree_model.specs.Run.{State}
use Rattle.tree_model.specs.declared.command.Command.{Command}
use Rattle.tree_model.proofs.TreeKept.{same_some}
use Rattle.image_reading.specs.Residue.{Residue}
use Rattle.volume.specs.Volume.{VolumeView}
use Rattle.volume.specs.Costs.{events_of}
use Rattle.volume.specs.declared.next.Next.{Next}
use Rattle.volume.specs.declared.plan.Action.{Action}
use Rattle.running_calls.specs.Stages.{begun}
use Rattle.running_calls.specs.declared.running.Running.{Running}
use Rattle.waiting_laws.specs.Beside.{IsReady}
use Rattle.running_laws.specs.Steps.{FirstStepLaw, runs_beside}
use Rattle.running_laws.proofs.BeginPlans.{IsCallOf, planned_call}
use Rattle.running_laws.proofs.BeginNames.{Goes, entry_goes, link_goes, removal_goes}
use Rattle.running_laws.proofs.BeginContents.{write_goes, resize_goes}

none_begins : (running : Running) → ◌≡◌ {A = Option Running} None (Some running) → ⊥
none_begins running e = cc

module _ (volume new : VolumeView) (before after : DeviceView) (state : State) (next : Next Running) (others : Residue) where
  -- the same of the call that the plan begins
  begun_goes : (command : Command) (action : Action) (first running : Running) → Some first ≡ Some running → Goes volume new before after state command action first next others
      → Goes volume new before after state command action running next others
  begun_goes command action first running begins goes =
      subst (λ (r : Running). Goes volume new before after state command action r next others) (same_some first running begins) goes

  alone : (moved running : Running) → Some moved ≡ Some running → runs_beside moved ≡ false → runs_beside running ≡ true → ⊥
  alone moved running begins apart beside = true≢false (sym beside ∙ sym (ap runs_beside (same_some moved running begins)) ∙ apart)

  goes : (command : Command) (action : Action) (running : Running) → IsReady volume before state command action others → 0 < events_of action → begun action ≡ Some running
      → runs_beside running ≡ true → IsCallOf command action → Goes volume new before after state command action running next others
  goes _ _ running ready some begins beside (IsCallOf.makes path entry) = begun_goes _ _ _ running begins (entry_goes volume new before after state others path entry next ready)
  goes _ _ running ready some begins beside (IsCallOf.links from to link) = begun_goes _ _ _ running begins (link_goes volume new before after state others from to link next ready)
  goes _ _ running ready some begins beside (IsCallOf.removes path removal) =
      begun_goes _ _ _ running begins (removal_goes volume new before after state others path removal next ready)
  goes _ _ running ready some begins beside (IsCallOf.moves from to moving) = absurd (alone _ running begins refl beside)
  goes _ _ running ready some begins beside (IsCallOf.keeps_names from to) = absurd (alone _ running begins refl beside)
  goes _ _ running ready some begins beside (IsCallOf.writes path writing bytes) =
      begun_goes _ _ _ running begins (write_goes volume new before after state path writing bytes others ready next)
  goes _ _ running ready some begins beside (IsCallOf.writes_nothing path offset) = absurd (omega (arith, some))
  goes _ _ running ready some begins beside (IsCallOf.resizes path resizing) =
      begun_goes _ _ _ running begins (resize_goes volume new before after state path resizing others ready next)
  goes _ _ running ready some begins beside (IsCallOf.keeps_size path size) = absurd (omega (arith, some))
  goes _ _ running ready some begins beside (IsCallOf.reads command action stays none) = absurd (none_begins running (sym none ∙ begins))

pub first_step_law : FirstStepLaw
first_step_law volume new before after state command action running next others ready some begins beside makes is stands =
    goes volume new before after state next others command action running ready some begins beside (planned_call volume before state command action others ready) makes is stands
