use Rattle.std.proofs.Common.{ℕ, ◌-◌, sym, ap, subst, ◌∙◌}
use Rattle.std.specs.Prelude.{Ok}
use Rattle.pm_trait.specs.Unfolds.{Takes}
use Rattle.volume.specs.Volume.{VolumeView}
use Rattle.volume.specs.declared.next.Next.{Next}
use Rattle.entry_steps.proofs.Keeping.{settled}
use Rattle.unlink_ops.specs.RemovalStages.{RunningView, HasLosses, StandsStage, StandsNext, EntersAtStage, pages_gone, step_of}
use Rattle.unlink_ops.proofs.Passing.{losses_kept, stands_next}
use Rattle.unlink_ops.proofs.removal.Running.step.Goals as goal

pub take_in-requires-clause-losses : goal.take_in-requires-clause-losses
take_in-requires-clause-losses g c =
    let volume = c.args.volume.now in
    let stands = subst (StandsStage volume (g.P.Pm.view c.args.pm.now)) (sym c.self.view_is) c.requires.stands in
    let events = c.step_events-events.result in
    subst (λ (v : VolumeView). HasLosses v c.self.inside.removal) (sym (settled events c.in_ok-settle.ensures.same c.in_ok-settle.ensures.volume)) (losses_kept volume c.self.inside.removal stands.losses (volume.kept - events))

pub returns-in-Some-clause-stage : goal.returns-in-Some-clause-stage
returns-in-Some-clause-stage g c =
    let volume = c.args.volume.now in
    let removal = c.self.inside.removal in
    let stage = c.self.inside.stage in
    let before = g.P.Pm.view c.args.pm.now in
    let after = g.P.Pm.view c.make_step-made.new.pm in
    let new = c.take_in.new.volume in
    let running : RunningView = record { removal = removal; stage = stage } in
    let stands = subst (StandsStage volume before) (sym c.self.view_is) c.requires.stands in
    let exact = c.step_events-events.ensures volume.size (pages_gone volume removal) stands.losses.count in
    let paid = settled c.step_events-events.result c.in_ok-settle.ensures.same c.in_ok-settle.ensures.volume ∙ ap (λ (n : ℕ). record volume { kept = volume.kept - n }) exact in
    let takes = subst (λ result. Takes (step_of volume running) before after result) {y = Ok c.in_ok-settle.field-0} (sym c.in_ok-settle.ensures.same) c.make_step-made.ensures.takes in
    let enters = subst (λ (v : VolumeView). EntersAtStage removal stage v new) paid c.take_in.ensures in
    subst (λ (next : Next RunningView). StandsNext new after next) (sym c.in-Some.ensures) (stands_next volume new before after removal stage stands takes enters)
