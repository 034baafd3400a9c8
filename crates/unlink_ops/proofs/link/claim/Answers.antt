use Rattle.std.proofs.Common.{◌≡◌, ℕ, refl, sym, subst, ◌∙◌}
use Rattle.std.specs.Prelude.{Ok, Err, IfOk}
use Rattle.pm_trait.specs.declared.event.PmFault.{PmFault}
use Rattle.pm_trait.specs.Unfolds.{Takes}
use Rattle.layout.specs.Geometry.{IsVolumeSize}
use Rattle.volume.specs.Costs.{commit_events}
use Rattle.entry_steps.specs.Steps.{owning}
use Rattle.entry_steps.proofs.Keeping.{settled}
use Rattle.unlink_ops.specs.LinkStages.{StandsStage, named}
use Rattle.unlink_ops.proofs.LinkStands.{takes_ok, slot_at, claimed_stands}
use Rattle.unlink_ops.proofs.link.claim.Goals as goal

pub returns-clause-stage : goal.returns-clause-stage
returns-clause-stage g c =
    let link = c.args.link.now in
    let inode = c.args.inode.now in
    let page = c.args.page in
    let a = g.P.Pm.view c.args.pm.now in
    let b = g.P.Pm.view c.claim_page-made.new.pm in
    let result = c.settle.result in
    elim result as (λ r. result ≡ r → IfOk r (λ slot. StandsStage c.settle.new.volume b (named link (record { inode = inode; slot = slot })))) [
      | Ok slot ↦ λ told.
          let same = sym told ∙ c.settle.ensures.same in
          let takes = subst (λ (p : ℕ). Takes {E = PmFault} (owning p page link.directory) a b (Ok slot)) c.geometry.ensures (takes_ok same c.claim_page-made.ensures.takes) in
          claimed_stands link inode page slot c.args.volume.now c.settle.new.volume a b c.requires.stands (subst IsVolumeSize c.geometry.ensures c.geometry.result.now.volume_size) takes
          (slot_at c.geometry.ensures link page a b same c.requires.stands.words.1 c.claim_page-made.ensures.slot c.claim_page-made.ensures.clean) (settled commit_events same c.settle.ensures.volume)
      | Err fault ↦ λ told. tt
    ] refl
