use Rattle.std.proofs.Common.{◌≡◌, ℕ, refl, sym, subst, ◌∙◌}
use Rattle.std.specs.Prelude.{None, Ok, Err, IfOk}
use Rattle.dentry_state.specs.Dentry.{DentryIsClean, slot_fields_at}
use Rattle.dentry_state.specs.declared.dentry.Touched.TheVariants.{FirstLine}
use Rattle.layout.specs.Geometry.{IsVolumeSize}
use Rattle.pm_trait.specs.declared.event.PmFault.{PmFault}
use Rattle.pm_trait.specs.Unfolds.{Takes}
use Rattle.volume.specs.Volume.{VolumeView}
use Rattle.volume.specs.Costs.{commit_events}
use Rattle.entry_steps.specs.Steps.{owning, first_slot}
use Rattle.entry_steps.specs.Waiting.{IsSlotAt, IsPageAt}
use Rattle.entry_steps.proofs.Keeping.{settled}
use Rattle.entry_steps.proofs.Waiting.{slot_claimed}
use Rattle.create_ops.specs.declared.run.Stage.TheVariants.{Claimed}
use Rattle.create_ops.specs.Stages.{StandsStage}
use Rattle.create_ops.proofs.Standing.{claimed_stands}
use Rattle.create_ops.proofs.run.claim.Goals as goal

pub returns-clause-stage : goal.returns-clause-stage
returns-clause-stage g c =
    let volume = c.args.volume.now in
    let entry = c.args.entry.now in
    let page = c.args.page in
    let before = g.P.Pm.view c.args.pm.now in
    let after = g.P.Pm.view c.claim_page-claimed.new.pm in
    let P = c.geometry.result.now.pages in
    let size : P ≡ volume.size = c.geometry.ensures in
    let result = c.settle.result in
    elim result as (λ r. result ≡ r → IfOk r (λ slot. StandsStage c.settle.new.volume after (record { entry = entry; stage = Claimed (record { inode = c.args.inode.now; slot = slot }) }))) [
      | Ok slot ↦ λ told.
          let same = sym c.settle.ensures.same ∙ told in
          let takes = subst (λ result. Takes {E = PmFault} (owning P page entry.directory) before after result) same c.claim_page-claimed.ensures.takes in
          let is = subst (λ result. IfOk result (λ slot. slot ≡ record { pages = P; slot = first_slot page; fields = slot_fields_at P before.words (first_slot page); touched = FirstLine; ticket = None })) same c.claim_page-claimed.ensures.slot in
          let clean = subst (λ result. IfOk result (λ slot. DentryIsClean slot after)) same c.claim_page-claimed.ensures.clean in
          subst (λ (now : VolumeView). StandsStage now after (record { entry = entry; stage = Claimed (record { inode = c.args.inode.now; slot = slot }) })) (sym (settled commit_events (sym same) c.settle.ensures.volume))
          (claimed_stands volume entry c.args.inode.now page slot before after (subst IsVolumeSize size c.geometry.result.now.volume_size) c.requires.stands (subst (λ (p : ℕ). Takes {E = PmFault} (owning p page entry.directory) before after (Ok slot)) size takes)
          (subst (λ (p : ℕ). IsSlotAt p entry.slot slot after) size (slot_claimed P entry.directory entry.slot entry.new_page page before.words before after slot (subst (λ (p : ℕ). IsPageAt p entry.directory entry.slot entry.new_page page before) (sym size) c.requires.stands.words.1) is clean)))
      | Err fault ↦ λ told. tt
    ] refl
