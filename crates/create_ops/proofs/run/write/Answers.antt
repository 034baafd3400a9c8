use Rattle.std.proofs.Common.{◌≡◌, ℕ, ◌-◌, sym, ap, subst, ◌∙◌}
use Rattle.std.specs.Prelude.{Ok, IfOk}
use Rattle.pm_trait.specs.Unfolds.{Takes}
use Rattle.volume.specs.Volume.{VolumeView}
use Rattle.entry_steps.proofs.Keeping.{settled}
use Rattle.create_ops.specs.declared.run.Stage.TheVariants.{Written}
use Rattle.create_ops.specs.Making.{IsNodeOf, writing}
use Rattle.create_ops.specs.Stages.{StandsStage}
use Rattle.create_ops.proofs.Standing.{numbers_in, written_stands}
use Rattle.create_ops.proofs.run.write.Goals as goal

pub returns-clause-stage : goal.returns-clause-stage
returns-clause-stage g c =
    let volume = c.args.volume.now in
    let entry = c.args.entry.now in
    let node = c.in_ok-node.node in
    let same = sym c.in_ok-node.ensures.same in
    let before = g.P.Pm.view c.args.pm.now in
    let after = g.P.Pm.view c.write_node-written.new.pm in
    let P = c.geometry.result.now.pages in
    let size : P ≡ volume.size = c.geometry.ensures in
    let takes = subst (λ result. Takes (writing P entry) before after result) same c.write_node-written.ensures.takes in
    let of = subst (λ result. IfOk result (λ node. IsNodeOf P entry node.inode node.place after)) same c.write_node-written.ensures.node in
    let paid = settled c.first_events.result c.in_ok-node.ensures.same c.in_ok-node.ensures.volume ∙ ap (λ (n : ℕ). record volume { kept = volume.kept - n }) c.first_events.ensures in
    subst (λ (now : VolumeView). StandsStage now after (record { entry = entry; stage = Written node })) (sym (numbers_in entry volume c.settle.new.volume c.take_page.new.self c.take_inode.new.self paid c.take_page.ensures c.take_inode.ensures))
    (written_stands volume entry before after node c.requires.stands (subst (λ (p : ℕ). Takes (writing p entry) before after (Ok node)) size takes) (subst (λ (p : ℕ). IsNodeOf p entry node.inode node.place after) size of))
