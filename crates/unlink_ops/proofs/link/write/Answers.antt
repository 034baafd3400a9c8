use Rattle.std.proofs.Common.{ℕ, ◌-◌, sym, ap, subst, ◌∙◌}
use Rattle.std.specs.Prelude.{Result, Ok, IfOk}
use Rattle.pm_trait.specs.declared.event.PmFault.{PmFault}
use Rattle.pm_trait.specs.Unfolds.{Takes}
use Rattle.unlink_ops.specs.declared.link.NamedFile.{NamedFile}
use Rattle.unlink_ops.specs.Linking.{IsLinkOf, writing}
use Rattle.entry_steps.proofs.Keeping.{settled}
use Rattle.unlink_ops.proofs.LinkStands.{takes_ok, written_stands}
use Rattle.unlink_ops.proofs.link.write.Goals as goal

pub returns-clause-stage : goal.returns-clause-stage
returns-clause-stage g c =
    let link = c.args.link.now in
    let file = c.in_ok-file.file in
    let old = c.args.volume.now in
    let a = g.P.Pm.view c.args.pm.now in
    let b = g.P.Pm.view c.write_name-made.new.pm in
    let same = c.in_ok-file.ensures.same in
    let takes = subst (λ (p : ℕ). Takes {E = PmFault} (writing p link) a b (Ok file)) c.geometry.ensures (takes_ok same c.write_name-made.ensures.takes) in
    let of = subst (λ (p : ℕ). IsLinkOf p link file.inode file.place b) c.geometry.ensures
    (subst (λ (r : Result NamedFile PmFault). IfOk r (λ file. IsLinkOf c.geometry.result.now.pages link file.inode file.place b)) (sym same) c.write_name-made.ensures.file) in
    let now = settled c.first_events-events.result same c.settle.ensures.volume ∙ ap (λ (n : ℕ). record old { kept = old.kept - n }) c.first_events-events.ensures in
    written_stands link file old c.take_page.new.self a b c.requires.stands takes of now c.take_page.ensures
