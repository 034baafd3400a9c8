use Rattle.std.proofs.Common.{ap}
use Rattle.dentry_state.specs.Dentry.{DentryView, touched_lines}
use Rattle.removal_steps.proofs.Slots.{slot_settled}
use Rattle.rename_ptr.proofs.Stored.{pointer_stored}
use Rattle.rename_ptr.proofs.point.point_named.Goals as goal

pub at-entry-requires-clause-settled : goal.at-entry-requires-clause-settled
at-entry-requires-clause-settled g c = slot_settled c.args.geometry.now.pages c.args.source c.requires.source_in_range c.requires.whole c.requires.settled

pub at-named-requires-clause-settled : goal.at-named-requires-clause-settled
at-named-requires-clause-settled g c = slot_settled c.args.geometry.now.pages c.args.slot c.requires.in_range c.requires.whole c.requires.settled

pub returns-clause-device : goal.returns-clause-device
returns-clause-device g c =
    let at = c.at-named in
    let dirty = c.point_at-pointing in
    pointer_stored c.args.geometry.now.pages at.result.pages c.args.slot at.result.slot (ap (λ (d : DentryView). d.pages) at.ensures.object) (ap (λ (d : DentryView). d.slot) at.ensures.object)
    (ap (λ (d : DentryView). touched_lines d.touched) dirty.ensures.object) dirty.ensures.device c.flush-pointed.ensures.device
