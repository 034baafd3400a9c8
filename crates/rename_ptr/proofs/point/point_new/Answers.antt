use Rattle.std.proofs.Common.{◌∙◌, ap}
use Rattle.dentry_state.specs.Dentry.{DentryView, touched_lines}
use Rattle.removal_steps.proofs.Slots.{slot_settled}
use Rattle.rename_ptr.proofs.Stored.{named_and_pointed, entry_stays}
use Rattle.rename_ptr.proofs.point.point_new.Goals as goal

pub at-entry-requires-clause-settled : goal.at-entry-requires-clause-settled
at-entry-requires-clause-settled g c = slot_settled c.args.geometry.now.pages c.args.source c.requires.source_in_range c.requires.whole c.requires.settled

pub at-free-requires-clause-settled : goal.at-free-requires-clause-settled
at-free-requires-clause-settled g c = slot_settled c.args.geometry.now.pages c.args.slot c.requires.in_range c.requires.whole c.requires.settled

pub point_at-pointing-requires-clause-source_clean : goal.point_at-pointing-requires-clause-source_clean
point_at-pointing-requires-clause-source_clean g c =
    let entry = c.at-entry in
    let free = c.at-free in
    entry_stays c.args.geometry.now.pages free.result.pages c.args.source c.args.slot free.result.slot entry.result (ap (λ (d : DentryView). d.pages) entry.ensures.object) (ap (λ (d : DentryView). d.slot) entry.ensures.object)
    (ap (λ (d : DentryView). d.pages) free.ensures.object) (ap (λ (d : DentryView). d.slot) free.ensures.object) c.requires.entry c.requires.free c.set_name-named.ensures.device entry.ensures.clean

pub returns-clause-device : goal.returns-clause-device
returns-clause-device g c =
    let free = c.at-free in
    let named = c.set_name-named in
    let dirty = c.point_at-pointing in
    let volume = ap (λ (d : DentryView). d.pages) free.ensures.object in
    let slot = ap (λ (d : DentryView). d.slot) free.ensures.object in
    named_and_pointed c.args.geometry.now.pages free.result.pages named.result.pages c.args.slot free.result.slot named.result.slot volume slot
    (ap (λ (d : DentryView). d.pages) named.ensures.object ∙ volume) (ap (λ (d : DentryView). d.slot) named.ensures.object ∙ slot)
    (ap (λ (d : DentryView). touched_lines d.touched) dirty.ensures.object ∙ ap (λ (d : DentryView). touched_lines d.touched) named.ensures.object) named.ensures.device dirty.ensures.device c.flush-pointed.ensures.device
