use Rattle.std.proofs.Common.{◌∙◌, ap}
use Rattle.dentry_state.specs.Dentry.{DentryView, touched_lines}
use Rattle.removal_steps.proofs.Slots.{slot_settled}
use Rattle.rename_ptr.proofs.Stored.{slots_cleared, cleared_flushed}
use Rattle.rename_ptr.proofs.clear.clear_slots.Goals as goal

pub at-source-requires-clause-settled : goal.at-source-requires-clause-settled
at-source-requires-clause-settled g c = slot_settled c.args.geometry.now.pages c.args.moving.now.from_slot c.requires.ready.from_in_range c.requires.whole c.requires.settled

pub at-destination-requires-clause-settled : goal.at-destination-requires-clause-settled
at-destination-requires-clause-settled g c = slot_settled c.args.geometry.now.pages c.args.moving.now.to_slot c.requires.ready.to_in_range c.requires.whole c.requires.settled

pub returns-clause-flushed : goal.returns-clause-flushed
returns-clause-flushed g c =
    let live = c.clear_pointer-live in
    let free = c.free_left-free in
    cleared_flushed c.args.geometry.now.pages c.args.moving.now.from_slot c.args.moving.now.to_slot c.requires.ready.other_slot live.result.pages free.result.pages live.result.slot free.result.slot
    (ap (λ (d : DentryView). d.pages) live.ensures.object ∙ ap (λ (d : DentryView). d.pages) c.at-destination.ensures.object) (ap (λ (d : DentryView). d.slot) live.ensures.object ∙ ap (λ (d : DentryView). d.slot) c.at-destination.ensures.object)
    (ap (λ (d : DentryView). d.pages) free.ensures.object ∙ ap (λ (d : DentryView). d.pages) c.at-source.ensures.object) (ap (λ (d : DentryView). d.slot) free.ensures.object ∙ ap (λ (d : DentryView). d.slot) c.at-source.ensures.object)
    c.flush-entry.ensures.flushed c.flush-freed.ensures.device c.flush-freed.ensures.flushed

pub returns-clause-device : goal.returns-clause-device
returns-clause-device g c =
    let source = c.at-source in
    let destination = c.at-destination in
    let live = c.clear_pointer-live in
    let free = c.free_left-free in
    slots_cleared c.args.geometry.now.pages c.args.moving.now.from_slot c.args.moving.now.to_slot c.requires.ready.other_slot destination.result.pages source.result.pages destination.result.slot source.result.slot
    (ap (λ (d : DentryView). d.pages) destination.ensures.object) (ap (λ (d : DentryView). d.slot) destination.ensures.object) (ap (λ (d : DentryView). d.pages) source.ensures.object) (ap (λ (d : DentryView). d.slot) source.ensures.object)
    (ap (λ (d : DentryView). touched_lines d.touched) live.ensures.object) (ap (λ (d : DentryView). touched_lines d.touched) free.ensures.object)
    live.ensures.device free.ensures.device c.flush-entry.ensures.device c.flush-freed.ensures.device
