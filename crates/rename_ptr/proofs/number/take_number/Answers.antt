use Rattle.std.proofs.Common.{◌∙◌, ap}
use Rattle.pm_trait.proofs.Unfolding.{interval_ends}
use Rattle.dentry_state.specs.Dentry.{DentryView, touched_lines}
use Rattle.entry_steps.proofs.Slots.{commit_flushed, slot_stored, naming_as}
use Rattle.removal_steps.proofs.Slots.{slot_settled}
use Rattle.rename_ptr.proofs.number.take_number.Goals as goal

pub at-source-requires-clause-settled : goal.at-source-requires-clause-settled
at-source-requires-clause-settled g c = slot_settled c.args.geometry.now.pages c.args.moving.now.from_slot c.requires.ready.from_in_range c.requires.begins.whole c.requires.begins.settled

pub at-pointing-requires-clause-settled : goal.at-pointing-requires-clause-settled
at-pointing-requires-clause-settled g c = slot_settled c.args.geometry.now.pages c.args.moving.now.to_slot c.requires.ready.to_in_range c.requires.begins.whole c.requires.begins.settled

pub returns : goal.returns
returns g c =
    let at = c.at-pointing in
    let dirty = c.take_over-moved in
    let flush = c.flush-committed.ensures in
    record {
      takes = naming_as (ap (λ (d : DentryView). d.pages) at.ensures.object) (ap (λ (d : DentryView). d.slot) at.ensures.object)
          (ap (λ (d : DentryView). d.fields.inode) c.at-source.ensures.object ∙ c.requires.ready.number)
          (record {
            makes = c.end_interval.ensures.device.words ∙ flush.device.words ∙ dirty.ensures.device.words;
            fenced = interval_ends c.end_interval.result c.requires.begins.settled (slot_stored (ap (λ (d : DentryView). touched_lines d.touched) dirty.ensures.object) dirty.ensures.device flush.device)
                (commit_flushed at.result.pages dirty.result.pages at.result.slot dirty.result.slot (ap (λ (d : DentryView). d.pages) dirty.ensures.object) (ap (λ (d : DentryView). d.slot) dirty.ensures.object) flush.flushed)
                c.end_interval.ensures.device;
          });
    }
