use Rattle.std.proofs.Common.{◌∙◌, ap}
use Rattle.pm_trait.proofs.Unfolding.{interval_ends}
use Rattle.dentry_state.specs.Dentry.{DentryView, touched_lines}
use Rattle.entry_steps.proofs.Slots.{commit_flushed, slot_stored}
use Rattle.create_ops.proofs.node.commit_node.Goals as goal

pub returns : goal.returns
returns g c =
    let dentry = c.args.dentry in
    let entry = c.commit-entry in
    let flush = c.flush-committed.ensures in
    record {
      takes = record {
        makes = c.end_interval.ensures.device.words ∙ flush.device.words ∙ entry.ensures.device.words;
        fenced = interval_ends c.end_interval.result c.requires.begins.settled (slot_stored (ap (λ (d : DentryView). touched_lines d.touched) entry.ensures.object) entry.ensures.device flush.device)
            (commit_flushed dentry.pages entry.result.pages dentry.slot entry.result.slot (ap (λ (d : DentryView). d.pages) entry.ensures.object) (ap (λ (d : DentryView). d.slot) entry.ensures.object) flush.flushed)
            c.end_interval.ensures.device;
      };
    }
