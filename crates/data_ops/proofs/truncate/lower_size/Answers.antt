use Rattle.std.proofs.Common.{ap, ◌∙◌}
use Rattle.pm_trait.proofs.Unfolding.{interval_ends}
use Rattle.inode_state.specs.Inode.{InodeView}
use Rattle.data_ops.proofs.Pages.{inode_settled, size_stored, size_flushed, sized_is}
use Rattle.data_ops.proofs.truncate.lower_size.Goals as goal

pub at-live-requires-clause-settled : goal.at-live-requires-clause-settled
at-live-requires-clause-settled g c = inode_settled c.args.geometry.now.pages c.args.inode c.args.geometry.now.volume_size c.requires.ready.least c.requires.ready.most c.requires.begins.whole c.requires.begins.settled

pub returns : goal.returns
returns g c =
    let live = c.at-live in
    let cut = c.shrink_size-cut in
    let flush = c.flush-flushed.ensures in
    let number = ap (λ (v : InodeView). v.number) live.ensures.object in
    record {
      takes = record {
        makes = sized_is (g.P.Pm.view c.args.pm.now).words (g.P.Pm.view c.end_interval.new.pm).words c.args.inode live.result.number c.args.size number (c.end_interval.ensures.device.words ∙ flush.device.words ∙ cut.ensures.device.words);
        fenced = interval_ends c.end_interval.result c.requires.begins.settled (size_stored c.args.inode live.result.number number cut.ensures.device flush.device)
            (size_flushed c.args.inode cut.result.number (ap (λ (v : InodeView). v.number) cut.ensures.object ∙ number) flush.flushed) c.end_interval.ensures.device;
      };
    }
