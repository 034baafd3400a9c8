use Rattle.std.proofs.Common.{sym, ap, subst, ◌∙◌}
use Rattle.pm_trait.proofs.Unfolding.{interval_ends}
use Rattle.inode_state.specs.Inode.{InodeView}
use Rattle.inode_state.specs.Covered.{HasPagesFor}
use Rattle.data_ops.proofs.Pages.{inode_settled, size_stored, size_flushed, sized_is}
use Rattle.data_ops.proofs.grow.raise_size.Goals as goal

pub at-live-requires-clause-settled : goal.at-live-requires-clause-settled
at-live-requires-clause-settled g c = inode_settled c.args.geometry.now.pages c.args.inode c.args.geometry.now.volume_size c.requires.ready.least c.requires.ready.most c.requires.begins.whole c.requires.begins.settled

pub grow_size-grown-requires-clause-covered : goal.grow_size-grown-requires-clause-covered
grow_size-grown-requires-clause-covered g c =
    subst (λ (v : InodeView). HasPagesFor v.pages v.number c.args.size (g.P.Pm.view c.args.pm.now)) (sym c.at-live.ensures.object) c.requires.ready.covered

pub returns : goal.returns
returns g c =
    let live = c.at-live in
    let grown = c.grow_size-grown in
    let flush = c.flush-flushed.ensures in
    let number = ap (λ (v : InodeView). v.number) live.ensures.object in
    record {
      takes = record {
        makes = sized_is (g.P.Pm.view c.args.pm.now).words (g.P.Pm.view c.end_interval.new.pm).words c.args.inode live.result.number c.args.size number (c.end_interval.ensures.device.words ∙ flush.device.words ∙ grown.ensures.device.words);
        fenced = interval_ends c.end_interval.result c.requires.begins.settled (size_stored c.args.inode live.result.number number grown.ensures.device flush.device)
            (size_flushed c.args.inode grown.result.number (ap (λ (v : InodeView). v.number) grown.ensures.object ∙ number) flush.flushed) c.end_interval.ensures.device;
      };
    }
