use Rattle.std.proofs.Common.{sym, subst, arith}
use Rattle.image_reading.specs.Counts.{Count}
use Rattle.image_counts.specs.Entries.{IsPageIn}
use Rattle.volume.proofs.PageLists.{pages_counted_beside}
use Rattle.volume.proofs.volume.Volume.removal_of.Goals as goal

pub loss_of-loss-requires-clause-most : goal.loss_of-loss-requires-clause-most
loss_of-loss-requires-clause-most g c =
    let (state, residue, stands, untouched) = c.requires.stands in
    omega (arith, c.requires.most, stands.knows.nodes.each_inode)

pub returns-clause-pages : goal.returns-clause-pages
returns-clause-pages g c = λ goes.
    let (state, residue, stands, untouched) = c.requires.stands in
    subst (Count (IsPageIn c.args.self.now.size (g.P.Pm.view c.args.pm.now).words c.args.named.inode)) (sym (c.loss_of-loss.ensures.pages goes))
    (pages_counted_beside c.args.self.now (g.P.Pm.view c.args.pm.now) state residue stands c.args.named.inode untouched c.requires.least c.requires.most)
