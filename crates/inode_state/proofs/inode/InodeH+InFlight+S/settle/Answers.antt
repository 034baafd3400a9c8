use Rattle.std.proofs.Common.{◌∙◌, ap}
use Rattle.fence_token.proofs.ObjectLaws.{stands_clean_by_token}
use Rattle.inode_state.specs.Inode.{InodeView}
use Rattle.inode_state.proofs.Stored.{clean_as}
use Rattle.inode_state.proofs.inode.InodeH+InFlight+S.settle.Goals as goal

pub returns-clause-clean : goal.returns-clause-clean
returns-clause-clean g c =
    clean_as c.args.self.number c.of.result.number c.args.self.fields c.of.result.fields
    (ap (λ (inode : InodeView). inode.number) c.of.ensures ∙ ap (λ (inode : InodeView). inode.number) c.self.view_is)
    (ap (λ (inode : InodeView). inode.fields) c.of.ensures ∙ ap (λ (inode : InodeView). inode.fields) c.self.view_is)
    (stands_clean_by_token (g.P.Pm.view c.args.pm.now).trail (g.met.P.Pm.honest c.args.pm.now) c.requires.in_flight c.requires.settles)
