use Rattle.fence_token.proofs.ObjectLaws.{stands_clean_stays}
use Rattle.inode_state.proofs.InodeLaws.{inode_is_local}
use Rattle.page_state.proofs.Cut.{owned_apart}
use Rattle.page_state.proofs.page.PageH+Clean+Live.cut_owner.Goals as goal

pub returns-clause-inode_clean : goal.returns-clause-inode_clean
returns-clause-inode_clean g c =
    let view = c.args.self in
    let inode = c.args.inode.now in
    stands_clean_stays (inode_is_local inode) c.store_owner.ensures.device.interval
    (λ word own stored. owned_apart view.volume_pages inode.number word view.pages (g.P.Pm.view c.args.pm.now).words view.fields inode.fields c.store_owner.ensures.volume c.requires.clean.stands.reads c.requires.inode_clean.stands.reads c.number-number.ensures.reads.0 c.requires.owner own stored)
    c.requires.inode_clean
