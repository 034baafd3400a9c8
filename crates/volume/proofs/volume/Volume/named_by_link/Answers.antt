use Rattle.std.proofs.Common.{◌≡◌, [], Option, Ok, ap, subst, ◌∙◌}
use Rattle.std.proofs.lemmas.Result.{err_from_is_err_and}
use Rattle.volume.specs.Walks.{place_of_parent, IsLastName}
use Rattle.volume.specs.declared.resolve.LastName.{LastName}
use Rattle.volume.proofs.Holders.{would_hold, is_here}
use Rattle.volume.proofs.WalkedNames.{link_fails_first, link_fails_second, link_at_root, link_named}
use Rattle.volume.proofs.volume.Volume.named_by_link.Goals as goal

pub returns-in_err-inode : goal.returns-in_err-inode
returns-in_err-inode g c =
    let p = err_from_is_err_and c.from_residual.result c.from_residual.ensures.1 in
    rw (p.1, p.2) (λ state residue stands. link_fails_first state.tree c.args.from.now c.args.to.now _ (c.in_err-inode.ensures state residue stands))

pub returns-in_err-last : goal.returns-in_err-last
returns-in_err-last g c =
    let p = err_from_is_err_and c.from_residual-in_err-last.result c.from_residual-in_err-last.ensures.1 in
    rw (p.1, p.2) (λ state residue stands.
    link_fails_second state.tree c.args.from.now c.args.to.now c.in_ok-inode.inode (c.in_ok-inode.ensures state residue stands) _ (c.in_err-last.ensures.directory state residue stands))

pub returns-in_default : goal.returns-in_default
returns-in_default g c = λ state residue stands.
    let root : c.args.to.now ≡ [] = subst (IsLastName c.args.to.now) c.in_default.is c.in_ok-last.ensures.name in
    let walked = c.in_ok-last.ensures.directory state residue stands ∙ ap (λ (last : Option LastName). place_of_parent c.args.to.now (Ok last)) c.in_default.is in
    link_at_root state.tree c.args.from.now c.args.to.now c.in_ok-inode.inode (c.in_ok-inode.ensures state residue stands) walked root

pub inode_of-requires-clause-reached : goal.inode_of-requires-clause-reached
inode_of-requires-clause-reached g c =
    let (state, residue, stands) = c.requires.stands in
    let holder = would_hold state.tree c.args.to.now c.in_ok-last.field-0 c.in-Some.last (c.in_ok-last.ensures.directory state residue stands) c.in_ok-last.ensures.name c.in-Some.is in
    (is_here c.args.self.now (g.P.Pm.view c.args.pm.now) state residue stands c.args.to.now c.in-Some.last.directory c.in-Some.last.name holder).0

pub returns : goal.returns
returns g c = λ state residue stands.
    let holder = would_hold state.tree c.args.to.now c.in_ok-last.field-0 c.in-Some.last (c.in_ok-last.ensures.directory state residue stands) c.in_ok-last.ensures.name c.in-Some.is in
    link_named c.args.self.now (g.P.Pm.view c.args.pm.now) state residue stands c.args.from.now c.args.to.now c.in_ok-inode.inode c.in-Some.last.directory c.in-Some.last.name c.inode_of.result
    (c.in_ok-inode.ensures state residue stands) holder (c.inode_of.ensures state residue c.args.to.now stands holder)
