use Rattle.std.proofs.Common.{ℕ, List, sym, ap, subst, ◌∙◌, arith}
use Rattle.std.proofs.lemmas.Result.{err_from_is_err_and}
use Rattle.layout.specs.Geometry.{inodes_of}
use Rattle.layout.specs.Fields.{inode_links}
use Rattle.tree_model.specs.declared.command.Command.TheVariants.{Unlink}
use Rattle.image_counts.specs.Laws.{supply_beside}
use Rattle.volume.specs.Volume.{VolumeView}
use Rattle.volume.specs.declared.plan.Action.TheVariants.{Remove}
use Rattle.volume.specs.Planned.{IsPlannedWith}
use Rattle.volume.specs.declared.plan.Removal.{Removal}
use Rattle.volume.proofs.WalkedBeside.{reached_at, in_table}
use Rattle.volume.proofs.NamingRemovals.{unlink_names}
use Rattle.volume.proofs.RemovalRows.{unlink_fails, unlink_directory, unlink_planned}
use Rattle.volume.proofs.volume.Volume.file_removal.Goals as goal

pub is_directory-requires-clause-reached : goal.is_directory-requires-clause-reached
is_directory-requires-clause-reached g c =
    let (state, residue, asked) = c.requires.asked in
    reached_at c.args.self.now (g.P.Pm.view c.args.pm.now) state residue c.args.path.now c.in_ok-named.named.inode asked.stands (c.in_ok-named.ensures.named state residue asked.stands).inode_is

pub inode_at-links-requires-clause-from_one : goal.inode_at-links-requires-clause-from_one
inode_at-links-requires-clause-from_one g c =
    let (state, residue, asked) = c.requires.asked in
    let reached = reached_at c.args.self.now (g.P.Pm.view c.args.pm.now) state residue c.args.path.now c.in_ok-named.named.inode asked.stands (c.in_ok-named.ensures.named state residue asked.stands).inode_is in
    (in_table c.args.self.now (g.P.Pm.view c.args.pm.now) c.in_ok-named.named.inode (state, residue, asked.stands) reached).0

pub inode_at-links-requires-clause-inode_in_range : goal.inode_at-links-requires-clause-inode_in_range
inode_at-links-requires-clause-inode_in_range g c =
    let (state, residue, asked) = c.requires.asked in
    let reached = reached_at c.args.self.now (g.P.Pm.view c.args.pm.now) state residue c.args.path.now c.in_ok-named.named.inode asked.stands (c.in_ok-named.ensures.named state residue asked.stands).inode_is in
    let most = (in_table c.args.self.now (g.P.Pm.view c.args.pm.now) c.in_ok-named.named.inode (state, residue, asked.stands) reached).1 in
    let same = ap (λ (volume : VolumeView). inodes_of volume.size) c.self.view_is in
    omega (arith, most, same, c.self.inside.geometry.inodes_exact)

pub removal_of-removal-requires-clause-least : goal.removal_of-removal-requires-clause-least
removal_of-removal-requires-clause-least g c =
    let (state, residue, asked) = c.requires.asked in
    let reached = reached_at c.args.self.now (g.P.Pm.view c.args.pm.now) state residue c.args.path.now c.in_ok-named.named.inode asked.stands (c.in_ok-named.ensures.named state residue asked.stands).inode_is in
    (in_table c.args.self.now (g.P.Pm.view c.args.pm.now) c.in_ok-named.named.inode (state, residue, asked.stands) reached).0

pub removal_of-removal-requires-clause-most : goal.removal_of-removal-requires-clause-most
removal_of-removal-requires-clause-most g c =
    let (state, residue, asked) = c.requires.asked in
    let reached = reached_at c.args.self.now (g.P.Pm.view c.args.pm.now) state residue c.args.path.now c.in_ok-named.named.inode asked.stands (c.in_ok-named.ensures.named state residue asked.stands).inode_is in
    (in_table c.args.self.now (g.P.Pm.view c.args.pm.now) c.in_ok-named.named.inode (state, residue, asked.stands) reached).1

pub returns-then-is_directory : goal.returns-then-is_directory
returns-then-is_directory g c = λ state residue asked.
    unlink_directory c.args.self.now (g.P.Pm.view c.args.pm.now) state residue asked.stands c.args.path.now (c.in_ok-named.ensures.row state residue asked.stands) _ _ _ c.in_ok-named.named.inode (c.in_ok-named.ensures.named state residue asked.stands)
    (sym (c.if-is_directory.ensures state residue asked.stands))

pub returns : goal.returns
returns g c = λ state residue asked.
    let device = g.P.Pm.view c.args.pm.now in
    let links = c.inode_at-links.ensures.links ∙ ap (λ (words : List ℕ). inode_links words c.in_ok-named.named.inode) c.image.ensures in
    subst (λ (removal : Removal). IsPlannedWith (supply_beside c.args.self.now.size residue) device.words state (Unlink c.args.path.now) (Remove removal)) (sym c.removal_of-removal.ensures.is)
    (unlink_planned c.args.self.now device state residue asked.stands c.args.path.now (c.in_ok-named.ensures.row state residue asked.stands) _ _ _ _ (c.in_ok-named.ensures.named state residue asked.stands)
    (asked.untouched.each c.in_ok-named.named.inode (unlink_names state.tree c.args.path.now c.in_ok-named.named.inode (c.in_ok-named.ensures.named state residue asked.stands).inode_is))
    c.inode_at-links.result.links c.removal_of-removal.result.loss.pages c.removal_of-removal.result.given_back (sym (c.if-is_directory.ensures state residue asked.stands)) links
    (c.removal_of-removal.ensures.pages, c.removal_of-removal.ensures.no_pages, c.removal_of-removal.ensures.given_back))

pub is_directory-requires-clause-stands : goal.is_directory-requires-clause-stands
is_directory-requires-clause-stands g c = let (state, residue, asked) = c.requires.asked in (state, residue, asked.stands)

pub removal_of-removal-requires-clause-stands : goal.removal_of-removal-requires-clause-stands
removal_of-removal-requires-clause-stands g c =
    let (state, residue, asked) = c.requires.asked in
    (state, residue, asked.stands, asked.untouched.each c.in_ok-named.named.inode (unlink_names state.tree c.args.path.now c.in_ok-named.named.inode (c.in_ok-named.ensures.named state residue asked.stands).inode_is))

pub removal_of-removal-requires-clause-slot : goal.removal_of-removal-requires-clause-slot
removal_of-removal-requires-clause-slot g c =
    let (state, residue, asked) = c.requires.asked in
    (c.in_ok-named.ensures.named state residue asked.stands).slot_is.slot.live.held.in_range

pub returns-in_err-named : goal.returns-in_err-named
returns-in_err-named g c =
    let p = err_from_is_err_and c.from_residual.result c.from_residual.ensures.1 in
    rw (p.1, p.2) (λ state residue asked. unlink_fails c.args.self.now (g.P.Pm.view c.args.pm.now) state residue asked.stands c.args.path.now _ (c.in_err-named.ensures.row state residue asked.stands))
