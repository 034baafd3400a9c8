use Rattle.std.proofs.Common.{sym, subst}
use Rattle.std.proofs.lemmas.Result.{err_from_is_err_and}
use Rattle.tree_model.specs.declared.command.Command.TheVariants.{Rmdir}
use Rattle.image_counts.specs.Laws.{supply_beside}
use Rattle.volume.specs.declared.plan.Action.TheVariants.{Remove}
use Rattle.volume.specs.Planned.{IsPlannedWith}
use Rattle.volume.specs.declared.plan.Removal.{Removal}
use Rattle.volume.proofs.WalkedBeside.{reached_at, in_table, in_index}
use Rattle.volume.proofs.NamingRemovals.{rmdir_names}
use Rattle.volume.proofs.RemovalRows.{rmdir_fails, rmdir_file, rmdir_some, rmdir_planned}
use Rattle.volume.proofs.volume.Volume.directory_removal.Goals as goal

pub is_directory-requires-clause-reached : goal.is_directory-requires-clause-reached
is_directory-requires-clause-reached g c =
    let (state, residue, asked) = c.requires.asked in
    reached_at c.args.self.now (g.P.Pm.view c.args.pm.now) state residue c.args.path.now c.in_ok-named.named.inode asked.stands (c.in_ok-named.ensures.named state residue asked.stands).inode_is

pub returns-then-not-is_directory : goal.returns-then-not-is_directory
returns-then-not-is_directory g c = λ state residue asked.
    rmdir_file c.args.self.now (g.P.Pm.view c.args.pm.now) state residue asked.stands c.args.path.now (c.in_ok-named.ensures.row state residue asked.stands) _ _ _ c.in_ok-named.named.inode (c.in_ok-named.ensures.named state residue asked.stands)
    (sym (c.if-not-is_directory.ensures state residue asked.stands))

pub count-requires-clause-from_one : goal.count-requires-clause-from_one
count-requires-clause-from_one g c =
    let (state, residue, asked) = c.requires.asked in
    let reached = reached_at c.args.self.now (g.P.Pm.view c.args.pm.now) state residue c.args.path.now c.in_ok-named.named.inode asked.stands (c.in_ok-named.ensures.named state residue asked.stands).inode_is in
    (in_index c.args.self.now (g.P.Pm.view c.args.pm.now) c.in_ok-named.named.inode (state, residue, asked.stands) reached).0

pub count-requires-clause-in_range : goal.count-requires-clause-in_range
count-requires-clause-in_range g c =
    let (state, residue, asked) = c.requires.asked in
    let reached = reached_at c.args.self.now (g.P.Pm.view c.args.pm.now) state residue c.args.path.now c.in_ok-named.named.inode asked.stands (c.in_ok-named.ensures.named state residue asked.stands).inode_is in
    (in_index c.args.self.now (g.P.Pm.view c.args.pm.now) c.in_ok-named.named.inode (state, residue, asked.stands) reached).1

pub returns-then-count-gt0 : goal.returns-then-count-gt0
returns-then-count-gt0 g c = λ state residue asked.
    let device = g.P.Pm.view c.args.pm.now in
    let is = sym (c.if-not-is_directory.ensures state residue asked.stands) in
    rmdir_some c.args.self.now device state residue asked.stands c.args.path.now (c.in_ok-named.ensures.row state residue asked.stands) _ _ _ c.in_ok-named.named.inode (c.in_ok-named.ensures.named state residue asked.stands)
    c.count.result is (c.count.ensures.names device state residue asked.stands is) c.if-count-gt0.true

pub removal_of-removal-requires-clause-least : goal.removal_of-removal-requires-clause-least
removal_of-removal-requires-clause-least g c =
    let (state, residue, asked) = c.requires.asked in
    let reached = reached_at c.args.self.now (g.P.Pm.view c.args.pm.now) state residue c.args.path.now c.in_ok-named.named.inode asked.stands (c.in_ok-named.ensures.named state residue asked.stands).inode_is in
    (in_table c.args.self.now (g.P.Pm.view c.args.pm.now) c.in_ok-named.named.inode (state, residue, asked.stands) reached).0

pub removal_of-removal-requires-clause-most : goal.removal_of-removal-requires-clause-most
removal_of-removal-requires-clause-most g c =
    let (state, residue, asked) = c.requires.asked in
    let reached = reached_at c.args.self.now (g.P.Pm.view c.args.pm.now) state residue c.args.path.now c.in_ok-named.named.inode asked.stands (c.in_ok-named.ensures.named state residue asked.stands).inode_is in
    (in_table c.args.self.now (g.P.Pm.view c.args.pm.now) c.in_ok-named.named.inode (state, residue, asked.stands) reached).1

pub returns : goal.returns
returns g c = λ state residue asked.
    let device = g.P.Pm.view c.args.pm.now in
    let is = sym (c.if-not-is_directory.ensures state residue asked.stands) in
    subst (λ (removal : Removal). IsPlannedWith (supply_beside c.args.self.now.size residue) device.words state (Rmdir c.args.path.now) (Remove removal)) (sym c.removal_of-removal.ensures.is)
    (rmdir_planned c.args.self.now device state residue asked.stands c.args.path.now (c.in_ok-named.ensures.row state residue asked.stands) _ _ _ _ (c.in_ok-named.ensures.named state residue asked.stands)
    c.count.result is (c.count.ensures.names device state residue asked.stands is) c.removal_of-removal.result.loss.pages c.removal_of-removal.result.given_back c.if-count-gt0.false
    (c.removal_of-removal.ensures.pages, c.removal_of-removal.ensures.no_pages, c.removal_of-removal.ensures.given_back))

pub is_directory-requires-clause-stands : goal.is_directory-requires-clause-stands
is_directory-requires-clause-stands g c = let (state, residue, asked) = c.requires.asked in (state, residue, asked.stands)

pub removal_of-removal-requires-clause-stands : goal.removal_of-removal-requires-clause-stands
removal_of-removal-requires-clause-stands g c =
    let (state, residue, asked) = c.requires.asked in
    (state, residue, asked.stands, asked.untouched.each c.in_ok-named.named.inode (rmdir_names state.tree c.args.path.now c.in_ok-named.named.inode (c.in_ok-named.ensures.named state residue asked.stands).inode_is))

pub removal_of-removal-requires-clause-slot : goal.removal_of-removal-requires-clause-slot
removal_of-removal-requires-clause-slot g c =
    let (state, residue, asked) = c.requires.asked in
    (c.in_ok-named.ensures.named state residue asked.stands).slot_is.slot.live.held.in_range

pub returns-in_err-named : goal.returns-in_err-named
returns-in_err-named g c =
    let p = err_from_is_err_and c.from_residual.result c.from_residual.ensures.1 in
    rw (p.1, p.2) (λ state residue asked. rmdir_fails c.args.self.now (g.P.Pm.view c.args.pm.now) state residue asked.stands c.args.path.now _ (c.in_err-named.ensures.row state residue asked.stands))
