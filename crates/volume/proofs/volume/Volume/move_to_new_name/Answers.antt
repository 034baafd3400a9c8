use Rattle.std.proofs.Common.{sym, subst}
use Rattle.tree_model.specs.declared.command.Command.TheVariants.{Rename}
use Rattle.volume.specs.declared.plan.Moving.{Moving}
use Rattle.volume.specs.declared.plan.Action.TheVariants.{Move}
use Rattle.image_reading.specs.Residue.{no_residue}
use Rattle.volume.specs.Prepared.{IsPlanFound}
use Rattle.volume.proofs.Beside.{untouched_nothing}
use Rattle.volume.proofs.WalkedBeside.{stands_tree}
use Rattle.volume.proofs.Places.{place_within}
use Rattle.volume.proofs.Holders.{is_here, in_inodes}
use Rattle.volume.proofs.RenameRows.{plan_alone, refusal_alone, new_into_itself, new_no_page, new_planned}
use Rattle.volume.proofs.volume.Volume.move_to_new_name.Goals as goal

pub is_into_itself-requires-clause-there : goal.is_into_itself-requires-clause-there
is_into_itself-requires-clause-there g c =
    let (state, stands) = c.requires.stands in
    (state, stands, (stands_tree c.args.self.now (g.P.Pm.view c.args.pm.now) state no_residue stands).present c.args.from.now c.args.source.inode (c.requires.source state stands).named.inode_is)

pub kind_of-kind-requires-clause-there : goal.kind_of-kind-requires-clause-there
kind_of-kind-requires-clause-there g c =
    let (state, stands) = c.requires.stands in
    (state, stands, (stands_tree c.args.self.now (g.P.Pm.view c.args.pm.now) state no_residue stands).present c.args.from.now c.args.source.inode (c.requires.source state stands).named.inode_is)

pub returns-then-is_into_itself : goal.returns-then-is_into_itself
returns-then-is_into_itself g c =
    let device = (g.P.Pm.view c.args.pm.now) in
    refusal_alone c.args.self.now device c.args.from.now c.args.to.now _ (λ state stands.
    new_into_itself c.args.self.now device state stands c.args.from.now c.args.to.now c.args.target.directory c.args.target.name (c.requires.target state stands) (c.requires.source state stands).row c.args.source.directory c.args.source.name c.args.source.slot c.args.source.inode (c.requires.source state stands).named c.requires.absent (sym (c.if-is_into_itself.ensures state stands)))

pub place_for_name-requires-clause-stands : goal.place_for_name-requires-clause-stands
place_for_name-requires-clause-stands g c =
    let (state, stands) = c.requires.stands in
    (state, no_residue, stands, untouched_nothing c.args.self.now (g.P.Pm.view c.args.pm.now).words c.args.target.directory)

pub place_for_name-requires-clause-least : goal.place_for_name-requires-clause-least
place_for_name-requires-clause-least g c =
    let (state, stands) = c.requires.stands in
    (in_inodes c.args.self.now (g.P.Pm.view c.args.pm.now) state no_residue stands c.args.to.now _ _ (c.requires.target state stands)).0

pub place_for_name-requires-clause-most : goal.place_for_name-requires-clause-most
place_for_name-requires-clause-most g c =
    let (state, stands) = c.requires.stands in
    (in_inodes c.args.self.now (g.P.Pm.view c.args.pm.now) state no_residue stands c.args.to.now _ _ (c.requires.target state stands)).1

pub place_for_name-requires-clause-directory : goal.place_for_name-requires-clause-directory
place_for_name-requires-clause-directory g c =
    let (state, stands) = c.requires.stands in
    is_here c.args.self.now (g.P.Pm.view c.args.pm.now) state no_residue stands c.args.to.now _ _ (c.requires.target state stands)

pub returns-in_default : goal.returns-in_default
returns-in_default g c =
    let device = (g.P.Pm.view c.args.pm.now) in
    refusal_alone c.args.self.now device c.args.from.now c.args.to.now _ (λ state stands.
    new_no_page c.args.self.now device state stands c.args.from.now c.args.to.now c.args.target.directory c.args.target.name (c.requires.target state stands) (c.requires.source state stands).row c.args.source.directory c.args.source.name c.args.source.slot c.args.source.inode (c.requires.source state stands).named c.requires.absent (sym (c.if-is_into_itself.ensures state stands)) c.in_default.ensures.0 c.in_default.ensures.1)

pub moving-moving-requires-clause-target : goal.moving-moving-requires-clause-target
moving-moving-requires-clause-target g c = place_within c.args.self.now.size (g.P.Pm.view c.args.pm.now).words c.args.target.directory c.in-Some.place.slot c.in-Some.place.new_page c.in-Some.ensures

pub returns : goal.returns
returns g c =
    let device = (g.P.Pm.view c.args.pm.now) in
    subst (λ (moving : Moving). IsPlanFound c.args.self.now device (Rename c.args.from.now c.args.to.now) (Move moving)) (sym c.moving-moving.ensures.is)
    (plan_alone c.args.self.now device c.args.from.now c.args.to.now _ (λ state stands. new_planned c.args.self.now device state stands c.args.from.now c.args.to.now c.args.target.directory c.args.target.name (c.requires.target state stands) (c.requires.source state stands).row c.args.source.directory c.args.source.name c.args.source.slot c.args.source.inode (c.requires.source state stands).named c.requires.absent (sym (c.if-is_into_itself.ensures state stands)) c.kind_of-kind.result c.in-Some.place.slot c.in-Some.place.new_page c.moving-moving.result.given_back
    (c.kind_of-kind.ensures state stands) c.in-Some.ensures c.moving-moving.ensures.given_back))
