use Rattle.std.proofs.Common.{sym, ◌∙◌, arith}
use Rattle.tree_model.specs.Run.{State}
use Rattle.image_reading.specs.Residue.{no_residue}
use Rattle.volume.specs.Carried.{IsPlanFor}
use Rattle.volume.proofs.PreparedAlone.{may_prepare, asked, still_alone, plan_alone}
use Rattle.worked_costs.proofs.Begins.{may_make, may_name, may_remove, may_move, may_write, may_resize, make_begun, name_begun, remove_begun, move_begun, write_begun, resize_begun}
use Rattle.worked_costs.proofs.course.begin.Goals as goal

pub prepare-requires-clause-asked : goal.prepare-requires-clause-asked
prepare-requires-clause-asked g c = asked c.args.command.now c.requires.stands

pub prepare-requires-clause-kept : goal.prepare-requires-clause-kept
prepare-requires-clause-kept g c = let none = c.requires.stands.1.no_call in omega (arith, none)

pub make_ready-requires-clause-stands : goal.make_ready-requires-clause-stands
make_ready-requires-clause-stands g c = let (state, stands) = c.requires.stands in (state, still_alone c.in-Ok.ensures.leaves.view stands c.prepare.ensures.stands)

pub begin-requires : goal.begin-requires
begin-requires g c =
    let (state, stands) = c.requires.stands in
    let planned : (s : State) × IsPlanFor c.make_ready.new.volume (g.P.Pm.view c.make_ready.new.pm) s c.args.command.now c.in-Ok.plan = (state, c.in_ok-make_ready.ensures.plans state c.args.command.now (plan_alone c.in-Ok.ensures.leaves.view stands c.prepare.ensures.stands (c.in-Ok.ensures.answers state no_residue (may_prepare c.args.command.now stands)))) in
    let ready = c.in_ok-make_ready.ensures.ready in
    record { stands = (g.P.Pm.view c.make_ready.new.pm, may_make planned ready c.in-Make.field-0 (sym c.action.ensures ∙ c.in-Make.is)) }

pub returns-in-Make : goal.returns-in-Make
returns-in-Make g c =
    let (state, stands) = c.requires.stands in
    let planned : (s : State) × IsPlanFor c.make_ready.new.volume (g.P.Pm.view c.make_ready.new.pm) s c.args.command.now c.in-Ok.plan = (state, c.in_ok-make_ready.ensures.plans state c.args.command.now (plan_alone c.in-Ok.ensures.leaves.view stands c.prepare.ensures.stands (c.in-Ok.ensures.answers state no_residue (may_prepare c.args.command.now stands)))) in
    let ready = c.in_ok-make_ready.ensures.ready in
    make_begun planned ready c.args._bytes.now c.begin.ensures.volume (may_make planned ready c.in-Make.field-0 (sym c.action.ensures ∙ c.in-Make.is)) c.begin.ensures.running

pub begin-requires-in-Name : goal.begin-requires-in-Name
begin-requires-in-Name g c =
    let (state, stands) = c.requires.stands in
    let planned : (s : State) × IsPlanFor c.make_ready.new.volume (g.P.Pm.view c.make_ready.new.pm) s c.args.command.now c.in-Ok.plan = (state, c.in_ok-make_ready.ensures.plans state c.args.command.now (plan_alone c.in-Ok.ensures.leaves.view stands c.prepare.ensures.stands (c.in-Ok.ensures.answers state no_residue (may_prepare c.args.command.now stands)))) in
    let ready = c.in_ok-make_ready.ensures.ready in
    record { stands = (g.P.Pm.view c.make_ready.new.pm, may_name planned ready c.in-Name.field-0 (sym c.action.ensures ∙ c.in-Name.is)) }

pub returns-in-Name : goal.returns-in-Name
returns-in-Name g c =
    let (state, stands) = c.requires.stands in
    let planned : (s : State) × IsPlanFor c.make_ready.new.volume (g.P.Pm.view c.make_ready.new.pm) s c.args.command.now c.in-Ok.plan = (state, c.in_ok-make_ready.ensures.plans state c.args.command.now (plan_alone c.in-Ok.ensures.leaves.view stands c.prepare.ensures.stands (c.in-Ok.ensures.answers state no_residue (may_prepare c.args.command.now stands)))) in
    let ready = c.in_ok-make_ready.ensures.ready in
    name_begun planned ready c.args._bytes.now c.begin-in-Name.ensures.volume (may_name planned ready c.in-Name.field-0 (sym c.action.ensures ∙ c.in-Name.is)) c.begin-in-Name.ensures.running

pub begin-requires-in-Remove : goal.begin-requires-in-Remove
begin-requires-in-Remove g c =
    let (state, stands) = c.requires.stands in
    let planned : (s : State) × IsPlanFor c.make_ready.new.volume (g.P.Pm.view c.make_ready.new.pm) s c.args.command.now c.in-Ok.plan = (state, c.in_ok-make_ready.ensures.plans state c.args.command.now (plan_alone c.in-Ok.ensures.leaves.view stands c.prepare.ensures.stands (c.in-Ok.ensures.answers state no_residue (may_prepare c.args.command.now stands)))) in
    let ready = c.in_ok-make_ready.ensures.ready in
    record { stands = (g.P.Pm.view c.make_ready.new.pm, may_remove planned ready c.in-Remove.field-0 (sym c.action.ensures ∙ c.in-Remove.is)) }

pub returns-in-Remove : goal.returns-in-Remove
returns-in-Remove g c =
    let (state, stands) = c.requires.stands in
    let planned : (s : State) × IsPlanFor c.make_ready.new.volume (g.P.Pm.view c.make_ready.new.pm) s c.args.command.now c.in-Ok.plan = (state, c.in_ok-make_ready.ensures.plans state c.args.command.now (plan_alone c.in-Ok.ensures.leaves.view stands c.prepare.ensures.stands (c.in-Ok.ensures.answers state no_residue (may_prepare c.args.command.now stands)))) in
    let ready = c.in_ok-make_ready.ensures.ready in
    remove_begun planned ready c.args._bytes.now c.begin-in-Remove.ensures.volume (may_remove planned ready c.in-Remove.field-0 (sym c.action.ensures ∙ c.in-Remove.is)) c.begin-in-Remove.ensures.running

pub begin-requires-in-Move : goal.begin-requires-in-Move
begin-requires-in-Move g c =
    let (state, stands) = c.requires.stands in
    let planned : (s : State) × IsPlanFor c.make_ready.new.volume (g.P.Pm.view c.make_ready.new.pm) s c.args.command.now c.in-Ok.plan = (state, c.in_ok-make_ready.ensures.plans state c.args.command.now (plan_alone c.in-Ok.ensures.leaves.view stands c.prepare.ensures.stands (c.in-Ok.ensures.answers state no_residue (may_prepare c.args.command.now stands)))) in
    let ready = c.in_ok-make_ready.ensures.ready in
    record { stands = (g.P.Pm.view c.make_ready.new.pm, may_move planned ready (sym c.action.ensures) c.in-Move.is) }

pub returns-in-Move : goal.returns-in-Move
returns-in-Move g c =
    let (state, stands) = c.requires.stands in
    let planned : (s : State) × IsPlanFor c.make_ready.new.volume (g.P.Pm.view c.make_ready.new.pm) s c.args.command.now c.in-Ok.plan = (state, c.in_ok-make_ready.ensures.plans state c.args.command.now (plan_alone c.in-Ok.ensures.leaves.view stands c.prepare.ensures.stands (c.in-Ok.ensures.answers state no_residue (may_prepare c.args.command.now stands)))) in
    let ready = c.in_ok-make_ready.ensures.ready in
    move_begun planned ready c.args._bytes.now c.begin-in-Move.ensures.volume (may_move planned ready (sym c.action.ensures) c.in-Move.is) c.begin-in-Move.ensures.running

pub begin-requires-in-Write : goal.begin-requires-in-Write
begin-requires-in-Write g c =
    let (state, stands) = c.requires.stands in
    let planned : (s : State) × IsPlanFor c.make_ready.new.volume (g.P.Pm.view c.make_ready.new.pm) s c.args.command.now c.in-Ok.plan = (state, c.in_ok-make_ready.ensures.plans state c.args.command.now (plan_alone c.in-Ok.ensures.leaves.view stands c.prepare.ensures.stands (c.in-Ok.ensures.answers state no_residue (may_prepare c.args.command.now stands)))) in
    let ready = c.in_ok-make_ready.ensures.ready in
    record { stands = (g.P.Pm.view c.make_ready.new.pm, c.args._bytes.now, may_write planned ready c.args._bytes.now c.requires.bytes (sym c.action.ensures) c.in-Write.is) }

pub returns-in-Write : goal.returns-in-Write
returns-in-Write g c =
    let (state, stands) = c.requires.stands in
    let planned : (s : State) × IsPlanFor c.make_ready.new.volume (g.P.Pm.view c.make_ready.new.pm) s c.args.command.now c.in-Ok.plan = (state, c.in_ok-make_ready.ensures.plans state c.args.command.now (plan_alone c.in-Ok.ensures.leaves.view stands c.prepare.ensures.stands (c.in-Ok.ensures.answers state no_residue (may_prepare c.args.command.now stands)))) in
    let ready = c.in_ok-make_ready.ensures.ready in
    write_begun planned ready c.args._bytes.now c.begin-in-Write.ensures.volume (may_write planned ready c.args._bytes.now c.requires.bytes (sym c.action.ensures) c.in-Write.is) c.begin-in-Write.ensures.running

pub begin-requires-in-Resize : goal.begin-requires-in-Resize
begin-requires-in-Resize g c =
    let (state, stands) = c.requires.stands in
    let planned : (s : State) × IsPlanFor c.make_ready.new.volume (g.P.Pm.view c.make_ready.new.pm) s c.args.command.now c.in-Ok.plan = (state, c.in_ok-make_ready.ensures.plans state c.args.command.now (plan_alone c.in-Ok.ensures.leaves.view stands c.prepare.ensures.stands (c.in-Ok.ensures.answers state no_residue (may_prepare c.args.command.now stands)))) in
    let ready = c.in_ok-make_ready.ensures.ready in
    record { stands = (g.P.Pm.view c.make_ready.new.pm, may_resize planned ready (sym c.action.ensures) c.in-Resize.is) }

pub returns-in-Resize : goal.returns-in-Resize
returns-in-Resize g c =
    let (state, stands) = c.requires.stands in
    let planned : (s : State) × IsPlanFor c.make_ready.new.volume (g.P.Pm.view c.make_ready.new.pm) s c.args.command.now c.in-Ok.plan = (state, c.in_ok-make_ready.ensures.plans state c.args.command.now (plan_alone c.in-Ok.ensures.leaves.view stands c.prepare.ensures.stands (c.in-Ok.ensures.answers state no_residue (may_prepare c.args.command.now stands)))) in
    let ready = c.in_ok-make_ready.ensures.ready in
    resize_begun planned ready c.args._bytes.now c.begin-in-Resize.ensures.volume (may_resize planned ready (sym c.action.ensures) c.in-Resize.is) c.begin-in-Resize.ensures.running
