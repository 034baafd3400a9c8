use Rattle.std.proofs.Common.{true, false, sym, ◌∙◌}
use Rattle.tree_model.specs.Run.{State}
use Rattle.plain_tree.proofs.StateLaws.{room_moved-after, plain_state-kept, plain_state-given}
use Rattle.plain_tree.proofs.after.state_after.Goals as goal

pub returns-then-fits : goal.returns-then-fits
returns-then-fits c = λ volume.
    let old : State = record { tree = c.args.tree.now; room = c.args.rooms.now } in
    let kept = room_moved-after volume old c.args.command.now c.in_ok-new.new c.in_ok-new.ensures c.gaining.result c.losing.result c.args.page false c.in_ok-kept.kept
    c.gaining.ensures c.losing.ensures c.requires.page c.in_ok-kept.ensures in
    plain_state-kept volume old c.args.command.now c.in_ok-new.new c.in_ok-new.ensures c.in_ok-kept.kept kept (sym c.fits.ensures ∙ c.if-fits.true)

pub returns : goal.returns
returns c = λ volume.
    let old : State = record { tree = c.args.tree.now; room = c.args.rooms.now } in
    let kept = room_moved-after volume old c.args.command.now c.in_ok-new.new c.in_ok-new.ensures c.gaining.result c.losing.result c.args.page false c.in_ok-kept.kept
    c.gaining.ensures c.losing.ensures c.requires.page c.in_ok-kept.ensures in
    let given = room_moved-after volume old c.args.command.now c.in_ok-new.new c.in_ok-new.ensures c.gaining.result c.losing.result c.args.page true c.in_ok-given.given
    c.gaining.ensures c.losing.ensures c.requires.page c.in_ok-given.ensures in
    plain_state-given volume old c.args.command.now c.in_ok-new.new c.in_ok-new.ensures c.in_ok-kept.kept kept c.in_ok-given.given given (sym c.fits.ensures ∙ c.if-fits.false)
