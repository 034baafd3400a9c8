use Rattle.std.proofs.Common.{sym}
use Rattle.running_calls.proofs.Begun.{move_begins}
use Rattle.running_calls.proofs.running.begin.Goals as goal

-- src/running.rt:98:63
pub begin-requires-in-Move : goal.begin-requires-in-Move
begin-requires-in-Move c =
    let (device, bytes, may) = c.requires.stands in
    record { stands = (device, move_begins c.args.volume.now device bytes c.args.plan c.action.result.now (sym c.action.ensures) may c.in-Move.is) }
