use Rattle.std.proofs.Common.{sym, ◌∙◌}
use Rattle.session_lines.proofs.TurnLaws.{turn_has}
use Rattle.worked_calls.proofs.turns.taken.Goals as goal

pub line-text-requires : goal.line-text-requires
line-text-requires c = record { some = turn_has c.args.left.now c.args.byte c.in_ok-session.session (sym c.turn.ensures ∙ c.in_ok-session.was) }

pub pass-requires : goal.pass-requires
pass-requires c = record { some = turn_has c.args.left.now c.args.byte c.in_ok-session.session (sym c.turn.ensures ∙ c.in_ok-session.was) }
