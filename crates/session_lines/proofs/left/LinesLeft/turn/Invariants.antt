use Rattle.std.proofs.Common.{◌≡◌, ◌+◌, ◌-◌}
use Rattle.session_lines.specs.Turns.{first_with_line, turn_from}
use Rattle.session_lines.proofs.left.LinesLeft.turn.Given as goal

-- none of the sessions before has a line left
abbrev pub invariant-turns : goal.invariant-turns
invariant-turns l = first_with_line l.self (l.self.sessions - l.step) (l.byte + l.step) ≡ turn_from l.self l.byte
