use Rattle.std.proofs.Common.{◌≡◌, drop}
use Rattle.session_lines.specs.Places.{left_from}
use Rattle.session_lines.specs.Turns.{has_change}
use Rattle.session_lines.proofs.left.LinesLeft.has_change.Given as goal

-- no line before this place changes
abbrev pub invariant-lines : goal.invariant-lines
invariant-lines l = has_change (left_from l.self-inside.next.items l.place (drop l.place l.self-inside.lines.items)) ≡ has_change l.self.lines
