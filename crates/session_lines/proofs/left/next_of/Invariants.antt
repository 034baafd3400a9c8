use Rattle.std.proofs.Common.{◌≡◌, drop}
use Rattle.session_lines.specs.Places.{first_place}
use Rattle.session_lines.proofs.left.next_of.Given as goal

-- no line of the session stands before this place
abbrev pub invariant-places : goal.invariant-places
invariant-places l = first_place l.session l.place (drop l.place l.lines) ≡ first_place l.session l.start (drop l.start l.lines)
