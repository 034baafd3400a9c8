use Rattle.std.proofs.Common.{◌≡◌, vec_len}
use Rattle.session_lines.proofs.LeftLaws.{AreFirst}
use Rattle.session_lines.proofs.left.LinesLeft.of.Given as goal

abbrev pub invariant-sessions : goal.invariant-sessions
invariant-sessions l = record {
  count : vec_len l.next ≡ l.session;
  first : AreFirst l.lines.items l.next.items l.session;
}
