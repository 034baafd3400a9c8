use Rattle.std.proofs.Common.{◌≡◌, ◌++◌, length, map}
use Rattle.script.specs.SessionLines.{session_calls}
use Rattle.session_lines.specs.Places.{call_in, AreOf}
use Rattle.session_lines.proofs.left.all_lines.Given as goal

abbrev pub invariant-reading : goal.invariant-reading
invariant-reading l = record {
  calls : map call_in l.lines.items ++ session_calls l.sessions l.rest ≡ session_calls l.sessions l.script;
  below : AreOf l.sessions l.lines.items;
}

abbrev pub decreases-reading : goal.decreases-reading
decreases-reading l = length l.rest
