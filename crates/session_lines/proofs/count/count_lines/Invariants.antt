use Rattle.std.proofs.Common.{◌≡◌, ◌+◌, ◌≤◌, length}
use Rattle.script.specs.Lines.{lines_of}
use Rattle.session_lines.proofs.count.count_lines.Given as goal

abbrev pub invariant-counting : goal.invariant-counting
invariant-counting l = record {
  lines : l.count + length (lines_of l.rest) ≡ length (lines_of l.script);
  within : l.count + length l.rest ≤ length l.script;
}

abbrev pub decreases-counting : goal.decreases-counting
decreases-counting l = length l.rest
