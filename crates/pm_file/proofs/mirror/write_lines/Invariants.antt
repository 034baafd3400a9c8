use Rattle.std.proofs.Common.{◌≤◌, ◌-◌, length, take}
use Rattle.pm_file.specs.Given.{HasLines}
use Rattle.pm_file.proofs.mirror.write_lines.Given as goal

abbrev pub invariant-loop-done : goal.invariant-loop-done
invariant-loop-done g l = record {
  within : l.done ≤ length l.lines;
  lines : HasLines (g.F.Medium.held l.fn.medium) (g.F.Medium.held l.medium) l.words (take l.done l.lines);
  faults : g.F.Medium.faults l.fn.medium ≤ g.F.Medium.faults l.medium;
}

abbrev pub decreases-loop-done : goal.decreases-loop-done
decreases-loop-done g l = length l.lines - l.done
