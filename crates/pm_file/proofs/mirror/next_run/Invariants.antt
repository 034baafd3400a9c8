use Rattle.std.proofs.Common.{take, slice_index}
use Rattle.pm_file.specs.Given.{IsRun}
use Rattle.pm_file.proofs.mirror.next_run.Given as goal

abbrev pub invariant-loop-count : goal.invariant-loop-count
invariant-loop-count l = IsRun (take l.count l.lines) (slice_index l.lines 0)
