use Rattle.std.proofs.Common.{◌≡◌, ◌≤◌, length, drop}
use Rattle.crash_replay.proofs.place.pass_events.Given as goal

abbrev pub invariant-loop-passed : goal.invariant-loop-passed
invariant-loop-passed l = record {
  left : l.walk ≡ drop l.passed l.fn.walk;
  within : l.passed ≤ length l.fn.walk;
}
