use Rattle.std.proofs.Common.{◌≡◌, ◌+◌, ◌-◌, length, take}
use Rattle.crash_replay.specs.Place.{fence_within}
use Rattle.crash_replay.proofs.place.pass_to_fence.Given as goal

abbrev pub invariant-loop-passed : goal.invariant-loop-passed
invariant-loop-passed l = record {
  so_far : fence_within l.fence (take l.limit l.fn.walk) ≡ l.passed + fence_within l.left (take (l.limit - l.passed) l.walk);
  within : l.passed + length l.walk ≡ length l.fn.walk;
}
