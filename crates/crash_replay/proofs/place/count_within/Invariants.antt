use Rattle.std.proofs.Common.{◌≡◌, ◌+◌, ◌-◌, ◌≤◌, take}
use Rattle.pm_trait.specs.Trail.{count_acks}
use Rattle.crash_replay.proofs.place.count_within.Given as goal

abbrev pub invariant-loop-passed : goal.invariant-loop-passed
invariant-loop-passed l = record {
  so_far : count_acks (take l.limit l.fn.walk) ≡ l.acks + count_acks (take (l.limit - l._passed) l.walk);
  within : l.acks ≤ l._passed;
}
