use Rattle.std.proofs.Common.{◌≡◌, ◌+◌, length, drop}
use Rattle.crash_replay.specs.Place.{through_acks}
use Rattle.crash_replay.proofs.place.pass_acks.Given as goal

abbrev pub invariant-events : goal.invariant-events
invariant-events l = record {
  so_far : through_acks l.acks l.fn.walk ≡ l.passed + through_acks l.left l.walk;
  place : l.walk ≡ drop l.passed l.fn.walk;
  within : l.passed + length l.walk ≡ length l.fn.walk;
}

abbrev pub decreases-events : goal.decreases-events
decreases-events l = length l.walk
