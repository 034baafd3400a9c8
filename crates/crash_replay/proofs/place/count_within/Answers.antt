use Rattle.std.proofs.Common.{◌+◌, ◌-◌, take, ap, ◌∙◌, arith}
use Rattle.pm_trait.specs.Trail.{count_acks}
use Rattle.crash_replay.proofs.Places.{first_of_limit}
use Rattle.crash_replay.proofs.place.count_within.Goals as goal

pub loop-passed-preserved : goal.loop-passed-preserved
loop-passed-preserved c =
    let known = c.loop-passed.invariant in
    let steps = c.in-Some.ensures.steps in
    let passed = c.loop-passed._passed in
    let limit = c.args.limit in
    let later = c.next.new.self in
    let here = ap (λ l. count_acks (take (limit - passed) l)) steps
    ∙ ap count_acks (first_of_limit passed limit c.in-Some.event later c.loop-passed-test.true) in
    record {
      so_far = omega (arith, known.so_far, here, c.acks_in-acks.ensures.some (take (limit - (passed + 1)) later));
      within = omega (arith, known.within, c.acks_in-acks.ensures.one);
    }
