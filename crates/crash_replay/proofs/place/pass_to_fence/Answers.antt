use Rattle.std.proofs.Common.{◌+◌, ◌-◌, length, take, ap, ◌∙◌, arith}
use Rattle.crash_replay.specs.Place.{fence_within}
use Rattle.crash_replay.proofs.Places.{first_of_limit}
use Rattle.crash_replay.proofs.place.pass_to_fence.Goals as goal

pub loop-passed-preserved : goal.loop-passed-preserved
loop-passed-preserved c =
    let known = c.loop-passed.invariant in
    let steps = c.in-Some.ensures.steps in
    let passed = c.loop-passed.passed in
    let limit = c.args.limit in
    let later = c.next.new.self in
    let here = ap (λ l. fence_within c.loop-passed.left (take (limit - passed) l)) steps
    ∙ ap (fence_within c.loop-passed.left) (first_of_limit passed limit c.in-Some.event later c.loop-passed-test.true) in
    record {
      so_far = omega (arith, known.so_far, here, c.in-Some-fence_behind.ensures.behind (take (limit - (passed + 1)) later));
      within = omega (arith, known.within, ap length steps);
    }
