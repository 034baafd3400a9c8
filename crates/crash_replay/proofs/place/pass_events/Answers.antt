use Rattle.std.proofs.Common.{sym, ◌∙◌, arith}
use Rattle.crash_replay.proofs.Places.{rest_is, rest_inside, none_left}
use Rattle.crash_replay.proofs.place.pass_events.Goals as goal

pub returns-in_default-clause-passed : goal.returns-in_default-clause-passed
returns-in_default-clause-passed c =
    let known = c.loop-passed.invariant in
    let all = none_left c.loop-passed.passed c.args.walk.now (sym known.left ∙ c.in_default.ensures.steps.0) known.within in
    omega (arith, all)

pub loop-passed-preserved : goal.loop-passed-preserved
loop-passed-preserved c =
    let is = sym c.loop-passed.invariant.left ∙ c.in-Some.ensures.steps in
    record {
      left = rest_is c.loop-passed.passed _ c.next.new.self c.args.walk.now is;
      within = rest_inside c.loop-passed.passed _ c.next.new.self c.args.walk.now is;
    }
