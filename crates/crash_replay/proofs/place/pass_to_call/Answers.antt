use Rattle.std.proofs.Common.{◌≡◌, ◌+◌, arith}
use Rattle.crash_replay.specs.Place.{start_of}
use Rattle.crash_replay.proofs.Places.{start_more, start_inside}
use Rattle.crash_replay.proofs.place.pass_to_call.Goals as goal

is_start : (c : goal.After-pass_acks) → c.pass_events-mount.result + c.pass_acks.result ≡ start_of c.args.walk.now c.args.mark (c.args.acks + 1)
is_start c =
    start_more c.args.walk.now c.pass_events-mount.new.walk c.args.mark c.args.acks c.pass_events-mount.result c.pass_acks.result
    c.pass_events-mount.ensures.passed c.pass_events-mount.ensures.left c.pass_acks.ensures.passed

pub overflow_add-result : goal.overflow_add-result
overflow_add-result c = omega (arith, is_start c, start_inside c.args.walk.now c.args.mark (c.args.acks + 1))

pub returns-clause-start : goal.returns-clause-start
returns-clause-start c = is_start c

pub returns-clause-within : goal.returns-clause-within
returns-clause-within c = omega (arith, is_start c, start_inside c.args.walk.now c.args.mark (c.args.acks + 1))
