use Rattle.std.proofs.Common.{length, sym, ap, ◌∙◌, arith}
use Rattle.crash_replay.specs.Place.{through_acks}
use Rattle.crash_replay.proofs.Places.{rest_is}
use Rattle.crash_replay.proofs.place.pass_acks.Goals as goal

pub events-preserved : goal.events-preserved
events-preserved c =
    let known = c.events.invariant in
    let steps = c.in-Some.ensures.steps in
    let later = c.next.new.self in
    record {
      so_far = omega (arith, known.so_far, ap (through_acks c.events.left) steps, c.acks_behind-left.ensures later);
      place = rest_is c.events.passed c.in-Some.event later c.args.walk.now (sym known.place ∙ steps);
      within = omega (arith, known.within, ap length steps);
    }
