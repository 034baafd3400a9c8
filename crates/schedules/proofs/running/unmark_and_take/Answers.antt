use Rattle.std.proofs.Common.{replicate, subst}
use Rattle.std.specs.Prelude.{None}
use Rattle.schedules.specs.Schedules.{TakesTurns}
use Rattle.schedules.specs.Turns.{Border}
use Rattle.sessions.proofs.WeavesStarts.{starts_law}
use Rattle.schedules.proofs.Started.{room_reserved, stands_still, first_unmarked, same_unmarked, runs_unmarked}
use Rattle.schedules.proofs.running.unmark_and_take.Goals as goal

pub unmark-requires-clause-stands : goal.unmark-requires-clause-stands
unmark-requires-clause-stands g c =
    let (state, stands) = c.requires.start.stands in
    (state, stands_still c.args.interleave.now.volume (g.P.Pm.view c.args.pm.now) (g.P.Pm.view c.reserve.new.self) state (room_reserved _ _ _ c.reserve.result c.reserve.ensures) stands)

pub take_turns-requires-clause-first : goal.take_turns-requires-clause-first
take_turns-requires-clause-first g c =
    let (state, stands) = c.requires.start.stands in
    let still = stands_still c.args.interleave.now.volume (g.P.Pm.view c.args.pm.now) (g.P.Pm.view c.reserve.new.self) state (room_reserved _ _ _ c.reserve.result c.reserve.ensures) stands in
    let unmarked = c.in-Ok.ensures in (
      replicate c.args.left.now.sessions None,
      state,
      first_unmarked starts_law c.args.interleave.now c.unmark.new.self (g.P.Pm.view c.args.pm.now) (g.P.Pm.view c.unmark.new.pm) c.args.left.now state c.requires.start unmarked.weave
          (unmarked.stands state still),
    )

pub returns-in-Ok-clause-runs : goal.returns-in-Ok-clause-runs
returns-in-Ok-clause-runs g c state script stands lines needed =
    let room = room_reserved (g.P.Pm.view c.args.pm.now) (g.P.Pm.view c.reserve.new.self) _ c.reserve.result c.reserve.ensures in
    let still = stands_still c.args.interleave.now.volume (g.P.Pm.view c.args.pm.now) (g.P.Pm.view c.reserve.new.self) state room stands in
    let unmarked = c.in-Ok.ensures in
    let first = first_unmarked starts_law c.args.interleave.now c.unmark.new.self (g.P.Pm.view c.args.pm.now) (g.P.Pm.view c.unmark.new.pm) c.args.left.now state c.requires.start unmarked.weave
    (unmarked.stands state still) in
    runs_unmarked needed room unmarked.weave (unmarked.sets state still)
    (subst (λ (start : Border). TakesTurns c.args.schedule.now start c.take_turns.result c.take_turns.new.interleave (g.P.Pm.view c.take_turns.new.pm) (g.K.Sink.took c.args.sink.now)
    (g.K.Sink.took c.take_turns.new.sink)) (same_unmarked c.args.interleave.now c.unmark.new.self (g.P.Pm.view c.unmark.new.pm) c.args.left.now state script unmarked.weave lines)
    (c.take_turns.ensures.takes (replicate c.args.left.now.sessions None) state first))
