use Rattle.std.proofs.Common.{◌∙◌, ◌≤◌, ◌*◌, subst, refl, arith}
use Rattle.pm_trait.specs.Device.{HasRisen}
use Rattle.sessions.specs.declared.interleave.TheConstants.{MOST_CALLS}
use Rattle.schedules.specs.Borders.{border_of, most_turns}
use Rattle.schedules.specs.Turns.{border_behind}
use Rattle.schedules.proofs.Took.{took_none, took_all, took_more, took_cut, here_stands, here_of, few_fences, few_acks, none_left}
use Rattle.schedules.proofs.Whose.{found_has, found_none, found_turn}
use Rattle.schedules.proofs.running.take_each.Goals as goal

pub loop-turn-init : goal.loop-turn-init
loop-turn-init g c = record {
  so_far = λ calls history first.
      took_none c.args.schedule.now (border_of c.args.interleave.now (g.P.Pm.view c.args.pm.now) calls history c.args.left.now) (g.K.Sink.took c.args.sink.now);
  sink_faults = refl;
}

pub returns-in_default-clause-takes : goal.returns-in_default-clause-takes
returns-in_default-clause-takes g c calls history first =
    let so_far = c.loop-turn.invariant.so_far calls history first in
    took_all first so_far tt (found_none c.loop-turn.left _ c.turn.result c.turn.ensures (here_of first so_far c.requires.lines) c.in_default.is)

pub take_turn-requires-clause-border : goal.take_turn-requires-clause-border
take_turn-requires-clause-border g c =
    let (calls, history, first) = c.requires.first in
    let so_far = c.loop-turn.invariant.so_far calls history first in
    let last = border_behind (border_of c.args.interleave.now (g.P.Pm.view c.args.pm.now) calls history c.args.left.now) so_far.turns in
    (last.calls, last.history, here_stands first so_far)

pub take_turn-requires-clause-session : goal.take_turn-requires-clause-session
take_turn-requires-clause-session g c =
    let (calls, history, first) = c.requires.first in
    let border = here_stands first (c.loop-turn.invariant.so_far calls history first) in
    (found_has c.loop-turn.left _ c.turn.result c.turn.ensures c.in-Some.session border.some c.in-Some.is).below

pub take_turn-requires-clause-line : goal.take_turn-requires-clause-line
take_turn-requires-clause-line g c =
    let (calls, history, first) = c.requires.first in
    let border = here_stands first (c.loop-turn.invariant.so_far calls history first) in
    (found_has c.loop-turn.left _ c.turn.result c.turn.ensures c.in-Some.session border.some c.in-Some.is).some

pub take_turn-requires-clause-fences : goal.take_turn-requires-clause-fences
take_turn-requires-clause-fences g c =
    let (calls, history, first) = c.requires.first in
    let few = few_fences first (c.loop-turn.invariant.so_far calls history first) in
    let most = c.requires.fences in
    let turns = c.loop-turn-test.true in
    omega (arith, few, most, turns)

pub take_turn-requires-clause-acks : goal.take_turn-requires-clause-acks
take_turn-requires-clause-acks g c =
    let (calls, history, first) = c.requires.first in
    let few = few_acks first (c.loop-turn.invariant.so_far calls history first) in
    let most = c.requires.acks in
    let turns = c.loop-turn-test.true in
    omega (arith, few, most, turns)

pub returns-in-Err-clause-takes : goal.returns-in-Err-clause-takes
returns-in-Err-clause-takes g c calls history first =
    let so_far = c.loop-turn.invariant.so_far calls history first in
    let last = border_behind (border_of c.args.interleave.now (g.P.Pm.view c.args.pm.now) calls history c.args.left.now) so_far.turns in
    let (turn, turned, writes) = c.in-Err.ensures.takes last.calls last.history c.args.schedule.now c.loop-turn.turn (here_stands first so_far) (found_turn c.loop-turn.left _ c.turn.result c.turn.ensures c.in-Some.session c.in-Some.is) in
    took_cut first so_far turned c.in-Err.field-0 (g.K.Sink.took c.take_turn.new.sink) writes.cut

pub returns-in-Err-clause-cause : goal.returns-in-Err-clause-cause
returns-in-Err-clause-cause g c =
    let (calls, history, first) = c.requires.first in
    let so_far = c.loop-turn.invariant.so_far calls history first in
    let last = border_behind (border_of c.args.interleave.now (g.P.Pm.view c.args.pm.now) calls history c.args.left.now) so_far.turns in
    let (turn, turned, writes) = c.in-Err.ensures.takes last.calls last.history c.args.schedule.now c.loop-turn.turn (here_stands first so_far) (found_turn c.loop-turn.left _ c.turn.result c.turn.ensures c.in-Some.session c.in-Some.is) in
    subst (λ faults. HasRisen faults (g.K.Sink.faults c.take_turn.new.sink)) c.loop-turn.invariant.sink_faults writes.cause

pub loop-turn-preserved : goal.loop-turn-preserved
loop-turn-preserved g c = record {
  so_far = λ calls history first.
      let so_far = c.loop-turn.invariant.so_far calls history first in
      let last = border_behind (border_of c.args.interleave.now (g.P.Pm.view c.args.pm.now) calls history c.args.left.now) so_far.turns in
      let (turn, turned, writes) = c.in_default-take_turn.ensures.takes last.calls last.history c.args.schedule.now c.loop-turn.turn (here_stands first so_far)
      (found_turn c.loop-turn.left _ c.turn.result c.turn.ensures c.in-Some.session c.in-Some.is) in
      took_more first so_far turned (g.K.Sink.took c.take_turn.new.sink) writes.whole;
  sink_faults =
      let (calls, history, first) = c.requires.first in
      let so_far = c.loop-turn.invariant.so_far calls history first in
      let last = border_behind (border_of c.args.interleave.now (g.P.Pm.view c.args.pm.now) calls history c.args.left.now) so_far.turns in
      let (turn, turned, writes) = c.in_default-take_turn.ensures.takes last.calls last.history c.args.schedule.now c.loop-turn.turn (here_stands first so_far)
      (found_turn c.loop-turn.left _ c.turn.result c.turn.ensures c.in-Some.session c.in-Some.is) in
      writes.no_fault ∙ c.loop-turn.invariant.sink_faults;
}

pub returns-clause-takes : goal.returns-clause-takes
returns-clause-takes g c calls history first =
    let so_far = c.loop-turn.invariant.so_far calls history first in
    let over = c.loop-turn-test.false in
    let all : most_turns * MOST_CALLS ≤ c.loop-turn.turn = omega (arith, over) in
    took_all first so_far tt (none_left first so_far all)
