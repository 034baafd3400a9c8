use Rattle.std.proofs.Common.{◌∙◌, length, replicate, inl, inr, ap, sym, subst}
use Rattle.std.specs.Prelude.{None}
use Rattle.volume.specs.Volume.{VolumeView}
use Rattle.schedules.specs.Schedules.{TakesTurns}
use Rattle.schedules.specs.Turns.{Border}
use Rattle.sessions.proofs.WeavesStarts.{starts_law}
use Rattle.schedules.proofs.Started.{NeedsNone, first_started, lines_are, may_start, needs_none, runs_marked, start_same, unmarked_for}
use Rattle.schedules.proofs.running.run_schedule.Goals as goal
use Rattle.schedules.proofs.running.run_schedule.Goals.{else-marked-via-then-marked+else-has_change, else-marked-via-else-marked}

pub unmark_and_take-requires-clause-start : goal.unmark_and_take-requires-clause-start
unmark_and_take-requires-clause-start g c =
    let (sessions, calls) = c.in_ok-left.ensures in
    may_start c.args.interleave.now (g.P.Pm.view c.args.pm.now) c.in_ok-left.left c.args.lines.now
    (lines_are c.in_ok-left.left c.args.lines.now c.sessions.result (length c.args.interleave.now.tasks) sessions calls c.sessions.ensures) c.requires.started c.requires.some c.requires.sessions
    c.requires.going c.requires.stands c.requires.lines

pub take_turns-requires-clause-first : goal.take_turns-requires-clause-first
take_turns-requires-clause-first g c =
    let (state, stands) = c.requires.stands in
    let (sessions, calls) = c.in_ok-left.ensures in
    let lines = lines_are c.in_ok-left.left c.args.lines.now c.sessions.result (length c.args.interleave.now.tasks) sessions calls c.sessions.ensures in
    let may = may_start c.args.interleave.now (g.P.Pm.view c.args.pm.now) c.in_ok-left.left c.args.lines.now lines c.requires.started c.requires.some c.requires.sessions
    c.requires.going c.requires.stands c.requires.lines in
    let none : NeedsNone c.args.interleave.now c.in_ok-left.left = elim c.else-marked.branch [
      | else-marked-via-then-marked+else-has_change w ↦ inr (sym w.has_change.ensures ∙ w.if-has_change.false)
      | else-marked-via-else-marked w ↦ inl (ap (λ (volume : VolumeView). volume.marked) (sym c.volume.ensures) ∙ sym c.marked.ensures ∙ w.if-marked.false)
    ] in (
      replicate c.in_ok-left.left.sessions None,
      state,
      first_started starts_law c.args.interleave.now (g.P.Pm.view c.args.pm.now) c.in_ok-left.left state may stands (unmarked_for c.args.interleave.now c.in_ok-left.left none),
    )

pub take_turns-requires-clause-lines : goal.take_turns-requires-clause-lines
take_turns-requires-clause-lines g c =
    let (sessions, calls) = c.in_ok-left.ensures in
    (may_start c.args.interleave.now (g.P.Pm.view c.args.pm.now) c.in_ok-left.left c.args.lines.now
    (lines_are c.in_ok-left.left c.args.lines.now c.sessions.result (length c.args.interleave.now.tasks) sessions calls c.sessions.ensures) c.requires.started c.requires.some c.requires.sessions
    c.requires.going c.requires.stands c.requires.lines).of

pub returns-clause-runs : goal.returns-clause-runs
returns-clause-runs g c state stands =
    let (sessions, calls) = c.in_ok-left.ensures in
    let lines = lines_are c.in_ok-left.left c.args.lines.now c.sessions.result (length c.args.interleave.now.tasks) sessions calls c.sessions.ensures in
    let may = may_start c.args.interleave.now (g.P.Pm.view c.args.pm.now) c.in_ok-left.left c.args.lines.now lines c.requires.started c.requires.some c.requires.sessions
    c.requires.going c.requires.stands c.requires.lines in
    let none : NeedsNone c.args.interleave.now c.in_ok-left.left = elim c.else-marked.branch [
      | else-marked-via-then-marked+else-has_change w ↦ inr (sym w.has_change.ensures ∙ w.if-has_change.false)
      | else-marked-via-else-marked w ↦ inl (ap (λ (volume : VolumeView). volume.marked) (sym c.volume.ensures) ∙ sym c.marked.ensures ∙ w.if-marked.false)
    ] in
    let first = first_started starts_law c.args.interleave.now (g.P.Pm.view c.args.pm.now) c.in_ok-left.left state may stands
    (unmarked_for c.args.interleave.now c.in_ok-left.left none) in
    runs_marked (needs_none c.args.interleave.now c.in_ok-left.left c.args.lines.now lines none)
    (subst (λ (start : Border). TakesTurns c.args.schedule.now start c.take_turns.result c.take_turns.new.interleave (g.P.Pm.view c.take_turns.new.pm) (g.K.Sink.took c.args.sink.now)
    (g.K.Sink.took c.take_turns.new.sink)) (start_same c.args.interleave.now (g.P.Pm.view c.args.pm.now) c.in_ok-left.left state c.args.lines.now lines)
    (c.take_turns.ensures.takes (replicate c.in_ok-left.left.sessions None) state first))

pub returns-clause-cause : goal.returns-clause-cause
returns-clause-cause g c = λ is. c.take_turns.ensures.cause (let same = is in cc)
