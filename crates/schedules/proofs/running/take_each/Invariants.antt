use Rattle.std.proofs.Common.{◌≡◌}
use Rattle.tree_model.specs.Run.{State}
use Rattle.session_laws.specs.Calls.{Calls}
use Rattle.schedules.specs.Borders.{border_of}
use Rattle.schedules.specs.Laws.{IsFirst}
use Rattle.schedules.proofs.Took.{TookSoFar}
use Rattle.schedules.proofs.running.take_each.Given as goal

abbrev pub invariant-loop-turn : goal.invariant-loop-turn
invariant-loop-turn g l = record {
  so_far : (calls : Calls) (history : State) → IsFirst (border_of l.fn.interleave (g.P.Pm.view l.fn.pm) calls history l.fn.left)
      → TookSoFar l.fn.schedule (border_of l.fn.interleave (g.P.Pm.view l.fn.pm) calls history l.fn.left) l.turn l.interleave (g.P.Pm.view l.pm) l.left
      (g.K.Sink.took l.fn.sink) (g.K.Sink.took l.sink);
  sink_faults : g.K.Sink.faults l.sink ≡ g.K.Sink.faults l.fn.sink;
}
