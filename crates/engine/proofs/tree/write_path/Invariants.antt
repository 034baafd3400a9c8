use Rattle.std.proofs.Common.{[], take, Ok}
use Rattle.std.specs.Prelude.{flat_map}
use Rattle.io_edge.specs.declared.sink.WriteFault.{WriteFault}
use Rattle.io_edge.specs.Bytes.{Writes}
use Rattle.pm_trait.specs.DeviceView.{DeviceView}
use Rattle.script.specs.Entries.{below_text}
use Rattle.tree_model.specs.Run.{State}
use Rattle.volume.specs.Stands.{StandsFor}
use Rattle.engine.specs.Places.{AreAllPassed, IsWayFrom, route_through}
use Rattle.engine.proofs.tree.write_path.Given as goal

abbrev pub invariant-loop-place : goal.invariant-loop-place
invariant-loop-place g l = record {
  writes : (device : DeviceView) (state : State) → StandsFor l.volume device state → IsWayFrom state.tree [] l.places → AreAllPassed l.places
      → Writes {T = Unit {0}} {E = WriteFault} (g.K.Sink.took l.fn.sink) (g.K.Sink.took l.sink) (g.K.Sink.faults l.fn.sink) (g.K.Sink.faults l.sink)
      (flat_map below_text (route_through state.tree (take l.place-index l.places))) (Ok tt);
}
