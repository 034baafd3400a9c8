use Rattle.std.proofs.Common.{◌≡◌, ℕ, List, Ok}
use Rattle.std.specs.Vec.{vec_capacity}
use Rattle.io_edge.specs.declared.sink.WriteFault.{WriteFault}
use Rattle.io_edge.specs.Bytes.{Writes}
use Rattle.layout.specs.Geometry.{inodes_of}
use Rattle.tree_model.specs.PathText.{Route}
use Rattle.tree_model.specs.Run.{State}
use Rattle.volume.specs.Stands.{StandsFor}
use Rattle.engine.specs.Places.{AreBefore, AreWithin, lines_text}
use Rattle.engine.proofs.PlacesLeft.{steps_left}
use Rattle.engine.proofs.tree.write_tree.Given as goal

abbrev pub invariant-paths : goal.invariant-paths
invariant-paths g l = record {
  writes : (state : State) → StandsFor l.volume (g.P.Pm.view l.pm) state
      → (entries : List (Route × ℕ)) × AreBefore state.tree entries l.places.items
      × Writes {T = Unit {0}} {E = WriteFault} (g.K.Sink.took l.fn.sink) (g.K.Sink.took l.sink) (g.K.Sink.faults l.fn.sink) (g.K.Sink.faults l.sink)
      (lines_text state.tree entries) (Ok tt);
  within : AreWithin l.volume.index l.places.items;
  room : vec_capacity l.places ≡ vec_capacity l.fn.places;
}

abbrev pub decreases-paths : goal.decreases-paths
decreases-paths g l = steps_left l.volume.index (inodes_of l.volume.size) l.places.items
