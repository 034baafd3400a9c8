use Rattle.std.proofs.Common.{◌≡◌, ◌*◌, length, take, Ok}
use Rattle.script.specs.Entries.{digits_text}
use Rattle.io_edge.specs.declared.sink.WriteFault.{WriteFault}
use Rattle.io_edge.specs.Bytes.{Writes}
use Rattle.tree_model.specs.Run.{State}
use Rattle.tree_model.specs.Tree.{bytes_of}
use Rattle.volume.specs.Stands.{StandsFor}
use Rattle.engine.proofs.tree.write_bytes.Given as goal

abbrev pub invariant-loop-k : goal.invariant-loop-k
invariant-loop-k g l = record {
  long : length l.piece ≡ 512;
  writes : (state : State) → StandsFor l.volume (g.P.Pm.view l.pm) state → l.stat.amount ≡ length (bytes_of state.tree l.stat.inode)
      → Writes {T = Unit {0}} {E = WriteFault} (g.K.Sink.took l.fn.sink) (g.K.Sink.took l.sink) (g.K.Sink.faults l.fn.sink) (g.K.Sink.faults l.sink)
      (digits_text (take (l.k * 512) (bytes_of state.tree l.stat.inode))) (Ok tt);
}
