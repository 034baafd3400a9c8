-- What an adapter over a writer keeps.
use Rattle.std.specs.Prelude.{ℕ}
use Rattle.io_edge.specs.declared.std_sink.StdSink.{StdSink}

-- the writer
abbrev pub writer_of : {W : Type 0} → StdSink W → W
writer_of sink = sink.writer

-- how many writes failed
abbrev pub failed_writes : {W : Type 0} → StdSink W → ℕ
failed_writes sink = sink.faults
