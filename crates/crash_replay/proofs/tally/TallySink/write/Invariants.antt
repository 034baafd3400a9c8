use Rattle.std.proofs.Common.{take}
use Rattle.io_edge.specs.Bytes.{Takes}
use Rattle.crash_replay.specs.Tally.{IsTallyOf}
use Rattle.crash_replay.proofs.tally.TallySink.write.Given as goal

abbrev pub invariant-loop-byte : goal.invariant-loop-byte
invariant-loop-byte l = Takes (IsTallyOf l.fn.self) (take l.byte-index l.piece) (IsTallyOf l.self)
