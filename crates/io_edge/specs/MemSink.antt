-- What a sink in memory took and has room for, and which of its writes fail.
use Rattle.std.specs.Prelude.{◌≡◌, ◌⊎◌, ◌↔◌, ℕ, ◌+◌, ◌-◌, ◌<◌, min, List, [], length, Contains, Result, IsErr, IfOk, OnErr}
use Rattle.io_edge.specs.Count.{one_more}
use Rattle.io_edge.specs.declared.mem_sink.MemSink.{MemSink}

-- the bytes that it took
abbrev pub bytes_taken : MemSink → List ℕ
bytes_taken sink = sink.bytes.items

-- how many bytes it takes in all
abbrev pub room_of : MemSink → ℕ
room_of sink = sink.room

-- how many more bytes fit
abbrev pub room_left : MemSink → ℕ
room_left sink = room_of sink - length (bytes_taken sink)

-- the numbers of the writes that fail, from 1
abbrev pub failing_writes : MemSink → List ℕ
failing_writes sink = sink.failing.items

-- how many writes were made
abbrev pub writes_made : MemSink → ℕ
writes_made sink = sink.writes

-- how many of them failed
abbrev pub write_faults : MemSink → ℕ
write_faults sink = sink.faults

-- a write of this piece fails: the write's number is listed, or the piece has a byte and none fits
abbrev pub FailsAt : MemSink → List ℕ → Type 0
FailsAt sink piece =
    Contains (failing_writes sink) (writes_made sink + 1) ⊎ ((0 < length piece) × (room_left sink ≡ 0))

-- a sink that took nothing yet
pub record IsNew (room : ℕ) (failing : List ℕ) (sink : MemSink) : Type 0 where
  pub none_taken : bytes_taken sink ≡ []
  pub room_is : room_of sink ≡ room
  pub failing_are : failing_writes sink ≡ failing
  pub no_write : writes_made sink ≡ 0
  pub no_fault : write_faults sink ≡ 0

-- The next write. It fails exactly where its number is listed, or where the piece has a byte and none fits, and else takes
-- of the piece what fits. It is counted, a failed one as a fault too.
pub record IsNextWrite {E : Type 0} (old new : MemSink) (piece : List ℕ) (result : Result ℕ E) : Type 0 where
  pub fails : IsErr result ↔ FailsAt old piece
  pub exact : IfOk result (λ count. count ≡ min (length piece) (room_left old))
  pub one_fault : OnErr result (write_faults new ≡ one_more (write_faults old))
  pub one_write : writes_made new ≡ one_more (writes_made old)
  pub same_room : room_of new ≡ room_of old
  pub same_failing : failing_writes new ≡ failing_writes old
