-- What a source in memory has left, and which of its reads fail.
use Rattle.std.specs.Prelude.{◌≡◌, ◌↔◌, ℕ, ◌+◌, min, List, length, drop, Contains, Result, IsErr, IfOk, OnErr}
use Rattle.io_edge.specs.Count.{one_more}
use Rattle.io_edge.specs.declared.mem_source.MemSource.{MemSource}

-- the bytes that it has yet to give
abbrev pub bytes_left : MemSource → List ℕ
bytes_left source = drop source.at source.bytes.items

-- the most bytes that one read gives
abbrev pub step_of : MemSource → ℕ
step_of source = source.step

-- the numbers of the reads that fail, from 1
abbrev pub failing_reads : MemSource → List ℕ
failing_reads source = source.failing.items

-- how many reads were made
abbrev pub reads_made : MemSource → ℕ
reads_made source = source.reads

-- how many of them failed
abbrev pub read_faults : MemSource → ℕ
read_faults source = source.faults

-- a source that gave nothing yet
pub record IsNew (bytes : List ℕ) (step : ℕ) (failing : List ℕ) (source : MemSource) : Type 0 where
  pub all_left : bytes_left source ≡ bytes
  pub step_is : step_of source ≡ step
  pub failing_are : failing_reads source ≡ failing
  pub no_read : reads_made source ≡ 0
  pub no_fault : read_faults source ≡ 0

-- The next read. It fails exactly where its number is listed, and then leaves the buffer as it was. Else it gives the least
-- of the step, the buffer's length and the bytes left, and leaves the buffer behind them as it was. It is counted, a failed
-- one as a fault too.
pub record IsNextRead {E : Type 0} (old new : MemSource) (before after : List ℕ) (result : Result ℕ E) : Type 0 where
  pub fails : IsErr result ↔ Contains (failing_reads old) (reads_made old + 1)
  pub exact : IfOk result (λ count. count ≡ min (step_of old) (min (length before) (length (bytes_left old))))
  pub behind : IfOk result (λ count. drop count after ≡ drop count before)
  pub untouched : OnErr result (after ≡ before)
  pub one_fault : OnErr result (read_faults new ≡ one_more (read_faults old))
  pub one_read : reads_made new ≡ one_more (reads_made old)
  pub same_step : step_of new ≡ step_of old
  pub same_failing : failing_reads new ≡ failing_reads old
