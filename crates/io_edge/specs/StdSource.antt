-- What an adapter over a reader keeps.
use Rattle.std.specs.Prelude.{ℕ}
use Rattle.io_edge.specs.declared.std_source.StdSource.{StdSource}

-- the reader
abbrev pub reader_of : {R : Type 0} → StdSource R → R
reader_of source = source.reader

-- how many reads failed
abbrev pub failed_reads : {R : Type 0} → StdSource R → ℕ
failed_reads source = source.faults
