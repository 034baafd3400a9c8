use Rattle.std.proofs.Common.{◌≡◌, ℕ, ◌+◌, ◌-◌, ◌%◌, ◌<◌, ◌≤◌, length, slice_index}
use Rattle.data_ops.specs.Reading.{file_byte}
use Rattle.data_ops.proofs.reading.read_words.Given as goal

abbrev pub invariant-pages : goal.invariant-pages
invariant-pages g l = record {
  long : length l.buf ≡ length l.initial.buf;
  within : l.done ≤ length l.buf;
  whole : l.done % 8 ≡ 0;
  made : (k : ℕ) → k < l.done → slice_index l.buf k ≡ file_byte l.geometry.pages (g.P.Pm.view l.pm).words l.pages (l.offset + k);
}

abbrev pub decreases-pages : goal.decreases-pages
decreases-pages g l = length l.initial.buf - l.done
