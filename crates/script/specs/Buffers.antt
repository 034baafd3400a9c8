-- What a run reads lines with, before it read any.
use Rattle.std.specs.Prelude.{◌≡◌, ◌≤◌, false, [], vec_len}
use Rattle.script.specs.declared.buffers.Buffers.{Buffers}
use Rattle.script.specs.Reader.{pending, read_count, has_ended}

-- nothing was read, and the bytes of the longest line have room
pub record AreNew (buffers : Buffers) : Type 0 where
  pub none : pending buffers.lines ≡ []
  pub unread : read_count buffers.lines ≡ 0
  pub unended : has_ended buffers.lines ≡ false
  pub scratch : 32768 ≤ vec_len buffers.scratch
