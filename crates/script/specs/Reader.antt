-- What a reader of lines shows.
use Rattle.std.specs.Prelude.{◌≡◌, ℕ, ◌-◌, Bool, false, List, [], take, drop}
use Rattle.script.specs.declared.lines.Lines.{Lines}

-- the bytes that were read and not given
abbrev pub pending : Lines → List ℕ
pending l = take (l.end - l.start) (drop l.start l.buffer.items)

-- the line that was given last
abbrev pub current : Lines → List ℕ
current l = take (l.line_end - l.line_start) (drop l.line_start l.buffer.items)

-- how many bytes were read
abbrev pub read_count : Lines → ℕ
read_count l = l.read

-- how many of them were given, or passed over in lines that are too long
abbrev pub given_count : Lines → ℕ
given_count l = l.read - (l.end - l.start)

-- whether the end of the input was seen
abbrev pub has_ended : Lines → Bool
has_ended l = l.ended

-- nothing was read yet
pub record IsUnread (lines : Lines) : Type 0 where
  pub no_line : current lines ≡ []
  pub none : pending lines ≡ []
  pub unread : read_count lines ≡ 0
  pub unended : has_ended lines ≡ false
