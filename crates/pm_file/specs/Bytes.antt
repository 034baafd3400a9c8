-- Where lines and pages stand in a file, and which bytes their words are there: eight for each, the lowest first.
use Rattle.std.specs.Prelude.{ℕ, ◌*◌, List, flat_map}
use Rattle.byteorder.specs.Endian.{little_bytes}

abbrev pub place_of_line : ℕ → ℕ
place_of_line line = 64 * line

abbrev pub place_of_page : ℕ → ℕ
place_of_page page = 4096 * page

-- the bytes of the words, one word after the other
abbrev pub bytes_of_words : List ℕ → List ℕ
bytes_of_words words = flat_map (little_bytes 8) words
