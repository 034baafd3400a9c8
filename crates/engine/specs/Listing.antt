-- The line that lists a directory, piece by piece.
use Rattle.std.specs.Prelude.{ℕ, List, ◌∷◌, flat_map}
use Rattle.script.specs.Lines.{space}
use Rattle.script.specs.Texts.{name_text}

-- a name after a space
abbrev pub entry_text : List ℕ → List ℕ
entry_text name = space ∷ name_text name

-- each name after a space
abbrev pub entries_text : List (List ℕ) → List ℕ
entries_text names = flat_map entry_text names
