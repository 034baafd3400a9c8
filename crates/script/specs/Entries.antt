-- The line of a path in the listing of a tree, piece by piece.
use Rattle.std.specs.Prelude.{ℕ, if◌then◌else◌, List, [], ◌∷◌, ◌++◌, codes, decimal}
use Rattle.std.specs.List.{join_with_byte}
use Rattle.hex.specs.Hex.{encode_lower}
use Rattle.tree_model.specs.PathText.{slash}
use Rattle.tree_model.specs.declared.reply.Stat.{Stat}
use Rattle.script.specs.Lines.{space}
use Rattle.script.specs.Texts.{name_text}

-- the words before the path, each with a space after it: the kind, the inode, its links, and its names or bytes
abbrev pub entry_front : Stat → List ℕ
entry_front s =
    join_with_byte space ((if s.dir then codes "d" else codes "f") ∷ decimal s.inode ∷ decimal s.links ∷ decimal s.amount ∷ []) ++ space ∷ []

-- a name of the path, after its slash
abbrev pub below_text : List ℕ → List ℕ
below_text name = slash ∷ name_text name

-- two hexadecimal digits in lower case for each byte
abbrev pub digits_text : List ℕ → List ℕ
digits_text bytes = encode_lower bytes

-- what stands behind the path of a file without bytes
abbrev pub no_bytes_text : List ℕ
no_bytes_text = space ∷ codes "-"
