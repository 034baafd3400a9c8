-- The folder of a path.
use Rattle.std.specs.Prelude.{ℕ, List, [], ◌∷◌, unwrap_or}
use Rattle.std.specs.Path.{path_parent}

-- the folder, or the one that the program runs in, which is written `.`
abbrev pub or_here : List ℕ → List ℕ
or_here [] = 46 ∷ []
or_here (byte ∷ folder) = byte ∷ folder

-- what stands before a path's last name
abbrev pub folder_of_path : List ℕ → List ℕ
folder_of_path path = or_here (unwrap_or (path_parent path) [])
