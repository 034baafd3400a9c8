-- The text of a check: that the volume is sound, what its tree has, and what recovery would repair.
use Rattle.std.specs.Prelude.{ℕ, List, [], ◌∷◌, ◌++◌, codes, decimal}
use Rattle.script.specs.Texts.{line_text}
use Rattle.script.specs.declared.check.CheckCounts.{CheckCounts}

abbrev pub sound_line : List ℕ
sound_line = line_text (codes "sound" ∷ [])

abbrev pub tree_line : CheckCounts → List ℕ
tree_line c =
    line_text (codes "tree" ∷ codes "directories" ∷ decimal c.directories ∷ codes "files" ∷ decimal c.files ∷ codes "names" ∷ decimal c.names ∷ [])

abbrev pub repairs_line : CheckCounts → List ℕ
repairs_line c =
    line_text (codes "repairs" ∷ codes "pointers" ∷ decimal c.pointers ∷ codes "slots" ∷ decimal c.slots ∷ codes "pages" ∷ decimal c.pages
    ∷ codes "inodes" ∷ decimal c.inodes ∷ codes "counts" ∷ decimal c.counts ∷ [])

abbrev pub check_text : CheckCounts → List ℕ
check_text c = sound_line ++ tree_line c ++ repairs_line c
