-- The link word of an inode, where there is one whose links rise or fall. From I to J it has a link more or less.
use Rattle.std.specs.Prelude.{◌≡◌, ℕ, ◌+◌, List, Option, Some, None}
use Rattle.layout.specs.Fields.{inode_links}
use Rattle.layout.specs.Geometry.{inode_word_of}

abbrev pub IsLinkWord : Option ℕ → ℕ → Type 0
IsLinkWord None a = ⊥
IsLinkWord (Some y) a = a ≡ inode_word_of y 1

abbrev pub Rises : List ℕ → List ℕ → Option ℕ → Type 0
Rises I J None = Unit {0}
Rises I J (Some y) = inode_links J y ≡ inode_links I y + 1

abbrev pub Falls : List ℕ → List ℕ → Option ℕ → Type 0
Falls I J None = Unit {0}
Falls I J (Some y) = inode_links J y + 1 ≡ inode_links I y
