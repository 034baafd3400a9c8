-- A coherent image reads as a tree, and has a room.
use Rattle.std.specs.Prelude.{ℕ, List}
use Rattle.tree_model.specs.Tree.{Tree, Room, IsTree}
use Rattle.image_reading.specs.Reading.{Reads, HasRoom}
use Rattle.image_reading.specs.Soundness.{IsCoherent}

-- A coherent image reads as a tree.
abbrev pub TreeLaw : Type 0
TreeLaw = (P : ℕ) (I : List ℕ) → IsCoherent P I → (T : Tree) × Reads P I T × IsTree T

-- What it reads as is well formed.
abbrev pub FormLaw : Type 0
FormLaw = (P : ℕ) (I : List ℕ) (T : Tree) → IsCoherent P I → Reads P I T → IsTree T

-- It has a room.
abbrev pub RoomLaw : Type 0
RoomLaw = (P : ℕ) (I : List ℕ) → IsCoherent P I → (room : Room) × HasRoom P I room
