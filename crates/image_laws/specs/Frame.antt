-- When an image J means the same as the image I.
use Rattle.std.specs.Prelude.{◌≡◌, ◌↔◌, ℕ, ◌/◌, ◌%◌, ◌<◌, List}
use Rattle.layout.specs.Fields.{inode_kind, inode_size, inode_own, page_byte}
use Rattle.tree_model.specs.PathText.{Route}
use Rattle.tree_model.specs.Tree.{Node, Tree, Room}
use Rattle.image_reading.specs.Reading.{HasBytes, Names, Reached, IsPageOf, IsRoomOf, IsNode, pages_of_size, Reads, HasRoom}
use Rattle.image_reading.specs.Soundness.{IsCoherent, Sound}

pub record SameInode (I J : List ℕ) (i : ℕ) : Type 0 where
  pub kind : inode_kind J i ≡ inode_kind I i
  pub size : inode_size J i ≡ inode_size I i
  pub own : inode_own J i ≡ inode_own I i

-- the bytes of file i below its size
pub record SameBytes (P : ℕ) (I J : List ℕ) (i : ℕ) : Type 0 where
  pub bytes : (o j : ℕ) → o < inode_size I i → IsPageOf P I i (o / 4096) j → page_byte P J j (o % 4096) ≡ page_byte P I j (o % 4096)

-- the bytes of every file of I
abbrev pub AllSameBytes : ℕ → List ℕ → List ℕ → Type 0
AllSameBytes P I J = (i : ℕ) → Reached P I i → HasBytes I i → SameBytes P I J i

-- J means what I means, but for the bytes of files.
pub record SameShape (P : ℕ) (I J : List ℕ) : Type 0 where
  pub coherent : IsCoherent P J
  pub names : (p : Route) (i : ℕ) → Names P I p i ↔ Names P J p i
  pub inodes : (i : ℕ) → Reached P I i → SameInode I J i
  pub pages : (i k j : ℕ) → Reached P I i → HasBytes I i → k < pages_of_size (inode_size I i) → IsPageOf P I i k j ↔ IsPageOf P J i k j
  pub directories : (d j : ℕ) → IsRoomOf P I d j ↔ IsRoomOf P J d j

-- J means what I means: it has the same paths, nodes and rooms.
pub record SameMeaning (P : ℕ) (I J : List ℕ) : Type 0 where
  pub coherent : IsCoherent P J
  pub names : (p : Route) (i : ℕ) → Names P I p i ↔ Names P J p i
  pub nodes : (i : ℕ) (x : Node) → Reached P I i → IsNode P I i x ↔ IsNode P J i x
  pub reads : (T : Tree) → Reads P I T → Reads P J T
  pub room : (room : Room) → HasRoom P I room → HasRoom P J room

-- J is sound, and means what I means.
pub record IsSoundAs (P : ℕ) (I J : List ℕ) : Type 0 where
  pub sound : Sound P J
  pub same : SameMeaning P I J

-- a file whose bytes are the same is the same node
abbrev pub NodeLaw : Type 0
NodeLaw = (P : ℕ) (I J : List ℕ) → SameShape P I J → (i : ℕ) (x : Node) → Reached P I i → (HasBytes I i → SameBytes P I J i) →
    IsNode P I i x ↔ IsNode P J i x

-- An image means what it means, and what means what means the same means the same.
pub record MeaningsChain : Type 0 where
  pub itself : (P : ℕ) (I : List ℕ) → IsCoherent P I → SameMeaning P I I
  pub chained : (P : ℕ) (I J K : List ℕ) → SameMeaning P I J → SameMeaning P J K → SameMeaning P I K
