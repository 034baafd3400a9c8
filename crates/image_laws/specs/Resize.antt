-- The word that commits a write past the size and a truncation: the size.
use Rattle.std.specs.Prelude.{◌≡◌, ◌≢◌, ◌↔◌, ℕ, ◌/◌, ◌%◌, ◌^◌, ◌<◌, ◌≤◌, List, length, slice_index, set}
use Rattle.layout.specs.Fields.{page_byte}
use Rattle.layout.specs.Geometry.{inode_word_of}
use Rattle.tree_model.specs.PathText.{Route}
use Rattle.tree_model.specs.Step.{with_bytes}
use Rattle.tree_model.specs.Tree.{Node, File, Tree, Room}
use Rattle.image_reading.specs.Reading.{HasBytes, Names, Reached, IsPageOf, IsNode, pages_of_size, Reads, HasRoom}
use Rattle.image_reading.specs.Soundness.{IsCoherent}

-- File i may take size z: its pages are there. The commit of a write past the size and of a truncation.
pub record CanResize (P : ℕ) (I : List ℕ) (i z : ℕ) : Type 0 where
  pub coherent : IsCoherent P I
  pub reached : Reached P I i
  pub file : HasBytes I i
  pub small : z ≤ 2 ^ 40
  pub full : (k : ℕ) → k < pages_of_size z → (j : ℕ) × IsPageOf P I i k j
  pub one : (h j k : ℕ) → h < j → k < pages_of_size z → IsPageOf P I i k h → IsPageOf P I i k j → ⊥

-- These are the first z bytes that stand in the pages of inode i, whatever its size.
pub record IsStored (P : ℕ) (I : List ℕ) (i z : ℕ) (bytes : List ℕ) : Type 0 where
  pub size : length bytes ≡ z
  pub bytes_at : (o j : ℕ) → o < z → IsPageOf P I i (o / 4096) j → slice_index bytes o ≡ page_byte P I j (o % 4096)

-- The file has those bytes, and all else is as it was.
pub record HasResized (P : ℕ) (I J : List ℕ) (i z : ℕ) : Type 0 where
  pub coherent : IsCoherent P J
  pub names : (q : Route) (x : ℕ) → Names P I q x ↔ Names P J q x
  pub others : (x : ℕ) (y : Node) → 1 ≤ x → x ≢ i → IsNode P I x y ↔ IsNode P J x y
  pub content : (bytes : List ℕ) → IsStored P I i z bytes → IsNode P J i (File bytes)

abbrev pub ResizeLaw : Type 0
ResizeLaw = (P : ℕ) (I : List ℕ) (i z : ℕ) → CanResize P I i z → HasResized P I (set I (inode_word_of i 2) z) i z

-- As a tree: the file has those bytes.
abbrev pub ResizeTreeLaw : Type 0
ResizeTreeLaw = (P : ℕ) (I : List ℕ) (i z : ℕ) (T : Tree) (bytes : List ℕ) → CanResize P I i z → IsStored P I i z bytes → Reads P I T
    → Reads P (set I (inode_word_of i 2) z) (with_bytes T i bytes)

-- Each directory has as many pages as before.
abbrev pub ResizeRoomLaw : Type 0
ResizeRoomLaw = (P : ℕ) (I : List ℕ) (i z : ℕ) (room : Room) → CanResize P I i z → HasRoom P I room → HasRoom P (set I (inode_word_of i 2) z) room
