-- The word that commits create, mkdir and link: a free slot takes an inode number.
use Rattle.std.specs.Prelude.{◌≡◌, ◌≢◌, ◌↔◌, ◌⊎◌, ℕ, ◌+◌, ◌<◌, ◌≤◌, List, ◌∷◌, reverse, set}
use Rattle.std.specs.Cmp.{nat_cmp_total}
use Rattle.layout.specs.Fields.{inode_kind, inode_links, inode_size, inode_own, page_owner, slot_inode, slot_pointer, slot_name, slot_words}
use Rattle.layout.specs.Geometry.{inodes_of, data_pages_of, page_of_slot, slot_word_of}
use Rattle.layout.specs.Name.{IsNameWords}
use Rattle.tree_model.specs.PathText.{Route}
use Rattle.tree_model.specs.Table.{insert}
use Rattle.layout.specs.Kinds.{node_code}
use Rattle.layout.specs.declared.kinds.NodeKind.{NodeKind}
use Rattle.layout.specs.declared.kinds.NodeKind.TheVariants.{File, Directory}
use Rattle.tree_model.specs.Tree.{Node, Tree, Room, pages_in}
use Rattle.tree_model.specs.Step.{with_new, with_path}
use Rattle.image_reading.specs.Counts.{AtMost}
use Rattle.image_reading.specs.Reading.{HasBytes, IsDirectory, slot_owner, IsHeld, Names, Reached, IsReachedSlot, IsNode, IsRoomOf, IsNameOf, IsChildOf, Reads, HasRoom}
use Rattle.image_reading.specs.Soundness.{IsCoherent}

-- inode i is no node of the tree yet, but its words are those of an empty one
pub record IsNewNode (P : ℕ) (I : List ℕ) (i : ℕ) : Type 0 where
  pub unreached : Reached P I i → ⊥
  pub no_pages : (j : ℕ) → j < data_pages_of P → page_owner P I j ≢ i
  pub kind : HasBytes I i ⊎ IsDirectory I i
  pub own : inode_own I i ≡ i
  pub empty : HasBytes I i → inode_size I i ≡ 0
  pub no_children : IsDirectory I i → 2 ≤ inode_links I i

-- a file that has a name
pub record IsOldFile (P : ℕ) (I : List ℕ) (i : ℕ) : Type 0 where
  pub reached : Reached P I i
  pub file : HasBytes I i

-- Slot s stands free in a page of directory d, which p names.
pub record IsFreeSlot (P : ℕ) (I : List ℕ) (p : Route) (d s : ℕ) : Type 0 where
  pub path : Names P I p d
  pub directory : IsDirectory I d
  pub held : IsHeld P I s
  pub owner : slot_owner P I s ≡ d
  pub free : slot_inode P I s ≡ 0
  pub no_pointer : slot_pointer P I s ≡ 0
  pub no_target : (t : ℕ) → IsHeld P I t → slot_pointer P I t ≢ s + 1

-- It has the words of a name that is new in the directory, and may take inode i.
pub record CanAdd (P : ℕ) (I : List ℕ) (p : Route) (d s i : ℕ) : Type 0 where
  pub coherent : IsCoherent P I
  pub slot : IsFreeSlot P I p d s
  pub name : IsNameWords (slot_words P I s)
  pub new : (t : ℕ) → IsReachedSlot P I t → slot_owner P I t ≡ d → slot_name P I t ≢ slot_name P I s
  pub least : 2 ≤ i
  pub most : i ≤ inodes_of P
  pub node : IsNewNode P I i ⊎ IsOldFile P I i
  -- the link words have room for one more
  pub name_link : HasBytes I i → AtMost 1 (IsNameOf P I i) (inode_links I i)
  pub child_link : IsDirectory I i → AtMost 3 (IsChildOf P I d) (inode_links I d)

-- The paths of J are those of I and one more, which names i, and each inode is the node that it was.
pub record HasAdded (P : ℕ) (I J : List ℕ) (p : Route) (s i : ℕ) : Type 0 where
  pub coherent : IsCoherent P J
  pub names : (q : Route) (x : ℕ) → Names P J q x ↔ (Names P I q x ⊎ ((q ≡ slot_name P I s ∷ p) × (x ≡ i)))
  pub nodes : (x : ℕ) (z : Node) → x ≤ inodes_of P → IsNode P I x z ↔ IsNode P J x z

abbrev pub AddLaw : Type 0
AddLaw = (P : ℕ) (I : List ℕ) (p : Route) (d s i : ℕ) → CanAdd P I p d s i → HasAdded P I (set I (slot_word_of P s 0) i) p s i

-- ---- as a tree

-- The tree after has one more path, for a new node or for a file that there was.
pub record ReadsAdded (P : ℕ) (I J : List ℕ) (path : Route) (i : ℕ) : Type 0 where
  pub new_node : (T : Tree) (node : Node) → Reads P I T → IsNewNode P I i → IsNode P I i node → Reads P J (with_new T path i node)
  pub old_file : (T : Tree) → Reads P I T → IsOldFile P I i → Reads P J (with_path T path i)

abbrev pub AddTreeLaw : Type 0
AddTreeLaw = (P : ℕ) (I : List ℕ) (p path : Route) (d s i : ℕ) → CanAdd P I p d s i → reverse path ≡ slot_name P I s ∷ p
    → ReadsAdded P I (set I (slot_word_of P s 0) i) path i

-- ---- as a room

-- a room with one page more of directory d
abbrev pub with_page : Room → ℕ → Room
with_page room d = insert nat_cmp_total room d (pages_in room d + 1)

-- the room with a new node: a directory has no page
abbrev pub with_node : Room → ℕ → NodeKind → Room
with_node room i Directory = insert nat_cmp_total room i 0
with_node room i File = room

-- The directory has a page more exactly where the slot's page had no live slot before.
pub record HasRoomAdded (P : ℕ) (I J : List ℕ) (d s i : ℕ) : Type 0 where
  pub old_page : (room : Room) (kind : NodeKind) → HasRoom P I room → inode_kind I i ≡ node_code kind → IsRoomOf P I d (page_of_slot s) → HasRoom P J (with_node room i kind)
  pub new_page : (room : Room) (kind : NodeKind) → HasRoom P I room → inode_kind I i ≡ node_code kind → (IsRoomOf P I d (page_of_slot s) → ⊥) → HasRoom P J (with_node (with_page room d) i kind)

abbrev pub AddRoomLaw : Type 0
AddRoomLaw = (P : ℕ) (I : List ℕ) (p : Route) (d s i : ℕ) → CanAdd P I p d s i → HasRoomAdded P I (set I (slot_word_of P s 0) i) d s i
