-- The word that commits unlink and rmdir: a reached slot gives up its inode number.
use Rattle.std.specs.Prelude.{◌≡◌, ◌≢◌, ◌↔◌, ℕ, ◌-◌, ◌≤◌, List, ◌∷◌, reverse, set}
use Rattle.std.specs.Cmp.{nat_cmp_total}
use Rattle.layout.specs.Fields.{slot_inode, slot_pointer, slot_name}
use Rattle.layout.specs.Geometry.{inodes_of, page_of_slot, slot_word_of}
use Rattle.tree_model.specs.PathText.{Route}
use Rattle.tree_model.specs.Tree.{Node, Tree, Room, pages_in}
use Rattle.tree_model.specs.Step.{without_path, without_unnamed}
use Rattle.tree_model.specs.Table.{insert, remove}
use Rattle.image_reading.specs.Reading.{IsDirectory, slot_owner, IsLive, Names, IsNode, IsRoomOf, Reads, HasRoom}
use Rattle.image_reading.specs.Soundness.{IsCoherent}

-- Slot s is reached and what it names may lose this name. The commit of unlink and rmdir.
pub record CanRemove (P : ℕ) (I : List ℕ) (p : Route) (s : ℕ) : Type 0 where
  pub coherent : IsCoherent P I
  pub path : Names P I p (slot_owner P I s)
  pub directory : IsDirectory I (slot_owner P I s)
  pub live : IsLive P I s
  pub no_pointer : slot_pointer P I s ≡ 0
  -- a directory that goes has no name
  pub leaf : IsDirectory I (slot_inode P I s) → (t : ℕ) → IsLive P I t → slot_owner P I t ≢ slot_inode P I s

pub record HasRemoved (P : ℕ) (I J : List ℕ) (path : Route) : Type 0 where
  pub coherent : IsCoherent P J
  pub names : (q : Route) (x : ℕ) → Names P J q x ↔ (Names P I q x × (q ≢ path))
  pub nodes : (x : ℕ) (z : Node) → x ≤ inodes_of P → IsNode P I x z ↔ IsNode P J x z

abbrev pub RemoveLaw : Type 0
RemoveLaw = (P : ℕ) (I : List ℕ) (p : Route) (s : ℕ) → CanRemove P I p s →
    HasRemoved P I (set I (slot_word_of P s 0) 0) (slot_name P I s ∷ p)

-- The tree after is without the path, and without the node where it has no other.
abbrev pub RemoveTreeLaw : Type 0
RemoveTreeLaw = (P : ℕ) (I : List ℕ) (p path : Route) (s : ℕ) (T : Tree) → CanRemove P I p s → reverse path ≡ slot_name P I s ∷ p → Reads P I T
    → Reads P (set I (slot_word_of P s 0) 0) (without_unnamed (without_path T path))

-- a room with one page less of directory d
abbrev pub without_page : Room → ℕ → Room
without_page room d = insert nat_cmp_total room d (pages_in room d - 1)

-- The directory has a page less exactly where the slot's page has no live slot any more. (A file has no entry in a room.)
pub record HasRoomRemoved (P : ℕ) (I J : List ℕ) (d s i : ℕ) : Type 0 where
  pub kept : (room : Room) → HasRoom P I room → IsRoomOf P J d (page_of_slot s) → HasRoom P J (remove room i)
  pub given : (room : Room) → HasRoom P I room → (IsRoomOf P J d (page_of_slot s) → ⊥) → HasRoom P J (remove (without_page room d) i)

abbrev pub RemoveRoomLaw : Type 0
RemoveRoomLaw = (P : ℕ) (I : List ℕ) (p : Route) (s : ℕ) → CanRemove P I p s → HasRoomRemoved P I (set I (slot_word_of P s 0) 0) (slot_owner P I s) s (slot_inode P I s)
