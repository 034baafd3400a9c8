-- The word that commits rename: a slot that points at a reached one takes its inode number.
use Rattle.std.specs.Prelude.{◌≡◌, ◌≢◌, ◌↔◌, ◌⊎◌, ℕ, ◌+◌, ◌≤◌, List, ◌∷◌, ◌++◌, reverse, set}
use Rattle.layout.specs.Fields.{inode_links, slot_inode, slot_pointer, slot_name, slot_words}
use Rattle.layout.specs.Geometry.{inodes_of, page_of_slot, slot_word_of}
use Rattle.layout.specs.Name.{IsNameWords}
use Rattle.tree_model.specs.PathText.{Route}
use Rattle.tree_model.specs.Step.{without_path, without_unnamed, with_moved}
use Rattle.tree_model.specs.Table.{remove}
use Rattle.tree_model.specs.Tree.{Node, Tree, Room}
use Rattle.image_reading.specs.Counts.{AtMost}
use Rattle.image_reading.specs.Reading.{IsDirectory, slot_owner, IsHeld, IsLive, Names, IsReachedSlot, IsNode, IsRoomOf, IsChildOf, Reads, HasRoom}
use Rattle.image_reading.specs.Soundness.{IsCoherent}
use Rattle.image_laws.specs.Add.{with_page}
use Rattle.image_laws.specs.Remove.{without_page}

-- Slot d points at the reached slot s and may take its inode number, whatever d named before. The commit of rename.
pub record CanMove (P : ℕ) (I : List ℕ) (pa pb : Route) (s d : ℕ) : Type 0 where
  pub coherent : IsCoherent P I
  pub source_path : Names P I pa (slot_owner P I s)
  pub source_directory : IsDirectory I (slot_owner P I s)
  pub source : IsLive P I s
  pub target_path : Names P I pb (slot_owner P I d)
  pub target_directory : IsDirectory I (slot_owner P I d)
  pub held : IsHeld P I d
  pub pointer : slot_pointer P I d ≡ s + 1
  pub alone : (t : ℕ) → IsHeld P I t → t ≢ d → slot_pointer P I t ≡ 0
  pub name : IsNameWords (slot_words P I d)
  pub new : (t : ℕ) → IsReachedSlot P I t → t ≢ d → slot_owner P I t ≡ slot_owner P I d → slot_name P I t ≢ slot_name P I d
  -- it doesn't move into itself
  pub outside : (r : Route) → pb ≢ r ++ slot_name P I s ∷ pa
  -- what is replaced has no names of its own
  pub leaf : IsLive P I d → IsDirectory I (slot_inode P I d) → (t : ℕ) → IsLive P I t → slot_owner P I t ≢ slot_inode P I d
  -- the link word of a new parent has room
  pub child_link : IsDirectory I (slot_inode P I s) → slot_owner P I d ≢ slot_owner P I s →
      AtMost 2 (λ t. (t ≡ d) ⊎ IsChildOf P I (slot_owner P I d) t) (inode_links I (slot_owner P I d))

-- what was at the old path, and below it, is at the new; what was at the new path is gone; every other path stays
pub record HasMoved (P : ℕ) (I J : List ℕ) (old new : Route) : Type 0 where
  pub coherent : IsCoherent P J
  pub names : (q : Route) (x : ℕ) → Names P J q x ↔
      ((Names P I q x × ((r : Route) × (q ≡ r ++ old) → ⊥) × (q ≢ new)) ⊎ ((r : Route) × (q ≡ r ++ new) × Names P I (r ++ old) x))
  pub nodes : (x : ℕ) (z : Node) → x ≤ inodes_of P → IsNode P I x z ↔ IsNode P J x z

-- slot d takes the inode number of slot s
abbrev pub moved : ℕ → List ℕ → ℕ → ℕ → List ℕ
moved P I s d = set I (slot_word_of P d 0) (slot_inode P I s)

abbrev pub MoveLaw : Type 0
MoveLaw = (P : ℕ) (I : List ℕ) (pa pb : Route) (s d : ℕ) → CanMove P I pa pb s d →
    HasMoved P I (moved P I s d) (slot_name P I s ∷ pa) (slot_name P I d ∷ pb)

-- As a tree: the first path stands in place of the second with all below it, and what was replaced is gone where it has
-- no other name.
abbrev pub MoveTreeLaw : Type 0
MoveTreeLaw = (P : ℕ) (I : List ℕ) (pa pb from to : Route) (s d : ℕ) (T : Tree) → CanMove P I pa pb s d
    → reverse from ≡ slot_name P I s ∷ pa → reverse to ≡ slot_name P I d ∷ pb → Reads P I T
    → Reads P (moved P I s d) (without_unnamed (with_moved (without_path T to) from to))

-- A directory gains a page exactly where the page of slot d had no live slot before, and loses one exactly where the page of
-- slot s has none any more. (The two may be one directory.) A replaced directory has no entry; a file never has one.
pub record HasRoomMoved (P : ℕ) (I J : List ℕ) (s d : ℕ) : Type 0 where
  pub kept : (room : Room) → HasRoom P I room → IsRoomOf P I (slot_owner P I d) (page_of_slot d) → IsRoomOf P J (slot_owner P I s) (page_of_slot s)
      → HasRoom P J (remove room (slot_inode P I d))
  pub gained : (room : Room) → HasRoom P I room → ¬ IsRoomOf P I (slot_owner P I d) (page_of_slot d) → IsRoomOf P J (slot_owner P I s) (page_of_slot s)
      → HasRoom P J (remove (with_page room (slot_owner P I d)) (slot_inode P I d))
  pub given : (room : Room) → HasRoom P I room → IsRoomOf P I (slot_owner P I d) (page_of_slot d) → ¬ IsRoomOf P J (slot_owner P I s) (page_of_slot s)
      → HasRoom P J (remove (without_page room (slot_owner P I s)) (slot_inode P I d))
  pub both : (room : Room) → HasRoom P I room → ¬ IsRoomOf P I (slot_owner P I d) (page_of_slot d) → ¬ IsRoomOf P J (slot_owner P I s) (page_of_slot s)
      → HasRoom P J (remove (without_page (with_page room (slot_owner P I d)) (slot_owner P I s)) (slot_inode P I d))

abbrev pub MoveRoomLaw : Type 0
MoveRoomLaw = (P : ℕ) (I : List ℕ) (pa pb : Route) (s d : ℕ) → CanMove P I pa pb s d → HasRoomMoved P I (moved P I s d) s d
