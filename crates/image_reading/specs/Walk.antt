-- What a walk over the directories has found so far.
use Rattle.std.specs.Prelude.{◌≡◌, ◌↔◌, ◌⊎◌, ℕ, ◌+◌, ◌<◌, ◌≤◌, List, slice_index, vec_len}
use Rattle.layout.specs.Geometry.{inodes_of, data_pages_of, slots_of, page_of_slot}
use Rattle.layout.specs.Fields.{page_owner, slot_inode}
use Rattle.image_reading.specs.Reading.{IsDirectory, slot_owner, IsLive, Reached}
use Rattle.image_reading.specs.Scan.{IsRename, AreHeld, IsLinked, KeepsBelow}
use Rattle.image_reading.specs.Soundness.{NamesInode}
use Rattle.image_reading.specs.declared.held.Rename.{Rename}
use Rattle.image_reading.specs.Marks.{IsMarked}
use Rattle.image_reading.specs.declared.reach.Reach.{Reach}
use Rattle.image_reading.specs.declared.image.Walked.{Walked}

-- inode i has been found
abbrev pub IsFound : Reach → ℕ → Type 0
IsFound reach i = IsMarked reach.reached.items i

-- it stands in the order at place k or later
abbrev pub IsQueued : Reach → ℕ → ℕ → Type 0
IsQueued reach k i = (m : ℕ) × (k ≤ m) × (m < reach.seen) × (slice_index reach.order.items m ≡ i)

-- The rename pointer is known, what is found is reached, and the order has nothing else.
pub record IsWalk (P : ℕ) (I : List ℕ) (reach : Reach) : Type 0 where
  pub pointer : IsRename P I reach.rename.target reach.rename.inode
  pub size : vec_len reach.reached ≡ inodes_of P + 1
  pub sound : (i : ℕ) → IsFound reach i → Reached P I i
  pub ordered : (m : ℕ) → m < reach.seen → IsFound reach (slice_index reach.order.items m)

-- More has been found, and stands later in the order.
pub record Extends (before after : Reach) : Type 0 where
  pub later : before.seen ≤ after.seen
  pub keeps : (i : ℕ) → IsFound before i → IsFound after i
  pub order : (m : ℕ) → m < before.seen → slice_index after.order.items m ≡ slice_index before.order.items m
  pub more : (i : ℕ) → IsFound after i → IsFound before i ⊎ IsQueued after before.seen i

-- Nothing has been found, and the rename pointer is this one.
pub record IsCleared (rename : Rename) (before after : Reach) : Type 0 where
  pub pointer : after.rename ≡ rename
  pub none : (i : ℕ) → IsFound after i → ⊥
  pub start : after.seen ≡ 0
  pub size : vec_len after.reached ≡ vec_len before.reached

-- The inode has been found, and stands at the end of the order if it is new. All else is as before.
pub record Marks (inode : ℕ) (before after : Reach) : Type 0 where
  pub found : IsFound after inode
  pub only : (i : ℕ) → IsFound after i → IsFound before i ⊎ (i ≡ inode)
  pub pointer : after.rename ≡ before.rename
  pub extends : Extends before after
  pub size : vec_len after.reached ≡ vec_len before.reached
  pub ordered : ((m : ℕ) → m < before.seen → IsFound before (slice_index before.order.items m)) → (m : ℕ) → m < after.seen → IsFound after (slice_index after.order.items m)

-- ---- steps of the walk

-- a slot in a page of a reached directory
pub record IsDirectorySlot (P : ℕ) (I : List ℕ) (s : ℕ) : Type 0 where
  pub in_range : s < slots_of P
  pub owner : Reached P I (slot_owner P I s)
  pub directory : IsDirectory I (slot_owner P I s)

-- a page of a reached directory
pub record IsDirectoryPage (P : ℕ) (I : List ℕ) (j : ℕ) : Type 0 where
  pub in_range : j < data_pages_of P
  pub owner : Reached P I (page_owner P I j)
  pub directory : IsDirectory I (page_owner P I j)

-- what slot s names has been found, if it is live
abbrev pub IsTaken : ℕ → List ℕ → Reach → ℕ → Type 0
IsTaken P I reach s = IsLive P I s → slot_inode P I s ≤ inodes_of P → IsFound reach (slot_inode P I s)

-- and what the slots of page j name
abbrev pub IsPageTaken : ℕ → List ℕ → Reach → ℕ → Type 0
IsPageTaken P I reach j = (s : ℕ) → page_of_slot s ≡ j → IsTaken P I reach s

-- and what the slots of inode i name
abbrev pub IsClosed : ℕ → List ℕ → Reach → ℕ → Type 0
IsClosed P I reach i = IsDirectory I i → (s : ℕ) → slot_owner P I s ≡ i → IsTaken P I reach s

-- The walk goes on: more has been found, and this has been taken.
pub record GoesOn (P : ℕ) (I : List ℕ) (before after : Reach) (Taken : Reach → Type 0) : Type 0 where
  pub walk : IsWalk P I after
  pub extends : Extends before after
  pub taken : Taken after

-- ---- a walk that is done

-- The walk has found what is reached, and nothing else, and the rename pointer is known.
pub record Knows (P : ℕ) (I : List ℕ) (reach : Reach) : Type 0 where
  pub pointer : IsRename P I reach.rename.target reach.rename.inode
  pub size : vec_len reach.reached ≡ inodes_of P + 1
  pub reached : (i : ℕ) → IsFound reach i ↔ Reached P I i

-- The lists have the pages of each inode and the held pages, and the walk is done.
pub record IsWalkDone (P : ℕ) (I first next held : List ℕ) (reach : Reach) : Type 0 where
  pub linked : IsLinked P I first next
  pub held_pages : AreHeld P I held
  pub known : Knows P I reach

-- and so of an image
abbrev pub IsWalked : Walked → Type 0
IsWalked walked = IsWalkDone walked.image.geometry.pages walked.image.words.now walked.lists.first.now walked.lists.next.now walked.lists.held.now walked.reach.now

-- The rules below this number hold.
pub record IsWalkedBelow (n : ℕ) (walked : Walked) : Type 0 where
  pub kept : KeepsBelow walked.image.geometry.pages walked.image.words.now n
  pub walk : IsWalked walked

-- The reached slots name inodes.
pub record IsNumbered (walked : Walked) : Type 0 where
  pub walk : IsWalked walked
  pub numbers : (s : ℕ) → NamesInode walked.image.geometry.pages walked.image.words.now s
