-- What holds while an image is repaired, and after it.
use Rattle.std.specs.Prelude.{◌≡◌, ◌↔◌, ℕ, ◌≤◌, List}
use Rattle.layout.specs.Fields.{inode_kind, inode_size, page_owner, page_offset, slot_inode}
use Rattle.image_reading.specs.Reading.{IsHeld, IsLive, Reached, IsReachedSlot, IsLinkCount}
use Rattle.image_reading.specs.Repairs.{IsKept}
use Rattle.image_reading.specs.Soundness.{IsCoherent}
use Rattle.image_reading.specs.Tidy.{IsTidied}
use Rattle.image_counts.specs.Entries.{IsEntryOf, IsPageIn, IsFreePage, IsFreeInode}
use Rattle.image_laws.specs.Frame.{SameMeaning}
use Rattle.image_laws.specs.Quiet.{IsMix}
use Rattle.repair_laws.specs.Stored.{StoresPointer, StoresCleared, StoresFreed, StoresRepair, StoresNothing}
use Rattle.repair_laws.specs.Mended.{IsUnkept, IsUnreached, GivesUp, IsMended, IsRepair}

-- In X is held, live, reached, kept and counted what is in W.
pub record SameUse (P : ℕ) (W X : List ℕ) : Type 0 where
  pub held : (s : ℕ) → IsHeld P W s ↔ IsHeld P X s
  pub live : (s : ℕ) → IsLive P W s ↔ IsLive P X s
  pub reached : (i : ℕ) → Reached P W i ↔ Reached P X i
  pub kept : (j : ℕ) → IsKept P W j ↔ IsKept P X j
  pub counted : (i n : ℕ) → Reached P W i → IsLinkCount P W i n ↔ IsLinkCount P X i n

-- The first two steps change none of it, so the others may be planned before them.
pub record KeepsUse (P : ℕ) (W A B : List ℕ) : Type 0 where
  pub first : SameUse P W A
  pub second : SameUse P W B

abbrev pub UseLaw : Type 0
UseLaw = (P : ℕ) (W A B C K : List ℕ) → IsCoherent P W → IsRepair P W A B C K → KeepsUse P W A B

-- Whatever mix of old and new words a crash leaves in a step means what W means: its words fit together, with the same paths,
-- nodes, tree and room.
pub record StepsKeepMeaning (P : ℕ) (W A B C K : List ℕ) : Type 0 where
  pub first : (M : List ℕ) → IsMix W A M → SameMeaning P W M
  pub second : (M : List ℕ) → IsMix A B M → SameMeaning P W M
  pub third : (M : List ℕ) → IsMix B C M → SameMeaning P W M
  pub fourth : (M : List ℕ) → IsMix C K M → SameMeaning P W M

abbrev pub RepairLaw : Type 0
RepairLaw = (P : ℕ) (W A B C K : List ℕ) → IsCoherent P W → IsRepair P W A B C K → StepsKeepMeaning P W A B C K

-- The stores of each step make the words what the step makes them,
abbrev pub StoredLaw : Type 0
StoredLaw = (P : ℕ) (W A B C K : List ℕ) → IsCoherent P W → StoresRepair P W A B C K → IsRepair P W A B C K

-- a step without a store leaves the list as it was,
pub record LeavesStill (P : ℕ) (W A B C K : List ℕ) : Type 0 where
  pub first : ((a v : ℕ) → ¬ GivesUp P W a v) → A ≡ W
  pub second : ((a v : ℕ) → ¬ StoresPointer P W a v) → B ≡ A
  pub third : ((a v : ℕ) → ¬ StoresCleared P W a v) → C ≡ B
  pub fourth : ((a v : ℕ) → ¬ StoresFreed P W a v) → K ≡ C

abbrev pub StillLaw : Type 0
StillLaw = (P : ℕ) (W A B C K : List ℕ) → StoresRepair P W A B C K → LeavesStill P W A B C K

-- and none has a store exactly where nothing is to be repaired.
abbrev pub NothingLaw : Type 0
NothingLaw = (P : ℕ) (W : List ℕ) → IsCoherent P W → IsTidied P W ↔ StoresNothing P W

-- The last words are what recovery makes of the first.
abbrev pub EndLaw : Type 0
EndLaw = (P : ℕ) (W A B C K : List ℕ) → IsCoherent P W → IsRepair P W A B C K → IsMended P W K

-- There are such steps from every image whose words fit together,
abbrev pub SomeRepair : Type 0
SomeRepair = (P : ℕ) (W : List ℕ) → IsCoherent P W
    → (A : List ℕ) × (B : List ℕ) × (C : List ℕ) × (K : List ℕ) × IsRepair P W A B C K

-- and recovery makes one list of words of an image.
abbrev pub OneMended : Type 0
OneMended = (P : ℕ) (W K L : List ℕ) → IsMended P W K → IsMended P W L → K ≡ L

-- It means what the image means, and nothing is to be repaired in it.
abbrev pub MendedLaw : Type 0
MendedLaw = (P : ℕ) (W K : List ℕ) → IsCoherent P W → IsMended P W K → SameMeaning P W K × IsTidied P K

-- Nothing is to be repaired in an image exactly where recovery makes the same words of it.
abbrev pub TidyLaw : Type 0
TidyLaw = (P : ℕ) (W K : List ℕ) → IsCoherent P W → IsMended P W K → IsTidied P W ↔ (K ≡ W)

-- What an index of K holds, read off W: the entries are the reached slots, with their names and numbers; the pages are
-- those that are kept, with their owners and offsets; what isn't reached or kept is free.
pub record HasIndexOf (P : ℕ) (W K : List ℕ) : Type 0 where
  pub entries : (d s : ℕ) (bytes : List ℕ) → IsEntryOf P K d bytes s ↔ IsEntryOf P W d bytes s
  pub numbers : (s : ℕ) → IsReachedSlot P W s → slot_inode P K s ≡ slot_inode P W s
  pub kinds : (i : ℕ) → Reached P W i → inode_kind K i ≡ inode_kind W i
  pub sizes : (i : ℕ) → Reached P W i → inode_size K i ≡ inode_size W i
  pub pages : (i j : ℕ) → 1 ≤ i → IsPageIn P K i j ↔ (IsKept P W j × (page_owner P W j ≡ i))
  pub offsets : (j : ℕ) → IsKept P W j → page_offset P K j ≡ page_offset P W j
  pub free_inodes : (i : ℕ) → IsFreeInode P K i ↔ IsUnreached P W i
  pub free_pages : (j : ℕ) → IsFreePage P K j ↔ IsUnkept P W j

abbrev pub IndexLaw : Type 0
IndexLaw = (P : ℕ) (W K : List ℕ) → IsCoherent P W → IsMended P W K → HasIndexOf P W K
