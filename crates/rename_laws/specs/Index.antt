-- What an index of the image holds after a rename.
use Rattle.std.specs.Prelude.{◌≡◌, ◌≢◌, ◌↔◌, ◌⊎◌, ℕ, ◌<◌, ◌≤◌, List, Option}
use Rattle.layout.specs.Fields.{inode_kind, page_owner, slot_inode, slot_name}
use Rattle.layout.specs.Geometry.{inodes_of, data_pages_of, page_of_slot}
use Rattle.tree_model.specs.PathText.{Route}
use Rattle.image_reading.specs.Reading.{slot_owner, Reached, IsReachedSlot, IsNameOf, IsPageOf}
use Rattle.image_counts.specs.Entries.{IsSlotOf}
use Rattle.image_laws.specs.Move.{moved}
use Rattle.rename_laws.specs.Target.{Target, Vacant, Opened, Taken, old_number, name_of}
use Rattle.rename_laws.specs.Ready.{IsMoveReady}
use Rattle.rename_laws.specs.Intervals.{IsGone, IsGivenUp, Finishes}

-- inode y is reached after it: it was, and where it is replaced another slot names it
abbrev pub StaysReached : ℕ → List ℕ → ℕ → Target → ℕ → Type 0
StaysReached P W d (Vacant name) y = Reached P W y
StaysReached P W d (Opened j name) y = Reached P W y
StaysReached P W d (Taken r) y = Reached P W y × (y ≡ r → (t : ℕ) × IsNameOf P W r t × (t ≢ d))

-- The entries of Y are those of W, but that of slot s: slot d of directory x has its number.
pub record HasEntryMoved (P : ℕ) (W Y : List ℕ) (s x d : ℕ) (target : Target) : Type 0 where
  pub entries : (y t : ℕ) → IsSlotOf P Y y t ↔ ((IsSlotOf P W y t × (t ≢ s)) ⊎ ((y ≡ x) × (t ≡ d)))
  pub new_name : slot_name P Y d ≡ name_of P W d target
  pub new_inode : slot_inode P Y d ≡ slot_inode P W s
  pub names : (t : ℕ) → IsReachedSlot P W t → t ≢ s → t ≢ d → slot_name P Y t ≡ slot_name P W t
  pub inodes : (t : ℕ) → IsReachedSlot P W t → t ≢ s → t ≢ d → slot_inode P Y t ≡ slot_inode P W t
  pub reached : (y : ℕ) → Reached P Y y ↔ StaysReached P W d target y

-- So it is once the name is committed, by which what goes with it is known.
abbrev pub MovedEntryLaw : Type 0
MovedEntryLaw = (P : ℕ) (W I : List ℕ) (pa pb : Route) (s x d : ℕ) (target : Target) (rising : Option ℕ) → IsMoveReady P W I pa pb s x d target rising
    → HasEntryMoved P W (moved P I s d) s x d target

-- And so it is in the end: what goes has no owner and no kind, and all else has those of W. C are the words after the commit.
pub record HasIndexMoved (P : ℕ) (W C K : List ℕ) (s x d : ℕ) (target : Target) : Type 0 where
  pub entry : HasEntryMoved P W K s x d target
  pub owner : slot_owner P K d ≡ x
  pub given : (j : ℕ) → IsGivenUp P C s target j → page_owner P K j ≡ 0
  pub owners : (j : ℕ) → j < data_pages_of P → j ≢ page_of_slot d → (IsGivenUp P C s target j → ⊥) → page_owner P K j ≡ page_owner P W j
  pub gone : IsGone P C target → inode_kind K (old_number target) ≡ 0
  pub kinds : (y : ℕ) → 1 ≤ y → y ≤ inodes_of P → (IsGone P C target → y ≢ old_number target) → inode_kind K y ≡ inode_kind W y
  pub files : (y k j : ℕ) → Reached P K y → IsPageOf P K y k j ↔ IsPageOf P W y k j

abbrev pub MovedIndexLaw : Type 0
MovedIndexLaw = (P : ℕ) (W I J G K : List ℕ) (pa pb : Route) (s x d : ℕ) (target : Target) (rising falling : Option ℕ) → IsMoveReady P W I pa pb s x d target rising
    → Finishes P W I J G K s x d target falling → HasIndexMoved P W (moved P I s d) K s x d target
