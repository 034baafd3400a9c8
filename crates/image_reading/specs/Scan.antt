-- What a scan of the words finds, and what its tables say.
use Rattle.std.specs.Prelude.{◌≡◌, ◌≢◌, ◌↔◌, ◌⊎◌, ℕ, Bool, true, false, ◌+◌, ◌-◌, ◌<◌, ◌≤◌, List, length, slice_index, Option, MatchOption, ◌==◌, nat_lt, if◌then◌else◌}
use Rattle.std.specs.List.{AllPairs}
use Rattle.std.specs.List.Sorted.{IsStrictlyIncreasing}
use Rattle.std.specs.Ordering.{nat_cmp, ordering_then}
use Rattle.std.specs.declared.cmp.Ordering.{Ordering}
use Rattle.std.specs.declared.cmp.Ordering.TheVariants.{Less}
use Rattle.layout.specs.Geometry.{inodes_of, data_pages_of, slots_of}
use Rattle.layout.specs.Fields.{inode_kind, page_owner, page_kind, slot_inode, slot_pointer, slot_words}
use Rattle.layout.specs.Name.{name_words_cmp}
use Rattle.image_reading.specs.Reading.{IsDirectory, IsHeld, IsReachedSlot, IsPageOf, slot_owner}
use Rattle.image_reading.specs.Repairs.{IsPointer}
use Rattle.image_reading.specs.Counts.{IsIn, IsDistinct, Count}
use Rattle.image_reading.specs.Soundness.{Rule, number, Obeys, IsFirstFault}
use Rattle.image_reading.specs.declared.Violation.{Violation}

-- None where Q holds at each place, and else the least place at which it doesn't
abbrev pub Finds : (ℕ → Type 0) → Option ℕ → Type 0
Finds Q found = MatchOption found ((x : ℕ) → Q x) (λ place. ((x : ℕ) → x < place → Q x) × ¬ Q place)

-- ---- the rename pointer

-- The held slots' one rename pointer, if there is one, is target, and stands with that inode number. 0 is none.
pub record IsRename (P : ℕ) (I : List ℕ) (target inode : ℕ) : Type 0 where
  pub all : (d : ℕ) → IsPointer P I d → (slot_pointer P I d ≡ target) × (slot_inode P I d ≡ inode)
  pub some : target ≢ 0 → (d : ℕ) × IsHeld P I d × (slot_pointer P I d ≡ target) × (slot_inode P I d ≡ inode)

-- the held slot with a rename pointer, or none where no held slot has one
abbrev pub IsPointerAt : ℕ → List ℕ → Option ℕ → Type 0
IsPointerAt P I pointer = MatchOption pointer ((s : ℕ) → IsPointer P I s → ⊥) (λ s. IsPointer P I s)

-- ---- held pages

-- a data page that is held as a directory page
pub record IsHeldPage (P : ℕ) (I : List ℕ) (j : ℕ) : Type 0 where
  pub in_range : j < data_pages_of P
  pub kind : page_kind P I j ≡ 2
  pub owned : page_owner P I j ≢ 0

-- From page n on the first held page is v - 1; there is none where v is 0.
pub record IsNextHeld (P : ℕ) (I : List ℕ) (n v : ℕ) : Type 0 where
  pub there : v ≢ 0 → (n < v) × IsHeldPage P I (v - 1)
  pub least : (j : ℕ) → n ≤ j → IsHeldPage P I j → (v ≢ 0) × (v ≤ j + 1)

-- For each page, and behind the last, the first held page from there on.
pub record AreHeld (P : ℕ) (I held : List ℕ) : Type 0 where
  pub pages : length held ≡ data_pages_of P + 1
  pub nexts : (n : ℕ) → n ≤ data_pages_of P → IsNextHeld P I n (slice_index held n)

-- ---- the pages of an owner

-- From page n on the first page of owner i is v - 1; there is none where v is 0.
pub record IsNextPage (P : ℕ) (I : List ℕ) (i n v : ℕ) : Type 0 where
  pub there : v ≢ 0 → (n < v) × (v ≤ data_pages_of P) × (page_owner P I (v - 1) ≡ i)
  pub least : (j : ℕ) → n ≤ j → j < data_pages_of P → page_owner P I j ≡ i → (v ≢ 0) × (v ≤ j + 1)

-- Each inode has its first page, and each page the next of the same owner.
pub record IsLinked (P : ℕ) (I first next : List ℕ) : Type 0 where
  pub inodes : length first ≡ inodes_of P + 1
  pub pages : length next ≡ data_pages_of P
  pub firsts : (i : ℕ) → i ≤ inodes_of P → IsNextPage P I i 0 (slice_index first i)
  pub nexts : (j : ℕ) → j < data_pages_of P → page_owner P I j ≤ inodes_of P → IsNextPage P I (page_owner P I j) (j + 1) (slice_index next j)

-- ---- names of directories

-- a reached slot that names a directory
pub record IsNaming (P : ℕ) (I : List ℕ) (s : ℕ) : Type 0 where
  pub slot : IsReachedSlot P I s
  pub directory : IsDirectory I (slot_inode P I s)

-- ---- offsets of a file's pages

-- One number for each offset that a page may have: of an inode below this one that has a page there, or 0.
pub record AreStamps (P inode : ℕ) (stamps : List ℕ) : Type 0 where
  pub room : length stamps ≡ data_pages_of P
  pub earlier : (k : ℕ) → slice_index stamps k < inode

-- the offsets at which the inode has a page are stamped with its number, and no others
abbrev pub IsStamped : ℕ → List ℕ → ℕ → List ℕ → Type 0
IsStamped P I inode stamps = (k : ℕ) → k < data_pages_of P → (slice_index stamps k ≡ inode) ↔ ((j : ℕ) × IsPageOf P I inode k j)

-- The page's offset is stamped, if it is below the limit. It is new where it had no stamp of this inode.
pub record StampsPage (P : ℕ) (I : List ℕ) (inode page limit : ℕ) (old new : List ℕ) (is_new : Bool) : Type 0 where
  pub fresh : is_new ≡ true → (k : ℕ) → k < limit → IsPageOf P I inode k page → slice_index old k ≡ inode → ⊥
  pub doubled : is_new ≡ false → (k : ℕ) × (k < limit) × IsPageOf P I inode k page × (slice_index old k ≡ inode)
  pub here : (k : ℕ) → k < limit → IsPageOf P I inode k page → slice_index new k ≡ inode
  pub only : (k : ℕ) → (slice_index new k ≡ slice_index old k) ⊎ ((slice_index new k ≡ inode) × IsPageOf P I inode k page)

-- ---- links

-- the inode that a reached slot counts for: the directory that it stands in where it names a directory, and else what it names
abbrev pub credited : ℕ → List ℕ → ℕ → ℕ
credited P I s = if inode_kind I (slot_inode P I s) == 2 then slot_owner P I s else slot_inode P I s

-- a reached slot that counts for inode i
pub record IsCredit (P : ℕ) (I : List ℕ) (i s : ℕ) : Type 0 where
  pub slot : IsReachedSlot P I s
  pub inode : credited P I s ≡ i

-- a slot with an inode's number
pub record HasNumber (P : ℕ) (I : List ℕ) (s : ℕ) : Type 0 where
  pub in_range : s < slots_of P
  pub least : 1 ≤ slot_inode P I s
  pub most : slot_inode P I s ≤ inodes_of P

-- For each inode the number of the slots that count for it.
pub record AreCounted (P : ℕ) (I tally : List ℕ) : Type 0 where
  pub inodes : length tally ≡ inodes_of P + 1
  pub each : (i : ℕ) → i ≤ inodes_of P → Count (IsCredit P I i) (slice_index tally i)

-- ---- names

-- The reached slots, each once, in rising order.
pub record AreReachedSlots (P : ℕ) (I slots : List ℕ) : Type 0 where
  pub rising : IsStrictlyIncreasing slots
  pub exactly : (s : ℕ) → IsIn s slots ↔ IsReachedSlot P I s

-- the slot of this number, and the last one for each number past it
unfoldable pub slot_or_last_of : ℕ → ℕ → ℕ
slot_or_last_of P s = if nat_lt s (slots_of P) then s else slots_of P - 1

-- the order of slots by directory, and then by the bytes of their names' words
unfoldable pub entry_cmp : ℕ → List ℕ → ℕ → ℕ → Ordering
entry_cmp P I r s =
    ordering_then (nat_cmp (slot_owner P I (slot_or_last_of P r)) (slot_owner P I (slot_or_last_of P s)))
    (name_words_cmp (slot_words P I (slot_or_last_of P r)) (slot_words P I (slot_or_last_of P s)))

-- and then by number
abbrev pub slot_cmp : ℕ → List ℕ → ℕ → ℕ → Ordering
slot_cmp P I r s = ordering_then (entry_cmp P I r s) (nat_cmp r s)

-- The reached slots, each once, in that order.
pub record AreSortedSlots (P : ℕ) (I slots : List ℕ) : Type 0 where
  pub distinct : IsDistinct slots
  pub exactly : (s : ℕ) → IsIn s slots ↔ IsReachedSlot P I s
  pub ordered : AllPairs (λ r s. slot_cmp P I r s ≡ Less) slots

-- ---- the rules, one after another

-- the rules below this number hold at each place
abbrev pub KeepsBelow : ℕ → List ℕ → ℕ → Type 0
KeepsBelow P I n = (rule : Rule) (x : ℕ) → number rule < n → Obeys P I rule x

-- the first violation of an image of P pages
pub record IsFault (P : ℕ) (I : List ℕ) (violation : Violation) : Type 0 where
  pub rule : Rule
  pub numbered : number rule ≡ violation.rule
  pub first : IsFirstFault P I rule violation.place

-- no violation so far: the rules below this number hold
abbrev pub FindsFault : ℕ → List ℕ → ℕ → Option Violation → Type 0
FindsFault P I n found = MatchOption found (KeepsBelow P I n) (λ violation. IsFault P I violation)
