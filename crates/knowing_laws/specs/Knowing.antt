-- What a volume knows behind a step of one call, beside what other calls have left. I are the words before the step, J those after it; a
-- residue is of all calls, before the step or behind it. P is the number of pages.
use Rattle.std.specs.Prelude.{◌≡◌, ◌≢◌, ◌↔◌, ◌⊎◌, ℕ, ◌+◌, ◌<◌, ◌≤◌, Bool, true, false, List, [], ◌∷◌, ◌++◌, length, Contains, Option, Some, None, slice_get}
use Rattle.layout.specs.Geometry.{inodes_of, data_pages_of}
use Rattle.layout.specs.Fields.{inode_kind, page_owner, page_offset}
use Rattle.image_reading.specs.Counts.{IsIn, IsDistinct}
use Rattle.image_reading.specs.Reading.{HasBytes, Reached}
use Rattle.image_reading.specs.Residue.{Residue}
use Rattle.image_counts.specs.Entries.{IsEntryOf, IsPageIn, IsUnusedPage}
use Rattle.volatile_index.specs.Index.{pages_of}
use Rattle.volume.specs.Volume.{VolumeView}
use Rattle.volume.specs.Beside.{KnowsBeside}
use Rattle.volume.specs.Entered.{pages_of_option, TakesPages, EntersInode, PutsName, PutsPages, LeavesName, LeavesPageOf, LeavesInodeIf, LeavesLastPages}

-- ---- what stays

-- the inode is one of the table, and reached as a file
pub record IsFileOf (P : ℕ) (I : List ℕ) (i : ℕ) : Type 0 where
  pub least : 1 ≤ i
  pub most : i ≤ inodes_of P
  pub reached : Reached P I i
  pub file : HasBytes I i

-- The entries stay, and no file comes.
pub record KeepsEntries (P : ℕ) (I J : List ℕ) : Type 0 where
  pub entries : (d slot : ℕ) (bytes : List ℕ) → IsEntryOf P I d bytes slot ↔ IsEntryOf P J d bytes slot
  pub files : (i : ℕ) → Reached P J i → HasBytes J i → IsFileOf P I i

-- A page that isn't left behind the step, and is none of these, wasn't left before, and has the owner and the offset that it had.
pub record KeepsPagesBut (P : ℕ) (I J : List ℕ) (before after : Residue) (pages : List ℕ) : Type 0 where
  pub left : (j : ℕ) → ¬ IsIn j after.pages → ¬ IsIn j pages → ¬ IsIn j before.pages
  pub owners : (j : ℕ) → j < data_pages_of P → ¬ IsIn j after.pages → ¬ IsIn j pages → page_owner P J j ≡ page_owner P I j
  pub offsets : (j : ℕ) → j < data_pages_of P → ¬ IsIn j after.pages → ¬ IsIn j pages → page_offset P J j ≡ page_offset P I j

-- But for these inodes and pages every number of the volume is free in both words or in neither.
pub record ChangesNumbers (P : ℕ) (I J : List ℕ) (inodes pages : List ℕ) : Type 0 where
  pub inodes_within : (i : ℕ) → IsIn i inodes → (1 ≤ i) × (i ≤ inodes_of P)
  pub other_inodes : (i : ℕ) → 1 ≤ i → i ≤ inodes_of P → ¬ IsIn i inodes → (inode_kind I i ≡ 0) ↔ (inode_kind J i ≡ 0)
  pub other_pages : (j : ℕ) → j < data_pages_of P → ¬ IsIn j pages → IsUnusedPage P I j ↔ IsUnusedPage P J j

-- they come into use,
pub record UsesNumbers (P : ℕ) (I J : List ℕ) (inodes pages : List ℕ) : Type 0 where
  pub change : ChangesNumbers P I J inodes pages
  pub inodes_used : (i : ℕ) → IsIn i inodes → inode_kind J i ≢ 0
  pub pages_used : (j : ℕ) → IsIn j pages → ¬ IsUnusedPage P J j

-- or are free
pub record FreesNumbers (P : ℕ) (I J : List ℕ) (inodes pages : List ℕ) : Type 0 where
  pub change : ChangesNumbers P I J inodes pages
  pub inodes_free : (i : ℕ) → IsIn i inodes → inode_kind J i ≡ 0
  pub pages_free : (j : ℕ) → IsIn j pages → IsUnusedPage P J j

-- no list but that of inode x has one of these pages
abbrev pub AreListedAt : VolumeView → List ℕ → ℕ → Type 0
AreListedAt volume pages x = (i j : ℕ) → IsIn j pages → 1 ≤ i → i ≤ inodes_of volume.size → i ≢ x → ¬ Contains (pages_of volume.index i) j

-- ---- a step that commits nothing: its numbers are taken

abbrev pub EntersInodeOf : VolumeView → VolumeView → Option ℕ → Type 0
EntersInodeOf old new None = new ≡ old
EntersInodeOf old new (Some inode) = EntersInode old new inode

abbrev pub QuietKnownLaw : Type 0
QuietKnownLaw = (old taken new : VolumeView) (I J : List ℕ) (before after : Residue) (inode : Option ℕ) (pages : List ℕ) → KnowsBeside old I before → length J ≡ length I
    → KeepsEntries old.size I J → KeepsPagesBut old.size I J before after [] → UsesNumbers old.size I J (pages_of_option inode) pages
    → TakesPages old taken pages → EntersInodeOf taken new inode → KnowsBeside new J after

-- ---- a name comes

-- The name in this slot is an entry of directory d, and all others are as before. A file that comes has no page.
pub record BringsName (P : ℕ) (I J : List ℕ) (d slot : ℕ) (name : List ℕ) : Type 0 where
  pub entries : (e s : ℕ) (bytes : List ℕ) → IsEntryOf P J e bytes s ↔ (IsEntryOf P I e bytes s ⊎ ((e ≡ d) × (s ≡ slot) × (bytes ≡ name)))
  pub files : (i : ℕ) → Reached P J i → HasBytes J i → IsFileOf P I i ⊎ ((1 ≤ i) × (i ≤ inodes_of P) × ((j : ℕ) → ¬ IsPageIn P J i j))
  pub directory : HasBytes J d → ⊥

-- These pages are inode x's now, and no list has them.
pub record ArePagesOf (volume : VolumeView) (J pages : List ℕ) (x : ℕ) : Type 0 where
  pub owned : (j : ℕ) → IsIn j pages → IsPageIn volume.size J x j
  pub unlisted : (i j : ℕ) → IsIn j pages → 1 ≤ i → i ≤ inodes_of volume.size → ¬ Contains (pages_of volume.index i) j
  pub once : IsDistinct pages

abbrev pub NameKnownLaw : Type 0
NameKnownLaw = (old new : VolumeView) (I J : List ℕ) (before after : Residue) (d slot : ℕ) (name : List ℕ) (new_page : Option ℕ) → KnowsBeside old I before → length J ≡ length I
    → 1 ≤ d → d ≤ inodes_of old.size → BringsName old.size I J d slot name → KeepsPagesBut old.size I J before after (pages_of_option new_page) → ArePagesOf old J (pages_of_option new_page) d
    → ChangesNumbers old.size I J [] [] → PutsName old new d name slot new_page → KnowsBeside new J after

-- ---- pages come to a file

-- they stand behind those that it has, in their order
pub record FollowPages (volume : VolumeView) (J pages : List ℕ) (i : ℕ) : Type 0 where
  pub are : ArePagesOf volume J pages i
  pub offsets : (k j : ℕ) → slice_get pages k ≡ Some j → page_offset volume.size J j ≡ length (pages_of volume.index i) + k

abbrev pub PagesKnownLaw : Type 0
PagesKnownLaw = (old new : VolumeView) (I J : List ℕ) (before after : Residue) (i : ℕ) (pages : List ℕ) → KnowsBeside old I before → length J ≡ length I → 1 ≤ i → i ≤ inodes_of old.size
    → KeepsEntries old.size I J → KeepsPagesBut old.size I J before after pages → FollowPages old J pages i → ChangesNumbers old.size I J [] [] → PutsPages old new i pages → KnowsBeside new J after

-- ---- a name goes

-- The directory's entry of the name goes, and all others are as before.
pub record TakesNameAway (P : ℕ) (I J : List ℕ) (d : ℕ) (name : List ℕ) : Type 0 where
  pub entries : (e s : ℕ) (bytes : List ℕ) → IsEntryOf P J e bytes s ↔ (IsEntryOf P I e bytes s × ((e ≡ d) → bytes ≢ name))
  pub files : (i : ℕ) → Reached P J i → HasBytes J i → IsFileOf P I i

abbrev pub NameGoneLaw : Type 0
NameGoneLaw = (old new : VolumeView) (I J : List ℕ) (before after : Residue) (d : ℕ) (name : List ℕ) → KnowsBeside old I before → length J ≡ length I
    → TakesNameAway old.size I J d name → KeepsPagesBut old.size I J before after [] → ChangesNumbers old.size I J [] [] → LeavesName old new d name → KnowsBeside new J after

-- ---- numbers are given back

-- the pages that go with a node that goes, and its inode
abbrev pub pages_with : Bool → VolumeView → ℕ → List ℕ
pages_with true volume i = pages_of volume.index i
pages_with false volume i = []

abbrev pub inodes_with : Bool → ℕ → List ℕ
inodes_with true i = i ∷ []
inodes_with false i = []

abbrev pub pages_given : VolumeView → Option ℕ → Bool → ℕ → List ℕ
pages_given volume page goes i = pages_of_option page ++ pages_with goes volume i

-- The page of directory d, where there is one, and node i with its pages, where it goes, are free; no other list has one of these pages.
pub record AreGiven (volume : VolumeView) (I J : List ℕ) (d i : ℕ) (page : Option ℕ) (goes : Bool) : Type 0 where
  pub directory : HasBytes J d → ⊥
  pub apart : goes ≡ true → d ≢ i
  pub free : FreesNumbers volume.size I J (inodes_with goes i) (pages_given volume page goes i)
  pub page_listed : AreListedAt volume (pages_of_option page) d
  pub pages_listed : AreListedAt volume (pages_with goes volume i) i

abbrev pub GivenKnownLaw : Type 0
GivenKnownLaw = (old given new : VolumeView) (I J : List ℕ) (before after : Residue) (d i : ℕ) (page : Option ℕ) (goes : Bool) → KnowsBeside old I before → length J ≡ length I
    → 1 ≤ d → d ≤ inodes_of old.size → 1 ≤ i → i ≤ inodes_of old.size → KeepsEntries old.size I J → KeepsPagesBut old.size I J before after (pages_given old page goes i)
    → AreGiven old I J d i page goes → LeavesPageOf old given d page → LeavesInodeIf goes given new i → KnowsBeside new J after

-- the last pages of a file
abbrev pub CutKnownLaw : Type 0
CutKnownLaw = (old new : VolumeView) (I J : List ℕ) (before after : Residue) (i count : ℕ) → KnowsBeside old I before → length J ≡ length I → 1 ≤ i → i ≤ inodes_of old.size
    → (leaves : LeavesLastPages old new i count) → KeepsEntries old.size I J → KeepsPagesBut old.size I J before after leaves.gone → FreesNumbers old.size I J [] leaves.gone
    → AreListedAt old leaves.gone i → KnowsBeside new J after
