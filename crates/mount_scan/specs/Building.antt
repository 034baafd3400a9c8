-- What an index holds while it is made from the words of a volume. P is the number of pages, I the words, i an inode; K is what
-- recovery makes of the words.
use Rattle.std.specs.Prelude.{◌≡◌, ◌↔◌, ℕ, ◌<◌, ◌≤◌, List, [], length, Contains, Some, slice_get, slice_index}
use Rattle.layout.specs.Geometry.{inodes_of}
use Rattle.layout.specs.Fields.{inode_size, page_offset}
use Rattle.image_reading.specs.Counts.{IsDistinct}
use Rattle.image_reading.specs.Reading.{HasBytes, pages_of_size}
use Rattle.image_reading.specs.declared.scanned.Scanned.{Scanned}
use Rattle.image_counts.specs.Entries.{IsEntryOf, IsPageIn}
use Rattle.repair_laws.specs.Mended.{IsMended}
use Rattle.volatile_index.specs.Index.{NodeView, node_of, inodes_of_index}

-- so of the words that recovery makes of a sound image's
abbrev pub OfMended : Scanned → (ℕ → List ℕ → Type 0) → Type 0
OfMended scanned Q = (K : List ℕ) → IsMended scanned.image.geometry.pages scanned.image.words.now K → Q scanned.image.geometry.pages K

-- slot s is one of the first n names
abbrev pub IsAmong : List ℕ → ℕ → ℕ → Type 0
IsAmong names n s = (k : ℕ) × (k < n) × (slice_index names k ≡ s)

-- so many pages have a place: a file's as many as its size takes, and no others
pub record HasPlacesOf (I : List ℕ) (i : ℕ) (held : NodeView) : Type 0 where
  pub entries : held.entries ≡ []
  pub of_file : HasBytes I i → length held.pages ≡ pages_of_size (inode_size I i)
  pub of_others : ¬ HasBytes I i → held.pages ≡ []

-- each inode up to a limit has its places, and of the others nothing is held
pub record HasPlaces (P : ℕ) (I : List ℕ) (limit : ℕ) (index : List NodeView) : Type 0 where
  pub each_inode : inodes_of_index index ≡ inodes_of P
  pub made : (i : ℕ) → 1 ≤ i → i ≤ limit → HasPlacesOf I i (node_of index i)
  pub entries : (i : ℕ) → limit < i → (node_of index i).entries ≡ []
  pub pages : (i : ℕ) → limit < i → (node_of index i).pages ≡ []

-- Of the inode the entries in the first put names are held, and its pages below a limit. A file's stand each in the place
-- of its offset.
pub record HoldsOf (P : ℕ) (I : List ℕ) (pages : ℕ) (names : List ℕ) (put i : ℕ) (held : NodeView) : Type 0 where
  pub entries : (slot : ℕ) (bytes : List ℕ) → Contains held.entries (record { name = bytes; slot = slot }) ↔ (IsEntryOf P I i bytes slot × IsAmong names put slot)
  pub of_others : ¬ HasBytes I i → (page : ℕ) → Contains held.pages page ↔ (IsPageIn P I i page × (page < pages))
  pub once : ¬ HasBytes I i → IsDistinct held.pages
  pub places : HasBytes I i → length held.pages ≡ pages_of_size (inode_size I i)
  pub of_file : HasBytes I i → (page : ℕ) → IsPageIn P I i page → page < pages → slice_get held.pages (page_offset P I page) ≡ Some page

-- and so of each inode
pub record Holds (P : ℕ) (I : List ℕ) (pages : ℕ) (names : List ℕ) (put : ℕ) (index : List NodeView) : Type 0 where
  pub each_inode : inodes_of_index index ≡ inodes_of P
  pub each : (i : ℕ) → 1 ≤ i → i ≤ inodes_of P → HoldsOf P I pages names put i (node_of index i)
