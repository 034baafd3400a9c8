-- What recovery makes of the words of an image: P is its number of pages, W the words before it.
use Rattle.std.specs.Prelude.{◌≡◌, ◌⊎◌, ℕ, ◌<◌, ◌≤◌, List, length}
use Rattle.layout.specs.Geometry.{inodes_of, data_pages_of, page_of_slot, inode_word_of, descriptor_word_of, slot_word_of}
use Rattle.layout.specs.Fields.{word, inode_words, descriptor_words}
use Rattle.image_reading.specs.Reading.{IsHeld, IsLive, Reached, IsLinkCount}
use Rattle.image_reading.specs.Repairs.{IsKept, IsKeptDirectoryPage, WasLeft}

-- a slot of a kept directory page that isn't live
pub record IsDead (P : ℕ) (W : List ℕ) (s : ℕ) : Type 0 where
  pub page : IsKeptDirectoryPage P W (page_of_slot s)
  pub dead : ¬ IsLive P W s

-- a data page that isn't kept
pub record IsUnkept (P : ℕ) (W : List ℕ) (j : ℕ) : Type 0 where
  pub in_range : j < data_pages_of P
  pub free : ¬ IsKept P W j

-- an inode of the table that isn't reached
pub record IsUnreached (P : ℕ) (W : List ℕ) (i : ℕ) : Type 0 where
  pub least : 1 ≤ i
  pub most : i ≤ inodes_of P
  pub unreached : ¬ Reached P W i

-- ---- which words become what, in each step

-- 1: the slot that was left gives up its inode number.
pub data GivesUp (P : ℕ) (W : List ℕ) : ℕ → ℕ → Type 0 where
  number : (s d : ℕ) → WasLeft P W s d → GivesUp P W (slot_word_of P s 0) 0

-- 2: No held slot points.
pub data Unpoints (P : ℕ) (W : List ℕ) : ℕ → ℕ → Type 0 where
  pointer : (d : ℕ) → IsHeld P W d → Unpoints P W (slot_word_of P d 1) 0

-- 3: Pages that aren't kept lose their owner, dead slots their pointer and name, and reached inodes get the links that
-- are counted.
pub data Clears (P : ℕ) (W : List ℕ) : ℕ → ℕ → Type 0 where
  owner : (j : ℕ) → IsUnkept P W j → Clears P W (descriptor_word_of P j 0) 0
  slot : (s f : ℕ) → IsDead P W s → 1 ≤ f → f < 16 → Clears P W (slot_word_of P s f) 0
  links : (i n : ℕ) → Reached P W i → IsLinkCount P W i n → Clears P W (inode_word_of i 1) n

-- 4: The other words that are read of those pages' descriptors become zero, and those of inodes that aren't reached.
pub data Frees (P : ℕ) (W : List ℕ) : ℕ → ℕ → Type 0 where
  descriptor : (j f : ℕ) → IsUnkept P W j → 1 ≤ f → f < descriptor_words W → Frees P W (descriptor_word_of P j f) 0
  inode : (i f : ℕ) → IsUnreached P W i → f < inode_words W → Frees P W (inode_word_of i f) 0

-- any of these
pub data Mends (P : ℕ) (W : List ℕ) (a v : ℕ) : Type 0 where
  gives_up : GivesUp P W a v → Mends P W a v
  unpoints : Unpoints P W a v → Mends P W a v
  clears : Clears P W a v → Mends P W a v
  frees : Frees P W a v → Mends P W a v

-- ---- the words after

-- J is I where these words have become what they become, and each other word is I's.
pub record IsAfter (becomes : ℕ → ℕ → Type 0) (I J : List ℕ) : Type 0 where
  pub size : length J ≡ length I
  pub new : (a v : ℕ) → becomes a v → word J a ≡ v
  pub words : (a : ℕ) → (word J a ≡ word I a) ⊎ ((v : ℕ) × becomes a v)

-- K is what recovery makes of W.
abbrev pub IsMended : ℕ → List ℕ → List ℕ → Type 0
IsMended P W K = IsAfter (Mends P W) W K

-- The four steps lead from W over A, B and C to K. What is live, reached, kept and counted is read in W.
pub record IsRepair (P : ℕ) (W A B C K : List ℕ) : Type 0 where
  pub first : IsAfter (GivesUp P W) W A
  pub second : IsAfter (Unpoints P W) A B
  pub third : IsAfter (Clears P W) B C
  pub fourth : IsAfter (Frees P W) C K
