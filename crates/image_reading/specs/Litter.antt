-- What is read of an image to tell that it needs no recovery. P is the number of pages, I the words.
use Rattle.std.specs.Prelude.{◌≡◌, ℕ, ◌<◌, ◌≤◌, List}
use Rattle.layout.specs.Geometry.{inodes_of, page_of_slot, inode_word_of, descriptor_word_of, slot_word_of}
use Rattle.layout.specs.Fields.{word, inode_words, descriptor_words}
use Rattle.image_reading.specs.Reading.{IsLive}
use Rattle.image_reading.specs.Repairs.{IsLitterSlot, IsLitterPage, IsLitterInode, IsLitterCount}

-- an inode of the table
pub record IsInode (P i : ℕ) : Type 0 where
  pub from_one : 1 ≤ i
  pub in_range : i ≤ inodes_of P

-- the words of an inode that are read are zero
abbrev pub IsZeroInode : List ℕ → ℕ → Type 0
IsZeroInode I i = (f : ℕ) → f < inode_words I → word I (inode_word_of i f) ≡ 0

-- and those of a page's descriptor from its field `first` on
abbrev pub IsZeroDescriptorFrom : ℕ → List ℕ → ℕ → ℕ → Type 0
IsZeroDescriptorFrom P I first j = (f : ℕ) → first ≤ f → f < descriptor_words I → word I (descriptor_word_of P j f) ≡ 0

abbrev pub IsZeroDescriptor : ℕ → List ℕ → ℕ → Type 0
IsZeroDescriptor P I j = IsZeroDescriptorFrom P I 0 j

-- all words of a slot are zero
abbrev pub IsZeroSlot : ℕ → List ℕ → ℕ → Type 0
IsZeroSlot P I s = (f : ℕ) → f < 16 → word I (slot_word_of P s f) ≡ 0

-- some slot of the page is live
abbrev pub HasLiveSlot : ℕ → List ℕ → ℕ → Type 0
HasLiveSlot P I j = (s : ℕ) × (page_of_slot s ≡ j) × IsLive P I s

-- a slot of the page that isn't live is zero
abbrev pub HasZeroSlots : ℕ → List ℕ → ℕ → Type 0
HasZeroSlots P I j = (s : ℕ) → page_of_slot s ≡ j → ¬ IsLive P I s → IsZeroSlot P I s

pub record IsTidyPage (P : ℕ) (I : List ℕ) (j : ℕ) : Type 0 where
  pub page : ¬ IsLitterPage P I j
  pub slots : (s : ℕ) → page_of_slot s ≡ j → ¬ IsLitterSlot P I s

pub record IsTidyInode (P : ℕ) (I : List ℕ) (i : ℕ) : Type 0 where
  pub inode : ¬ IsLitterInode P I i
  pub links : ¬ IsLitterCount P I i
