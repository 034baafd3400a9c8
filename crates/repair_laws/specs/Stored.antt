-- What a recovery stores to: of what it would change, each thing of which a word differs, with all the words that are
-- named.
use Rattle.std.specs.Prelude.{◌≢◌, ℕ, ◌<◌, ◌≤◌, List}
use Rattle.layout.specs.Geometry.{inode_word_of, descriptor_word_of, slot_word_of}
use Rattle.layout.specs.Fields.{word, inode_words, descriptor_words, inode_links, page_owner}
use Rattle.image_reading.specs.Reading.{Reached, IsLinkCount}
use Rattle.image_reading.specs.Repairs.{IsPointer, IsLitterInode}
use Rattle.repair_laws.specs.Mended.{IsDead, IsUnkept, GivesUp, IsAfter}

-- a page that isn't kept has an owner
pub record HasNeedlessOwner (P : ℕ) (W : List ℕ) (j : ℕ) : Type 0 where
  pub page : IsUnkept P W j
  pub owned : page_owner P W j ≢ 0

-- a dead slot has a name word that isn't zero (its pointer is zero by then)
pub record HasDeadName (P : ℕ) (W : List ℕ) (s : ℕ) : Type 0 where
  pub slot : IsDead P W s
  pub nonzero : (f : ℕ) × (2 ≤ f) × (f < 16) × (word W (slot_word_of P s f) ≢ 0)

-- a reached inode, with n links, has another link word
pub record HasOtherLinks (P : ℕ) (W : List ℕ) (i n : ℕ) : Type 0 where
  pub reached : Reached P W i
  pub counted : IsLinkCount P W i n
  pub other : inode_links W i ≢ n

-- a page that isn't kept has a word other than 0 behind its owner
pub record HasNeedlessKind (P : ℕ) (W : List ℕ) (j : ℕ) : Type 0 where
  pub page : IsUnkept P W j
  pub nonzero : (f : ℕ) × (1 ≤ f) × (f < descriptor_words W) × (word W (descriptor_word_of P j f) ≢ 0)

-- ---- the stores of steps 2 to 4; step 1 stores what it changes

pub data StoresPointer (P : ℕ) (W : List ℕ) : ℕ → ℕ → Type 0 where
  pointer : (d : ℕ) → IsPointer P W d → StoresPointer P W (slot_word_of P d 1) 0

pub data StoresCleared (P : ℕ) (W : List ℕ) : ℕ → ℕ → Type 0 where
  owner : (j : ℕ) → HasNeedlessOwner P W j → StoresCleared P W (descriptor_word_of P j 0) 0
  slot : (s f : ℕ) → HasDeadName P W s → 1 ≤ f → f < 16 → StoresCleared P W (slot_word_of P s f) 0
  links : (i n : ℕ) → HasOtherLinks P W i n → StoresCleared P W (inode_word_of i 1) n

pub data StoresFreed (P : ℕ) (W : List ℕ) : ℕ → ℕ → Type 0 where
  descriptor : (j f : ℕ) → HasNeedlessKind P W j → 1 ≤ f → f < descriptor_words W
      → StoresFreed P W (descriptor_word_of P j f) 0
  inode : (i f : ℕ) → IsLitterInode P W i → f < inode_words W → StoresFreed P W (inode_word_of i f) 0

-- The steps as they are stored. One that has no store leaves the list as it was.
pub record StoresRepair (P : ℕ) (W A B C K : List ℕ) : Type 0 where
  pub first : IsAfter (GivesUp P W) W A
  pub second : IsAfter (StoresPointer P W) A B
  pub third : IsAfter (StoresCleared P W) B C
  pub fourth : IsAfter (StoresFreed P W) C K

-- No step has a store.
pub record StoresNothing (P : ℕ) (W : List ℕ) : Type 0 where
  pub first : (a v : ℕ) → ¬ GivesUp P W a v
  pub second : (a v : ℕ) → ¬ StoresPointer P W a v
  pub third : (a v : ℕ) → ¬ StoresCleared P W a v
  pub fourth : (a v : ℕ) → ¬ StoresFreed P W a v
