-- Words that an interval may store to.
use Rattle.std.specs.Prelude.{◌≡◌, ◌⊎◌, ℕ, ◌+◌, ◌*◌, ◌<◌, ◌≤◌, List, length}
use Rattle.layout.specs.Fields.{word, inode_words, descriptor_words, inode_links, inode_size, page_owner}
use Rattle.layout.specs.Geometry.{inodes_of, data_pages_of, inode_word_of, descriptor_word_of, page_word_of, slot_word_of}
use Rattle.image_reading.specs.Reading.{IsHeld, Reached, IsReachedSlot, IsPageOf}
use Rattle.image_reading.specs.Soundness.{IsCoherent, HasLinks}
use Rattle.image_laws.specs.Exempt.{IsExempt}
use Rattle.image_laws.specs.Frame.{SameMeaning}
use Rattle.image_laws.specs.Quiet.{IsMix, IsQuiet}
use Rattle.image_laws.specs.Words.{AllBytesAgree}

-- Word a isn't used in I, or is an owner or a link word, of which more is asked.
pub data IsFree (P : ℕ) (I : List ℕ) : ℕ → Type 0 where
  superblock : (a : ℕ) → 5 ≤ a → a < 512 → IsFree P I a
  link : (i : ℕ) → 1 ≤ i → i ≤ inodes_of P → IsFree P I (inode_word_of i 1)
  rest : (i f : ℕ) → 1 ≤ i → i ≤ inodes_of P → inode_words I ≤ f → f < 16 → IsFree P I (inode_word_of i f)
  inode : (i f : ℕ) → 1 ≤ i → i ≤ inodes_of P → f < 16 → (Reached P I i → ⊥) → IsFree P I (inode_word_of i f)
  owner : (j : ℕ) → j < data_pages_of P → IsFree P I (descriptor_word_of P j 0)
  tail : (j f : ℕ) → j < data_pages_of P → descriptor_words I ≤ f → f < 8 → IsFree P I (descriptor_word_of P j f)
  descriptor : (j f : ℕ) → j < data_pages_of P → f < 8 → page_owner P I j ≡ 0 → IsFree P I (descriptor_word_of P j f)
  name : (s f : ℕ) → 2 ≤ f → f < 16 → IsHeld P I s → (IsReachedSlot P I s → ⊥) → IsFree P I (slot_word_of P s f)
  page : (j w : ℕ) → j < data_pages_of P → w < 512 → page_owner P I j ≡ 0 → IsFree P I (page_word_of P j w)
  past : (i k j w : ℕ) → IsPageOf P I i k j → w < 512 → inode_size I i ≤ 4096 * k + 8 * w → IsFree P I (page_word_of P j w)

-- Each word that an interval changes is free.
pub record Stores (P : ℕ) (I J : List ℕ) : Type 0 where
  pub size : length J ≡ length I
  pub words : (a : ℕ) → (word J a ≡ word I a) ⊎ IsFree P I a
  pub owners : (j : ℕ) → j < data_pages_of P → (page_owner P J j ≡ page_owner P I j) ⊎ ((g : ℕ) × IsExempt P I J j g)
  pub links : (i : ℕ) → Reached P I i → HasLinks P I i (inode_links J i)

abbrev pub FreeLaw : Type 0
FreeLaw = (P : ℕ) (I J : List ℕ) → IsCoherent P I → Stores P I J → IsQuiet P I J × AllBytesAgree P I J

-- So whatever mix of old and new words a crash leaves means the same.
abbrev pub StoresLaw : Type 0
StoresLaw = (P : ℕ) (I J M : List ℕ) → IsCoherent P I → Stores P I J → IsMix I J M → SameMeaning P I M
