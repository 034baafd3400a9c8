-- Which words of an image are used, by their addresses.
use Rattle.std.specs.Prelude.{◌≡◌, ◌≢◌, ◌⊎◌, ℕ, ◌+◌, ◌*◌, ◌<◌, List, length}
use Rattle.layout.specs.Fields.{word, inode_links, inode_size, page_owner}
use Rattle.layout.specs.Geometry.{data_pages_of, inode_word_of, descriptor_word_of, page_word_of, slot_word_of}
use Rattle.image_reading.specs.Reading.{HasBytes, IsHeld, Reached, IsReachedSlot, IsPageOf}
use Rattle.image_reading.specs.Soundness.{IsCoherent, HasLinks}
use Rattle.image_laws.specs.Agrees.{AreIdle}
use Rattle.image_laws.specs.Frame.{AllSameBytes, SameMeaning}

-- Word a is used: all but owners, which stand beside, link words, which only have a bound, and the bytes of files.
pub data IsUsed (P : ℕ) (I : List ℕ) : ℕ → Type 0 where
  head : (a : ℕ) → a < 5 → IsUsed P I a
  kind : (j : ℕ) → j < data_pages_of P → page_owner P I j ≢ 0 → IsUsed P I (descriptor_word_of P j 1)
  offset : (j : ℕ) → j < data_pages_of P → page_owner P I j ≢ 0 → IsUsed P I (descriptor_word_of P j 2)
  slot_inode : (s : ℕ) → IsHeld P I s → IsUsed P I (slot_word_of P s 0)
  pointer : (s : ℕ) → IsHeld P I s → IsUsed P I (slot_word_of P s 1)
  name : (s f : ℕ) → f < 14 → IsReachedSlot P I s → IsUsed P I (slot_word_of P s (2 + f))
  node_kind : (i : ℕ) → Reached P I i → IsUsed P I (inode_word_of i 0)
  size : (i : ℕ) → Reached P I i → IsUsed P I (inode_word_of i 2)
  own : (i : ℕ) → Reached P I i → IsUsed P I (inode_word_of i 3)

-- Word a holds a byte of file i below its size.
pub data IsByteOf (P : ℕ) (I : List ℕ) (i : ℕ) : ℕ → Type 0 where
  byte : (k j w : ℕ) → IsPageOf P I i k j → w < 512 → 4096 * k + 8 * w < inode_size I i → IsByteOf P I i (page_word_of P j w)

abbrev pub BytesAgree : ℕ → List ℕ → List ℕ → ℕ → Type 0
BytesAgree P I J i = (a : ℕ) → IsByteOf P I i a → word J a ≡ word I a

abbrev pub AllBytesAgree : ℕ → List ℕ → List ℕ → Type 0
AllBytesAgree P I J = (i : ℕ) → Reached P I i → HasBytes I i → BytesAgree P I J i

pub record WordsAgree (P : ℕ) (I J : List ℕ) : Type 0 where
  pub size : length J ≡ length I
  pub words : (a : ℕ) → IsUsed P I a → word J a ≡ word I a
  pub owners : (j : ℕ) → j < data_pages_of P → (page_owner P J j ≡ page_owner P I j) ⊎ AreIdle P I J j
  pub links : (i : ℕ) → Reached P I i → HasLinks P I i (inode_links J i)

abbrev pub WordLaw : Type 0
WordLaw = (P : ℕ) (I J : List ℕ) → IsCoherent P I → WordsAgree P I J → AllSameBytes P I J → SameMeaning P I J
