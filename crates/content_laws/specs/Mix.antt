-- Intervals that change words of pages that hold bytes, or are free, and no byte of a file below its size.
use Rattle.std.specs.Prelude.{◌≡◌, ℕ, ◌<◌, ◌≤◌, List, length}
use Rattle.layout.specs.Fields.{word, descriptor_words, page_owner, page_kind}
use Rattle.layout.specs.Geometry.{data_pages_of, descriptor_word_of, page_word_of}
use Rattle.image_reading.specs.Soundness.{IsCoherent}
use Rattle.image_laws.specs.Frame.{AllSameBytes, SameMeaning}
use Rattle.image_laws.specs.Quiet.{IsMix, IsQuiet}

-- a word of a page that holds bytes, or of a page without an owner, or of the rest that is read of such a page's descriptor
pub data IsBytesWord (P : ℕ) (I : List ℕ) : ℕ → Type 0 where
  bytes : (j w : ℕ) → j < data_pages_of P → w < 512 → page_kind P I j ≡ 1 → IsBytesWord P I (page_word_of P j w)
  free : (j w : ℕ) → j < data_pages_of P → w < 512 → page_owner P I j ≡ 0 → IsBytesWord P I (page_word_of P j w)
  descriptor : (j f : ℕ) → j < data_pages_of P → 1 ≤ f → f < descriptor_words I → page_owner P I j ≡ 0 → IsBytesWord P I (descriptor_word_of P j f)

-- From I to J no other word changes.
pub record StoresContent (P : ℕ) (I J : List ℕ) : Type 0 where
  pub size : length J ≡ length I
  pub others : (a : ℕ) → ¬ IsBytesWord P I a → word J a ≡ word I a

-- Such an interval changes no word that is used,
abbrev pub ContentQuietLaw : Type 0
ContentQuietLaw = (P : ℕ) (I J : List ℕ) → IsCoherent P I → StoresContent P I J → IsQuiet P I J

-- and where the bytes of each file below its size are as before, whatever mix of old and new words a crash leaves means the
-- same. (The word in which a file ends may hold other bytes past the end.)
abbrev pub ByteMixLaw : Type 0
ByteMixLaw = (P : ℕ) (I J M : List ℕ) → IsCoherent P I → StoresContent P I J → AllSameBytes P I J → IsMix I J M → SameMeaning P I M
