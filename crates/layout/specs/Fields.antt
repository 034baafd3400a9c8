-- The fields of an image, a list of words: P is its number of pages, I the image.
use Rattle.std.specs.Prelude.{◌≡◌, ◌⊎◌, ℕ, zero, suc, ◌+◌, ◌/◌, ◌%◌, ◌^◌, List, [], ◌∷◌, slice_index}
use Rattle.layout.specs.Geometry.{inode_word_of, descriptor_word_of, slot_word_of, page_word_of}
use Rattle.layout.specs.Name.{name_in_words}

unfoldable pub word : List ℕ → ℕ → ℕ
word I a = slice_index I a

-- n words from word a on
unfoldable pub words_from : List ℕ → ℕ → ℕ → List ℕ
unfolding word
words_from I a zero = []
words_from I a (suc n) = word I a ∷ words_from I (a + 1) n

-- ---- how many words

-- so many first words of an inode are read
unfoldable pub inode_words : List ℕ → ℕ
inode_words I = 4

-- and so many of a data page's descriptor
unfoldable pub descriptor_words : List ℕ → ℕ
descriptor_words I = 3

-- so many first words of an inode a call writes
abbrev pub inode_fields : ℕ
inode_fields = 4

-- and so many of a data page's descriptor
abbrev pub descriptor_fields : ℕ
descriptor_fields = 3

-- the fields of a descriptor that say a page's kind and its offset
abbrev pub IsKindOrOffset : ℕ → Type 0
IsKindOrOffset f = (f ≡ 1) ⊎ (f ≡ 2)

-- ---- what they say

unfoldable pub inode_kind : List ℕ → ℕ → ℕ
unfolding word inode_word_of
inode_kind I i = word I (inode_word_of i 0)

unfoldable pub inode_links : List ℕ → ℕ → ℕ
unfolding word inode_word_of
inode_links I i = word I (inode_word_of i 1)

unfoldable pub inode_size : List ℕ → ℕ → ℕ
unfolding word inode_word_of
inode_size I i = word I (inode_word_of i 2)

unfoldable pub inode_own : List ℕ → ℕ → ℕ
unfolding word inode_word_of
inode_own I i = word I (inode_word_of i 3)

unfoldable pub page_owner : ℕ → List ℕ → ℕ → ℕ
unfolding word descriptor_word_of
page_owner P I j = word I (descriptor_word_of P j 0)

unfoldable pub page_kind : ℕ → List ℕ → ℕ → ℕ
unfolding word descriptor_word_of
page_kind P I j = word I (descriptor_word_of P j 1)

unfoldable pub page_offset : ℕ → List ℕ → ℕ → ℕ
unfolding word descriptor_word_of
page_offset P I j = word I (descriptor_word_of P j 2)

unfoldable pub slot_inode : ℕ → List ℕ → ℕ → ℕ
unfolding word slot_word_of
slot_inode P I s = word I (slot_word_of P s 0)

unfoldable pub slot_pointer : ℕ → List ℕ → ℕ → ℕ
unfolding word slot_word_of
slot_pointer P I s = word I (slot_word_of P s 1)

-- the 14 name words
unfoldable pub slot_words : ℕ → List ℕ → ℕ → List ℕ
unfolding words_from slot_word_of
slot_words P I s = words_from I (slot_word_of P s 2) 14

-- the name that stands there, where those words are a name's
unfoldable pub slot_name : ℕ → List ℕ → ℕ → List ℕ
unfolding slot_words name_in_words
slot_name P I s = name_in_words (slot_words P I s)

-- byte o of words, the least significant of each first
unfoldable pub byte_of : List ℕ → ℕ → ℕ
byte_of words o = slice_index words (o / 8) / 256 ^ (o % 8) % 256

-- byte o of data page j
unfoldable pub page_byte : ℕ → List ℕ → ℕ → ℕ → ℕ
unfolding word page_word_of
page_byte P I j o = word I (page_word_of P j (o / 8)) / 256 ^ (o % 8) % 256
