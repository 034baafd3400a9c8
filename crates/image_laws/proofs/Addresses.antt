-- Words of different things stand apart.
use Rattle.std.proofs.Common.{◌≡◌, ◌≢◌, ℕ, ◌+◌, ◌*◌, ◌/◌, ◌%◌, ◌<◌, ◌≤◌, sym, arith}
use Rattle.layout.specs.Geometry.{IsVolumeSize, inodes_of, data_pages_of, page_of_slot, first_data_word_of, inode_word_of, descriptor_word_of, slot_word_of, page_word_of}
use Rattle.layout.proofs.GeometryLaws.{some_inodes, same_inode_word, same_descriptor_word, same_slot_word, same_page_word, inode_word_above, descriptor_word_above, slot_word_above, page_word_above, inode_word_not_descriptor_word, inode_word_not_slot_word, inode_word_not_page_word, descriptor_word_not_slot_word, descriptor_word_not_page_word}
use Rattle.image_reading.specs.Reading.{pages_of_size}

-- a byte below the size lies in a page of the file
pub page_of_byte-lt : (o size : ℕ) → o < size → o / 4096 < pages_of_size size
unfolding pages_of_size
page_of_byte-lt o size h = omega arith

pub some_inode : (P : ℕ) → IsVolumeSize P → 1 ≤ inodes_of P
some_inode P h = let four = some_inodes P h in omega (arith, four)

-- ---- the superblock's words

pub head-ne_inode : (i f a : ℕ) → a < 512 → a ≢ inode_word_of i f
head-ne_inode i f a h e = let above = inode_word_above i f in omega arith

pub head-ne_slot : (P s f a : ℕ) → a < 512 → a ≢ slot_word_of P s f
unfolding first_data_word_of
head-ne_slot P s f a h e = let above = slot_word_above P s f in omega arith

pub head-ne_descriptor : (P j f a : ℕ) → a < 512 → a ≢ descriptor_word_of P j f
head-ne_descriptor P j f a h e = let above = descriptor_word_above P j f in omega arith

pub head-ne_page : (P j w a : ℕ) → a < 512 → a ≢ page_word_of P j w
unfolding first_data_word_of
head-ne_page P j w a h e = let above = page_word_above P j w in omega arith

-- ---- words of different tables

pub descriptor-ne_inode : (P j f i g : ℕ) → 1 ≤ i → i ≤ inodes_of P → g < 16 → descriptor_word_of P j f ≢ inode_word_of i g
descriptor-ne_inode P j f i g l m h e = inode_word_not_descriptor_word P i j g f l m h (sym e)

pub descriptor-ne_slot : (P j f s g : ℕ) → j < data_pages_of P → f < 8 → descriptor_word_of P j f ≢ slot_word_of P s g
descriptor-ne_slot P j f s g l m e = descriptor_word_not_slot_word P j s f g l m e

pub descriptor-ne_page : (P j f k w : ℕ) → j < data_pages_of P → f < 8 → descriptor_word_of P j f ≢ page_word_of P k w
descriptor-ne_page P j f k w l m e = descriptor_word_not_page_word P j k f w l m e

pub inode-ne_slot : (P i f s g : ℕ) → 1 ≤ i → i ≤ inodes_of P → f < 16 → inode_word_of i f ≢ slot_word_of P s g
inode-ne_slot P i f s g l m h e = inode_word_not_slot_word P i s f g l m h e

pub page-ne_inode : (P j w i g : ℕ) → 1 ≤ i → i ≤ inodes_of P → g < 16 → page_word_of P j w ≢ inode_word_of i g
page-ne_inode P j w i g l m h e = inode_word_not_page_word P i j g w l m h (sym e)

-- where there are inodes, inode 0 has the words of inode 1
pub inode-ne_slot0 : (P i f s g : ℕ) → 1 ≤ inodes_of P → i ≤ inodes_of P → f < 16 → inode_word_of i f ≢ slot_word_of P s g
unfolding inode_word_of slot_word_of
inode-ne_slot0 P i f s g l m h e = omega arith

-- ---- words of one table

pub inode-ne_inode : (i f k g : ℕ) → 1 ≤ i → 1 ≤ k → i ≢ k → f < 16 → g < 16 → inode_word_of i f ≢ inode_word_of k g
inode-ne_inode i f k g l m n h q e = n (same_inode_word i k f g l m h q e).0

pub inode-ne_field : (i f k g : ℕ) → f < 16 → g < 16 → f ≢ g → inode_word_of i f ≢ inode_word_of k g
unfolding inode_word_of
inode-ne_field i f k g l m n e = omega arith

pub slot-ne_slot : (P s f t g : ℕ) → f < 16 → g < 16 → s ≢ t → slot_word_of P s f ≢ slot_word_of P t g
slot-ne_slot P s f t g h k n e = n (same_slot_word P s t f g h k e).0

pub slot-ne_field : (P s f t g : ℕ) → f < 16 → g < 16 → f ≢ g → slot_word_of P s f ≢ slot_word_of P t g
slot-ne_field P s f t g h k n e = n (same_slot_word P s t f g h k e).1

pub page-ne_slot : (P j w s g : ℕ) → w < 512 → g < 16 → j ≢ page_of_slot s → page_word_of P j w ≢ slot_word_of P s g
unfolding page_word_of slot_word_of page_of_slot
page-ne_slot P j w s g l m n e = omega arith

pub inode_word-one : (i f k g : ℕ) → 1 ≤ i → 1 ≤ k → f < 16 → g < 16 → inode_word_of i f ≡ inode_word_of k g → (i ≡ k) × (f ≡ g)
inode_word-one i f k g l m h n e = same_inode_word i k f g l m h n e

pub descriptor_word-one : (P j f k g : ℕ) → f < 8 → g < 8 → descriptor_word_of P j f ≡ descriptor_word_of P k g → (j ≡ k) × (f ≡ g)
descriptor_word-one P j f k g h n e = same_descriptor_word P j k f g h n e

pub slot_word-one : (P s f t g : ℕ) → f < 16 → g < 16 → slot_word_of P s f ≡ slot_word_of P t g → (s ≡ t) × (f ≡ g)
slot_word-one P s f t g h n e = same_slot_word P s t f g h n e

pub page_word-one : (P j w k v : ℕ) → w < 512 → v < 512 → page_word_of P j w ≡ page_word_of P k v → (j ≡ k) × (w ≡ v)
page_word-one P j w k v h n e = same_page_word P j k w v h n e

-- ---- the words of a slot in its page

pub slot_in_page : (P s f j w : ℕ) → f < 16 → w < 512 → slot_word_of P s f ≡ page_word_of P j w → page_of_slot s ≡ j
unfolding slot_word_of page_word_of page_of_slot
slot_in_page P s f j w h n e = omega arith

-- word f of slot s is this word of its page
pub word_in_page : ℕ → ℕ → ℕ
word_in_page s f = 16 * (s % 32) + f

pub word_in_page-lt : (s f : ℕ) → f < 16 → word_in_page s f < 512
unfolding word_in_page
word_in_page-lt s f h = omega arith

pub slot_word-in_page : (P s f : ℕ) → slot_word_of P s f ≡ page_word_of P (page_of_slot s) (word_in_page s f)
unfolding slot_word_of page_word_of page_of_slot word_in_page
slot_word-in_page P s f = omega arith
