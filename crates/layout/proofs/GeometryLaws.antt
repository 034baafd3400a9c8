-- What follows from the regions' sizes: which numbers are in range, and that addresses differ.
use Rattle.std.proofs.Common.{◌≡◌, ◌≢◌, ℕ, ◌+◌, ◌*◌, ◌%◌, ◌<◌, ◌≤◌, arith}
use Rattle.layout.specs.Geometry.{IsVolumeSize, inodes_of, inode_pages_of, data_pages_of, slots_of, page_of_slot, first_data_word_of, inode_word_of, descriptor_word_of, slot_word_of, page_word_of, AddressesDiffer, AddressesInRange}

-- ---- sizes

pub data_pages_below : (P : ℕ) → IsVolumeSize P → data_pages_of P < P
unfolding data_pages_of
data_pages_below P h = omega arith

-- there are inodes beside the root's
pub some_inodes : (P : ℕ) → IsVolumeSize P → 4 ≤ inodes_of P
unfolding inodes_of
some_inodes P h = omega arith

pub inodes_below : (P : ℕ) → IsVolumeSize P → inodes_of P < P
unfolding inodes_of
inodes_below P h = omega arith

pub slots_in_pages : (P : ℕ) → slots_of P ≡ 32 * data_pages_of P
unfolding slots_of
slots_in_pages P = omega arith

-- ---- slots and their pages

-- a slot in range stands in a data page
pub page_of_slot_below : (P s : ℕ) → s < slots_of P → page_of_slot s < data_pages_of P
unfolding slots_of page_of_slot
page_of_slot_below P s h = omega arith

-- and what stands in a data page is a slot in range
pub slot_below : (P s : ℕ) → page_of_slot s < data_pages_of P → s < slots_of P
unfolding slots_of page_of_slot
slot_below P s h = omega arith

-- entry k of page j
pub page_of_entry : (j k : ℕ) → k < 32 → page_of_slot (32 * j + k) ≡ j
unfolding page_of_slot
page_of_entry j k h = omega arith

-- the words of a slot are words of its page
pub slot_word_in_page : (P s f : ℕ) → slot_word_of P s f ≡ page_word_of P (page_of_slot s) (16 * (s % 32) + f)
unfolding slot_word_of page_word_of page_of_slot
slot_word_in_page P s f = omega arith

-- ---- one place, one address

pub same_inode_word : (i j f g : ℕ) → 1 ≤ i → 1 ≤ j → f < 16 → g < 16 → inode_word_of i f ≡ inode_word_of j g → (i ≡ j) × (f ≡ g)
unfolding inode_word_of
same_inode_word i j f g some others hf hg e = (omega arith, omega arith)

pub same_descriptor_word : (P i j f g : ℕ) → f < 8 → g < 8 → descriptor_word_of P i f ≡ descriptor_word_of P j g → (i ≡ j) × (f ≡ g)
unfolding descriptor_word_of
same_descriptor_word P i j f g hf hg e = (omega arith, omega arith)

pub same_slot_word : (P s t f g : ℕ) → f < 16 → g < 16 → slot_word_of P s f ≡ slot_word_of P t g → (s ≡ t) × (f ≡ g)
unfolding slot_word_of
same_slot_word P s t f g hf hg e = (omega arith, omega arith)

pub same_page_word : (P i j k l : ℕ) → k < 512 → l < 512 → page_word_of P i k ≡ page_word_of P j l → (i ≡ j) × (k ≡ l)
unfolding page_word_of
same_page_word P i j k l hk hl e = (omega arith, omega arith)

-- ---- where the tables stand

pub inode_word_above : (i f : ℕ) → 512 ≤ inode_word_of i f
unfolding inode_word_of
inode_word_above i f = omega arith

pub inode_word_below : (P i f : ℕ) → 1 ≤ i → i ≤ inodes_of P → f < 16 → inode_word_of i f < 512 * (1 + inode_pages_of P)
unfolding inode_word_of inode_pages_of
inode_word_below P i f some h hf = omega arith

pub descriptor_word_above : (P j f : ℕ) → 512 * (1 + inode_pages_of P) ≤ descriptor_word_of P j f
unfolding descriptor_word_of
descriptor_word_above P j f = omega arith

pub descriptor_word_below : (P j f : ℕ) → j < data_pages_of P → f < 8 → descriptor_word_of P j f < first_data_word_of P
unfolding descriptor_word_of first_data_word_of data_pages_of
descriptor_word_below P j f h hf = omega arith

pub slot_word_above : (P s f : ℕ) → first_data_word_of P ≤ slot_word_of P s f
unfolding slot_word_of
slot_word_above P s f = omega arith

pub slot_word_within : (P s f : ℕ) → s < slots_of P → f < 16 → slot_word_of P s f < 512 * P
unfolding slot_word_of slots_of
slot_word_within P s f h hf = omega arith

-- and all of a slot's words from one on
pub slot_words_within : (P s f n : ℕ) → s < slots_of P → f + n ≤ 16 → slot_word_of P s f + n ≤ 512 * P
unfolding slot_word_of slots_of
slot_words_within P s f n h hf = omega arith

pub page_word_above : (P j k : ℕ) → first_data_word_of P ≤ page_word_of P j k
unfolding page_word_of
page_word_above P j k = omega arith

pub page_word_within : (P j k : ℕ) → j < data_pages_of P → k < 512 → page_word_of P j k < 512 * P
unfolding page_word_of data_pages_of
page_word_within P j k h hk = omega arith

-- every address is one of the device

pub first_data_word_within : (P : ℕ) → IsVolumeSize P → first_data_word_of P < 512 * P
unfolding first_data_word_of
first_data_word_within P h = omega arith

pub inode_word_within : (P i f : ℕ) → IsVolumeSize P → 1 ≤ i → i ≤ inodes_of P → f < 16 → inode_word_of i f < 512 * P
unfolding first_data_word_of
inode_word_within P i f size some h hf =
    let below = inode_word_below P i f some h hf in
    let within = first_data_word_within P size in
    omega arith

pub descriptor_word_within : (P j f : ℕ) → IsVolumeSize P → j < data_pages_of P → f < 8 → descriptor_word_of P j f < 512 * P
descriptor_word_within P j f size h hf =
    let below = descriptor_word_below P j f h hf in
    let within = first_data_word_within P size in
    omega arith

-- ---- no word of one table is a word of another

pub inode_word_not_descriptor_word : (P i j f g : ℕ) → 1 ≤ i → i ≤ inodes_of P → f < 16 → inode_word_of i f ≢ descriptor_word_of P j g
inode_word_not_descriptor_word P i j f g some h hf e =
    let below = inode_word_below P i f some h hf in
    let above = descriptor_word_above P j g in
    omega arith

pub inode_word_not_slot_word : (P i s f g : ℕ) → 1 ≤ i → i ≤ inodes_of P → f < 16 → inode_word_of i f ≢ slot_word_of P s g
unfolding first_data_word_of
inode_word_not_slot_word P i s f g some h hf e =
    let below = inode_word_below P i f some h hf in
    let above = slot_word_above P s g in
    omega arith

pub inode_word_not_page_word : (P i j f k : ℕ) → 1 ≤ i → i ≤ inodes_of P → f < 16 → inode_word_of i f ≢ page_word_of P j k
unfolding first_data_word_of
inode_word_not_page_word P i j f k some h hf e =
    let below = inode_word_below P i f some h hf in
    let above = page_word_above P j k in
    omega arith

pub descriptor_word_not_slot_word : (P j s f g : ℕ) → j < data_pages_of P → f < 8 → descriptor_word_of P j f ≢ slot_word_of P s g
descriptor_word_not_slot_word P j s f g h hf e =
    let below = descriptor_word_below P j f h hf in
    let above = slot_word_above P s g in
    omega arith

pub descriptor_word_not_page_word : (P i j f k : ℕ) → i < data_pages_of P → f < 8 → descriptor_word_of P i f ≢ page_word_of P j k
descriptor_word_not_page_word P i j f k h hf e =
    let below = descriptor_word_below P i f h hf in
    let above = page_word_above P j k in
    omega arith

-- ---- both as the records

pub differ : (P : ℕ) → AddressesDiffer P
differ P = record {
  inodes = λ i j f g h k e. same_inode_word i j f g h.0 k.0 h.2 k.2 e;
  descriptors = λ i j f g h k e. same_descriptor_word P i j f g h.1 k.1 e;
  slots = λ i j f g h k e. same_slot_word P i j f g h.1 k.1 e;
  pages_of_data = λ i j f g h k e. same_page_word P i j f g h.1 k.1 e;
}

pub in_range : (P : ℕ) → AddressesInRange P
in_range P = record {
  inodes = λ i f h. (inode_word_above i f, inode_word_below P i f h.0 h.1 h.2);
  descriptors = λ j f h. (descriptor_word_above P j f, descriptor_word_below P j f h.0 h.1);
  slots = λ s f h. (slot_word_above P s f, slot_word_within P s f h.0 h.1);
  pages_of_data = λ j k h. (page_word_above P j k, page_word_within P j k h.0 h.1);
}
