-- Words of zeros.
use Rattle.std.proofs.Common.{◌≡◌, ℕ, zero, suc, ◌+◌, ◌-◌, ◌<◌, ◌≤◌, length-append, List, ◌∷◌, ◌++◌, length, slice_index, replicate, refl, sym, ap, ◌∙◌, arith}
use Rattle.std.proofs.lemmas.List.{get_or-replicate, get_or_append_left, get_or-append_right, length-replicate}
use Rattle.layout.specs.Geometry.{inodes_of, inode_pages_of, descriptor_pages_of, data_pages_of, first_data_word_of, descriptor_word_of, inode_word_of, slot_word_of, slots_of}
use Rattle.layout.proofs.GeometryLaws.{descriptor_word_below}
use Rattle.layout.specs.Fields.{word, words_from, inode_fields, descriptor_fields, inode_kind, inode_links, inode_size, inode_own, page_owner, page_kind, page_offset, slot_inode, slot_pointer, slot_words}
use Rattle.inode_state.specs.States.{free_fields}
use Rattle.inode_state.specs.Inode.{fields_at}
use Rattle.inode_state.proofs.InodeLaws.{same_fields as same_inode}
use Rattle.dentry_state.specs.States.{free_fields as free_slot}
use Rattle.dentry_state.specs.Dentry.{slot_fields_at}
use Rattle.dentry_state.proofs.DentryLaws.{same_fields as same_slot, next_fields}
use Rattle.page_state.specs.States.{IsFree}
use Rattle.page_state.specs.Page.{descriptor_of}
use Rattle.page_state.proofs.PageLaws.{same_descriptor_fields}

-- words of zeros
zero_words : (I : List ℕ) (a n : ℕ) → ((k : ℕ) → k < n → word I (a + k) ≡ 0) → words_from I a n ≡ replicate n 0
unfolding words_from
zero_words I a zero each = refl
zero_words I a (suc n) each =
    let start : a + 0 ≡ a = omega arith in
    let here = ap (λ (x : ℕ). word I x) (sym start) ∙ each 0 (omega arith) in
    let rest = zero_words I (a + 1) n (λ k low. let next : a + 1 + k ≡ a + suc k = omega arith in ap (λ (x : ℕ). word I x) next ∙ each (suc k) (omega (arith, low))) in
    ap (λ (w : ℕ). w ∷ words_from I (a + 1) n) here ∙ ap (λ (ws : List ℕ). 0 ∷ ws) rest

-- a slot of zeros is free
pub zero_slot : (P : ℕ) (I : List ℕ) (s : ℕ) → ((f : ℕ) → f < 16 → word I (slot_word_of P s f) ≡ 0) → slot_fields_at P I s ≡ free_slot
unfolding slot_inode slot_pointer slot_words
zero_slot P I s each =
    same_slot (slot_fields_at P I s) free_slot (each 0 (omega arith)) (each 1 (omega arith))
    (zero_words I (slot_word_of P s 2) 14 (λ k low. ap (λ (x : ℕ). word I x) (next_fields P s 2 k) ∙ each (2 + k) (omega (arith, low))))

pub zero_inode : (I : List ℕ) (i : ℕ) → ((f : ℕ) → f < inode_fields → word I (inode_word_of i f) ≡ 0) → fields_at I i ≡ free_fields
unfolding inode_kind inode_links inode_size inode_own
zero_inode I i each = same_inode (fields_at I i) free_fields (each 0 (omega arith)) (each 1 (omega arith)) (each 2 (omega arith)) (each 3 (omega arith))

pub zero_descriptor : (P : ℕ) (I : List ℕ) (j : ℕ) → ((f : ℕ) → f < descriptor_fields → word I (descriptor_word_of P j f) ≡ 0) → descriptor_of P I j ≡ record { owner = 0; kind = 0; offset = 0 }
unfolding page_owner page_kind page_offset
zero_descriptor P I j each = same_descriptor_fields (descriptor_of P I j) (record { owner = 0; kind = 0; offset = 0 }) (each 0 (omega arith)) (each 1 (omega arith)) (each 2 (omega arith))

-- ---- a device that begins with zeros

-- a word among the first, which are 0
zero_word : (words zeros rest : List ℕ) (count w : ℕ) → words ≡ zeros ++ rest → zeros ≡ replicate count 0 → w < count → slice_index words w ≡ 0
zero_word words zeros rest count w joined are before =
    let long : length zeros ≡ count = ap length are ∙ length-replicate count 0 in
    ap (λ (l : List ℕ). slice_index l w) joined ∙ get_or_append_left zeros rest 0 w (omega (arith, long, before))
    ∙ ap (λ (l : List ℕ). slice_index l w) are ∙ get_or-replicate count w 0 0 before

pub free_page : (volume_pages count page : ℕ) (words zeros rest : List ℕ) → page < data_pages_of volume_pages → first_data_word_of volume_pages ≡ count
    → words ≡ zeros ++ rest → zeros ≡ replicate count 0 → IsFree (descriptor_of volume_pages words page)
unfolding page_owner page_kind page_offset word
free_page volume_pages count page words zeros rest in_range first joined are =
    let at : (field : ℕ) → field < 8 → slice_index words (descriptor_word_of volume_pages page field) ≡ 0 = λ field few.
    let below = descriptor_word_below volume_pages page field in_range few in
    zero_word words zeros rest count (descriptor_word_of volume_pages page field) joined are (omega (arith, below, first)) in
    same_descriptor_fields (descriptor_of volume_pages words page) (record { owner = 0; kind = 0; offset = 0 }) (at 0 (omega arith)) (at 1 (omega arith)) (at 2 (omega arith))

pub sixteen_pages : first_data_word_of 16 ≡ 1536
unfolding first_data_word_of descriptor_pages_of inode_pages_of inodes_of
sixteen_pages = refl

pub four_inodes : inodes_of 16 ≡ 4
unfolding inodes_of
four_inodes = refl

pub all_slots : slots_of 16 ≡ 416
unfolding slots_of data_pages_of descriptor_pages_of inode_pages_of inodes_of
all_slots = refl

-- ---- one inode's words among zeros

module _ (words front node rest : List ℕ) (before few : ℕ) (is : words ≡ (front ++ node) ++ rest) (zeros : front ≡ replicate before 0) (long : length node ≡ inode_fields) (others : rest ≡ replicate few 0) where
  long_front : length front ≡ before
  long_front = ap length zeros ∙ length-replicate {A = ℕ} before 0

  long_both : length (front ++ node) ≡ before + inode_fields
  long_both = let both = length-append front node in omega (arith, both, long_front, long)

  pub at_node : (k : ℕ) → k < inode_fields → slice_index words (before + k) ≡ slice_index node k
  at_node k low =
      ap (λ (l : List ℕ). slice_index l (before + k)) is ∙ get_or_append_left (front ++ node) rest 0 (before + k) (omega (arith, long_both, low))
      ∙ get_or-append_right front node before (before + k) 0 long_front (omega arith) ∙ ap (λ (j : ℕ). slice_index node j) (let less : before + k - before ≡ k = omega arith in less)

  pub past_node : (w : ℕ) → before + inode_fields ≤ w → w < before + inode_fields + few → slice_index words w ≡ 0
  past_node w high low =
      ap (λ (l : List ℕ). slice_index l w) is ∙ get_or-append_right (front ++ node) rest (before + inode_fields) w 0 long_both high
      ∙ ap (λ (l : List ℕ). slice_index l (w - (before + inode_fields))) others ∙ get_or-replicate few (w - (before + inode_fields)) 0 0 (omega (arith, high, low))

  pub long_image : length words ≡ before + inode_fields + few
  long_image = let both = length-append (front ++ node) rest in let more = ap length others ∙ length-replicate {A = ℕ} few 0 in omega (arith, ap length is, both, long_both, more)
