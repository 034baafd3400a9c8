-- What create and mkdir need of the image in which they make a node, and that words are or aren't among those stored.
use Rattle.std.proofs.Common.{◌≡◌, ◌≢◌, ◌⊎◌, inl, inr, ℕ, ◌+◌, ◌<◌, List, sym, ap, subst, ◌∙◌, arith}
use Rattle.std.proofs.lemmas.Bool.{cases_eq, cases_lt}
use Rattle.layout.specs.Fields.{word, inode_words, inode_kind, page_owner, slot_pointer}
use Rattle.layout.specs.Geometry.{data_pages_of, page_of_slot, inode_word_of, slot_word_of}
use Rattle.layout.specs.declared.kinds.NodeKind.{NodeKind}
use Rattle.layout.specs.declared.kinds.NodeKind.TheVariants.{File, Directory}
use Rattle.layout.proofs.GeometryLaws.{page_of_slot_below}
use Rattle.layout.proofs.Widths.{descriptor_field_read}
use Rattle.tree_model.specs.Tree.{Tree, Room}
use Rattle.image_reading.specs.Reading.{IsDirectory, slot_owner, IsHeld, IsLive, Reached, IsRoomOf, Reads, HasRoom}
use Rattle.image_reading.specs.Repairs.{IsKept, IsPointer, IsLitterSlot, IsLitterPage, IsLitterInode, IsLitterCount}
use Rattle.image_reading.specs.Soundness.{IsCoherent}
use Rattle.image_reading.specs.Tidy.{IsTidied}
use Rattle.image_reading.proofs.Counts.{count_none}
use Rattle.image_counts.proofs.Counting.{none_counted}
use Rattle.image_laws.specs.Create.{IsAmong, IsMadeWord}
use Rattle.image_laws.proofs.Decide.{dec_eq}
use Rattle.image_laws.proofs.Rooms.{dec_room, dec_some}

-- ---- tidy, and tidy but for one page

-- nothing is to be repaired, but page j may be litter
pub record IsTidyBut (P : ℕ) (I : List ℕ) (j : ℕ) : Type 0 where
  pub pointers : (s : ℕ) → IsPointer P I s → ⊥
  pub slots : (s : ℕ) → IsLitterSlot P I s → ⊥
  pub pages : (x : ℕ) → IsLitterPage P I x → x ≡ j
  pub inodes : (i : ℕ) → IsLitterInode P I i → ⊥
  pub counts : (i : ℕ) → IsLitterCount P I i → ⊥

pub tidy_but : (P : ℕ) (I : List ℕ) (j : ℕ) → IsTidied P I → IsTidyBut P I j
tidy_but P I j t = record {
  pointers = none_counted (IsPointer P I) t.repaired.of_pointers;
  slots = none_counted (IsLitterSlot P I) t.repaired.of_slots;
  pages = λ x h. absurd (none_counted (IsLitterPage P I) t.repaired.of_pages x h);
  inodes = none_counted (IsLitterInode P I) t.repaired.of_inodes;
  counts = none_counted (IsLitterCount P I) t.repaired.of_counts;
}

pub tidy_from : (P : ℕ) (I : List ℕ) (j : ℕ) → IsCoherent P I → IsTidyBut P I j → (IsLitterPage P I j → ⊥) → IsTidied P I
tidy_from P I j coherent t none = record {
  coherent = coherent;
  repaired = record {
    of_pointers = count_none (IsPointer P I) t.pointers;
    of_slots = count_none (IsLitterSlot P I) t.slots;
    of_pages = count_none (IsLitterPage P I) (λ x h. none (subst (IsLitterPage P I) (t.pages x h) h));
    of_inodes = count_none (IsLitterInode P I) t.inodes;
    of_counts = count_none (IsLitterCount P I) t.counts;
  };
}

pub no_pointer : (P : ℕ) (I : List ℕ) (j : ℕ) → IsTidyBut P I j → (s : ℕ) → IsHeld P I s → slot_pointer P I s ≡ 0
no_pointer P I j t s h = elim (cases_eq (slot_pointer P I s) 0) [ inl e ↦ e | inr n ↦ absurd (t.pointers s (record { held = h; nonzero = n })) ]

-- ---- pages of a tidy image

-- what has an owner is kept
pub owned_kept : (P : ℕ) (W : List ℕ) (j : ℕ) → IsTidied P W → j < data_pages_of P → page_owner P W j ≢ 0 → ¬ IsKept P W j → ⊥
unfolding page_owner
owned_kept P W j tidy lt owned free = none_counted (IsLitterPage P W) tidy.repaired.of_pages j (record { in_range = lt; free = free; nonzero = (0, descriptor_field_read W 0 (omega arith), owned) })

-- a directory's page has a name,
pub held_room : (P : ℕ) (W : List ℕ) (d s : ℕ) → IsTidied P W → Reached P W d → IsDirectory W d → IsHeld P W s → slot_owner P W s ≡ d → IsRoomOf P W d (page_of_slot s)
unfolding slot_owner
held_room P W d s tidy reached two held owner = elim (dec_room P W d reached two (page_of_slot s)) [
  | yes room ↦ room
  | no none ↦ absurd (owned_kept P W (page_of_slot s) tidy (page_of_slot_below P s held.in_range) held.owned (λ kept. elim kept [
    | inl file ↦ (let one = sym (ap (inode_kind W) owner) ∙ file.file in omega (arith, one, two))
    | inr room ↦ none (subst (λ x. IsRoomOf P W x (page_of_slot s)) owner room)
  ]))
]

-- and its slots that aren't live are zero
pub dead_zero : (P : ℕ) (W : List ℕ) (t f : ℕ) → IsTidied P W → IsRoomOf P W (page_owner P W (page_of_slot t)) (page_of_slot t) → ¬ IsLive P W t → f < 16 → word W (slot_word_of P t f) ≡ 0
dead_zero P W t f tidy room dead lt = elim (cases_eq (word W (slot_word_of P t f)) 0) [
  | inl zero ↦ zero
  | inr nonzero ↦ absurd ((tidy_but P W 0 tidy).slots t (record { page = room; dead = dead; nonzero = (f, lt, nonzero) }))
]

-- ---- ready for a new name

-- The page of the slot is clean, and it alone may be litter.
pub record IsCleanSlot (P : ℕ) (I : List ℕ) (s : ℕ) : Type 0 where
  pub but : IsTidyBut P I (page_of_slot s)
  pub clean : (t f : ℕ) → page_of_slot t ≡ page_of_slot s → (IsLive P I t → ⊥) → f < 16 → word I (slot_word_of P t f) ≡ 0

-- ---- which words are stored

record IsFound (f : ℕ → ℕ) (n a k : ℕ) : Type 0 where
  below : k < n
  is : a ≡ f k

dec_found : (f : ℕ → ℕ) (n a k : ℕ) → Dec (IsFound f n a k)
dec_found f n a k = elim (cases_lt_dec k n) [
  | no m ↦ no (λ h. m h.below)
  | yes lt ↦ elim (dec_eq a (f k)) [ no m ↦ no (λ h. m h.is) | yes e ↦ yes (record { below = lt; is = e }) ]
]
  where
    cases_lt_dec : (k n : ℕ) → Dec (k < n)
    cases_lt_dec k n = elim (cases_lt k n) [ inl lt ↦ yes lt | inr ge ↦ no (λ lt. omega arith) ]

pub dec_among : (f : ℕ → ℕ) (n a : ℕ) → Dec (IsAmong f n a)
dec_among f n a = elim (dec_some (IsFound f n a) (dec_found f n a) n (λ k h. h.below)) [
  | yes (k, h) ↦ yes (k, h.below, h.is)
  | no m ↦ no (λ (k, lt, e). m (k, record { below = lt; is = e }))
]

pub dec_either : (A B : Type 0) → Dec A → Dec B → Dec (A ⊎ B)
dec_either A B (yes a) b = yes (inl a)
dec_either A B (no n) (yes b) = yes (inr b)
dec_either A B (no n) (no m) = no (λ h. elim h [ inl a ↦ n a | inr b ↦ m b ])

pub dec_made : (P : ℕ) (I : List ℕ) (kind : NodeKind) (d s i a : ℕ) → Dec (IsMadeWord P I kind d s i a)
dec_made P I Directory d s i a =
    dec_either _ _ (dec_among (inode_word_of i) (inode_words I) a) (dec_either _ _ (dec_among (λ k. slot_word_of P s (2 + k)) 14 a) (dec_eq a (inode_word_of d 1)))
dec_made P I File d s i a = dec_either _ _ (dec_among (inode_word_of i) (inode_words I) a) (dec_among (λ k. slot_word_of P s (2 + k)) 14 a)

-- a made word is one of these
pub made_cases : (P : ℕ) (I : List ℕ) (kind : NodeKind) (d s i a : ℕ) → IsMadeWord P I kind d s i a
    → IsAmong (inode_word_of i) (inode_words I) a ⊎ (IsAmong (λ k. slot_word_of P s (2 + k)) 14 a ⊎ (a ≡ inode_word_of d 1))
made_cases P I Directory d s i a m = m
made_cases P I File d s i a m = elim m [ inl inode ↦ inl inode | inr name ↦ inr (inl name) ]

pub not_made : (P : ℕ) (I : List ℕ) (kind : NodeKind) (d s i a : ℕ) → ((f : ℕ) → f < inode_words I → a ≢ inode_word_of i f) → ((k : ℕ) → k < 14 → a ≢ slot_word_of P s (2 + k)) → a ≢ inode_word_of d 1
    → IsMadeWord P I kind d s i a → ⊥
not_made P I kind d s i a f g h m = elim (made_cases P I kind d s i a m) [ inl (k, lt, e) ↦ f k lt e | inr n ↦ elim n [ inl (k, lt, e) ↦ g k lt e | inr e ↦ h e ] ]

-- ---- the name is there

-- The tree and the room of W with the new name are those of J.
pub record IsNamed (P : ℕ) (W J : List ℕ) (tree_after : Tree → Tree) (room_after : Room → Room) : Type 0 where
  pub coherent : IsCoherent P J
  pub reads : (T : Tree) → Reads P W T → Reads P J (tree_after T)
  pub room : (room : Room) → HasRoom P W room → HasRoom P J (room_after room)
