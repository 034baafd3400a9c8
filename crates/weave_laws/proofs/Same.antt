-- A place that a step leaves alone is to be repaired after it exactly where it was before. A are the words before the step, K those after it.
use Rattle.std.proofs.Common.{◌≡◌, ◌↔◌, ◌⊎◌, inl, inr, ℕ, ◌<◌, ◌≤◌, List, sym, ap, subst, ◌∙◌, arith}
use Rattle.layout.specs.Geometry.{inodes_of, data_pages_of, page_of_slot, inode_word_of, slot_word_of}
use Rattle.layout.specs.Fields.{word, inode_words, inode_kind, inode_links, inode_size, page_owner, page_offset, slot_pointer}
use Rattle.layout.proofs.Widths.{same_inode_words, same_descriptor_words}
use Rattle.image_reading.specs.Reading.{HasBytes, IsDirectory, Reached, IsRoomOf, IsNameOf, IsChildOf, IsLinkCount, pages_of_size}
use Rattle.image_reading.specs.Repairs.{IsPointer, IsLitterSlot, IsLitterPage, IsLitterInode, IsLitterCount}
use Rattle.image_reading.proofs.Counts.{count_one}
use Rattle.image_reading.proofs.Credits.{count_same}
use Rattle.image_counts.proofs.Decided.{room_below}
use Rattle.image_laws.proofs.KeptPages.{KeepsPages, KeepsDescriptors, by_words, held_forth, held_back, litter_page}
use Rattle.image_laws.proofs.KeptSlots.{KeepsSlots, litter_slot}

-- ---- slots

slots_flipped : {P : ℕ} {A K : List ℕ} {Slot : ℕ → Type 0} → KeepsSlots P A K Slot → KeepsSlots P K A Slot
slots_flipped keeps = record {
  before = keeps.after;
  after = keeps.before;
  forth = keeps.back;
  back = keeps.forth;
  owners = λ t other was is. sym (keeps.owners t other is was);
  numbers = λ t other was. sym (keeps.numbers t other (keeps.back t other was));
  kinds = λ x was is. sym (keeps.kinds x is was);
}

pub pointer_same : (P : ℕ) (A K : List ℕ) (Page : ℕ → Type 0) → KeepsPages P A K Page → (t : ℕ) → ¬ Page (page_of_slot t) → slot_pointer P K t ≡ slot_pointer P A t → IsPointer P A t ↔ IsPointer P K t
pointer_same P A K Page paged t other word = (
  (λ l. record { held = held_forth paged t other l.held; nonzero = λ z. l.nonzero (sym word ∙ z) }),
  (λ l. record { held = held_back paged t other l.held; nonzero = λ z. l.nonzero (word ∙ z) }),
)

module _ {P : ℕ} {A K : List ℕ} {Slot Page : ℕ → Type 0} (keeps : KeepsSlots P A K Slot) (paged : KeepsPages P A K Page) where
  pub slot_same : (t : ℕ) → ¬ Slot t → ¬ Page (page_of_slot t) → ((x : ℕ) → IsRoomOf P A x (page_of_slot t) ↔ IsRoomOf P K x (page_of_slot t))
      → ((f : ℕ) → f < 16 → word K (slot_word_of P t f) ≡ word A (slot_word_of P t f)) → IsLitterSlot P A t ↔ IsLitterSlot P K t
  slot_same t other beside rooms words =
      let j = page_of_slot t in (
        (λ l.
            let owner = paged.owner j (room_below P A (page_owner P A j) j l.page) beside in
            litter_slot (slots_flipped keeps) t other (subst (λ x. IsRoomOf P K x j) (sym owner) ((rooms (page_owner P A j)).0 l.page)) (λ f lt. sym (words f lt)) l),
        (λ l.
            let owner = paged.owner j (room_below P K (page_owner P K j) j l.page) beside in
            litter_slot keeps t other (subst (λ x. IsRoomOf P A x j) owner ((rooms (page_owner P K j)).1 l.page)) words l),
      )

-- ---- pages

pub descriptors_flipped : (P : ℕ) (A K : List ℕ) (Page : ℕ → Type 0) → KeepsDescriptors P A K Page → word K 1 ≡ word A 1 → KeepsDescriptors P K A Page
descriptors_flipped P A K Page words version j f lt read other = sym (words j f lt (subst (λ n. f < n) (same_descriptor_words A K version) read) other)

module _ (P : ℕ) (A K : List ℕ) (Page : ℕ → Type 0) (words : KeepsDescriptors P A K Page) (version : word K 1 ≡ word A 1) (kinds : (x : ℕ) → Reached P A x → inode_kind K x ≡ inode_kind A x)
    (sizes : (x : ℕ) → Reached P A x → inode_size K x ≡ inode_size A x) (forth : (x : ℕ) → Reached P A x → Reached P K x)
    (back : (j : ℕ) → j < data_pages_of P → Reached P K (page_owner P A j) → Reached P A (page_owner P A j))
    (rooms : (x j : ℕ) → ¬ Page j → IsRoomOf P A x j ↔ IsRoomOf P K x j) where
  keeps : KeepsPages P A K Page
  keeps = by_words P A K Page words

  page_forth : (j : ℕ) → ¬ Page j → IsLitterPage P A j → IsLitterPage P K j
  page_forth = litter_page P K A Page
      (descriptors_flipped P A K Page words version)
      (sym version)
      (λ x is was. sym (kinds x was))
      (λ j lt other r. subst (Reached P A) (sym (keeps.owner j lt other)) (back j lt (subst (Reached P K) (keeps.owner j lt other) r)))
      (λ j other kept.
      let owner = keeps.owner j kept.in_range other in
      let was = back j kept.in_range (subst (Reached P K) owner kept.owner) in
      let size = ap (inode_size K) owner ∙ sizes (page_owner P A j) was ∙ ap (inode_size A) (sym owner) in
      subst (λ z. page_offset P K j < pages_of_size z) size kept.below)
      (λ j lt other room. (rooms (page_owner P K j) j other).1 room)

  page_back : (j : ℕ) → ¬ Page j → IsLitterPage P K j → IsLitterPage P A j
  page_back = litter_page P A K Page
      words
      version
      (λ x was is. kinds x was)
      (λ j lt other r. forth (page_owner P A j) r)
      (λ j other kept. subst (λ z. page_offset P A j < pages_of_size z) (sym (sizes (page_owner P A j) kept.owner)) kept.below)
      (λ j lt other room. (rooms (page_owner P A j) j other).0 room)

  pub page_same : (j : ℕ) → ¬ Page j → IsLitterPage P A j ↔ IsLitterPage P K j
  page_same j other = (page_forth j other, page_back j other)

-- ---- inodes

module _ (P : ℕ) (A K : List ℕ) (x : ℕ) (version : word K 1 ≡ word A 1) (reached : Reached P A x ↔ Reached P K x) where
  pub inode_same : ((f : ℕ) → 1 ≤ x → x ≤ inodes_of P → f < inode_words A → ¬ Reached P A x → word K (inode_word_of x f) ≡ word A (inode_word_of x f)) → IsLitterInode P A x ↔ IsLitterInode P K x
  inode_same words = (
    (λ l.
        let (f, lt, nonzero) = l.nonzero in
        let read = subst (λ n. f < n) (same_inode_words K A (sym version)) lt in
        record { least = l.least; most = l.most; unreached = λ r. l.unreached (reached.1 r); nonzero = (f, read, λ z. nonzero (sym (words f l.least l.most lt l.unreached) ∙ z)) }),
    (λ l.
        let (f, lt, nonzero) = l.nonzero in
        let read = subst (λ n. f < n) (same_inode_words A K version) lt in
        let before : ¬ Reached P A x = λ r. l.unreached (reached.0 r) in
        record { least = l.least; most = l.most; unreached = before; nonzero = (f, read, λ z. nonzero (words f l.least l.most read before ∙ z)) }),
  )

-- ---- links

links_after : (P : ℕ) (A K : List ℕ) (x n : ℕ) → inode_kind K x ≡ inode_kind A x → ((t : ℕ) → IsNameOf P A x t ↔ IsNameOf P K x t) → ((t : ℕ) → IsChildOf P A x t ↔ IsChildOf P K x t)
    → IsLinkCount P A x n → IsLinkCount P K x n
links_after P A K x n kind names children count = record {
  file = λ file. count_same (IsNameOf P A x) (IsNameOf P K x) n names (count.file (sym kind ∙ file));
  directory = λ two. let (m, counted, is) = count.directory (sym kind ∙ two) in (m, count_same (IsChildOf P A x) (IsChildOf P K x) m children counted, is);
}

module _ (P : ℕ) (A K : List ℕ) (x : ℕ) (names : (t : ℕ) → IsNameOf P A x t ↔ IsNameOf P K x t) (children : (t : ℕ) → IsChildOf P A x t ↔ IsChildOf P K x t) where
  pub links_same : inode_kind K x ≡ inode_kind A x → (n : ℕ) → IsLinkCount P A x n ↔ IsLinkCount P K x n
  links_same kind n = (
    links_after P A K x n kind names children,
    links_after P K A x n (sym kind) (λ t. ((names t).1, (names t).0)) (λ t. ((children t).1, (children t).0)),
  )

  pub count_kept_at : (Reached P A x ↔ Reached P K x) → (Reached P A x → inode_kind K x ≡ inode_kind A x) → (Reached P A x → inode_links K x ≡ inode_links A x) → IsLitterCount P A x ↔ IsLitterCount P K x
  count_kept_at reached kind links = (
    (λ l. record {
      reached = reached.0 l.reached;
      other = λ count. l.other ((links_same (kind l.reached) (inode_links A x)).1 (subst (IsLinkCount P K x) (links l.reached) count));
    }),
    (λ l.
        let was = reached.1 l.reached in
        record { reached = was; other = λ count. l.other (subst (IsLinkCount P K x) (sym (links was)) ((links_same (kind was) (inode_links A x)).0 count)) }),
  )

-- a reached inode has one number of links
pub one_number : (P : ℕ) (A : List ℕ) (x m n : ℕ) → HasBytes A x ⊎ IsDirectory A x → IsLinkCount P A x m → IsLinkCount P A x n → m ≡ n
one_number P A x m n (inl file) a b = count_one (IsNameOf P A x) m n (a.file file) (b.file file)
one_number P A x m n (inr two) a b =
    let (k, first, k_is) = a.directory two in
    let (l, second, l_is) = b.directory two in
    let same = count_one (IsChildOf P A x) k l first second in
    omega (arith, same, k_is, l_is)
