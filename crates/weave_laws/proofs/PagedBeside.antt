-- A page without an owner changes, with what goes with it: it is to be repaired then, and each other place but the call's own where it was before.
use Rattle.std.proofs.Common.{◌≡◌, ◌≢◌, ◌↔◌, ◌⊎◌, inl, inr, ℕ, ◌+◌, ◌<◌, ◌≤◌, List, ◌∷◌, sym, ap, subst, ◌∙◌, arith}
use Rattle.std.proofs.lemmas.Bool.{cases_eq}
use Rattle.layout.specs.Geometry.{inodes_of, data_pages_of, page_of_slot, inode_word_of, slot_word_of}
use Rattle.layout.specs.Fields.{word, inode_words, inode_kind, inode_links, page_owner, page_kind, slot_inode, slot_pointer}
use Rattle.layout.proofs.Widths.{inode_field_read, descriptor_field_read}
use Rattle.image_reading.specs.Counts.{IsIn, IsListOf}
use Rattle.image_reading.specs.Reading.{slot_owner, IsHeld, Reached, IsRoomOf, IsLinkCount}
use Rattle.image_reading.specs.Repairs.{IsKeptFilePage, IsPointer, IsLitterSlot, IsLitterPage, IsLitterInode, IsLitterCount}
use Rattle.image_reading.specs.Soundness.{IsCoherent}
use Rattle.image_counts.specs.Entries.{IsFreePage}
use Rattle.image_counts.proofs.Decided.{room_owner}
use Rattle.image_counts.proofs.Paths.{in_range}
use Rattle.image_laws.proofs.Free.{SameEntries}
use Rattle.image_laws.proofs.KeptInodes.{KeepsInodes, by_inodes}
use Rattle.image_laws.proofs.KeptPages.{KeepsPages, KeepsDescriptors, by_words, held_owner_same, held_forth, held_back}
use Rattle.image_laws.proofs.KeptSlots.{KeepsSlots}
use Rattle.image_laws.proofs.Paths.{reached_pos}
use Rattle.weave_laws.proofs.Listed.{listed_same, listed_more}
use Rattle.weave_laws.proofs.Raised as raises
use Rattle.weave_laws.proofs.Raised.{Raises}
use Rattle.weave_laws.proofs.Same as same

-- From A to K page j becomes a directory page that nothing points from. No other page changes, and of inodes only i, which is free, and the links of y.
pub record ChangesPage (P : ℕ) (A K : List ℕ) (j i y : ℕ) : Type 0 where
  pub before : IsCoherent P A
  pub free : IsFreePage P A j
  pub entries : SameEntries P A K
  pub descriptors : KeepsDescriptors P A K (λ x. x ≡ j)
  pub slots : (t f : ℕ) → f < 16 → page_of_slot t ≢ j → word K (slot_word_of P t f) ≡ word A (slot_word_of P t f)
  pub inodes : (x f : ℕ) → 1 ≤ x → x ≤ inodes_of P → f < inode_words A → Reached P A x ⊎ (x ≢ i) → (f ≢ 1) ⊎ (x ≢ y) → word K (inode_word_of x f) ≡ word A (inode_word_of x f)
  pub linked : Reached P A y
  pub kind : page_kind P K j ≡ 2
  pub pointers : (t : ℕ) → page_of_slot t ≡ j → slot_pointer P K t ≡ 0
  pub no_file : ¬ IsKeptFilePage P K j

module _ {P : ℕ} {A K : List ℕ} {j i y : ℕ} (change : ChangesPage P A K j i y) where
  pub reached : (x : ℕ) → Reached P A x ↔ Reached P K x
  reached x = ((λ (q, b). (q, (change.entries.same.names q x).0 b)), (λ (q, b). (q, (change.entries.same.names q x).1 b)))

  nodes : KeepsInodes A K (Reached P A) (λ x. x ≡ y)
  nodes = by_inodes P A K (Reached P A) (λ x. x ≡ y) (in_range P A change.before) (λ x f r some most lt links. change.inodes x f some most lt (inl r) links)

  paged : KeepsPages P A K (λ x. x ≡ j)
  paged = by_words P A K (λ x. x ≡ j) change.descriptors

  held_beside : (t : ℕ) → IsHeld P A t → page_of_slot t ≢ j
  unfolding slot_owner
  held_beside t held at = held.owned (ap (page_owner P A) at ∙ change.free.1)

  number_same : (t : ℕ) → page_of_slot t ≢ j → slot_inode P K t ≡ slot_inode P A t
  unfolding slot_inode
  number_same t beside = change.slots t 0 (omega arith) beside

  pointer_word : (t : ℕ) → page_of_slot t ≢ j → slot_pointer P K t ≡ slot_pointer P A t
  unfolding slot_pointer
  pointer_word t beside = change.slots t 1 (omega arith) beside

  kept : KeepsSlots P A K (λ t. ⊥)
  kept = record {
    before = change.before;
    after = change.entries.same.coherent;
    forth = λ t other r. (change.entries.slots t).0 r;
    back = λ t other r. (change.entries.slots t).1 r;
    owners = λ t other was is. held_owner_same paged t was.live.held (held_beside t was.live.held);
    numbers = λ t other was. number_same t (held_beside t was.live.held);
    kinds = λ x was is. nodes.kind x was;
  }

  pub pointer_same : (t : ℕ) → IsPointer P A t ↔ IsPointer P K t
  pointer_same t = (
    (λ l.
        let beside = held_beside t l.held in
        record { held = held_forth paged t beside l.held; nonzero = λ z. l.nonzero (sym (pointer_word t beside) ∙ z) }),
    (λ l.
        let beside : page_of_slot t ≢ j = λ at. l.nonzero (change.pointers t at) in
        record { held = held_back paged t beside l.held; nonzero = λ z. l.nonzero (pointer_word t beside ∙ z) }),
  )

  -- ---- slots and pages

  no_room_before : (x : ℕ) → ¬ IsRoomOf P A x j
  no_room_before x room = reached_pos P A x room.reached (sym (room_owner P A x j room) ∙ change.free.1)

  no_room : (x : ℕ) → ¬ IsRoomOf P K x j
  no_room x room = no_room_before x ((change.entries.rooms x j).1 room)

  slot_same : (t : ℕ) → IsLitterSlot P A t ↔ IsLitterSlot P K t
  slot_same t = elim (cases_eq (page_of_slot t) j) [
    | inl at ↦ (
      λ l. absurd (no_room_before (page_owner P A j) (subst (λ k. IsRoomOf P A (page_owner P A k) k) at l.page)),
      λ l. absurd (no_room (page_owner P K j) (subst (λ k. IsRoomOf P K (page_owner P K k) k) at l.page)),
    )
    | inr beside ↦ same.slot_same kept paged t (λ none. none) beside (λ x. change.entries.rooms x (page_of_slot t)) (λ f lt. change.slots t f lt beside)
  ]

  pub slots_after : (rest : List ℕ) → IsListOf (IsLitterSlot P A) rest → IsListOf (IsLitterSlot P K) rest
  slots_after rest = listed_same (IsLitterSlot P A) (IsLitterSlot P K) rest slot_same

  page_same : (x : ℕ) → x ≢ j → IsLitterPage P A x ↔ IsLitterPage P K x
  page_same = same.page_same P A K (λ x. x ≡ j) change.descriptors change.entries.version nodes.kind nodes.size (λ x r. (reached x).0 r) (λ x lt r. (reached (page_owner P A x)).1 r) (λ x k other. change.entries.rooms x k)

  some_kind : page_kind P K j ≢ 0
  some_kind z = let two = change.kind in omega (arith, two, z)

  new_page : IsLitterPage P K j
  unfolding page_kind
  new_page = record {
    in_range = change.free.0;
    free = λ is_kept. elim is_kept [ inl file ↦ change.no_file file | inr room ↦ no_room (page_owner P K j) room ];
    nonzero = (1, descriptor_field_read K 1 (omega arith), some_kind);
  }

  pub pages_more : ¬ IsLitterPage P A j → (rest : List ℕ) → IsListOf (IsLitterPage P A) rest → IsListOf (IsLitterPage P K) (j ∷ rest)
  pages_more was rest = listed_more (IsLitterPage P A) (IsLitterPage P K) j rest was new_page page_same

  pub pages_same : IsLitterPage P A j → (rest : List ℕ) → IsListOf (IsLitterPage P A) rest → IsListOf (IsLitterPage P K) rest
  pages_same was rest = listed_same (IsLitterPage P A) (IsLitterPage P K) rest (λ x. elim (cases_eq x j) [
    | inl e ↦ ((λ l. subst (IsLitterPage P K) (sym e) new_page), (λ l. subst (IsLitterPage P A) (sym e) was))
    | inr ne ↦ page_same x ne
  ])

  new_mark : (x : ℕ) → x ≡ j → (page_owner P K x ≢ 0) ⊎ (page_kind P K x ≢ 0)
  new_mark x e = inr (λ z. some_kind (ap (page_kind P K) (sym e) ∙ z))

  pub mark_kept : (x : ℕ) → x < data_pages_of P → (page_owner P A x ≢ 0) ⊎ (page_kind P A x ≢ 0) → (page_owner P K x ≢ 0) ⊎ (page_kind P K x ≢ 0)
  mark_kept x lt mark = elim (cases_eq x j) [
    | inl e ↦ new_mark x e
    | inr ne ↦ elim mark [
      | inl owned ↦ inl (λ z. owned (sym (paged.owner x lt ne) ∙ z))
      | inr kind ↦ inr (λ z. kind (sym (paged.kind x lt ne) ∙ z))
    ]
  ]

  pub marks_more : (rest : List ℕ) → IsListOf (IsLitterPage P A) rest → ((x : ℕ) → IsIn x rest → (page_owner P A x ≢ 0) ⊎ (page_kind P A x ≢ 0))
      → (x : ℕ) → IsIn x (j ∷ rest) → (page_owner P K x ≢ 0) ⊎ (page_kind P K x ≢ 0)
  marks_more rest listed marks x among = elim among [ inl e ↦ new_mark x e | inr other ↦ mark_kept x ((listed.each x).0 other).in_range (marks x other) ]

  -- ---- inodes and links

  inode_word : (x f : ℕ) → 1 ≤ x → x ≤ inodes_of P → f < inode_words A → x ≢ i → ¬ Reached P A x → word K (inode_word_of x f) ≡ word A (inode_word_of x f)
  inode_word x f least most lt other unreached = change.inodes x f least most lt (inr other) (inr (λ e. unreached (subst (Reached P A) (sym e) change.linked)))

  pub inode_same : (x : ℕ) → Reached P A x ⊎ (x ≢ i) → IsLitterInode P A x ↔ IsLitterInode P K x
  inode_same x old = same.inode_same P A K x change.entries.version (reached x) (λ f least most lt unreached.
      inode_word x f least most lt (elim old [ inl r ↦ absurd (unreached r) | inr ne ↦ ne ]) unreached)

  pub kind_kept : (x : ℕ) → x ≢ i → IsLitterInode P A x → inode_kind A x ≢ 0 → inode_kind K x ≢ 0
  unfolding inode_kind
  kind_kept x ne l kind z = kind (sym (inode_word x 0 l.least l.most (inode_field_read A 0 (omega arith)) ne l.unreached) ∙ z)

  raised : Raises P A K y
  raised = record { kept = kept; nodes = nodes; reached = reached; linked = change.linked }

  pub counts_more : inode_links K y ≡ inode_links A y + 1 → IsLinkCount P A y (inode_links A y) → (rest : List ℕ) → IsListOf (IsLitterCount P A) rest → IsListOf (IsLitterCount P K) (y ∷ rest)
  counts_more = raises.counts_more raised

  pub counts_same : inode_links K y ≡ inode_links A y → (rest : List ℕ) → IsListOf (IsLitterCount P A) rest → IsListOf (IsLitterCount P K) rest
  counts_same = raises.counts_same raised
