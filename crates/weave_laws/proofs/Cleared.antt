-- A slot that names nothing is cleared, and a link falls: neither is to be repaired any more, and the rest is where it was before.
use Rattle.std.proofs.Common.{◌≡◌, ◌≢◌, ◌↔◌, ◌⊎◌, inl, inr, ℕ, ◌+◌, ◌<◌, ◌≤◌, List, [], ◌∷◌, ◌++◌, Option, Some, None, refl, sym, ap, subst, ◌∙◌, arith}
use Rattle.std.proofs.lemmas.Bool.{cases_eq}
use Rattle.layout.specs.Geometry.{inodes_of, data_pages_of, page_of_slot, inode_word_of, slot_word_of}
use Rattle.layout.specs.Fields.{word, inode_words, inode_kind, inode_links, page_owner, page_kind, slot_inode, slot_pointer}
use Rattle.layout.proofs.Widths.{in_inode, in_descriptor, inode_field_read, same_inode_words}
use Rattle.image_reading.specs.Reading.{Reached, IsRoomOf, IsNameOf, IsChildOf, IsLinkCount}
use Rattle.image_reading.specs.Repairs.{IsPointer, IsLitterSlot, IsLitterPage, IsLitterInode, IsLitterCount}
use Rattle.image_counts.proofs.Distinct.{in_front, in_back}
use Rattle.image_counts.proofs.Paths.{in_range}
use Rattle.image_laws.specs.Drop.{ClearsName}
use Rattle.image_laws.specs.Stages.{MayClearName}
use Rattle.image_laws.proofs.Free.{SameEntries, entries_stores}
use Rattle.image_laws.proofs.KeptInodes.{KeepsInodes, by_inodes}
use Rattle.image_laws.proofs.KeptPages.{KeepsPages, KeepsDescriptors, by_words, held_owner_same}
use Rattle.image_laws.proofs.KeptSlots as slot_laws
use Rattle.image_laws.proofs.KeptSlots.{KeepsSlots}
use Rattle.image_laws.proofs.Stages.{clear_descriptor, clear_inode, clear_slot, clear_stores}
use Rattle.image_reading.specs.Counts.{IsListOf}
use Rattle.weave_laws.specs.Joined.{joined}
use Rattle.weave_laws.specs.Naming.{slots_left, pages_left}
use Rattle.weave_laws.specs.Removing.{ClearedLaw, IsFallingLink, IsPageOfName, falling_left, unnamed_left}
use Rattle.weave_laws.proofs.Listed.{listed_same, listed_less}
use Rattle.weave_laws.proofs.Same as same

module _ {P : ℕ} {I J : List ℕ} {s y : ℕ} (may : MayClearName P I s y) (clears : ClearsName P I J s y) where
  entries : SameEntries P I J
  entries = entries_stores P I J may.coherent (clear_stores P I J s y may clears)

  reached : (x : ℕ) → Reached P I x ↔ Reached P J x
  reached x = ((λ (q, b). (q, (entries.same.names q x).0 b)), (λ (q, b). (q, (entries.same.names q x).1 b)))

  nodes : KeepsInodes I J (Reached P I) (λ x. x ≡ y)
  nodes = by_inodes P I J (Reached P I) (λ x. x ≡ y) (in_range P I may.coherent) (λ x f r some most lt links. clear_inode P I J s y may clears x f some most (in_inode I f lt) links)

  words : KeepsDescriptors P I J (λ j. ⊥)
  words j f lt read none = clear_descriptor P I J s y may clears j f lt (in_descriptor I f read)

  paged : KeepsPages P I J (λ j. ⊥)
  paged = by_words P I J (λ j. ⊥) words

  number_same : (t : ℕ) → slot_inode P J t ≡ slot_inode P I t
  unfolding slot_inode
  number_same t = clear_slot P I J s y may clears t 0 (omega arith) (inl refl)

  kept : KeepsSlots P I J (λ t. ⊥)
  kept = record {
    before = may.coherent;
    after = entries.same.coherent;
    forth = λ t other r. (entries.slots t).0 r;
    back = λ t other r. (entries.slots t).1 r;
    owners = λ t other was is. held_owner_same paged t was.live.held (λ none. none);
    numbers = λ t other was. number_same t;
    kinds = λ x was is. nodes.kind x was;
  }

  pointer_word : (t : ℕ) → slot_pointer P J t ≡ slot_pointer P I t
  unfolding slot_pointer
  pointer_word t = elim (cases_eq t s) [
    | inl e ↦ ap (λ z. word J (slot_word_of P z 1)) e ∙ clears.zeros 1 (omega arith) (omega arith) ∙ sym may.pointer ∙ ap (λ z. word I (slot_word_of P z 1)) (sym e)
    | inr ne ↦ clear_slot P I J s y may clears t 1 (omega arith) (inr ne)
  ]

  pub pointer_same : (t : ℕ) → IsPointer P I t ↔ IsPointer P J t
  pointer_same t = same.pointer_same P I J (λ j. ⊥) paged t (λ none. none) (pointer_word t)

  -- ---- slots

  zero_word : (f : ℕ) → f < 16 → word J (slot_word_of P s f) ≡ 0
  unfolding slot_inode
  zero_word f lt = elim (cases_eq f 0) [
    | inl e ↦ ap (λ k. word J (slot_word_of P s k)) e ∙ number_same s ∙ may.number
    | inr ne ↦ clears.zeros f (omega (arith, ne)) lt
  ]

  no_slot : ¬ IsLitterSlot P J s
  no_slot l = let (f, lt, nonzero) = l.nonzero in nonzero (zero_word f lt)

  slot_same : (t : ℕ) → t ≢ s → IsLitterSlot P I t ↔ IsLitterSlot P J t
  slot_same t ne = same.slot_same kept paged t (λ none. none) (λ none. none) (λ x. entries.rooms x (page_of_slot t)) (λ f lt. clear_slot P I J s y may clears t f lt (inr ne))

  slot_in : (page : ℕ) → page_of_slot s ≡ page → IsLitterPage P I page → (t : ℕ) → IsLitterSlot P I t ↔ IsLitterSlot P J t
  slot_in page at litter t = elim (cases_eq t s) [
    | inl e ↦ (
      λ l. absurd (litter.free (inr (subst (λ j. IsRoomOf P I (page_owner P I j) j) (ap page_of_slot e ∙ at) l.page))),
      λ l. absurd (no_slot (subst (IsLitterSlot P J) e l)),
    )
    | inr ne ↦ slot_same t ne
  ]

  pub slots_less : (rest : List ℕ) → IsListOf (IsLitterSlot P I) (s ∷ rest) → IsListOf (IsLitterSlot P J) rest
  slots_less rest = listed_less (IsLitterSlot P I) (IsLitterSlot P J) s rest no_slot slot_same

  -- where the slot's page goes with it
  pub slots_same : (page : ℕ) → page_of_slot s ≡ page → IsLitterPage P I page → (rest : List ℕ) → IsListOf (IsLitterSlot P I) rest → IsListOf (IsLitterSlot P J) rest
  slots_same page at litter rest = listed_same (IsLitterSlot P I) (IsLitterSlot P J) rest (slot_in page at litter)

  -- ---- pages

  page_same : (j : ℕ) → IsLitterPage P I j ↔ IsLitterPage P J j
  page_same j = same.page_same P I J (λ x. ⊥) words entries.version nodes.kind nodes.size (λ x r. (reached x).0 r) (λ x lt r. (reached (page_owner P I x)).1 r) (λ x k other. entries.rooms x k) j (λ none. none)

  pub pages_after : (rest : List ℕ) → IsListOf (IsLitterPage P I) rest → IsListOf (IsLitterPage P J) rest
  pages_after rest = listed_same (IsLitterPage P I) (IsLitterPage P J) rest page_same

  pub mark_kept : (j : ℕ) → j < data_pages_of P → (page_owner P I j ≢ 0) ⊎ (page_kind P I j ≢ 0) → (page_owner P J j ≢ 0) ⊎ (page_kind P J j ≢ 0)
  mark_kept j lt mark = elim mark [
    | inl owned ↦ inl (λ z. owned (sym (paged.owner j lt (λ none. none)) ∙ z))
    | inr kind ↦ inr (λ z. kind (sym (paged.kind j lt (λ none. none)) ∙ z))
  ]

  -- ---- inodes: one that loses a link still has its kind

  pub kind_kept : (x : ℕ) → IsLitterInode P I x → inode_kind I x ≢ 0 → inode_kind J x ≢ 0
  unfolding inode_kind
  kind_kept x l kind z = kind (sym (clear_inode P I J s y may clears x 0 l.least l.most (omega arith) (inl (λ e. omega (arith, e)))) ∙ z)

  inode_forth : (x : ℕ) → IsLitterInode P I x → inode_kind I x ≢ 0 → IsLitterInode P J x
  unfolding inode_kind
  inode_forth x l kind = record { least = l.least; most = l.most; unreached = λ r. l.unreached ((reached x).1 r); nonzero = (0, inode_field_read J 0 (omega arith), kind_kept x l kind) }

  nonzero_before : (x f : ℕ) → 1 ≤ x → x ≤ inodes_of P → f < inode_words I → word J (inode_word_of x f) ≢ 0 → word I (inode_word_of x f) ≢ 0
  unfolding inode_links
  nonzero_before x f least most lt nonzero z = elim (cases_eq f 1) [
    | inr other ↦ nonzero (clear_inode P I J s y may clears x f least most (in_inode I f lt) (inl other) ∙ z)
    | inl one ↦ elim (cases_eq x y) [
      | inr ne ↦ nonzero (clear_inode P I J s y may clears x f least most (in_inode I f lt) (inr ne) ∙ z)
      | inl e ↦
          let none : word I (inode_word_of y 1) ≡ 0 = ap (λ k. word I (inode_word_of y k)) (sym one) ∙ ap (λ n. word I (inode_word_of n f)) (sym e) ∙ z in
          let links = clears.links in
          omega (arith, links, none)
    ]
  ]

  inode_back : (x : ℕ) → IsLitterInode P J x → IsLitterInode P I x
  inode_back x l =
      let (f, lt, nonzero) = l.nonzero in
      let read = subst (λ n. f < n) (same_inode_words I J entries.version) lt in
      record { least = l.least; most = l.most; unreached = λ r. l.unreached ((reached x).0 r); nonzero = (f, read, nonzero_before x f l.least l.most read nonzero) }

  pub inodes_after : (rest : List ℕ) → ((x : ℕ) → IsLitterInode P I x → inode_kind I x ≢ 0) → IsListOf (IsLitterInode P I) rest → IsListOf (IsLitterInode P J) rest
  inodes_after rest kinds = listed_same (IsLitterInode P I) (IsLitterInode P J) rest (λ x. ((λ l. inode_forth x l (kinds x l)), inode_back x))

  -- ---- links

  names : (x t : ℕ) → IsNameOf P I x t ↔ IsNameOf P J x t
  names x t = slot_laws.names kept x t (λ none. none)

  children : (x t : ℕ) → IsChildOf P I x t ↔ IsChildOf P J x t
  children x t = slot_laws.children kept x t (λ none. none)

  count_same : (x : ℕ) → (Reached P I x → x ≢ y) → IsLitterCount P I x ↔ IsLitterCount P J x
  count_same x other = same.count_kept_at P I J x (names x) (children x) (reached x) (nodes.kind x) (λ r. nodes.links x r (other r))

  no_count : Reached P I y → (n : ℕ) → IsLinkCount P I y n → inode_links I y ≡ n + 1 → ¬ IsLitterCount P J y
  no_count r n counted links l =
      let fallen = clears.links in
      let is : n ≡ inode_links J y = omega (arith, links, fallen) in
      l.other (subst (IsLinkCount P J y) is ((same.links_same P I J y (names y) (children y) (nodes.kind y r) n).0 counted))

  pub counts_after : (falling : Option ℕ) → IsFallingLink P I y falling → (rest : List ℕ) → IsListOf (IsLitterCount P I) (falling_left falling ++ rest) → IsListOf (IsLitterCount P J) rest
  counts_after None unreached rest = listed_same (IsLitterCount P I) (IsLitterCount P J) rest (λ x. count_same x (λ r e. unreached (subst (Reached P I) e r)))
  counts_after (Some x) (is, r, (n, counted, links)) rest = listed_less (IsLitterCount P I) (IsLitterCount P J) x rest
      (λ l. no_count r n counted links (subst (IsLitterCount P J) (sym is) l))
      (λ z ne. count_same z (λ _ e. ne (e ∙ is)))

slots_after : (P : ℕ) (I J : List ℕ) (s y : ℕ) (given_back : Option ℕ) → MayClearName P I s y → ClearsName P I J s y → IsPageOfName s given_back → (pages rest others : List ℕ)
    → IsListOf (IsLitterPage P I) ((pages ++ pages_left given_back) ++ others) → IsListOf (IsLitterSlot P I) (slots_left s given_back ++ rest) → IsListOf (IsLitterSlot P J) rest
slots_after P I J s y None may clears at pages rest others listed = slots_less may clears rest
slots_after P I J s y (Some page) may clears at pages rest others listed =
    slots_same may clears page at ((listed.each page).0 (in_front page (pages ++ page ∷ []) others (in_back page pages (page ∷ []) (inl refl)))) rest

pub cleared_law : ClearedLaw
cleared_law P I J s y given_back pages goes i falling others may at fall clears tidy = record {
  of_pointer = λ t. ((λ e. (pointer_same may clears t).0 ((tidy.of_pointer t).0 e)), (λ l. (tidy.of_pointer t).1 ((pointer_same may clears t).1 l)));
  of_slots = slots_after P I J s y given_back may clears at pages others.slots others.pages tidy.of_pages tidy.of_slots;
  of_pages = pages_after may clears (joined (unnamed_left s given_back pages goes i falling) others).pages tidy.of_pages;
  of_inodes = inodes_after may clears (joined (unnamed_left s given_back pages goes i falling) others).inodes (λ x l. tidy.kinds x ((tidy.of_inodes.each x).1 l)) tidy.of_inodes;
  of_counts = counts_after may clears falling fall others.counts tidy.of_counts;
  kinds = λ x among. kind_kept may clears x ((tidy.of_inodes.each x).0 among) (tidy.kinds x among);
  marks = λ j among. mark_kept may clears j ((tidy.of_pages.each j).0 among).in_range (tidy.marks j among);
}
