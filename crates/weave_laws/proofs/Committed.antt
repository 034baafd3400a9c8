-- A slot takes its number: it isn't to be repaired any more, nor is its page, and each other slot and each other page is where it was before.
use Rattle.std.proofs.Common.{◌≡◌, ◌≢◌, ◌↔◌, ◌⊎◌, inl, inr, ℕ, ◌+◌, ◌<◌, ◌≤◌, List, ◌∷◌, refl, sym, ap, subst, ◌∙◌, arith}
use Rattle.std.proofs.lemmas.Bool.{cases_eq}
use Rattle.layout.specs.Geometry.{inodes_of, data_pages_of, page_of_slot, inode_word_of, descriptor_word_of, slot_word_of}
use Rattle.layout.specs.Fields.{word, inode_words, inode_kind, page_owner, page_kind, slot_inode, slot_name}
use Rattle.layout.proofs.Widths.{in_inode, in_descriptor}
use Rattle.tree_model.specs.PathText.{Route}
use Rattle.image_reading.specs.Counts.{Count, IsListOf}
use Rattle.image_reading.specs.Litter.{IsZeroSlot}
use Rattle.image_reading.specs.Reading.{IsDirectory, slot_owner, IsLive, Reached, IsReachedSlot, IsRoomOf, IsNameOf, IsChildOf}
use Rattle.image_reading.specs.Repairs.{IsKept, IsPointer, IsLitterSlot, IsLitterPage, IsLitterInode, IsLitterCount}
use Rattle.image_reading.specs.Soundness.{IsCoherent}
use Rattle.image_counts.proofs.Decided.{room_owner}
use Rattle.image_laws.specs.Add.{CanAdd}
use Rattle.image_laws.specs.Create.{committed}
use Rattle.image_laws.proofs.Adds.{only, stored, add_law}
use Rattle.image_laws.proofs.Addresses.{descriptor-ne_slot, inode-ne_slot, slot-ne_slot}
use Rattle.image_laws.proofs.AddRoom.{room_cases, room_forward, room_here}
use Rattle.image_laws.proofs.AddSlot as added
use Rattle.image_laws.proofs.KeptPages.{KeepsPages, KeepsDescriptors, by_words}
use Rattle.image_laws.proofs.KeptSlots as slot_laws
use Rattle.image_laws.proofs.KeptSlots.{KeepsSlots, count_gained}
use Rattle.image_laws.proofs.OnlySlot.{OnlySlot}
use Rattle.image_laws.proofs.OnlySlot as slots
use Rattle.image_laws.proofs.Paths.{reached-le}
use Rattle.image_laws.proofs.Words.{other_word}
use Rattle.weave_laws.proofs.Listed.{listed_same, listed_less}
use Rattle.weave_laws.proofs.Same as same

-- From I to J slot s takes number i.
pub record TakesNumber (P : ℕ) (I J : List ℕ) (s i : ℕ) : Type 0 where
  pub only : OnlySlot P I J s
  pub stored : slot_inode P J s ≡ i
  pub words : (a : ℕ) → a ≢ slot_word_of P s 0 → word J a ≡ word I a
  pub coherent : IsCoherent P J

module _ {P : ℕ} {I J : List ℕ} {p : Route} {d s i : ℕ} (can : CanAdd P I p d s i) (takes : TakesNumber P I J s i) where
  -- ---- which words stay

  descriptors : KeepsDescriptors P I J (λ j. ⊥)
  descriptors j f lt read none = takes.words (descriptor_word_of P j f) (descriptor-ne_slot P j f s 0 lt (in_descriptor I f read))

  pub paged : KeepsPages P I J (λ j. ⊥)
  paged = by_words P I J (λ j. ⊥) descriptors

  slot_words_same : (t f : ℕ) → f < 16 → t ≢ s → word J (slot_word_of P t f) ≡ word I (slot_word_of P t f)
  slot_words_same t f lt ne = takes.words (slot_word_of P t f) (slot-ne_slot P t f s 0 lt (omega arith) ne)

  inode_words_same : (x f : ℕ) → 1 ≤ x → x ≤ inodes_of P → f < inode_words I → word J (inode_word_of x f) ≡ word I (inode_word_of x f)
  inode_words_same x f least most lt = takes.words (inode_word_of x f) (inode-ne_slot P x f s 0 least most (in_inode I f lt))

  version : word J 1 ≡ word I 1
  version = takes.only.head 1 (omega arith)

  -- ---- what is reached

  pub reached_forth : (x : ℕ) → Reached P I x → Reached P J x
  reached_forth x = added.reached_forward P I J p d s i can takes.only takes.stored x

  pub reached_cases : (x : ℕ) → Reached P J x → Reached P I x ⊎ (x ≡ i)
  reached_cases x = added.reached_cases P I J p d s i can takes.only takes.stored x

  pub reached_same : (x : ℕ) → x ≢ i → Reached P I x ↔ Reached P J x
  reached_same x ne = (reached_forth x, λ r. elim (reached_cases x r) [ inl old ↦ old | inr e ↦ absurd (ne e) ])

  pub new_reached : Reached P J i
  new_reached = (slot_name P I s ∷ p, added.names_new P I J p d s i can takes.only takes.stored)

  pub d_reached : Reached P I d
  d_reached = (p, can.slot.path)

  pub kind_same : (x : ℕ) → Reached P I x → inode_kind J x ≡ inode_kind I x
  kind_same = slots.kind_reached takes.only can.coherent

  slot_forth : (t : ℕ) → IsReachedSlot P I t → IsReachedSlot P J t
  slot_forth t r =
      let owner = slots.same_owner takes.only t r.live.held.in_range in
      record {
        owner = subst (Reached P J) (sym owner) (reached_forth (slot_owner P I t) r.owner);
        directory = ap (inode_kind J) owner ∙ kind_same (slot_owner P I t) r.owner ∙ r.directory;
        live = added.live_forward P I J p d s i can takes.only takes.stored t r.live;
      }

  new_owner : slot_owner P J s ≡ d
  new_owner = slots.same_owner takes.only s can.slot.held.in_range ∙ can.slot.owner

  pub new_slot : IsReachedSlot P J s
  new_slot = record {
    owner = subst (Reached P J) (sym new_owner) (reached_forth d d_reached);
    directory = ap (inode_kind J) new_owner ∙ kind_same d d_reached ∙ can.slot.directory;
    live = added.live_new P I J p d s i can takes.only takes.stored;
  }

  pub old_slot : (t : ℕ) → IsReachedSlot P I t → t ≢ s
  old_slot t r e = r.live.names (ap (slot_inode P I) e ∙ can.slot.free)

  kept : KeepsSlots P I J (λ t. t ≡ s)
  kept = record {
    before = can.coherent;
    after = takes.coherent;
    forth = λ t other r. slot_forth t r;
    back = λ t other r. elim (added.slot_cases P I J p d s i can takes.only takes.stored t r) [ inl e ↦ absurd (other e) | inr old ↦ old ];
    owners = λ t other was is. slots.same_owner takes.only t was.live.held.in_range;
    numbers = λ t other was. takes.only.inode t other;
    kinds = λ x was is. kind_same x was;
  }

  pub pointer_same : (t : ℕ) → IsPointer P I t ↔ IsPointer P J t
  pointer_same t = same.pointer_same P I J (λ j. ⊥) paged t (λ none. none) (takes.only.pointer t)

  -- ---- slots and pages

  -- a slot that is to be repaired stands in a page that d has a name in
  pub slot_room : IsLitterSlot P I s → IsRoomOf P I d (page_of_slot s)
  unfolding slot_owner
  slot_room l = subst (λ x. IsRoomOf P I x (page_of_slot s)) can.slot.owner l.page

  rooms_beside : (x j : ℕ) → j ≢ page_of_slot s → IsRoomOf P I x j ↔ IsRoomOf P J x j
  rooms_beside x j other = (
    room_forward P I J p d s i can takes.only takes.stored x j,
    λ room. elim (room_cases P I J p d s i can takes.only takes.stored x j room) [ inl here ↦ absurd (other here.1) | inr old ↦ old ],
  )

  owner_back : (j : ℕ) → j < data_pages_of P → Reached P J (page_owner P I j) → Reached P I (page_owner P I j)
  owner_back j lt r = elim (reached_cases (page_owner P I j) r) [
    | inl old ↦ old
    | inr e ↦ elim can.node [ inl new ↦ absurd (new.no_pages j lt e) | inr file ↦ subst (Reached P I) (sym e) file.reached ]
  ]

  page_same : (Page : ℕ → Type 0) → ((x j : ℕ) → ¬ Page j → IsRoomOf P I x j ↔ IsRoomOf P J x j) → (j : ℕ) → ¬ Page j → IsLitterPage P I j ↔ IsLitterPage P J j
  page_same Page = same.page_same P I J Page (λ j f lt read other. descriptors j f lt read (λ none. none)) version kind_same (λ x r. takes.only.node_size x (reached-le P I can.coherent x r)) reached_forth owner_back

  pub mark_kept : (j : ℕ) → j < data_pages_of P → (page_owner P I j ≢ 0) ⊎ (page_kind P I j ≢ 0) → (page_owner P J j ≢ 0) ⊎ (page_kind P J j ≢ 0)
  mark_kept j lt mark = elim mark [
    | inl owned ↦ inl (λ z. owned (sym (takes.only.owner j lt) ∙ z))
    | inr kind ↦ inr (λ z. kind (sym (takes.only.kind j lt) ∙ z))
  ]

  -- a page that d has a name in already
  module _ (there : IsRoomOf P I d (page_of_slot s)) where
    rooms_same : (x j : ℕ) → IsRoomOf P I x j ↔ IsRoomOf P J x j
    rooms_same x j = (
      room_forward P I J p d s i can takes.only takes.stored x j,
      λ room. elim (room_cases P I J p d s i can takes.only takes.stored x j room) [
        | inl here ↦ subst (λ z. IsRoomOf P I z j) (sym here.0) (subst (IsRoomOf P I d) (sym here.1) there)
        | inr old ↦ old
      ],
    )

    pub slots_less : (rest : List ℕ) → IsListOf (IsLitterSlot P I) (s ∷ rest) → IsListOf (IsLitterSlot P J) rest
    slots_less rest = listed_less (IsLitterSlot P I) (IsLitterSlot P J) s rest (λ l. l.dead new_slot.live)
        (λ t ne. same.slot_same kept paged t ne (λ none. none) (λ x. rooms_same x (page_of_slot t)) (λ f lt. slot_words_same t f lt ne))

    pub pages_same : (rest : List ℕ) → IsListOf (IsLitterPage P I) rest → IsListOf (IsLitterPage P J) rest
    pages_same rest = listed_same (IsLitterPage P I) (IsLitterPage P J) rest (λ j. page_same (λ k. ⊥) (λ x k other. rooms_same x k) j (λ none. none))

  -- a new page, whose other slots are zero
  module _ (page : ℕ) (at : page_of_slot s ≡ page) (zeros : (t : ℕ) → page_of_slot t ≡ page → t ≢ s → IsZeroSlot P I t) where
    no_page : ¬ IsLitterPage P J page
    no_page l =
        let here : IsRoomOf P J d page = subst (IsRoomOf P J d) at (room_here P I J p d s i can takes.only takes.stored) in
        l.free (inr (subst (λ x. IsRoomOf P J x page) (sym (room_owner P J d page here)) here))

    pub pages_less : (rest : List ℕ) → IsListOf (IsLitterPage P I) (page ∷ rest) → IsListOf (IsLitterPage P J) rest
    pages_less rest = listed_less (IsLitterPage P I) (IsLitterPage P J) page rest no_page (page_same (λ k. k ≡ page) (λ x k other. rooms_beside x k (λ e. other (e ∙ at))))

    no_slot : (t : ℕ) → page_of_slot t ≡ page → ¬ IsLitterSlot P J t
    no_slot t e l = elim (cases_eq t s) [
      | inl is ↦ l.dead (subst (IsLive P J) (sym is) new_slot.live)
      | inr ne ↦ (let (f, lt, nonzero) = l.nonzero in nonzero (slot_words_same t f lt ne ∙ zeros t e ne f lt))
    ]

    slot_same : ¬ IsKept P I page → (t : ℕ) → IsLitterSlot P I t ↔ IsLitterSlot P J t
    slot_same unkept t = elim (cases_eq (page_of_slot t) page) [
      | inl e ↦ (
        λ l. absurd (unkept (inr (subst (λ j. IsRoomOf P I (page_owner P I j) j) e l.page))),
        λ l. absurd (no_slot t e l),
      )
      | inr other ↦
          let ne : t ≢ s = λ e. other (ap page_of_slot e ∙ at) in
          same.slot_same kept paged t ne (λ none. none) (λ x. rooms_beside x (page_of_slot t) (λ e. other (e ∙ at))) (λ f lt. slot_words_same t f lt ne)
    ]

    pub slots_same : ¬ IsKept P I page → (rest : List ℕ) → IsListOf (IsLitterSlot P I) rest → IsListOf (IsLitterSlot P J) rest
    slots_same unkept rest = listed_same (IsLitterSlot P I) (IsLitterSlot P J) rest (slot_same unkept)

  -- ---- inodes

  inode_same : (x : ℕ) → Reached P I x ↔ Reached P J x → IsLitterInode P I x ↔ IsLitterInode P J x
  inode_same x reached = same.inode_same P I J x version reached (λ f least most lt unreached. inode_words_same x f least most lt)

  pub inodes_less : (rest : List ℕ) → IsListOf (IsLitterInode P I) (i ∷ rest) → IsListOf (IsLitterInode P J) rest
  inodes_less rest = listed_less (IsLitterInode P I) (IsLitterInode P J) i rest (λ l. l.unreached new_reached) (λ x ne. inode_same x (reached_same x ne))

  pub inodes_same : Reached P I i → (rest : List ℕ) → IsListOf (IsLitterInode P I) rest → IsListOf (IsLitterInode P J) rest
  inodes_same old rest = listed_same (IsLitterInode P I) (IsLitterInode P J) rest (λ x. inode_same x (
    reached_forth x,
    λ r. elim (reached_cases x r) [ inl was ↦ was | inr e ↦ subst (Reached P I) (sym e) old ],
  ))

  pub kind_kept : (x : ℕ) → IsLitterInode P I x → inode_kind I x ≢ 0 → inode_kind J x ≢ 0
  kind_kept x l kind z = kind (sym (takes.only.node_kind x l.most) ∙ z)

  -- ---- links

  names_same : (x : ℕ) → x ≢ i → (t : ℕ) → IsNameOf P I x t ↔ IsNameOf P J x t
  names_same x ne t = (
    (λ n. (slot_laws.names kept x t (old_slot t n.slot)).0 n),
    (λ n. (slot_laws.names kept x t (λ e. ne (sym n.inode ∙ ap (slot_inode P J) e ∙ takes.stored))).1 n),
  )

  children_same : (x : ℕ) → ¬ IsChildOf P J x s → (t : ℕ) → IsChildOf P I x t ↔ IsChildOf P J x t
  children_same x none t = (
    (λ n. (slot_laws.children kept x t (old_slot t n.slot)).0 n),
    (λ n. (slot_laws.children kept x t (λ e. none (subst (IsChildOf P J x) e n))).1 n),
  )

  pub count_same : (x : ℕ) → x ≢ i → ¬ IsChildOf P J x s → IsLitterCount P I x ↔ IsLitterCount P J x
  count_same x ne none = same.count_kept_at P I J x (names_same x ne) (children_same x none) (reached_same x ne) (kind_same x) (λ r. takes.only.links x (reached-le P I can.coherent x r))

  -- the new name is a child of d alone, where it names a directory
  pub child_only : (x : ℕ) → IsChildOf P J x s → (x ≡ d) × IsDirectory I i
  child_only x n = (sym n.owner ∙ new_owner, sym (takes.only.node_kind i can.most) ∙ ap (inode_kind J) (sym takes.stored) ∙ n.directory)

  pub names_more : (n : ℕ) → Count (IsNameOf P I i) n → Count (IsNameOf P J i) (n + 1)
  names_more n = count_gained (IsNameOf P I i) (IsNameOf P J i) s n (slot_laws.names kept i) (λ was. old_slot s was.slot refl) (record { slot = new_slot; inode = takes.stored })

  pub children_more : IsDirectory I i → (n : ℕ) → Count (IsChildOf P I d) n → Count (IsChildOf P J d) (n + 1)
  children_more two n = count_gained (IsChildOf P I d) (IsChildOf P J d) s n (slot_laws.children kept d) (λ was. old_slot s was.slot refl)
      (record { slot = new_slot; owner = new_owner; directory = ap (inode_kind J) takes.stored ∙ takes.only.node_kind i can.most ∙ two })

  pub child_before : (x t : ℕ) → t ≢ s → IsChildOf P J x t → IsChildOf P I x t
  child_before x t ne n = (slot_laws.children kept x t ne).1 n

pub number_taken : (P : ℕ) (I : List ℕ) (p : Route) (d s i : ℕ) → CanAdd P I p d s i → TakesNumber P I (committed P I s i) s i
number_taken P I p d s i can = record {
  only = only P I s i can.coherent;
  stored = stored P I s i can.coherent can.slot.held.in_range;
  words = other_word I (slot_word_of P s 0) i;
  coherent = (add_law P I p d s i can).coherent;
}
