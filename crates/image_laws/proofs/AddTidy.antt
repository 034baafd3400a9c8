-- A slot of a directory has the number of an inode: but for its links nothing is to be repaired.
use Rattle.std.proofs.Common.{◌≡◌, ◌≢◌, ◌⊎◌, inl, inr, ℕ, ◌+◌, ◌<◌, ◌≤◌, List, ◌∷◌, sym, ap, subst, ◌∙◌, arith}
use Rattle.std.proofs.lemmas.Bool.{cases_eq}
use Rattle.layout.specs.Fields.{word, inode_kind, page_owner, page_offset, slot_inode, slot_pointer, slot_name}
use Rattle.layout.specs.Geometry.{inodes_of, data_pages_of, page_of_slot, inode_word_of, descriptor_word_of, slot_word_of}
use Rattle.layout.specs.Name.{name_in_words}
use Rattle.layout.proofs.Widths.{in_inode, in_descriptor, same_inode_words}
use Rattle.tree_model.specs.PathText.{Route}
use Rattle.image_reading.specs.Reading.{slot_owner, IsLive, Reached, IsReachedSlot, IsRoomOf, pages_of_size}
use Rattle.image_reading.specs.Repairs.{IsPointer, IsLitterSlot, IsLitterPage, IsLitterInode, IsLitterCount}
use Rattle.image_reading.specs.Soundness.{IsCoherent}
use Rattle.image_reading.specs.Tidy.{IsTidied}
use Rattle.image_counts.specs.Entries.{IsSlotOf}
use Rattle.image_counts.proofs.Decided.{room_below}
use Rattle.image_counts.proofs.Paths.{in_range}
use Rattle.image_laws.specs.Add.{CanAdd}
use Rattle.image_laws.specs.Grown.{HasGrown}
use Rattle.image_laws.specs.Stages.{IsReadySlot}
use Rattle.image_laws.proofs.Addresses.{head-ne_slot, descriptor-ne_slot, inode-ne_slot, slot-ne_slot}
use Rattle.image_laws.proofs.AddRoom.{room_cases, room_forward, room_here}
use Rattle.image_laws.proofs.AddSlot as added
use Rattle.image_laws.proofs.KeptInodes.{KeepsInodes, by_inodes}
use Rattle.image_laws.proofs.KeptPages.{KeepsPages, KeepsDescriptors, by_words, held_owner_same, held_back, page_same, litter_page}
use Rattle.image_laws.proofs.KeptSlots as slot_laws
use Rattle.image_laws.proofs.KeptSlots.{KeepsSlots}
use Rattle.image_laws.proofs.Free.{SameEntries}
use Rattle.image_laws.proofs.Naming as naming
use Rattle.image_laws.proofs.Naming.{StoresName}
use Rattle.image_laws.proofs.OnlySlot.{OnlySlot}
use Rattle.image_laws.proofs.OnlySlot as slots
use Rattle.image_laws.proofs.Ready.{IsCleanSlot, tidy_from}
use Rattle.image_laws.proofs.Words.{slot_words-same}

-- From B to C no word that is used has changed but a link word, y's: slot s has a name, and inode i may be a new node.
pub record IsWritten (P : ℕ) (B C : List ℕ) (s i y : ℕ) (name : List ℕ) : Type 0 where
  pub named : StoresName P B C s name
  pub linked : Reached P B y
  pub inodes : (x f : ℕ) → 1 ≤ x → x ≤ inodes_of P → f < 16 → Reached P B x ⊎ (x ≢ i) → (f ≢ 1) ⊎ (x ≢ y) → word C (inode_word_of x f) ≡ word B (inode_word_of x f)

module _ {P : ℕ} {B C D : List ℕ} {p : Route} {d s i y : ℕ} {name : List ℕ} (place : IsReadySlot P B p d s name) (written : IsWritten P B C s i y name)
    (can : CanAdd P C p d s i) (only : OnlySlot P C D s) (stored : slot_inode P D s ≡ i) (others : (a : ℕ) → a ≢ slot_word_of P s 0 → word D a ≡ word C a) (coherent : IsCoherent P D) where
  -- ---- which words stay

  descriptor_same : (j f : ℕ) → j < data_pages_of P → f < 8 → word D (descriptor_word_of P j f) ≡ word B (descriptor_word_of P j f)
  descriptor_same j f lt l8 = others (descriptor_word_of P j f) (descriptor-ne_slot P j f s 0 lt l8) ∙ written.named.descriptors j f lt l8

  inode_same : (x f : ℕ) → 1 ≤ x → x ≤ inodes_of P → f < 16 → Reached P B x ⊎ (x ≢ i) → (f ≢ 1) ⊎ (x ≢ y) → word D (inode_word_of x f) ≡ word B (inode_word_of x f)
  inode_same x f some most lt old links = others (inode_word_of x f) (inode-ne_slot P x f s 0 some most lt) ∙ written.inodes x f some most lt old links

  slot_same : (t f : ℕ) → f < 16 → t ≢ s → word D (slot_word_of P t f) ≡ word B (slot_word_of P t f)
  slot_same t f lt ne = others (slot_word_of P t f) (slot-ne_slot P t f s 0 lt (omega arith) ne) ∙ written.named.slots t f lt (inr ne)

  pointer_same : (t : ℕ) → slot_pointer P D t ≡ slot_pointer P B t
  unfolding slot_pointer
  pointer_same t = only.pointer t ∙ written.named.slots t 1 (omega arith) (inl (omega arith))

  pub nodes : KeepsInodes B D (Reached P B) (λ x. x ≡ y)
  nodes = by_inodes P B D (Reached P B) (λ x. x ≡ y) (in_range P B place.coherent) (λ x f r some most lt links. inode_same x f some most (in_inode B f lt) (inl r) links)

  -- ---- what is reached

  entries : SameEntries P B C
  entries = naming.entries place written.named

  version : word D 1 ≡ word B 1
  version = others 1 (head-ne_slot P s 0 1 (omega arith)) ∙ entries.version

  pub reached_forward : (x : ℕ) → Reached P B x → Reached P D x
  reached_forward x (q, b) = added.reached_forward P C D p d s i can only stored x (q, (entries.same.names q x).0 b)

  pub reached_cases : (x : ℕ) → Reached P D x → Reached P B x ⊎ (x ≡ i)
  reached_cases x r = elim (added.reached_cases P C D p d s i can only stored x r) [ inl (q, b) ↦ inl (q, (entries.same.names q x).1 b) | inr e ↦ inr e ]

  new_reached : Reached P D i
  new_reached = (slot_name P C s ∷ p, added.names_new P C D p d s i can only stored)

  d_reached : Reached P B d
  d_reached = (p, place.slot.path)

  slot_forward : (t : ℕ) → IsReachedSlot P B t → IsReachedSlot P D t
  slot_forward t r =
      let now = (entries.slots t).0 r in
      let o = slots.same_owner only t now.live.held.in_range in
      record {
        owner = subst (Reached P D) (sym o) (added.reached_forward P C D p d s i can only stored (slot_owner P C t) now.owner);
        directory = ap (inode_kind D) o ∙ slots.kind_reached only can.coherent (slot_owner P C t) now.owner ∙ now.directory;
        live = added.live_forward P C D p d s i can only stored t now.live;
      }

  slot_cases : (t : ℕ) → IsReachedSlot P D t → (t ≡ s) ⊎ IsReachedSlot P B t
  slot_cases t r = elim (added.slot_cases P C D p d s i can only stored t r) [ inl e ↦ inl e | inr old ↦ inr ((entries.slots t).1 old) ]

  pub new_owner : slot_owner P D s ≡ d
  new_owner = slots.same_owner only s can.slot.held.in_range ∙ can.slot.owner

  -- the slot of the new name
  pub new_slot : IsReachedSlot P D s
  new_slot = record {
    owner = subst (Reached P D) (sym new_owner) (reached_forward d d_reached);
    directory = ap (inode_kind D) new_owner ∙ nodes.kind d d_reached ∙ place.slot.directory;
    live = added.live_new P C D p d s i can only stored;
  }

  pub old_slot : (t : ℕ) → IsReachedSlot P B t → t ≢ s
  old_slot t r e = r.live.names (ap (slot_inode P B) e ∙ place.slot.free)

  kept_words : KeepsDescriptors P B D (λ j. ⊥)
  kept_words j f lt read none = descriptor_same j f lt (in_descriptor B f read)

  paged : KeepsPages P B D (λ j. ⊥)
  paged = by_words P B D (λ j. ⊥) kept_words

  number_same : (t : ℕ) → t ≢ s → slot_inode P D t ≡ slot_inode P B t
  unfolding slot_inode
  number_same t ne = slot_same t 0 (omega arith) ne

  pub kept : KeepsSlots P B D (λ t. t ≡ s)
  kept = record {
    before = place.coherent;
    after = coherent;
    forth = λ t ne r. slot_forward t r;
    back = λ t ne r. elim (slot_cases t r) [ inl e ↦ absurd (ne e) | inr old ↦ old ];
    owners = λ t ne was is. held_owner_same paged t was.live.held (λ none. none);
    numbers = λ t ne was. number_same t ne;
    kinds = λ x was is. nodes.kind x was;
  }

  room_forth : (x j : ℕ) → IsRoomOf P B x j → IsRoomOf P D x j
  room_forth x j room = room_forward P C D p d s i can only stored x j ((entries.rooms x j).0 room)

  room_back : (x j : ℕ) → IsRoomOf P D x j → ((x ≡ d) × (j ≡ page_of_slot s)) ⊎ IsRoomOf P B x j
  room_back x j room = elim (room_cases P C D p d s i can only stored x j room) [ inl new ↦ inl new | inr old ↦ inr ((entries.rooms x j).1 old) ]

  -- ---- nothing is to be repaired

  module _ (rest : IsCleanSlot P B s) where
    no_pointer : (t : ℕ) → IsPointer P D t → ⊥
    no_pointer t l = rest.but.pointers t (record { held = held_back paged t (λ none. none) l.held; nonzero = λ z. l.nonzero (pointer_same t ∙ z) })

    -- a slot beside the new one
    beside : (t : ℕ) → t ≢ s → page_of_slot t ≡ page_of_slot s → (IsLive P D t → ⊥) → IsLive P B t → ⊥
    unfolding slot_owner
    beside t ne at dead =
        let o : slot_owner P B t ≡ d = ap (page_owner P B) at ∙ place.slot.owner in
        slot_laws.dead_before kept t ne (subst (Reached P B) (sym o) d_reached) (ap (inode_kind B) o ∙ place.slot.directory) dead

    no_slot : (t : ℕ) → IsLitterSlot P D t → ⊥
    no_slot t l = elim (cases_eq t s) [
      | inl e ↦ l.dead (subst (IsLive P D) (sym e) new_slot.live)
      | inr ne ↦
          let j = page_of_slot t in
          elim (room_back (page_owner P D j) j l.page) [
            | inl here ↦ (let (f, lt, nonzero) = l.nonzero in nonzero (slot_same t f lt ne ∙ rest.clean t f here.1 (beside t ne here.1 l.dead) lt))
            | inr old ↦ rest.but.slots t (slot_laws.litter_slot kept t ne (subst (λ x. IsRoomOf P B x j) (paged.owner j (room_below P D (page_owner P D j) j l.page) (λ none. none)) old) (λ f lt. slot_same t f lt ne) l)
          ]
    ]

    page_cases : (j : ℕ) → IsLitterPage P D j → j ≡ page_of_slot s
    page_cases j l = rest.but.pages j (litter_page P B D (λ j. ⊥) kept_words version kept.kinds
        (λ k lt none r. reached_forward (page_owner P B k) r)
        (λ k none file. subst (λ z. page_offset P B k < pages_of_size z) (sym (nodes.size (page_owner P B k) file.owner)) file.below)
        (λ k lt none room. room_forth (page_owner P B k) k room)
        j (λ none. none) l)

    -- the slot's page is kept
    no_slot_page : IsLitterPage P D (page_of_slot s) → ⊥
    unfolding slot_owner
    no_slot_page l = l.free (inr (subst (λ x. IsRoomOf P D x (page_of_slot s)) (sym new_owner) (room_here P C D p d s i can only stored)))

    no_inode : (x : ℕ) → IsLitterInode P D x → ⊥
    no_inode x l =
        let (f, lt, nonzero) = l.nonzero in
        let read = subst (λ n. f < n) (same_inode_words B D version) lt in
        let other : x ≢ i = λ e. l.unreached (subst (Reached P D) (sym e) new_reached) in
        let links : x ≢ y = λ e. l.unreached (subst (Reached P D) (sym e) (reached_forward y written.linked)) in
        rest.but.inodes x (record {
          least = l.least;
          most = l.most;
          unreached = λ r. l.unreached (reached_forward x r);
          nonzero = (f, read, λ z. nonzero (inode_same x f l.least l.most (in_inode B f read) (inr other) (inr links) ∙ z));
        })

    pub tidy_but_links : ((x : ℕ) → IsLitterCount P D x → ⊥) → IsTidied P D
    tidy_but_links no_count = tidy_from P D (page_of_slot s) coherent (record { pointers = no_pointer; slots = no_slot; pages = page_cases; inodes = no_inode; counts = no_count }) no_slot_page

  -- ---- what an index holds

  name_same : (t : ℕ) → t ≢ s → slot_name P D t ≡ slot_name P B t
  unfolding slot_name
  name_same t ne = ap name_in_words (slot_words-same P B D t (λ f lt. slot_same t (2 + f) (omega arith) ne))

  entry_cases : (x t : ℕ) → IsSlotOf P D x t → IsSlotOf P B x t ⊎ ((x ≡ d) × (t ≡ s))
  entry_cases x t h = elim (cases_eq t s) [
    | inl e ↦ inr (sym h.1 ∙ ap (slot_owner P D) e ∙ new_owner, e)
    | inr ne ↦ inl ((slot_laws.entries kept x t ne).1 h)
  ]

  pub grown : HasGrown P B D d s i name
  unfolding slot_owner
  grown = record {
    reached = λ x. (reached_cases x, λ h. elim h [ inl old ↦ reached_forward x old | inr e ↦ subst (Reached P D) (sym e) new_reached ]);
    entries = λ x t. (
      entry_cases x t,
      λ h. elim h [
        | inl old ↦ (slot_laws.entries kept x t (old_slot t old.0)).0 old
        | inr new ↦ subst (λ z. IsSlotOf P D z t) (sym new.0) (subst (IsSlotOf P D d) (sym new.1) (new_slot, new_owner))
      ],
    );
    pages = λ x j. (
      (λ room. elim (room_back x j room) [ inl new ↦ inr new | inr old ↦ inl old ]),
      (λ h. elim h [
        | inl old ↦ room_forth x j old
        | inr new ↦ subst (λ z. IsRoomOf P D z j) (sym new.0) (subst (IsRoomOf P D d) (sym new.1) (room_here P C D p d s i can only stored))
      ]),
    );
    files = λ x k j r file. page_same paged x k j (λ none. none);
    owner = new_owner;
    owners = λ j lt ne. paged.owner j lt (λ none. none);
    new_name = slots.same_name only s ∙ naming.name_is place written.named;
    new_inode = stored;
    names = λ t r. name_same t (old_slot t r);
    inodes = λ t r. number_same t (old_slot t r);
  }
