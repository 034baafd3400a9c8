-- One file's bytes, pages and size may change: what stays beside them, and that nothing is to be repaired then.
use Rattle.std.proofs.Common.{◌≡◌, ◌≢◌, ◌↔◌, ◌⊎◌, inl, inr, ℕ, ◌+◌, ◌<◌, ◌≤◌, List, sym, ap, subst, ◌∙◌, arith}
use Rattle.std.proofs.lemmas.Bool.{cases_eq, cases_lt}
use Rattle.layout.specs.Fields.{word, inode_kind, inode_links, inode_size, page_owner, page_kind, page_offset, slot_inode, slot_pointer, slot_name}
use Rattle.layout.specs.Geometry.{inodes_of, data_pages_of, page_of_slot, inode_word_of, descriptor_word_of, slot_word_of}
use Rattle.layout.proofs.GeometryLaws.{page_of_slot_below, slot_below}
use Rattle.layout.proofs.Widths.{in_inode, in_descriptor, descriptor_field_read, same_inode_words}
use Rattle.layout.specs.Name.{name_in_words}
use Rattle.tree_model.specs.PathText.{Route}
use Rattle.image_reading.specs.Reading.{HasBytes, slot_owner, IsHeld, IsLive, Names, Reached, IsReachedSlot, IsNameOf, IsChildOf, IsLinkCount, IsRoomOf, pages_of_size}
use Rattle.image_reading.specs.Repairs.{IsKeptFilePage, IsPointer, IsLitterSlot, IsLitterPage, IsLitterInode, IsLitterCount}
use Rattle.image_reading.specs.Soundness.{Rule, IsCoherent}
use Rattle.image_reading.specs.Tidy.{IsTidied}
use Rattle.image_reading.proofs.Credits.{count_same}
use Rattle.image_counts.specs.Entries.{IsEntryOf, IsSlotOf}
use Rattle.image_counts.proofs.Counting.{none_counted}
use Rattle.image_counts.proofs.Decided.{room_owner}
use Rattle.image_laws.proofs.KeptPages as pages
use Rattle.image_laws.proofs.KeptPages.{KeepsPages, KeepsDescriptors, by_words, held_owner_same, litter_page}
use Rattle.image_laws.proofs.KeptSlots as slot_laws
use Rattle.image_laws.proofs.KeptSlots.{KeepsSlots}
use Rattle.image_laws.proofs.Paths.{reached_pos, reached-le}
use Rattle.image_laws.proofs.Ready.{tidy_but, tidy_from, no_pointer}
use Rattle.image_laws.proofs.Words.{slot_words-same}

-- From W to K nothing changes but the size of file i, the descriptors of some pages, which are free or the file's, and words
-- that no slot of a directory has.
pub record KeepsOthers (P : ℕ) (W K : List ℕ) (i : ℕ) (Changes : ℕ → Type 0) : Type 0 where
  pub tidy : IsTidied P W
  pub reached : Reached P W i
  pub file : HasBytes W i
  pub coherent : IsCoherent P K
  pub names : (q : Route) (x : ℕ) → Names P W q x ↔ Names P K q x
  pub version : word K 1 ≡ word W 1
  pub inodes : (x f : ℕ) → 1 ≤ x → x ≤ inodes_of P → f < 16 → (x ≢ i) ⊎ (f ≢ 2) → word K (inode_word_of x f) ≡ word W (inode_word_of x f)
  pub slots : (t f : ℕ) → IsHeld P W t → f < 16 → word K (slot_word_of P t f) ≡ word W (slot_word_of P t f)
  pub descriptors : (j f : ℕ) → j < data_pages_of P → f < 8 → (Changes j → ⊥) → word K (descriptor_word_of P j f) ≡ word W (descriptor_word_of P j f)
  pub before : (j : ℕ) → Changes j → (page_owner P W j ≡ 0) ⊎ (page_owner P W j ≡ i)
  pub after : (j : ℕ) → Changes j → (page_owner P K j ≡ 0) ⊎ (page_owner P K j ≡ i)

-- a page of a file of a tidy image is below its end
pub tidy_below : (P : ℕ) (W : List ℕ) (i : ℕ) → IsTidied P W → Reached P W i → HasBytes W i → (j : ℕ) → j < data_pages_of P → page_owner P W j ≡ i → page_offset P W j < pages_of_size (inode_size W i)
unfolding page_owner
tidy_below P W i tidy reached file j lt own = elim (cases_lt (page_offset P W j) (pages_of_size (inode_size W i))) [
  | inl low ↦ low
  | inr past ↦ absurd (none_counted (IsLitterPage P W) tidy.repaired.of_pages j (record {
    in_range = lt;
    free = λ kept. elim kept [
      | inl page ↦ (let low = subst (λ x. page_offset P W j < pages_of_size (inode_size W x)) own page.below in omega (arith, past, low))
      | inr room ↦ (let two = room.directory in let one = subst (HasBytes W) (sym own) file in omega (arith, one, two))
    ];
    nonzero = (0, descriptor_field_read W 0 (omega arith), λ zero. reached_pos P W i reached (sym own ∙ zero));
  }))
]

module _ (P : ℕ) (W K : List ℕ) (i : ℕ) (Changes : ℕ → Type 0) (h : KeepsOthers P W K i Changes) where
  descriptors_read : KeepsDescriptors P W K Changes
  descriptors_read j f lt few none = h.descriptors j f lt (in_descriptor W f few) none

  pub paged : KeepsPages P W K Changes
  paged = by_words P W K Changes descriptors_read

  -- ---- inodes

  pub in_table : (x : ℕ) → Reached P W x → (1 ≤ x) × (x ≤ inodes_of P)
  in_table x r = ((let some = reached_pos P W x r in omega (arith, some)), reached-le P W h.tidy.coherent x r)

  pub inode_kind_same : (x : ℕ) → 1 ≤ x → x ≤ inodes_of P → inode_kind K x ≡ inode_kind W x
  unfolding inode_kind
  inode_kind_same x some high = h.inodes x 0 some high (omega arith) (inr (λ e. omega (arith, e)))

  links_same : (x : ℕ) → 1 ≤ x → x ≤ inodes_of P → inode_links K x ≡ inode_links W x
  unfolding inode_links
  links_same x some high = h.inodes x 1 some high (omega arith) (inr (λ e. omega (arith, e)))

  pub size_same : (x : ℕ) → 1 ≤ x → x ≤ inodes_of P → x ≢ i → inode_size K x ≡ inode_size W x
  unfolding inode_size
  size_same x some high ne = h.inodes x 2 some high (omega arith) (inl ne)

  pub reached_kind : (x : ℕ) → Reached P W x → inode_kind K x ≡ inode_kind W x
  reached_kind x r = let (some, high) = in_table x r in inode_kind_same x some high

  pub forth : (x : ℕ) → Reached P W x → Reached P K x
  forth x (q, b) = (q, (h.names q x).0 b)

  pub back : (x : ℕ) → Reached P K x → Reached P W x
  back x (q, b) = (q, (h.names q x).1 b)

  -- ---- slots

  -- a page of a directory doesn't change
  of_file : (j : ℕ) → j < data_pages_of P → page_owner P W j ≡ i → page_kind P W j ≡ 1
  of_file j lt own = (h.tidy.coherent Rule.page_kinds j).file lt (subst (Reached P W) (sym own) h.reached) (subst (HasBytes W) (sym own) h.file)

  of_file_after : (j : ℕ) → j < data_pages_of P → page_owner P K j ≡ i → page_kind P K j ≡ 1
  of_file_after j lt own = (h.coherent Rule.page_kinds j).file lt (subst (Reached P K) (sym own) (forth i h.reached)) (subst (HasBytes K) (sym own) (reached_kind i h.reached ∙ h.file))

  held_stays : (t : ℕ) → IsHeld P W t → Changes (page_of_slot t) → ⊥
  unfolding slot_owner
  held_stays t held c = elim (h.before (page_of_slot t) c) [
    | inl free ↦ held.owned free
    | inr own ↦ let one = of_file (page_of_slot t) (page_of_slot_below P t held.in_range) own in let two = held.kind in omega (arith, one, two)
  ]

  stayed : (t : ℕ) → IsHeld P K t → Changes (page_of_slot t) → ⊥
  unfolding slot_owner
  stayed t held c = elim (h.after (page_of_slot t) c) [
    | inl free ↦ held.owned free
    | inr own ↦ let one = of_file_after (page_of_slot t) (page_of_slot_below P t held.in_range) own in let two = held.kind in omega (arith, one, two)
  ]

  held_forth : (t : ℕ) → IsHeld P W t → IsHeld P K t
  held_forth t held = pages.held_forth paged t (held_stays t held) held

  held_back : (t : ℕ) → IsHeld P K t → IsHeld P W t
  held_back t held = pages.held_back paged t (stayed t held) held

  number_same : (t : ℕ) → IsHeld P W t → slot_inode P K t ≡ slot_inode P W t
  unfolding slot_inode
  number_same t held = h.slots t 0 held (omega arith)

  pointer_same : (t : ℕ) → IsHeld P W t → slot_pointer P K t ≡ slot_pointer P W t
  unfolding slot_pointer
  pointer_same t held = h.slots t 1 held (omega arith)

  live_forth : (t : ℕ) → IsLive P W t → IsLive P K t
  live_forth t live = record {
    held = held_forth t live.held;
    names = λ e. live.names (sym (number_same t live.held) ∙ e);
    stays = λ q held points same. let was = held_back q held in live.stays q was (sym (pointer_same q was) ∙ points) (sym (number_same q was) ∙ same ∙ number_same t live.held);
  }

  live_back : (t : ℕ) → IsLive P K t → IsLive P W t
  live_back t live =
      let was = held_back t live.held in record {
        held = was;
        names = λ e. live.names (number_same t was ∙ e);
        stays = λ q held points same. live.stays q (held_forth q held) (pointer_same q held ∙ points) (number_same q held ∙ same ∙ sym (number_same t was));
      }

  slot_forth : (t : ℕ) → IsReachedSlot P W t → IsReachedSlot P K t
  slot_forth t r = let own = held_owner_same paged t r.live.held (held_stays t r.live.held) in record {
    owner = subst (Reached P K) (sym own) (forth (slot_owner P W t) r.owner);
    directory = ap (inode_kind K) own ∙ reached_kind (slot_owner P W t) r.owner ∙ r.directory;
    live = live_forth t r.live;
  }

  slot_back : (t : ℕ) → IsReachedSlot P K t → IsReachedSlot P W t
  slot_back t r =
      let held = held_back t r.live.held in
      let own = held_owner_same paged t held (held_stays t held) in
      let was = subst (Reached P W) own (back (slot_owner P K t) r.owner) in record {
        owner = was;
        directory = sym (reached_kind (slot_owner P W t) was) ∙ ap (inode_kind K) (sym own) ∙ r.directory;
        live = live_back t r.live;
      }

  -- no slot changes
  kept : KeepsSlots P W K (λ t. ⊥)
  kept = record {
    before = h.tidy.coherent;
    after = h.coherent;
    forth = λ t none r. slot_forth t r;
    back = λ t none r. slot_back t r;
    owners = λ t none was is. held_owner_same paged t was.live.held (held_stays t was.live.held);
    numbers = λ t none was. number_same t was.live.held;
    kinds = λ x was is. reached_kind x was;
  }

  rooms : (d j : ℕ) → IsRoomOf P W d j ↔ IsRoomOf P K d j
  rooms = slot_laws.rooms kept (λ t none. none)

  -- ---- what an index holds

  pub number_kept : (t : ℕ) → IsReachedSlot P W t → slot_inode P K t ≡ slot_inode P W t
  number_kept t r = number_same t r.live.held

  pub name_kept : (t : ℕ) → IsReachedSlot P W t → slot_name P K t ≡ slot_name P W t
  unfolding slot_name
  name_kept t r = ap name_in_words (slot_words-same P W K t (λ f lt. h.slots t (2 + f) r.live.held (omega (arith, lt))))

  pub slots_kept : (d s : ℕ) → IsSlotOf P K d s ↔ IsSlotOf P W d s
  slots_kept d s = let same = slot_laws.entries kept d s (λ none. none) in (same.1, same.0)

  pub entries_kept : (d s : ℕ) (bytes : List ℕ) → IsEntryOf P K d bytes s ↔ IsEntryOf P W d bytes s
  entries_kept d s bytes = (
    (λ e. let (slot, owner) = (slots_kept d s).0 (e.slot, e.owner) in record { slot = slot; owner = owner; name = sym (name_kept s slot) ∙ e.name }),
    (λ e. let (slot, owner) = (slots_kept d s).1 (e.slot, e.owner) in record { slot = slot; owner = owner; name = name_kept s e.slot ∙ e.name }),
  )

  -- ---- nothing to be repaired

  no_pointers : (t : ℕ) → IsPointer P K t → ⊥
  no_pointers t l = let was = held_back t l.held in l.nonzero (pointer_same t was ∙ no_pointer P W 0 (tidy_but P W 0 h.tidy) t was)

  -- a slot beside a live one is held
  held_beside : (t d : ℕ) → IsRoomOf P W d (page_of_slot t) → IsHeld P W t
  unfolding slot_owner
  held_beside t d room = let (u, at, own, live) = room.slot in record {
    in_range = slot_below P t (subst (λ j. j < data_pages_of P) at (page_of_slot_below P u live.held.in_range));
    kind = ap (page_kind P W) (sym at) ∙ live.held.kind;
    owned = λ e. live.held.owned (ap (page_owner P W) at ∙ e);
  }

  no_slot : (t : ℕ) → IsLitterSlot P K t → ⊥
  no_slot t l =
      let here = page_of_slot t in
      let was = (rooms (page_owner P K here) here).1 l.page in
      (tidy_but P W 0 h.tidy).slots t (slot_laws.litter_slot kept t (λ none. none) (subst (λ d. IsRoomOf P W d here) (sym (room_owner P W (page_owner P K here) here was)) was)
      (λ f lt. h.slots t f (held_beside t (page_owner P K here) was) lt) l)

  same_count : (x n : ℕ) → Reached P W x → IsLinkCount P W x n → IsLinkCount P K x n
  same_count x n r count = record {
    file = λ one. count_same (IsNameOf P W x) (IsNameOf P K x) n (λ t. slot_laws.names kept x t (λ none. none)) (count.file (sym (reached_kind x r) ∙ one));
    directory = λ two.
        let (m, children, e) = count.directory (sym (reached_kind x r) ∙ two) in
        (m, count_same (IsChildOf P W x) (IsChildOf P K x) m (λ t. slot_laws.children kept x t (λ none. none)) children, e);
  }

  no_inode : (x : ℕ) → IsLitterInode P K x → ⊥
  no_inode x l =
      let (f, lt, nonzero) = l.nonzero in
      let other : x ≢ i = λ e. l.unreached (forth x (subst (Reached P W) (sym e) h.reached)) in
      (tidy_but P W 0 h.tidy).inodes x (record {
        least = l.least;
        most = l.most;
        unreached = λ r. l.unreached (forth x r);
        nonzero = (f, subst (λ n. f < n) (same_inode_words W K h.version) lt, λ e. nonzero (h.inodes x f l.least l.most (in_inode K f lt) (inl other) ∙ e));
      })

  no_count : (x : ℕ) → IsLitterCount P K x → ⊥
  no_count x l =
      let r = back x l.reached in
      let (some, high) = in_table x r in
      (tidy_but P W 0 h.tidy).counts x (record {
        reached = r;
        other = λ count. l.other (subst (IsLinkCount P K x) (sym (links_same x some high)) (same_count x (inode_links W x) r count));
      })

  -- the file's pages that don't change stay below its end
  module _ (below : (j : ℕ) → j < data_pages_of P → (Changes j → ⊥) → page_owner P W j ≡ i → page_offset P W j < pages_of_size (inode_size K i)) where
    below_size : (j : ℕ) → (Changes j → ⊥) → IsKeptFilePage P W j → page_offset P W j < pages_of_size (inode_size K (page_owner P W j))
    below_size j none kept = elim (cases_eq (page_owner P W j) i) [
      | inl own ↦ subst (λ x. page_offset P W j < pages_of_size (inode_size K x)) (sym own) (below j kept.in_range none own)
      | inr ne ↦
          let (some, high) = in_table (page_owner P W j) kept.owner in
          subst (λ y. page_offset P W j < pages_of_size y) (sym (size_same (page_owner P W j) some high ne)) kept.below
    ]

    no_page : (dec : (j : ℕ) → Dec (Changes j)) → ((j : ℕ) → Changes j → IsLitterPage P K j → ⊥) → (j : ℕ) → IsLitterPage P K j → ⊥
    no_page dec changed j l = elim (dec j) [
      | yes c ↦ changed j c l
      | no none ↦ none_counted (IsLitterPage P W) h.tidy.repaired.of_pages j
          (litter_page P W K Changes descriptors_read h.version kept.kinds (λ k lt other r. forth (page_owner P W k) r) below_size (λ k lt other. (rooms (page_owner P W k) k).0) j none l)
    ]

    -- where no page that changed is to be repaired, the last image is tidy
    pub kept_tidy : ((j : ℕ) → Dec (Changes j)) → ((j : ℕ) → Changes j → IsLitterPage P K j → ⊥) → IsTidied P K
    kept_tidy dec changed = tidy_from P K 0 h.coherent
        (record { pointers = no_pointers; slots = no_slot; pages = λ x l. absurd (no_page dec changed x l); inodes = no_inode; counts = no_count })
        (no_page dec changed 0)
