-- A file's pages, bytes or size change, and no directory: what is to be repaired after it is what was before, but pages of the file.
use Rattle.std.proofs.Common.{◌≡◌, ◌≢◌, ◌↔◌, ◌⊎◌, inl, inr, ℕ, ◌<◌, ◌≤◌, List, sym, ap, subst, ◌∙◌, arith}
use Rattle.tree_model.specs.PathText.{Route}
use Rattle.layout.specs.Fields.{word, inode_words, inode_kind, inode_links, inode_size, page_owner, page_kind, page_offset, slot_inode, slot_pointer}
use Rattle.layout.specs.Geometry.{inodes_of, data_pages_of, page_of_slot, inode_word_of, slot_word_of}
use Rattle.layout.proofs.Widths.{inode_field_read}
use Rattle.image_reading.specs.Counts.{IsIn, IsListOf}
use Rattle.image_reading.specs.Reading.{slot_owner, IsHeld, IsLive, Names, Reached, IsReachedSlot, IsRoomOf, pages_of_size}
use Rattle.image_reading.specs.Repairs.{IsKeptFilePage, IsPointer, IsLitterSlot, IsLitterPage, IsLitterInode, IsLitterCount}
use Rattle.image_reading.specs.Residue.{Residue, IsTidyBeside}
use Rattle.image_reading.specs.Soundness.{IsCoherent}
use Rattle.image_counts.proofs.Paths.{in_range}
use Rattle.image_laws.proofs.KeptPages as pages
use Rattle.image_laws.proofs.KeptPages.{KeepsPages, KeepsDescriptors, by_words, held_with, held_owner_same, held_forth, held_back}
use Rattle.image_laws.proofs.KeptSlots as slots
use Rattle.image_laws.proofs.KeptSlots.{KeepsSlots}
use Rattle.weave_laws.proofs.Listed.{listed_same}
use Rattle.weave_laws.proofs.Same as same

-- From A to K only the size of the reached file i changes, descriptors of these pages, none of which is a directory's, and words of pages
-- that aren't held.
pub record ChangesFile (P : ℕ) (A K : List ℕ) (i : ℕ) (Page : ℕ → Type 0) : Type 0 where
  pub before : IsCoherent P A
  pub after : IsCoherent P K
  pub file : Reached P A i
  pub names : (p : Route) (x : ℕ) → Names P A p x ↔ Names P K p x
  pub version : word K 1 ≡ word A 1
  pub descriptors : KeepsDescriptors P A K Page
  pub unheld : (t : ℕ) → Page (page_of_slot t) → ¬ IsHeld P A t
  pub unheld_after : (t : ℕ) → Page (page_of_slot t) → ¬ IsHeld P K t
  pub slots : (t f : ℕ) → IsHeld P A t → f < 16 → word K (slot_word_of P t f) ≡ word A (slot_word_of P t f)
  pub inodes : (x f : ℕ) → 1 ≤ x → x ≤ inodes_of P → f < inode_words A → (f ≢ 2) ⊎ (x ≢ i) → word K (inode_word_of x f) ≡ word A (inode_word_of x f)

module _ {P : ℕ} {A K : List ℕ} {i : ℕ} {Page : ℕ → Type 0} (change : ChangesFile P A K i Page) where
  pub reached : (x : ℕ) → Reached P A x ↔ Reached P K x
  reached x = ((λ (q, b). (q, (change.names q x).0 b)), (λ (q, b). (q, (change.names q x).1 b)))

  pub paged : KeepsPages P A K Page
  paged = by_words P A K Page change.descriptors

  pub kind_same : (x : ℕ) → 1 ≤ x → x ≤ inodes_of P → inode_kind K x ≡ inode_kind A x
  unfolding inode_kind
  kind_same x some most = change.inodes x 0 some most (inode_field_read A 0 (omega arith)) (inl (λ e. omega (arith, e)))

  pub kind_reached : (x : ℕ) → Reached P A x → inode_kind K x ≡ inode_kind A x
  kind_reached x r = let (some, most) = in_range P A change.before x r in kind_same x some most

  links_reached : (x : ℕ) → Reached P A x → inode_links K x ≡ inode_links A x
  unfolding inode_links
  links_reached x r = let (some, most) = in_range P A change.before x r in change.inodes x 1 some most (inode_field_read A 1 (omega arith)) (inl (λ e. omega (arith, e)))

  pub size_beside : (x : ℕ) → Reached P A x → x ≢ i → inode_size K x ≡ inode_size A x
  unfolding inode_size
  size_beside x r ne = let (some, most) = in_range P A change.before x r in change.inodes x 2 some most (inode_field_read A 2 (omega arith)) (inr ne)

  -- ---- slots

  beside : (t : ℕ) → IsHeld P A t → ¬ Page (page_of_slot t)
  beside t held is = change.unheld t is held

  forth : (t : ℕ) → IsHeld P A t → IsHeld P K t
  forth t held = held_forth paged t (beside t held) held

  back : (t : ℕ) → IsHeld P K t → IsHeld P A t
  back t held = held_back paged t (λ is. change.unheld_after t is held) held

  number_same : (t : ℕ) → IsHeld P A t → slot_inode P K t ≡ slot_inode P A t
  unfolding slot_inode
  number_same t held = change.slots t 0 held (omega arith)

  pointer_word : (t : ℕ) → IsHeld P A t → slot_pointer P K t ≡ slot_pointer P A t
  unfolding slot_pointer
  pointer_word t held = change.slots t 1 held (omega arith)

  live_forth : (t : ℕ) → IsLive P A t → IsLive P K t
  live_forth t live = record {
    held = forth t live.held;
    names = λ z. live.names (sym (number_same t live.held) ∙ z);
    stays = λ d held points e. let was = back d held in live.stays d was (sym (pointer_word d was) ∙ points) (sym (number_same d was) ∙ e ∙ number_same t live.held);
  }

  live_back : (t : ℕ) → IsLive P K t → IsLive P A t
  live_back t live =
      let own = back t live.held in
      record {
        held = own;
        names = λ z. live.names (number_same t own ∙ z);
        stays = λ d held points e. live.stays d (forth d held) (pointer_word d held ∙ points) (number_same d held ∙ e ∙ sym (number_same t own));
      }

  owner_same : (t : ℕ) → IsHeld P A t → slot_owner P K t ≡ slot_owner P A t
  owner_same t held = held_owner_same paged t held (beside t held)

  slot_forth : (t : ℕ) → IsReachedSlot P A t → IsReachedSlot P K t
  slot_forth t r =
      let owner = owner_same t r.live.held in
      record {
        owner = subst (Reached P K) (sym owner) ((reached (slot_owner P A t)).0 r.owner);
        directory = ap (inode_kind K) owner ∙ kind_reached (slot_owner P A t) r.owner ∙ r.directory;
        live = live_forth t r.live;
      }

  slot_back : (t : ℕ) → IsReachedSlot P K t → IsReachedSlot P A t
  slot_back t r =
      let live = live_back t r.live in
      let owner = owner_same t live.held in
      let was = (reached (slot_owner P A t)).1 (subst (Reached P K) owner r.owner) in
      record { owner = was; directory = sym (kind_reached (slot_owner P A t) was) ∙ ap (inode_kind K) (sym owner) ∙ r.directory; live = live }

  kept : KeepsSlots P A K (λ t. ⊥)
  kept = record {
    before = change.before;
    after = change.after;
    forth = λ t other r. slot_forth t r;
    back = λ t other r. slot_back t r;
    owners = λ t other was is. owner_same t was.live.held;
    numbers = λ t other was. number_same t was.live.held;
    kinds = λ x was is. kind_reached x was;
  }

  pub rooms : (x j : ℕ) → IsRoomOf P A x j ↔ IsRoomOf P K x j
  rooms = slots.rooms kept (λ t none. none)

  pub pointer_same : (t : ℕ) → IsPointer P A t ↔ IsPointer P K t
  pointer_same t = (
    (λ l. record { held = forth t l.held; nonzero = λ z. l.nonzero (sym (pointer_word t l.held) ∙ z) }),
    (λ l. let was = back t l.held in record { held = was; nonzero = λ z. l.nonzero (pointer_word t was ∙ z) }),
  )

  -- a slot of a directory's page is held
  room_held : (X : List ℕ) (t : ℕ) → IsLitterSlot P X t → IsHeld P X t
  room_held X t l = let (s, at, o, live) = l.page.slot in held_with P X s t (sym at) live.held

  slot_held : (t : ℕ) → IsHeld P A t → IsLitterSlot P A t ↔ IsLitterSlot P K t
  slot_held t held = same.slot_same kept paged t (λ none. none) (beside t held) (λ x. rooms x (page_of_slot t)) (λ f lt. change.slots t f held lt)

  slot_same : (t : ℕ) → IsLitterSlot P A t ↔ IsLitterSlot P K t
  slot_same t = ((λ l. (slot_held t (room_held A t l)).0 l), (λ l. (slot_held t (back t (room_held K t l))).1 l))

  -- ---- pages: one that is kept as the file's in both or in none

  abbrev pub Below : List ℕ → List ℕ → ℕ → Type 0
  Below X Y j = IsKeptFilePage P X j → page_offset P X j < pages_of_size (inode_size Y (page_owner P X j))

  descriptors_wider : (Beside : ℕ → Type 0) → ((j : ℕ) → Page j → Beside j) → KeepsDescriptors P A K Beside
  descriptors_wider Beside wider j f lt read other = change.descriptors j f lt read (λ is. other (wider j is))

  pub page_back : (Beside : ℕ → Type 0) → ((j : ℕ) → Page j → Beside j) → ((j : ℕ) → ¬ Beside j → Below A K j) → (j : ℕ) → ¬ Beside j → IsLitterPage P K j → IsLitterPage P A j
  page_back Beside wider below = pages.litter_page P A K Beside
      (descriptors_wider Beside wider)
      change.version
      (λ x was is. kind_reached x was)
      (λ j lt other r. (reached (page_owner P A j)).0 r)
      below
      (λ j lt other room. (rooms (page_owner P A j) j).0 room)

  pub page_forth : (Beside : ℕ → Type 0) → ((j : ℕ) → Page j → Beside j) → ((j : ℕ) → ¬ Beside j → Below K A j) → (j : ℕ) → ¬ Beside j → IsLitterPage P A j → IsLitterPage P K j
  page_forth Beside wider below = pages.litter_page P K A Beside
      (same.descriptors_flipped P A K Beside (descriptors_wider Beside wider) change.version)
      (sym change.version)
      (λ x was is. sym (kind_reached x is))
      (λ j lt other r. (reached (page_owner P K j)).1 r)
      below
      (λ j lt other room. (rooms (page_owner P K j) j).1 room)

  -- where the size of the file stays too
  pub page_same : ((x : ℕ) → Reached P A x → inode_size K x ≡ inode_size A x) → (j : ℕ) → ¬ Page j → IsLitterPage P A j ↔ IsLitterPage P K j
  page_same sizes = same.page_same P A K Page change.descriptors change.version kind_reached sizes (λ x r. (reached x).0 r) (λ j lt r. (reached (page_owner P A j)).1 r) (λ x j other. rooms x j)

  pub mark_kept : (j : ℕ) → ¬ Page j → j < data_pages_of P → (page_owner P A j ≢ 0) ⊎ (page_kind P A j ≢ 0) → (page_owner P K j ≢ 0) ⊎ (page_kind P K j ≢ 0)
  mark_kept j other lt mark = elim mark [
    | inl owned ↦ inl (λ z. owned (sym (paged.owner j lt other) ∙ z))
    | inr kind ↦ inr (λ z. kind (sym (paged.kind j lt other) ∙ z))
  ]

  -- ---- inodes and links

  inode_same : (x : ℕ) → IsLitterInode P A x ↔ IsLitterInode P K x
  inode_same x = same.inode_same P A K x change.version (reached x) (λ f least most lt unreached. change.inodes x f least most lt (inr (λ e. unreached (subst (Reached P A) (sym e) change.file))))

  count_same : (x : ℕ) → IsLitterCount P A x ↔ IsLitterCount P K x
  count_same x = same.count_kept_at P A K x (λ t. slots.names kept x t (λ none. none)) (λ t. slots.children kept x t (λ none. none)) (reached x) (kind_reached x) (links_reached x)

  -- all but the pages
  pub tidy_after : (was is : List ℕ) (residue : Residue) → IsTidyBeside P A (record { pointer = residue.pointer; slots = residue.slots; pages = was; inodes = residue.inodes; counts = residue.counts })
      → IsListOf (IsLitterPage P K) is → ((j : ℕ) → IsIn j is → (page_owner P K j ≢ 0) ⊎ (page_kind P K j ≢ 0))
      → IsTidyBeside P K (record { pointer = residue.pointer; slots = residue.slots; pages = is; inodes = residue.inodes; counts = residue.counts })
  tidy_after was is residue tidy listed marks = record {
    of_pointer = λ t. ((λ e. (pointer_same t).0 ((tidy.of_pointer t).0 e)), (λ l. (tidy.of_pointer t).1 ((pointer_same t).1 l)));
    of_slots = listed_same (IsLitterSlot P A) (IsLitterSlot P K) residue.slots slot_same tidy.of_slots;
    of_pages = listed;
    of_inodes = listed_same (IsLitterInode P A) (IsLitterInode P K) residue.inodes inode_same tidy.of_inodes;
    of_counts = listed_same (IsLitterCount P A) (IsLitterCount P K) residue.counts count_same tidy.of_counts;
    kinds = λ x among z. let l = (tidy.of_inodes.each x).0 among in tidy.kinds x among (sym (kind_same x l.least l.most) ∙ z);
    marks = marks;
  }
