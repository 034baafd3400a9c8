-- Where the directory has taken a new page, a node can be made in it.
use Rattle.std.proofs.Common.{◌≡◌, ◌≢◌, ◌↔◌, inl, inr, ℕ, ◌+◌, ◌<◌, ◌≤◌, List, sym, ap, subst, ◌∙◌, arith}
use Rattle.std.proofs.lemmas.Bool.{cases_eq}
use Rattle.layout.specs.Fields.{word, inode_links, page_owner, page_kind, page_offset, slot_inode, slot_pointer, slot_name}
use Rattle.layout.specs.Geometry.{inodes_of, data_pages_of, page_of_slot, inode_word_of, descriptor_word_of, slot_word_of}
use Rattle.layout.proofs.GeometryLaws.{slot_below}
use Rattle.layout.proofs.Widths.{in_inode, in_descriptor, same_inode_words}
use Rattle.layout.specs.Name.{name_in_words}
use Rattle.tree_model.specs.PathText.{Route}
use Rattle.image_reading.specs.Reading.{HasBytes, slot_owner, IsHeld, IsLive, Reached, IsReachedSlot, IsNameOf, IsChildOf, IsLinkCount, IsRoomOf, pages_of_size, IsPageOf}
use Rattle.image_reading.specs.Repairs.{IsLitterSlot, IsLitterPage, IsLitterInode, IsLitterCount}
use Rattle.image_reading.proofs.Credits.{count_same}
use Rattle.image_counts.specs.Entries.{IsSlotOf, IsFreePage}
use Rattle.image_counts.proofs.Decided.{room_below}
use Rattle.image_counts.proofs.Paths.{in_range}
use Rattle.image_laws.specs.Add.{IsFreeSlot}
use Rattle.image_laws.specs.Create.{CanName}
use Rattle.image_laws.specs.Frame.{SameMeaning}
use Rattle.image_laws.proofs.KeptInodes.{KeepsInodes, by_inodes}
use Rattle.image_laws.proofs.KeptPages.{KeepsPages, KeepsDescriptors, by_words, held_owner_same, held_back, page_same, litter_page}
use Rattle.image_laws.proofs.KeptSlots as slot_laws
use Rattle.image_laws.proofs.KeptSlots.{KeepsSlots, litter_slot}
use Rattle.image_laws.proofs.Paths.{reached_pos}
use Rattle.image_laws.proofs.Ready.{IsCleanSlot, IsTidyBut, tidy_but, no_pointer}
use Rattle.image_laws.specs.Stages.{IsReadySlot, IsFreeInode}
use Rattle.image_laws.proofs.Words.{slot_words-same}

-- B is W but for page j, which directory d owns in B, and whose slots name nothing and point at nothing there. The same slots are reached.
pub record HasTaken (P : ℕ) (W B : List ℕ) (j d : ℕ) : Type 0 where
  pub owner : page_owner P B j ≡ d
  pub kind : page_kind P B j ≡ 2
  pub numbers : (t : ℕ) → page_of_slot t ≡ j → slot_inode P B t ≡ 0
  pub pointers : (t : ℕ) → page_of_slot t ≡ j → slot_pointer P B t ≡ 0
  pub descriptors : (x f : ℕ) → x < data_pages_of P → f < 8 → x ≢ j → word B (descriptor_word_of P x f) ≡ word W (descriptor_word_of P x f)
  pub inodes : (x f : ℕ) → 1 ≤ x → x ≤ inodes_of P → f < 16 → word B (inode_word_of x f) ≡ word W (inode_word_of x f)
  pub slots : (t f : ℕ) → f < 16 → page_of_slot t ≢ j → word B (slot_word_of P t f) ≡ word W (slot_word_of P t f)
  pub version : word B 1 ≡ word W 1
  pub same : SameMeaning P W B
  pub reached_slots : (t : ℕ) → IsReachedSlot P W t ↔ IsReachedSlot P B t
  pub rooms : (x y : ℕ) → IsRoomOf P W x y ↔ IsRoomOf P B x y

module _ (P : ℕ) (W B : List ℕ) (p : Route) (d j s : ℕ) (name : List ℕ) (can : CanName P W p d name) (page : IsFreePage P W j) (at_s : page_of_slot s ≡ j) (taken : HasTaken P W B j d) where
  d_pos : 1 ≤ d
  d_pos = let h = reached_pos P W d (p, can.path) in omega (arith, h)

  pub forth : (x : ℕ) → Reached P W x → Reached P B x
  forth x (q, b) = (q, (taken.same.names q x).0 b)

  pub back : (x : ℕ) → Reached P B x → Reached P W x
  back x (q, b) = (q, (taken.same.names q x).1 b)

  -- ---- fields

  nodes : KeepsInodes W B (Reached P W) (λ x. ⊥)
  nodes = by_inodes P W B (Reached P W) (λ x. ⊥) (in_range P W can.tidy.coherent) (λ x f r some most lt links. taken.inodes x f some most (in_inode W f lt))

  kept_words : KeepsDescriptors P W B (λ x. x ≡ j)
  kept_words x f lt read ne = taken.descriptors x f lt (in_descriptor W f read) ne

  paged : KeepsPages P W B (λ x. x ≡ j)
  paged = by_words P W B (λ x. x ≡ j) kept_words

  pub owner_same : (x : ℕ) → x < data_pages_of P → x ≢ j → page_owner P B x ≡ page_owner P W x
  owner_same = paged.owner

  slot_inode_same : (t : ℕ) → page_of_slot t ≢ j → slot_inode P B t ≡ slot_inode P W t
  unfolding slot_inode
  slot_inode_same t ne = taken.slots t 0 (omega arith) ne

  pointer_same : (t : ℕ) → page_of_slot t ≢ j → slot_pointer P B t ≡ slot_pointer P W t
  unfolding slot_pointer
  pointer_same t ne = taken.slots t 1 (omega arith) ne

  name_same : (t : ℕ) → page_of_slot t ≢ j → slot_name P B t ≡ slot_name P W t
  unfolding slot_name
  name_same t ne = ap name_in_words (slot_words-same P W B t (λ f lt. taken.slots t (2 + f) (omega arith) ne))

  -- no live slot stands in the new page
  elsewhere : (t : ℕ) → IsLive P B t → page_of_slot t ≢ j
  elsewhere t l at = l.names (taken.numbers t at)

  unowned : (t : ℕ) → page_of_slot t ≡ j → IsHeld P W t → ⊥
  unfolding slot_owner
  unowned t at h = h.owned (ap (page_owner P W) at ∙ page.1)

  before_elsewhere : (t : ℕ) → IsReachedSlot P W t → page_of_slot t ≢ j
  before_elsewhere t r at = unowned t at r.live.held

  -- all slots stay
  kept : KeepsSlots P W B (λ t. ⊥)
  kept = record {
    before = can.tidy.coherent;
    after = taken.same.coherent;
    forth = λ t none. (taken.reached_slots t).0;
    back = λ t none. (taken.reached_slots t).1;
    owners = λ t none was is. held_owner_same paged t was.live.held (before_elsewhere t was);
    numbers = λ t none was. slot_inode_same t (before_elsewhere t was);
    kinds = λ x was is. nodes.kind x was;
  }

  -- ---- what is to be repaired

  pub no_pointers : (t : ℕ) → IsHeld P B t → slot_pointer P B t ≡ 0
  no_pointers t h = elim (cases_eq (page_of_slot t) j) [
    | inl at ↦ taken.pointers t at
    | inr ne ↦ pointer_same t ne ∙ no_pointer P W j (tidy_but P W j can.tidy) t (held_back paged t ne h)
  ]

  no_slot : (t : ℕ) → IsLitterSlot P B t → ⊥
  no_slot t l =
      let here = page_of_slot t in
      let (u, at, o, live) = l.page.slot in
      let ne : here ≢ j = λ e. elsewhere u live (at ∙ e) in
      let below = room_below P B (page_owner P B here) here l.page in
      let was = subst (λ x. IsRoomOf P W x here) (owner_same here below ne) ((taken.rooms (page_owner P B here) here).1 l.page) in
      (tidy_but P W j can.tidy).slots t (litter_slot kept t (λ none. none) was (λ f lt. taken.slots t f lt ne) l)

  only_page : (x : ℕ) → IsLitterPage P B x → x ≡ j
  only_page x l = elim (cases_eq x j) [
    | inl e ↦ e
    | inr ne ↦ (tidy_but P W j can.tidy).pages x (litter_page P W B (λ y. y ≡ j) kept_words taken.version kept.kinds (λ y lt other r. forth (page_owner P W y) r)
        (λ y other file. subst (λ z. page_offset P W y < pages_of_size z) (sym (nodes.size (page_owner P W y) file.owner)) file.below) (λ y lt other. (taken.rooms (page_owner P W y) y).0) x ne l)
  ]

  no_inode : (x : ℕ) → IsLitterInode P B x → ⊥
  no_inode x l =
      let (f, lt, nonzero) = l.nonzero in
      (tidy_but P W j can.tidy).inodes x (record {
        least = l.least;
        most = l.most;
        unreached = λ r. l.unreached (forth x r);
        nonzero = (f, subst (λ n. f < n) (same_inode_words W B taken.version) lt, λ z. nonzero (taken.inodes x f l.least l.most (in_inode B f lt) ∙ z));
      })

  -- ---- links

  links_forth : (x : ℕ) → Reached P W x → IsLinkCount P W x (inode_links W x) → IsLinkCount P B x (inode_links B x)
  links_forth x r count = subst (IsLinkCount P B x) (sym (nodes.links x r (λ none. none))) (record {
    file = λ file. count_same (IsNameOf P W x) (IsNameOf P B x) (inode_links W x) (λ t. slot_laws.names kept x t (λ none. none)) (count.file (sym (nodes.kind x r) ∙ file));
    directory = λ dir.
        let (m, children, e) = count.directory (sym (nodes.kind x r) ∙ dir) in
        (m, count_same (IsChildOf P W x) (IsChildOf P B x) m (λ t. slot_laws.children kept x t (λ none. none)) children, e);
  })

  no_count : (x : ℕ) → IsLitterCount P B x → ⊥
  no_count x l =
      let r = back x l.reached in
      (tidy_but P W j can.tidy).counts x (record { reached = r; other = λ count. l.other (links_forth x r count) })

  tidy_but_page : IsTidyBut P B (page_of_slot s)
  tidy_but_page = subst (IsTidyBut P B) (sym at_s) (record {
    pointers = λ t h. h.nonzero (no_pointers t h.held);
    slots = no_slot;
    pages = only_page;
    inodes = no_inode;
    counts = no_count;
  })

  -- ---- the slot

  free_slot : IsFreeSlot P B p d s
  unfolding slot_owner
  free_slot = record {
    path = (taken.same.names p d).0 can.path;
    directory = nodes.kind d (p, can.path) ∙ can.directory;
    held = held;
    owner = owner_is;
    free = taken.numbers s at_s;
    no_pointer = taken.pointers s at_s;
    no_target = λ t h e. (let none = no_pointers t h in omega (arith, none, e));
  }
    where
      owner_is : page_owner P B (page_of_slot s) ≡ d
      owner_is = ap (page_owner P B) at_s ∙ taken.owner

      held : IsHeld P B s
      held = record {
        in_range = slot_below P s (subst (λ x. x < data_pages_of P) (sym at_s) page.0);
        kind = ap (page_kind P B) at_s ∙ taken.kind;
        owned = λ z. (let some = d_pos in omega (arith, some, owner_is, z));
      }

  pub page_ready : IsReadySlot P B p d s name
  page_ready = record {
    coherent = taken.same.coherent;
    slot = free_slot;
    is_name = can.is_name;
    new = λ t r o e.
        let old = (taken.reached_slots t).1 r in
        let ne = elsewhere t r.live in
        can.new t old (sym (held_owner_same paged t old.live.held ne) ∙ o) (sym (name_same t ne) ∙ e);
  }

  pub page_clean : ((t f : ℕ) → page_of_slot t ≡ j → f < 16 → word B (slot_word_of P t f) ≡ 0) → IsCleanSlot P B s
  page_clean zeros = record { but = tidy_but_page; clean = λ t f at dead lt. zeros t f (at ∙ at_s) lt }

  -- what is free stays free
  pub inode_ready : (i : ℕ) → IsFreeInode P W i → IsFreeInode P B i
  inode_ready i free = record {
    least = free.least;
    most = free.most;
    unreached = λ r. free.unreached (back i r);
    no_pages = λ x lt e. elim (cases_eq x j) [
      | inl at ↦ free.unreached (subst (Reached P W) (sym taken.owner ∙ ap (page_owner P B) (sym at) ∙ e) (p, can.path))
      | inr ne ↦ free.no_pages x lt (sym (owner_same x lt ne) ∙ e)
    ];
  }

  -- the page has no live slot yet
  pub no_room : IsRoomOf P B d (page_of_slot s) → ⊥
  no_room room = let (u, at, o, live) = room.slot in elsewhere u live (at ∙ at_s)

  -- ---- what an index holds is as before

  pub entry_same : (x t : ℕ) → IsSlotOf P B x t ↔ IsSlotOf P W x t
  entry_same x t = let same = slot_laws.entries kept x t (λ none. none) in (same.1, same.0)

  pub slot_same : (t : ℕ) → IsReachedSlot P W t → (slot_name P B t ≡ slot_name P W t) × (slot_inode P B t ≡ slot_inode P W t)
  slot_same t r = (name_same t (before_elsewhere t r), slot_inode_same t (before_elsewhere t r))

  page_elsewhere : (x k y : ℕ) → Reached P W x → IsPageOf P W x k y → y ≢ j
  page_elsewhere x k y r g e = reached_pos P W x r (sym g.owner ∙ ap (page_owner P W) e ∙ page.1)

  file_elsewhere : (x k y : ℕ) → IsPageOf P B x k y → y ≢ j
  file_elsewhere x k y g e = let one = g.kind in let two = ap (page_kind P B) e ∙ taken.kind in omega (arith, one, two)

  pub file_page_same : (x k y : ℕ) → Reached P W x → IsPageOf P B x k y ↔ IsPageOf P W x k y
  file_page_same x k y r = ((λ g. (page_same paged x k y (file_elsewhere x k y g)).0 g), (λ g. (page_same paged x k y (page_elsewhere x k y r g)).1 g))

  pub kind_as_before : (x : ℕ) → Reached P W x → HasBytes W x → HasBytes B x
  kind_as_before x r file = nodes.kind x r ∙ file
