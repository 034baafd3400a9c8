-- Pages that nothing needs lose words of their descriptors: what else is to be repaired is so after it exactly where it was before.
use Rattle.std.proofs.Common.{◌≡◌, ◌≢◌, ◌↔◌, ◌⊎◌, inl, inr, ℕ, ◌<◌, ◌≤◌, List, refl, sym, ap, subst, ◌∙◌, arith}
use Rattle.layout.specs.Fields.{word, inode_words, inode_kind, page_owner, page_kind, slot_inode, slot_pointer}
use Rattle.layout.specs.Geometry.{inodes_of, data_pages_of, page_of_slot, inode_word_of, slot_word_of}
use Rattle.image_reading.specs.Reading.{slot_owner, IsHeld, IsLive, Reached, IsReachedSlot, IsRoomOf, IsNameOf, IsChildOf}
use Rattle.image_reading.specs.Repairs.{IsPointer, IsLitterSlot, IsLitterPage, IsLitterCount}
use Rattle.image_reading.specs.Soundness.{Rule}
use Rattle.image_counts.proofs.Decided.{room_below}
use Rattle.image_counts.proofs.Paths.{in_range}
use Rattle.image_laws.specs.Frame.{SameMeaning}
use Rattle.image_laws.proofs.KeptInodes.{KeepsInodes, by_inodes}
use Rattle.image_laws.proofs.KeptPages.{KeepsPages, KeepsDescriptors, by_words, held_owner_same, held_forth, held_back}
use Rattle.image_laws.proofs.Paths.{reached_pos, reach}
use Rattle.weave_laws.proofs.Same as same

-- These pages are to be repaired before, no slot of theirs points, and then they have no owner. Other descriptors stay, and slots, and inodes that are reached.
pub record LosesPages (P : ℕ) (I J : List ℕ) (Page : ℕ → Type 0) : Type 0 where
  pub meaning : SameMeaning P I J
  pub version : word J 1 ≡ word I 1
  pub decided : (j : ℕ) → Page j ⊎ (Page j → ⊥)
  pub left : (j : ℕ) → Page j → IsLitterPage P I j
  pub pointers : (t : ℕ) → Page (page_of_slot t) → IsHeld P I t → slot_pointer P I t ≡ 0
  pub unowned : (j : ℕ) → Page j → page_owner P J j ≡ 0
  pub descriptors : KeepsDescriptors P I J Page
  pub slots : (t f : ℕ) → word J (slot_word_of P t f) ≡ word I (slot_word_of P t f)
  pub inodes : (x f : ℕ) → Reached P I x → 1 ≤ x → x ≤ inodes_of P → f < inode_words I → word J (inode_word_of x f) ≡ word I (inode_word_of x f)

-- a page with a reached slot
room_of : (P : ℕ) (X : List ℕ) (x j t : ℕ) → IsReachedSlot P X t → page_of_slot t ≡ j → slot_owner P X t ≡ x → IsRoomOf P X x j
room_of P X x j t r at o = record { reached = subst (Reached P X) o r.owner; directory = ap (inode_kind X) (sym o) ∙ r.directory; slot = (t, at, o, r.live) }

slot_of_room : (P : ℕ) (X : List ℕ) (x j : ℕ) → IsRoomOf P X x j → (t : ℕ) × IsReachedSlot P X t × (page_of_slot t ≡ j) × (slot_owner P X t ≡ x)
slot_of_room P X x j room =
    let (t, at, o, live) = room.slot in
    (t, record { owner = subst (Reached P X) (sym o) room.reached; directory = ap (inode_kind X) o ∙ room.directory; live = live }, at, o)

module _ {P : ℕ} {I J : List ℕ} {Page : ℕ → Type 0} (loses : LosesPages P I J Page) where
  pub reached : (x : ℕ) → Reached P I x ↔ Reached P J x
  reached x = ((λ (q, b). (q, (loses.meaning.names q x).0 b)), (λ (q, b). (q, (loses.meaning.names q x).1 b)))

  range : (x : ℕ) → Reached P I x → (1 ≤ x) × (x ≤ inodes_of P)
  range x r = in_range P J loses.meaning.coherent x ((reached x).0 r)

  nodes : KeepsInodes I J (Reached P I) (λ x. ⊥)
  nodes = by_inodes P I J (Reached P I) (λ x. ⊥) range (λ x f r some most lt links. loses.inodes x f r some most lt)

  paged : KeepsPages P I J Page
  paged = by_words P I J Page loses.descriptors

  number_same : (t : ℕ) → slot_inode P J t ≡ slot_inode P I t
  unfolding slot_inode
  number_same t = loses.slots t 0

  pointer_word : (t : ℕ) → slot_pointer P J t ≡ slot_pointer P I t
  unfolding slot_pointer
  pointer_word t = loses.slots t 1

  -- ---- the slots of these pages are in no directory before, and aren't held then

  no_room : (j : ℕ) → Page j → ¬ IsRoomOf P I (page_owner P I j) j
  no_room j is room = (loses.left j is).free (inr room)

  not_held : (t : ℕ) → Page (page_of_slot t) → ¬ IsHeld P J t
  unfolding slot_owner
  not_held t is held = held.owned (loses.unowned (page_of_slot t) is)

  not_reached : (t : ℕ) → IsReachedSlot P I t → ¬ Page (page_of_slot t)
  unfolding slot_owner
  not_reached t r is = no_room (page_of_slot t) is (room_of P I (page_owner P I (page_of_slot t)) (page_of_slot t) t r refl refl)

  -- ---- which slots are reached

  live_forth : (t : ℕ) → ¬ Page (page_of_slot t) → IsLive P I t → IsLive P J t
  live_forth t none live = record {
    held = held_forth paged t none live.held;
    names = λ z. live.names (sym (number_same t) ∙ z);
    stays = λ d held points same. live.stays d (held_back paged d (λ is. not_held d is held) held) (sym (pointer_word d) ∙ points) (sym (number_same d) ∙ same ∙ number_same t);
  }

  live_back : (t : ℕ) → ¬ Page (page_of_slot t) → IsLive P J t → IsLive P I t
  live_back t none live = record {
    held = held_back paged t none live.held;
    names = λ z. live.names (number_same t ∙ z);
    stays = λ d held points same. elim (loses.decided (page_of_slot d)) [
      | inl is ↦ (let zero = loses.pointers d is held in omega (arith, zero, points))
      | inr other ↦ live.stays d (held_forth paged d other held) (pointer_word d ∙ points) (number_same d ∙ same ∙ sym (number_same t))
    ];
  }

  owner_same : (t : ℕ) → IsReachedSlot P I t → slot_owner P J t ≡ slot_owner P I t
  owner_same t r = held_owner_same paged t r.live.held (not_reached t r)

  slot_forth : (t : ℕ) → IsReachedSlot P I t → IsReachedSlot P J t
  slot_forth t r =
      let owner = owner_same t r in
      record {
        owner = subst (Reached P J) (sym owner) ((reached (slot_owner P I t)).0 r.owner);
        directory = ap (inode_kind J) owner ∙ nodes.kind (slot_owner P I t) r.owner ∙ r.directory;
        live = live_forth t (not_reached t r) r.live;
      }

  slot_back : (t : ℕ) → IsReachedSlot P J t → IsReachedSlot P I t
  slot_back t r =
      let none : ¬ Page (page_of_slot t) = λ is. not_held t is r.live.held in
      let owner = held_owner_same paged t (held_back paged t none r.live.held) none in
      let was = (reached (slot_owner P I t)).1 (subst (Reached P J) owner r.owner) in
      record { owner = was; directory = sym (nodes.kind (slot_owner P I t) was) ∙ ap (inode_kind J) (sym owner) ∙ r.directory; live = live_back t none r.live }

  rooms : (x j : ℕ) → IsRoomOf P I x j ↔ IsRoomOf P J x j
  rooms x j = (
    (λ room. let (t, was, at, o) = slot_of_room P I x j room in room_of P J x j t (slot_forth t was) at (owner_same t was ∙ o)),
    (λ room. let (t, is, at, o) = slot_of_room P J x j room in let was = slot_back t is in room_of P I x j t was at (sym (owner_same t was) ∙ o)),
  )

  -- ---- pointers, slots and pages

  pub pointer_same : (t : ℕ) → IsPointer P I t ↔ IsPointer P J t
  pointer_same t = elim (loses.decided (page_of_slot t)) [
    | inl is ↦ ((λ l. absurd (l.nonzero (loses.pointers t is l.held))), (λ l. absurd (not_held t is l.held)))
    | inr other ↦ same.pointer_same P I J Page paged t other (pointer_word t)
  ]

  slot_beside : (t : ℕ) → ¬ Page (page_of_slot t) → IsLitterSlot P I t ↔ IsLitterSlot P J t
  slot_beside t other =
      let j = page_of_slot t in (
        (λ l.
            let owner = paged.owner j (room_below P I (page_owner P I j) j l.page) other in
            let (f, lt, nonzero) = l.nonzero in
            record { page = subst (λ x. IsRoomOf P J x j) (sym owner) ((rooms (page_owner P I j) j).0 l.page); dead = λ live. l.dead (live_back t other live); nonzero = (f, lt, λ z. nonzero (sym (loses.slots t f) ∙ z)) }),
        (λ l.
            let owner = paged.owner j (room_below P J (page_owner P J j) j l.page) other in
            let (f, lt, nonzero) = l.nonzero in
            record { page = subst (λ x. IsRoomOf P I x j) owner ((rooms (page_owner P J j) j).1 l.page); dead = λ live. l.dead (live_forth t other live); nonzero = (f, lt, λ z. nonzero (loses.slots t f ∙ z)) }),
      )

  pub unreached : (j : ℕ) → Page j → ¬ Reached P J (page_owner P J j)
  unreached j is r = reached_pos P J (page_owner P J j) r (loses.unowned j is)

  pub slot_same : (t : ℕ) → IsLitterSlot P I t ↔ IsLitterSlot P J t
  slot_same t = elim (loses.decided (page_of_slot t)) [
    | inl is ↦ ((λ l. absurd (no_room (page_of_slot t) is l.page)), (λ l. absurd (unreached (page_of_slot t) is l.page.reached)))
    | inr other ↦ slot_beside t other
  ]

  pub page_same : (j : ℕ) → ¬ Page j → IsLitterPage P I j ↔ IsLitterPage P J j
  page_same = same.page_same P I J Page loses.descriptors loses.version nodes.kind nodes.size (λ x r. (reached x).0 r) (λ j lt r. (reached (page_owner P I j)).1 r) (λ x j other. rooms x j)

  pub mark_kept : (j : ℕ) → ¬ Page j → j < data_pages_of P → (page_owner P I j ≢ 0) ⊎ (page_kind P I j ≢ 0) → (page_owner P J j ≢ 0) ⊎ (page_kind P J j ≢ 0)
  mark_kept j other lt mark = elim mark [
    | inl owned ↦ inl (λ z. owned (sym (paged.owner j lt other) ∙ z))
    | inr kind ↦ inr (λ z. kind (sym (paged.kind j lt other) ∙ z))
  ]

  -- ---- links

  names : (x t : ℕ) → IsNameOf P I x t ↔ IsNameOf P J x t
  names x t = (
    (λ n. record { slot = slot_forth t n.slot; inode = number_same t ∙ n.inode }),
    (λ n. record { slot = slot_back t n.slot; inode = sym (number_same t) ∙ n.inode }),
  )

  kind_named : (t : ℕ) → IsReachedSlot P J t → inode_kind J (slot_inode P J t) ≡ inode_kind I (slot_inode P I t)
  kind_named t is =
      let was = (reached (slot_inode P J t)).1 (reach P J t is ((loses.meaning.coherent Rule.inodes t).most is)) in
      nodes.kind (slot_inode P J t) was ∙ ap (inode_kind I) (number_same t)

  children : (x t : ℕ) → IsChildOf P I x t ↔ IsChildOf P J x t
  children x t = (
    (λ n. let is = slot_forth t n.slot in record { slot = is; owner = owner_same t n.slot ∙ n.owner; directory = kind_named t is ∙ n.directory }),
    (λ n. let was = slot_back t n.slot in record { slot = was; owner = sym (owner_same t was) ∙ n.owner; directory = sym (kind_named t n.slot) ∙ n.directory }),
  )

  pub count_same : (x : ℕ) → IsLitterCount P I x ↔ IsLitterCount P J x
  count_same x = same.count_kept_at P I J x (names x) (children x) (reached x) (nodes.kind x) (λ r. nodes.links x r (λ none. none))
