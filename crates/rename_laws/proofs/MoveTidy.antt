-- What the last words of a rename mean is what the commit left, and nothing is to be repaired then.
use Rattle.std.proofs.Common.{◌≡◌, ◌≢◌, ◌↔◌, ◌⊎◌, inl, inr, ℕ, ◌<◌, ◌≤◌, List, sym, ap, subst, ◌∙◌, arith}
use Rattle.std.proofs.lemmas.Bool.{cases_eq}
use Rattle.layout.specs.Fields.{word, inode_words, descriptor_words, inode_kind, inode_links, page_owner, page_offset, slot_inode, slot_pointer}
use Rattle.layout.specs.Geometry.{inodes_of, data_pages_of, page_of_slot, inode_word_of, descriptor_word_of, slot_word_of}
use Rattle.layout.proofs.GeometryLaws.{page_of_slot_below}
use Rattle.layout.proofs.Widths.{descriptor_field_read, same_inode_words}
use Rattle.tree_model.specs.PathText.{Route}
use Rattle.image_reading.specs.Reading.{slot_owner, IsHeld, IsLive, Reached, IsReachedSlot, IsNameOf, IsChildOf, IsRoomOf, pages_of_size}
use Rattle.image_reading.specs.Repairs.{IsKept, IsPointer, IsLitterSlot, IsLitterPage, IsLitterInode, IsLitterCount}
use Rattle.image_reading.specs.Soundness.{IsCoherent}
use Rattle.image_reading.specs.Tidy.{IsTidied}
use Rattle.image_reading.proofs.Credits.{count_same}
use Rattle.image_counts.proofs.Decided.{room_below, room_owner}
use Rattle.image_counts.proofs.Paths.{in_range}
use Rattle.image_laws.specs.Frame.{SameMeaning}
use Rattle.image_laws.specs.Move.{CanMove, moved}
use Rattle.image_laws.proofs.Contents.{dec_reached}
use Rattle.image_laws.proofs.KeptInodes.{KeepsInodes, by_inodes}
use Rattle.image_laws.proofs.KeptPages.{KeepsPages, by_words, held_forth, held_back, litter_page}
use Rattle.image_laws.proofs.KeptSlots as slot_laws
use Rattle.image_laws.proofs.KeptSlots.{KeepsSlots}
use Rattle.image_laws.proofs.Paths.{reached_pos}
use Rattle.image_laws.proofs.Ready.{tidy_from}
use Rattle.rename_laws.proofs.MovedCounts as counts
use Rattle.rename_laws.proofs.MovedCounts.{IsLowered, IsFallen, IsAlmostTidy}
use Rattle.rename_laws.proofs.MovedNames as here
use Rattle.rename_laws.proofs.MoveSpare as spares
use Rattle.rename_laws.proofs.MoveSpare.{IsOut, IsSpare}

-- K means what the commit leaves, and its words are those of I but for the two slots, the pages that are given back, the inode that is gone and
-- the count that falls.
pub record HasEnded (P : ℕ) (I K : List ℕ) (s d : ℕ) : Type 0 where
  pub means : SameMeaning P (moved P I s d) K
  pub descriptors : (j f : ℕ) → j < data_pages_of P → f < descriptor_words I → (IsSpare P I (moved P I s d) s d j → ⊥)
      → word K (descriptor_word_of P j f) ≡ word I (descriptor_word_of P j f)
  pub spare : (j f : ℕ) → IsSpare P I (moved P I s d) s d j → f < descriptor_words K → word K (descriptor_word_of P j f) ≡ 0
  pub inodes : (x f : ℕ) → 1 ≤ x → x ≤ inodes_of P → f < inode_words I → f ≢ 1 → (IsOut P I (moved P I s d) d → x ≢ slot_inode P I d)
      → word K (inode_word_of x f) ≡ word I (inode_word_of x f)
  pub links : (x : ℕ) → 1 ≤ x → x ≤ inodes_of P → (IsOut P I (moved P I s d) d → x ≢ slot_inode P I d) → IsFallen P I s d x (inode_links K x)
  pub out : IsOut P I (moved P I s d) d → (f : ℕ) → f < inode_words K → word K (inode_word_of (slot_inode P I d) f) ≡ 0
  pub slots : (t f : ℕ) → t ≢ s → t ≢ d → f < 16 → word K (slot_word_of P t f) ≡ word I (slot_word_of P t f)
  pub source : (f : ℕ) → f < 16 → word K (slot_word_of P s f) ≡ 0
  pub number : slot_inode P K d ≡ slot_inode P I s
  pub name : (f : ℕ) → 2 ≤ f → f < 16 → word K (slot_word_of P d f) ≡ word I (slot_word_of P d f)
  pub pointer : slot_pointer P K d ≡ 0
  pub version : word K 1 ≡ word I 1

module _ (P : ℕ) (I K : List ℕ) (pa pb : Route) (s d : ℕ) (c : CanMove P I pa pb s d) (near : IsAlmostTidy P I s d) (ended : HasEnded P I K s d) where
  coherent : IsCoherent P (moved P I s d)
  coherent = (here.after P I pa pb s d c).coherent

  pub forth : (x : ℕ) → Reached P (moved P I s d) x → Reached P K x
  forth x (q, b) = (q, (ended.means.names q x).0 b)

  pub back : (x : ℕ) → Reached P K x → Reached P (moved P I s d) x
  back x (q, b) = (q, (ended.means.names q x).1 b)

  pub before : (x : ℕ) → Reached P K x → Reached P I x
  before x r = here.reached_back P I pa pb s d c x (back x r)

  -- ---- fields

  range : (x : ℕ) → Reached P I x → (1 ≤ x) × (x ≤ inodes_of P)
  range x r = in_range P I c.coherent x r

  not_out : (x : ℕ) → Reached P (moved P I s d) x → IsOut P I (moved P I s d) d → x ≢ slot_inode P I d
  not_out x r out e = out.1 (subst (Reached P (moved P I s d)) e r)

  nodes : KeepsInodes I K (Reached P (moved P I s d)) (λ x. Unit {0})
  nodes = by_inodes P I K (Reached P (moved P I s d)) (λ x. Unit) (λ x r. range x (here.reached_back P I pa pb s d c x r)) (λ x f r some most lt links. elim links [
    | inl other ↦ ended.inodes x f some most lt other (not_out x r)
    | inr none ↦ absurd (none tt)
  ])

  -- as the commit leaves it
  pub kind_after : (x : ℕ) → Reached P (moved P I s d) x → inode_kind K x ≡ inode_kind (moved P I s d) x
  kind_after x r = nodes.kind x r ∙ sym (here.kind_same P I pa pb s d c x (here.reached_back P I pa pb s d c x r))

  pub paged : KeepsPages P I K (IsSpare P I (moved P I s d) s d)
  paged = by_words P I K (IsSpare P I (moved P I s d) s d) ended.descriptors

  pub not_spare : (j : ℕ) → page_owner P K j ≢ 0 → IsSpare P I (moved P I s d) s d j → ⊥
  unfolding page_owner
  not_spare j owned spare = owned (ended.spare j 0 spare (descriptor_field_read K 0 (omega arith)))

  held_before : (t : ℕ) → IsHeld P K t → IsHeld P I t
  unfolding slot_owner
  held_before t held = held_back paged t (not_spare (page_of_slot t) held.owned) held

  pub slot_owner_same : (t : ℕ) → IsHeld P K t → slot_owner P K t ≡ slot_owner P I t
  unfolding slot_owner
  slot_owner_same t held = paged.owner (page_of_slot t) (page_of_slot_below P t held.in_range) (not_spare (page_of_slot t) held.owned)

  pub owner_after : (t : ℕ) → IsHeld P K t → slot_owner P K t ≡ slot_owner P (moved P I s d) t
  owner_after t held = slot_owner_same t held ∙ sym (here.owner_same P I pa pb s d c t held.in_range)

  pub number_after : (t : ℕ) → t ≢ s → slot_inode P K t ≡ slot_inode P (moved P I s d) t
  unfolding slot_inode
  number_after t ns = elim (cases_eq t d) [
    | inl e ↦ ap (λ u. slot_inode P K u) e ∙ ended.number ∙ sym (here.number_new P I pa pb s d c) ∙ ap (λ u. slot_inode P (moved P I s d) u) (sym e)
    | inr nd ↦ ended.slots t 0 ns nd (omega arith) ∙ sym ((here.only P I pa pb s d c).inode t nd)
  ]

  pointer_zero : (t : ℕ) → IsHeld P K t → slot_pointer P K t ≡ 0
  unfolding slot_pointer
  pointer_zero t held = elim (cases_eq t d) [
    | inl e ↦ ap (λ u. slot_pointer P K u) e ∙ ended.pointer
    | inr nd ↦ elim (cases_eq t s) [
      | inl e ↦ ap (λ u. slot_pointer P K u) e ∙ ended.source 1 (omega arith)
      | inr ns ↦ ended.slots t 1 ns nd (omega arith) ∙ c.alone t (held_before t held) nd
    ]
  ]

  -- ---- reached slots

  -- the page of a reached slot is kept
  slot_kept : (t : ℕ) → IsReachedSlot P (moved P I s d) t → IsSpare P I (moved P I s d) s d (page_of_slot t) → ⊥
  unfolding slot_owner
  slot_kept t r spare =
      let owner = here.owner_same P I pa pb s d c t r.live.held.in_range in
      elim spare.why [
        | inl (out, e) ↦ out.1 (subst (Reached P (moved P I s d)) (owner ∙ e) r.owner)
        | inr (at, none) ↦ none (subst (λ j. IsRoomOf P (moved P I s d) (slot_owner P I s) j) (sym at)
            (here.room_from P I pa pb s d c (moved P I s d) (slot_owner P I s) (page_of_slot s) t r at (owner ∙ ap (page_owner P I) at)))
      ]

  pub slot_forth : (t : ℕ) → IsReachedSlot P (moved P I s d) t → IsReachedSlot P K t
  slot_forth t r =
      let held = held_forth paged t (slot_kept t r) (here.held_back P I pa pb s d c t r.live.held) in
      let owner = owner_after t held in
      record {
        owner = subst (Reached P K) (sym owner) (forth (slot_owner P (moved P I s d) t) r.owner);
        directory = ap (inode_kind K) owner ∙ kind_after (slot_owner P (moved P I s d) t) r.owner ∙ r.directory;
        live = record {
          held = held;
          names = λ z. r.live.names (sym (number_after t (here.not_source P I pa pb s d c t r)) ∙ z);
          stays = λ q other points. (let zero = pointer_zero q other in omega (arith, zero, points));
        };
      }

  pub named_slot : (t : ℕ) → slot_inode P K t ≢ 0 → t ≢ s
  unfolding slot_inode
  named_slot t some e = some (ap (λ u. slot_inode P K u) e ∙ ended.source 0 (omega arith))

  pub slot_back : (t : ℕ) → IsReachedSlot P K t → IsReachedSlot P (moved P I s d) t
  slot_back t r =
      let ns = named_slot t r.live.names in
      let owner = owner_after t r.live.held in
      let reached : Reached P (moved P I s d) (slot_owner P (moved P I s d) t) = subst (Reached P (moved P I s d)) owner (back (slot_owner P K t) r.owner) in
      record {
        owner = reached;
        directory = sym (kind_after (slot_owner P (moved P I s d) t) reached) ∙ ap (inode_kind K) (sym owner) ∙ r.directory;
        live = record {
          held = here.held_forward P I pa pb s d c t (held_before t r.live.held);
          names = λ z. r.live.names (number_after t ns ∙ z);
          stays = λ q other points. absurd (elim (cases_eq q d) [
            | inl e ↦
                let mine = sym (ap (λ u. slot_pointer P (moved P I s d) u) e ∙ (here.only P I pa pb s d c).pointer d ∙ c.pointer) ∙ points in
                ns (omega (arith, mine))
            | inr nd ↦ (let zero = (here.only P I pa pb s d c).pointer q ∙ c.alone q (here.held_back P I pa pb s d c q other) nd in omega (arith, zero, points))
          ]);
        };
      }

  -- all slots of the commit stay
  pub kept : KeepsSlots P (moved P I s d) K (λ t. ⊥)
  kept = record {
    before = coherent;
    after = ended.means.coherent;
    forth = λ t none r. slot_forth t r;
    back = λ t none r. slot_back t r;
    owners = λ t none was is. owner_after t is.live.held;
    numbers = λ t none was. number_after t (here.not_source P I pa pb s d c t was);
    kinds = λ x was is. kind_after x was;
  }

  pub rooms : (x j : ℕ) → IsRoomOf P (moved P I s d) x j ↔ IsRoomOf P K x j
  rooms = slot_laws.rooms kept (λ t none. none)

  -- ---- nothing to be repaired

  no_pointers : (t : ℕ) → IsPointer P K t → ⊥
  no_pointers t l = l.nonzero (pointer_zero t l.held)

  no_slot : (t : ℕ) → IsLitterSlot P K t → ⊥
  unfolding slot_owner
  no_slot t l =
      let (f, lt, nonzero) = l.nonzero in
      elim (cases_eq t s) [
        | inl e ↦ nonzero (ap (λ u. word K (slot_word_of P u f)) e ∙ ended.source f lt)
        | inr ns ↦ elim (cases_eq t d) [
          | inl e ↦ l.dead (subst (IsLive P K) (sym e) (slot_forth d (here.slot_new P I pa pb s d c)).live)
          | inr nd ↦
              let (u, at, o, live) = l.page.slot in
              let none = not_spare (page_of_slot t) (λ z. live.held.owned (ap (page_owner P K) at ∙ z)) in
              let same = paged.owner (page_of_slot t) (room_below P K (page_owner P K (page_of_slot t)) (page_of_slot t) l.page) none in
              let was = (rooms (page_owner P K (page_of_slot t)) (page_of_slot t)).1 l.page in
              let dead : IsLive P I t → ⊥ = λ lives. l.dead (slot_forth t (here.slot_forward P I pa pb s d c t ns nd (record {
                owner = subst (Reached P I) same (before (page_owner P K (page_of_slot t)) l.page.reached);
                directory = ap (inode_kind I) (sym same) ∙ sym (nodes.kind (page_owner P K (page_of_slot t)) was.reached) ∙ l.page.directory;
                live = lives;
              }))).live in
              let page : IsRoomOf P I (page_owner P I (page_of_slot t)) (page_of_slot t) ⊎ (page_of_slot t ≡ page_of_slot d) =
              elim (here.room_back P I pa pb s d c (page_owner P K (page_of_slot t)) (page_of_slot t) was) [
                | inl new ↦ inr new.1
                | inr old ↦ inl (subst (λ x. IsRoomOf P I x (page_of_slot t)) same old)
              ] in
              nonzero (ended.slots t f ns nd lt ∙ near.slots t f nd page dead lt)
        ]
      ]

  reached_kept : (j : ℕ) → j < data_pages_of P → (IsSpare P I (moved P I s d) s d j → ⊥) → Reached P I (page_owner P I j)
      → Reached P (moved P I s d) (page_owner P I j)
  reached_kept j lt none r = elim (cases_eq (page_owner P I j) (slot_inode P I d)) [
    | inr ne ↦ here.reached_forward P I pa pb s d c (page_owner P I j) ne r
    | inl e ↦ elim (dec_reached P (moved P I s d) coherent (slot_inode P I d)) [
      | yes there ↦ subst (Reached P (moved P I s d)) (sym e) there
      | no gone ↦ absurd (none (record { in_range = lt; why = inl (((λ z. reached_pos P I (page_owner P I j) r (e ∙ z)), gone), e) }))
    ]
  ]

  kept_room : (j : ℕ) → j < data_pages_of P → (IsSpare P I (moved P I s d) s d j → ⊥) → IsRoomOf P I (page_owner P I j) j → IsRoomOf P K (page_owner P I j) j
  kept_room j lt none room = (rooms (page_owner P I j) j).0 (elim (here.room_cases P I pa pb s d c (page_owner P I j) j room) [
    | inr after ↦ after
    | inl (owner, at) ↦ subst (λ x. IsRoomOf P (moved P I s d) x j) (sym owner) (elim (spares.room_left P I pa pb s d c j) [
      | inl there ↦ there
      | inr empty ↦ absurd (none (record { in_range = lt; why = inr (at, empty) }))
    ])
  ])

  -- the page of the new name is kept
  target_kept : (j : ℕ) → j ≡ page_of_slot d → IsKept P K j
  target_kept j at =
      let room = (rooms (slot_owner P I d) (page_of_slot d)).0 (here.room_new P I pa pb s d c) in
      let owner = sym (room_owner P K (slot_owner P I d) (page_of_slot d) room) in
      inr (subst (λ z. IsRoomOf P K (page_owner P K z) z) (sym at) (subst (λ x. IsRoomOf P K x (page_of_slot d)) owner room))

  no_page : (j : ℕ) → IsLitterPage P K j → ⊥
  no_page j l = elim (spares.spare_or_not P I pa pb s d c j) [
    | inl spare ↦ (let (f, lt, nonzero) = l.nonzero in nonzero (ended.spare j f spare lt))
    | inr none ↦ l.free (target_kept j (near.pages j (litter_page P I K (IsSpare P I (moved P I s d) s d) ended.descriptors ended.version (λ x was is. nodes.kind x (back x is)) (λ k lt other r. forth (page_owner P I k) (reached_kept k lt other r))
        (λ k other file. subst (λ z. page_offset P I k < pages_of_size z) (sym (nodes.size (page_owner P I k) (reached_kept k file.in_range other file.owner))) file.below) kept_room j none l)))
  ]

  no_inode : (x : ℕ) → IsLitterInode P K x → ⊥
  unfolding inode_links
  no_inode x l =
      let (f, lt, nonzero) = l.nonzero in
      let read = subst (λ n. f < n) (same_inode_words I K ended.version) lt in
      let least = l.least in
      let replaced : x ≡ slot_inode P I d → ⊥ = λ e.
      let out : IsOut P I (moved P I s d) d = ((λ z. omega (arith, e, z, least)), (λ r. l.unreached (forth x (subst (Reached P (moved P I s d)) (sym e) r)))) in
      nonzero (ap (λ y. word K (inode_word_of y f)) e ∙ ended.out out f lt) in
      let never : IsLowered P I s d x → ⊥ = λ falls. elim falls [
        | inl file ↦ replaced file.2
        | inr parent ↦ l.unreached (forth x (subst (Reached P (moved P I s d)) (sym parent.2) (here.source_owner_reached P I pa pb s d c)))
      ] in
      let same : word K (inode_word_of x f) ≡ word I (inode_word_of x f) = elim (cases_eq f 1) [
        | inl one ↦ ap (λ g. word K (inode_word_of x g)) one ∙ (ended.links x l.least l.most (λ _. replaced)).stays never
            ∙ ap (λ g. word I (inode_word_of x g)) (sym one)
        | inr other ↦ ended.inodes x f l.least l.most read other (λ _. replaced)
      ] in
      near.inodes x (record {
        least = l.least;
        most = l.most;
        unreached = λ r. l.unreached (forth x (here.reached_forward P I pa pb s d c x replaced r));
        nonzero = (f, read, (λ z. nonzero (same ∙ z)));
      })

  -- ---- links

  no_count : (x : ℕ) → IsLitterCount P K x → ⊥
  no_count x l =
      let r = back x l.reached in
      let was = here.reached_back P I pa pb s d c x r in
      let count = counts.counted P I pa pb s d c near x (inode_links K x) was (ended.links x (range x was).0 (range x was).1 (not_out x r)) in
      l.other (record {
        file = λ one. count_same (IsNameOf P (moved P I s d) x) (IsNameOf P K x) (inode_links K x) (λ t. slot_laws.names kept x t (λ none. none)) (count.file (sym (kind_after x r) ∙ one));
        directory = λ two.
            let (m, children, e) = count.directory (sym (kind_after x r) ∙ two) in
            (m, count_same (IsChildOf P (moved P I s d) x) (IsChildOf P K x) m (λ t. slot_laws.children kept x t (λ none. none)) children, e);
      })

  pub tidy : IsTidied P K
  tidy =
      tidy_from P K 0 ended.means.coherent
      (record { pointers = no_pointers; slots = no_slot; pages = λ x l. absurd (no_page x l); inodes = no_inode; counts = no_count }) (no_page 0)
