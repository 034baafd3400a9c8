-- Words behind the commit of a rename: slot s, the pages that go and a replaced inode that goes are to be repaired, and no other slot, page
-- or inode.
use Rattle.std.proofs.Common.{◌≡◌, ◌≢◌, ◌↔◌, ◌⊎◌, inl, inr, ℕ, ◌+◌, ◌-◌, ◌<◌, ◌≤◌, List, sym, ap, subst, ◌∙◌, arith}
use Rattle.std.proofs.lemmas.Bool.{cases_eq}
use Rattle.layout.specs.Fields.{word, inode_kind, inode_links, page_owner, page_offset, slot_inode, slot_pointer}
use Rattle.layout.specs.Geometry.{inodes_of, data_pages_of, page_of_slot, inode_word_of, descriptor_word_of, slot_word_of}
use Rattle.layout.proofs.Widths.{in_inode, in_descriptor, inode_field_read, descriptor_field_read, same_inode_words}
use Rattle.tree_model.specs.PathText.{Route}
use Rattle.image_reading.specs.Reading.{slot_owner, IsHeld, IsLive, Reached, IsReachedSlot, IsNameOf, IsLinkCount, IsRoomOf, pages_of_size}
use Rattle.image_reading.specs.Repairs.{IsKept, IsPointer, IsLitterSlot, IsLitterPage, IsLitterInode, IsLitterCount}
use Rattle.image_reading.specs.Soundness.{Rule, IsCoherent}
use Rattle.image_counts.proofs.Decided.{room_below, room_owner}
use Rattle.image_counts.proofs.Paths.{in_range}
use Rattle.image_laws.specs.Frame.{SameMeaning}
use Rattle.image_laws.specs.Move.{CanMove, moved}
use Rattle.image_laws.proofs.Contents.{dec_reached}
use Rattle.image_laws.proofs.KeptInodes.{KeepsInodes, by_inodes}
use Rattle.image_laws.proofs.KeptPages.{KeepsPages, KeepsDescriptors, by_words, held_owner_same, held_forth, held_back, litter_page}
use Rattle.image_laws.proofs.KeptSlots as slot_laws
use Rattle.image_laws.proofs.KeptSlots.{KeepsSlots, count_some}
use Rattle.image_laws.proofs.Paths.{reached_pos}
use Rattle.rename_laws.proofs.MovedCounts as counts
use Rattle.rename_laws.proofs.MovedCounts.{IsLowered, IsFallen, IsAlmostTidy}
use Rattle.rename_laws.proofs.MovedNames as here
use Rattle.rename_laws.proofs.MovedWords as words
use Rattle.rename_laws.proofs.MoveSpare as spares
use Rattle.rename_laws.proofs.MoveSpare.{IsOut, IsSpare}
use Rattle.weave_laws.proofs.Same.{links_same, one_number}

-- Y means what the commit leaves, and its words are those of I but for the two slots and the links that fall. Slot d has the number, and
-- points at slot s or nowhere; slot s isn't live.
pub record IsBehind (P : ℕ) (I Y : List ℕ) (s d : ℕ) : Type 0 where
  pub means : SameMeaning P (moved P I s d) Y
  pub descriptors : (j f : ℕ) → j < data_pages_of P → f < 8 → word Y (descriptor_word_of P j f) ≡ word I (descriptor_word_of P j f)
  pub inodes : (x f : ℕ) → 1 ≤ x → x ≤ inodes_of P → f < 16 → f ≢ 1 → word Y (inode_word_of x f) ≡ word I (inode_word_of x f)
  pub links : (x : ℕ) → 1 ≤ x → x ≤ inodes_of P → (inode_links Y x ≡ inode_links I x) ⊎ IsLowered P I s d x
  pub slots : (t f : ℕ) → t ≢ s → t ≢ d → f < 16 → word Y (slot_word_of P t f) ≡ word I (slot_word_of P t f)
  pub number : slot_inode P Y d ≡ slot_inode P I s
  pub pointer : (slot_pointer P Y d ≡ 0) ⊎ (slot_pointer P Y d ≡ s + 1)
  pub source : slot_pointer P Y s ≡ 0
  pub dead : ¬ IsLive P Y s
  pub version : word Y 1 ≡ word I 1

module _ (P : ℕ) (I : List ℕ) (pa pb : Route) (s d : ℕ) (c : CanMove P I pa pb s d) where
  pub low_or_not : (x : ℕ) → IsLowered P I s d x ⊎ ¬ IsLowered P I s d x
  low_or_not x = elim (words.falls_or_not P I pa pb s d c) [
    | inr never ↦ inr (never x)
    | inl (y, low) ↦ elim (cases_eq x y) [
      | inl e ↦ inl (subst (IsLowered P I s d) (sym e) low)
      | inr ne ↦ inr (λ also. ne (words.one_falls P I pa pb s d c x y also low))
    ]
  ]

module _ (P : ℕ) (I Y : List ℕ) (pa pb : Route) (s d : ℕ) (c : CanMove P I pa pb s d) (near : IsAlmostTidy P I s d) (behind : IsBehind P I Y s d) where
  coherent : IsCoherent P (moved P I s d)
  coherent = (here.after P I pa pb s d c).coherent

  -- ---- what is reached

  forth : (x : ℕ) → Reached P (moved P I s d) x → Reached P Y x
  forth x (q, b) = (q, (behind.means.names q x).0 b)

  pub back : (x : ℕ) → Reached P Y x → Reached P (moved P I s d) x
  back x (q, b) = (q, (behind.means.names q x).1 b)

  before : (x : ℕ) → Reached P Y x → Reached P I x
  before x r = here.reached_back P I pa pb s d c x (back x r)

  -- ---- fields

  range : (x : ℕ) → Reached P I x → (1 ≤ x) × (x ≤ inodes_of P)
  range x r = in_range P I c.coherent x r

  nodes : KeepsInodes I Y (Reached P I) (λ x. Unit {0})
  nodes = by_inodes P I Y (Reached P I) (λ x. Unit) range (λ x f r some most lt links. elim links [
    | inl other ↦ behind.inodes x f some most (in_inode I f lt) other
    | inr none ↦ absurd (none tt)
  ])

  kind_after : (x : ℕ) → Reached P (moved P I s d) x → inode_kind Y x ≡ inode_kind (moved P I s d) x
  kind_after x r = let was = here.reached_back P I pa pb s d c x r in nodes.kind x was ∙ sym (here.kind_same P I pa pb s d c x was)

  kept_words : (Page : ℕ → Type 0) → KeepsDescriptors P I Y Page
  kept_words Page j f lt read other = behind.descriptors j f lt (in_descriptor I f read)

  paged : KeepsPages P I Y (λ j. ⊥)
  paged = by_words P I Y (λ j. ⊥) (kept_words (λ j. ⊥))

  owner_same : (j : ℕ) → j < data_pages_of P → page_owner P Y j ≡ page_owner P I j
  owner_same j lt = paged.owner j lt (λ none. none)

  held_before : (t : ℕ) → IsHeld P Y t → IsHeld P I t
  held_before t = held_back paged t (λ none. none)

  held_after : (t : ℕ) → IsHeld P I t → IsHeld P Y t
  held_after t = held_forth paged t (λ none. none)

  owner_after : (t : ℕ) → IsHeld P I t → slot_owner P Y t ≡ slot_owner P (moved P I s d) t
  owner_after t held = held_owner_same paged t held (λ none. none) ∙ sym (here.owner_same P I pa pb s d c t held.in_range)

  number_after : (t : ℕ) → t ≢ s → slot_inode P Y t ≡ slot_inode P (moved P I s d) t
  unfolding slot_inode
  number_after t ns = elim (cases_eq t d) [
    | inl e ↦ ap (λ u. slot_inode P Y u) e ∙ behind.number ∙ sym (here.number_new P I pa pb s d c) ∙ ap (λ u. slot_inode P (moved P I s d) u) (sym e)
    | inr nd ↦ behind.slots t 0 ns nd (omega arith) ∙ sym ((here.only P I pa pb s d c).inode t nd)
  ]

  -- ---- pointers

  others_zero : (q : ℕ) → IsHeld P I q → q ≢ d → slot_pointer P Y q ≡ 0
  unfolding slot_pointer
  others_zero q held nd = elim (cases_eq q s) [
    | inl e ↦ ap (λ u. slot_pointer P Y u) e ∙ behind.source
    | inr ns ↦ behind.slots q 1 ns nd (omega arith) ∙ c.alone q held nd
  ]

  points_at : (q t : ℕ) → IsHeld P I q → slot_pointer P Y q ≡ t + 1 → t ≡ s
  points_at q t held points = elim (cases_eq q d) [
    | inl e ↦
        let mine = ap (λ u. slot_pointer P Y u) (sym e) ∙ points in
        elim behind.pointer [ inl zero ↦ omega (arith, zero, mine) | inr at ↦ omega (arith, at, mine) ]
    | inr nd ↦ (let zero = others_zero q held nd in omega (arith, zero, points))
  ]

  then_at : (q t : ℕ) → IsHeld P I q → slot_pointer P (moved P I s d) q ≡ t + 1 → t ≡ s
  then_at q t held points = elim (cases_eq q d) [
    | inl e ↦ (let mine = sym (ap (λ u. slot_pointer P (moved P I s d) u) e ∙ (here.only P I pa pb s d c).pointer d ∙ c.pointer) ∙ points in omega (arith, mine))
    | inr nd ↦ (let zero = (here.only P I pa pb s d c).pointer q ∙ c.alone q held nd in omega (arith, zero, points))
  ]

  pub only_pointer : (t : ℕ) → IsPointer P Y t → t ≡ d
  only_pointer t l = elim (cases_eq t d) [ inl e ↦ e | inr nd ↦ absurd (l.nonzero (others_zero t (held_before t l.held) nd)) ]

  pub d_held : IsHeld P Y d
  d_held = held_after d c.held

  -- ---- reached slots

  slot_forth : (t : ℕ) → IsReachedSlot P (moved P I s d) t → IsReachedSlot P Y t
  slot_forth t r =
      let was = here.held_back P I pa pb s d c t r.live.held in
      let ns = here.not_source P I pa pb s d c t r in
      let owner = owner_after t was in
      record {
        owner = subst (Reached P Y) (sym owner) (forth (slot_owner P (moved P I s d) t) r.owner);
        directory = ap (inode_kind Y) owner ∙ kind_after (slot_owner P (moved P I s d) t) r.owner ∙ r.directory;
        live = record {
          held = held_after t was;
          names = λ z. r.live.names (sym (number_after t ns) ∙ z);
          stays = λ q other points. absurd (ns (points_at q t (held_before q other) points));
        };
      }

  slot_back : (t : ℕ) → IsReachedSlot P Y t → IsReachedSlot P (moved P I s d) t
  slot_back t r =
      let ns : t ≢ s = λ e. behind.dead (subst (IsLive P Y) e r.live) in
      let was = held_before t r.live.held in
      let owner = owner_after t was in
      let reached : Reached P (moved P I s d) (slot_owner P (moved P I s d) t) = subst (Reached P (moved P I s d)) owner (back (slot_owner P Y t) r.owner) in
      record {
        owner = reached;
        directory = sym (kind_after (slot_owner P (moved P I s d) t) reached) ∙ ap (inode_kind Y) (sym owner) ∙ r.directory;
        live = record {
          held = here.held_forward P I pa pb s d c t was;
          names = λ z. r.live.names (number_after t ns ∙ z);
          stays = λ q other points. absurd (ns (then_at q t (here.held_back P I pa pb s d c q other) points));
        };
      }

  -- all slots of the commit stay
  kept : KeepsSlots P (moved P I s d) Y (λ t. ⊥)
  kept = record {
    before = coherent;
    after = behind.means.coherent;
    forth = λ t none r. slot_forth t r;
    back = λ t none r. slot_back t r;
    owners = λ t none was is. owner_after t (held_before t is.live.held);
    numbers = λ t none was. number_after t (here.not_source P I pa pb s d c t was);
    kinds = λ x was is. kind_after x was;
  }

  rooms : (x j : ℕ) → IsRoomOf P (moved P I s d) x j ↔ IsRoomOf P Y x j
  rooms = slot_laws.rooms kept (λ t none. none)

  -- ---- slots

  pub only_slot : (t : ℕ) → IsLitterSlot P Y t → t ≡ s
  unfolding slot_owner
  only_slot t l =
      let (f, lt, nonzero) = l.nonzero in
      elim (cases_eq t s) [
        | inl e ↦ e
        | inr ns ↦ elim (cases_eq t d) [
          | inl e ↦ absurd (l.dead (subst (IsLive P Y) (sym e) (slot_forth d (here.slot_new P I pa pb s d c)).live))
          | inr nd ↦
              let same = owner_same (page_of_slot t) (room_below P Y (page_owner P Y (page_of_slot t)) (page_of_slot t) l.page) in
              let was = (rooms (page_owner P Y (page_of_slot t)) (page_of_slot t)).1 l.page in
              let first = before (page_owner P Y (page_of_slot t)) l.page.reached in
              let dead : IsLive P I t → ⊥ = λ lives. l.dead (slot_forth t (here.slot_forward P I pa pb s d c t ns nd (record {
                owner = subst (Reached P I) same first;
                directory = ap (inode_kind I) (sym same) ∙ sym (nodes.kind (page_owner P Y (page_of_slot t)) first) ∙ l.page.directory;
                live = lives;
              }))).live in
              let page : IsRoomOf P I (page_owner P I (page_of_slot t)) (page_of_slot t) ⊎ (page_of_slot t ≡ page_of_slot d) =
              elim (here.room_back P I pa pb s d c (page_owner P Y (page_of_slot t)) (page_of_slot t) was) [
                | inl new ↦ inr new.1
                | inr old ↦ inl (subst (λ x. IsRoomOf P I x (page_of_slot t)) same old)
              ] in
              absurd (nonzero (behind.slots t f ns nd lt ∙ near.slots t f nd page dead lt))
        ]
      ]

  -- slot s is to be repaired where its page has a name
  pub source_left : IsRoomOf P (moved P I s d) (slot_owner P I s) (page_of_slot s) → (f : ℕ) × (f < 16) × (word Y (slot_word_of P s f) ≢ 0) → IsLitterSlot P Y s
  source_left room nonzero =
      let there = (rooms (slot_owner P I s) (page_of_slot s)).0 room in
      record { page = subst (λ x. IsRoomOf P Y x (page_of_slot s)) (sym (room_owner P Y (slot_owner P I s) (page_of_slot s) there)) there; dead = behind.dead; nonzero = nonzero }

  pub source_room : IsLitterSlot P Y s → IsRoomOf P (moved P I s d) (slot_owner P I s) (page_of_slot s)
  unfolding slot_owner
  source_room l =
      let same = owner_same (page_of_slot s) (room_below P Y (page_owner P Y (page_of_slot s)) (page_of_slot s) l.page) in
      subst (λ x. IsRoomOf P (moved P I s d) x (page_of_slot s)) same ((rooms (page_owner P Y (page_of_slot s)) (page_of_slot s)).1 l.page)

  -- ---- pages

  reached_kept : (j : ℕ) → j < data_pages_of P → (IsSpare P I (moved P I s d) s d j → ⊥) → Reached P I (page_owner P I j) → Reached P (moved P I s d) (page_owner P I j)
  reached_kept j lt none r = elim (cases_eq (page_owner P I j) (slot_inode P I d)) [
    | inr ne ↦ here.reached_forward P I pa pb s d c (page_owner P I j) ne r
    | inl e ↦ elim (dec_reached P (moved P I s d) coherent (slot_inode P I d)) [
      | yes there ↦ subst (Reached P (moved P I s d)) (sym e) there
      | no gone ↦ absurd (none (record { in_range = lt; why = inl (((λ z. reached_pos P I (page_owner P I j) r (e ∙ z)), gone), e) }))
    ]
  ]

  kept_room : (j : ℕ) → j < data_pages_of P → (IsSpare P I (moved P I s d) s d j → ⊥) → IsRoomOf P I (page_owner P I j) j → IsRoomOf P Y (page_owner P I j) j
  kept_room j lt none room = (rooms (page_owner P I j) j).0 (elim (here.room_cases P I pa pb s d c (page_owner P I j) j room) [
    | inr after ↦ after
    | inl (owner, at) ↦ subst (λ x. IsRoomOf P (moved P I s d) x j) (sym owner) (elim (spares.room_left P I pa pb s d c j) [
      | inl there ↦ there
      | inr empty ↦ absurd (none (record { in_range = lt; why = inr (at, empty) }))
    ])
  ])

  -- the page of the new name is kept
  target_kept : (j : ℕ) → j ≡ page_of_slot d → IsKept P Y j
  target_kept j at =
      let room = (rooms (slot_owner P I d) (page_of_slot d)).0 (here.room_new P I pa pb s d c) in
      let owner = sym (room_owner P Y (slot_owner P I d) (page_of_slot d) room) in
      inr (subst (λ z. IsRoomOf P Y (page_owner P Y z) z) (sym at) (subst (λ x. IsRoomOf P Y x (page_of_slot d)) owner room))

  pub page_spare : (j : ℕ) → IsLitterPage P Y j → IsSpare P I (moved P I s d) s d j
  page_spare j l = elim (spares.spare_or_not P I pa pb s d c j) [
    | inl spare ↦ spare
    | inr none ↦
        let was = litter_page P I Y (IsSpare P I (moved P I s d) s d) (kept_words (IsSpare P I (moved P I s d) s d)) behind.version (λ x was is. nodes.kind x was) (λ k lt other r. forth (page_owner P I k) (reached_kept k lt other r))
        (λ k other file. subst (λ z. page_offset P I k < pages_of_size z) (sym (nodes.size (page_owner P I k) file.owner)) file.below) kept_room j none l in
        absurd (l.free (target_kept j (near.pages j was)))
  ]

  pub spare_owned : (j : ℕ) → IsSpare P I (moved P I s d) s d j → page_owner P Y j ≢ 0
  unfolding slot_owner
  spare_owned j spare z =
      let was = sym (owner_same j spare.in_range) ∙ z in
      elim spare.why [
        | inl (out, owner) ↦ out.0 (sym owner ∙ was)
        | inr (at, none) ↦ c.source.held.owned (ap (page_owner P I) (sym at) ∙ was)
      ]

  spare_unkept : (j : ℕ) → IsSpare P I (moved P I s d) s d j → ¬ IsKept P Y j
  unfolding slot_owner
  spare_unkept j spare is_kept =
      let same = owner_same j spare.in_range in
      elim spare.why [
        | inl (out, owner) ↦ out.1 (subst (Reached P (moved P I s d)) (same ∙ owner) (back (page_owner P Y j) (elim is_kept [ inl file ↦ file.owner | inr room ↦ room.reached ])))
        | inr (at, none) ↦
            let is : page_owner P Y j ≡ slot_owner P I s = same ∙ ap (page_owner P I) at in
            elim is_kept [
              | inl file ↦
                  let one = ap (inode_kind Y) (sym is) ∙ file.file in
                  let two = nodes.kind (slot_owner P I s) (pa, c.source_path) ∙ c.source_directory in
                  omega (arith, one, two)
              | inr room ↦ none (subst (λ x. IsRoomOf P (moved P I s d) x j) is ((rooms (page_owner P Y j) j).1 room))
            ]
      ]

  pub spare_page : (j : ℕ) → IsSpare P I (moved P I s d) s d j → IsLitterPage P Y j
  unfolding page_owner
  spare_page j spare = record { in_range = spare.in_range; free = spare_unkept j spare; nonzero = (0, descriptor_field_read Y 0 (omega arith), spare_owned j spare) }

  -- ---- inodes

  pub inode_out : (x : ℕ) → IsLitterInode P Y x → (x ≡ slot_inode P I d) × IsOut P I (moved P I s d) d
  unfolding inode_links
  inode_out x l = elim (cases_eq x (slot_inode P I d)) [
    | inl e ↦ (e, ((λ z. (let least = l.least in omega (arith, e, z, least))), (λ r. l.unreached (forth x (subst (Reached P (moved P I s d)) (sym e) r)))))
    | inr ne ↦
        let (f, lt, nonzero) = l.nonzero in
        let read = subst (λ n. f < n) (same_inode_words I Y behind.version) lt in
        let same : word Y (inode_word_of x f) ≡ word I (inode_word_of x f) = elim (cases_eq f 1) [
          | inr other ↦ behind.inodes x f l.least l.most (in_inode I f read) other
          | inl one ↦ ap (λ g. word Y (inode_word_of x g)) one ∙ elim (behind.links x l.least l.most) [
            | inl stays ↦ stays
            | inr low ↦ elim low [
              | inl file ↦ absurd (ne file.2)
              | inr parent ↦ absurd (l.unreached (forth x (subst (Reached P (moved P I s d)) (sym parent.2) (here.source_owner_reached P I pa pb s d c))))
            ]
          ] ∙ ap (λ g. word I (inode_word_of x g)) (sym one)
        ] in
        absurd (near.inodes x (record {
          least = l.least;
          most = l.most;
          unreached = λ r. l.unreached (forth x (here.reached_forward P I pa pb s d c x ne r));
          nonzero = (f, read, (λ z. nonzero (same ∙ z)));
        }))
  ]

  pub out_kind : IsOut P I (moved P I s d) d → inode_kind Y (slot_inode P I d) ≢ 0
  out_kind out z =
      let was = here.replaced_reached P I pa pb s d c out.0 in
      let same = nodes.kind (slot_inode P I d) was in
      elim ((c.coherent Rule.kinds (slot_inode P I d)).kind was) [ inl one ↦ omega (arith, one, same, z) | inr two ↦ omega (arith, two, same, z) ]

  pub out_inode : IsOut P I (moved P I s d) d → IsLitterInode P Y (slot_inode P I d)
  unfolding inode_kind
  out_inode out =
      let (least, most) = range (slot_inode P I d) (here.replaced_reached P I pa pb s d c out.0) in
      record { least = least; most = most; unreached = λ r. out.1 (back (slot_inode P I d) r); nonzero = (0, inode_field_read Y 0 (omega arith), out_kind out) }

  -- ---- links

  same_counts : (x n : ℕ) → Reached P (moved P I s d) x → IsLinkCount P (moved P I s d) x n ↔ IsLinkCount P Y x n
  same_counts x n r = links_same P (moved P I s d) Y x (λ t. slot_laws.names kept x t (λ none. none)) (λ t. slot_laws.children kept x t (λ none. none)) (kind_after x r) n

  -- a link word less what falls is as counted
  fallen_counted : (x : ℕ) → Reached P (moved P I s d) x → IsFallen P I s d x (inode_links Y x) → IsLinkCount P Y x (inode_links Y x)
  fallen_counted x r fallen = (same_counts x (inode_links Y x) r).0 (counts.counted P I pa pb s d c near x (inode_links Y x) (here.reached_back P I pa pb s d c x r) fallen)

  pub fallen_right : ((x : ℕ) → 1 ≤ x → x ≤ inodes_of P → IsFallen P I s d x (inode_links Y x)) → (x : ℕ) → ¬ IsLitterCount P Y x
  fallen_right fallen x l =
      let r = back x l.reached in
      let (some, most) = range x (before x l.reached) in
      l.other (fallen_counted x r (fallen x some most))

  -- what has a link less has some before
  some_links : (x : ℕ) → IsLowered P I s d x → Reached P I x → 1 ≤ inode_links I x
  some_links x low r = elim low [
    | inl (file, some, e) ↦
        let one = ap (inode_kind I) e ∙ near.kinds some ∙ file in
        count_some (IsNameOf P I x) (inode_links I x) d (record { slot = here.replaced_slot P I pa pb s d c some; inode = sym e }) (near.names x r one)
    | inr (dir, why, e) ↦
        let (m, children, links) = near.children x r (ap (inode_kind I) e ∙ c.source_directory) in
        elim links [ inl risen ↦ (let more = risen.1 in omega (arith, more)) | inr same ↦ (let is = same.1 in omega (arith, is)) ]
  ]

  module _ (same : (x : ℕ) → 1 ≤ x → x ≤ inodes_of P → inode_links Y x ≡ inode_links I x) where
    links_stay : (x : ℕ) → Reached P I x → inode_links Y x ≡ inode_links I x
    links_stay x r = same x (range x r).0 (range x r).1

    -- until the word falls, it is one too many
    pub count_low : (x : ℕ) → IsLitterCount P Y x → IsLowered P I s d x
    count_low x l = elim (low_or_not P I pa pb s d c x) [
      | inl low ↦ low
      | inr never ↦ absurd (l.other (fallen_counted x (back x l.reached) (record { falls = λ low. absurd (never low); stays = λ _. links_stay x (before x l.reached) })))
    ]

    pub low_count : (x : ℕ) → IsLowered P I s d x → Reached P (moved P I s d) x → IsLitterCount P Y x
    low_count x low r = record {
      reached = forth x r;
      other = λ count.
          let was = here.reached_back P I pa pb s d c x r in
          let some = some_links x low was in
          let stay = links_stay x was in
          let less = counts.counted P I pa pb s d c near x (inode_links I x - 1) was (record { falls = λ _. omega (arith, some); stays = λ never. absurd (never low) }) in
          let wrong = one_number P (moved P I s d) x (inode_links Y x) (inode_links I x - 1) ((coherent Rule.kinds x).kind r) ((same_counts x (inode_links Y x) r).1 count) less in
          omega (arith, some, stay, wrong);
    }
