-- Nothing needs the pages that a rename gives back, once the source's words and the pointer are cleared.
use Rattle.std.proofs.Common.{◌≡◌, ◌≢◌, ◌⊎◌, inl, inr, ℕ, ◌<◌, ◌≤◌, List, sym, ap, subst, ◌∙◌, arith}
use Rattle.std.proofs.lemmas.Bool.{cases_eq, cases_lt}
use Rattle.layout.specs.Fields.{word, inode_kind, inode_links, page_owner, page_kind, slot_inode, slot_pointer}
use Rattle.layout.specs.Geometry.{inodes_of, data_pages_of, page_of_slot, inode_word_of, descriptor_word_of, slot_word_of}
use Rattle.layout.proofs.Widths.{in_descriptor, descriptor_field_read}
use Rattle.tree_model.specs.PathText.{Route}
use Rattle.image_reading.specs.Reading.{IsDirectory, slot_owner, IsHeld, IsLive, Reached, IsReachedSlot, IsRoomOf}
use Rattle.image_reading.specs.Soundness.{Rule, IsCoherent}
use Rattle.image_counts.proofs.Decided.{room_or_not, live_or_not}
use Rattle.image_counts.proofs.Paths.{in_range}
use Rattle.image_laws.specs.Frame.{SameMeaning}
use Rattle.image_laws.specs.Move.{CanMove, moved}
use Rattle.image_laws.specs.Stages.{IsNeedless, MayGive}
use Rattle.image_laws.proofs.Contents.{dec_reached}
use Rattle.image_laws.proofs.Decide.{decided, none_or_not, both_or_not, either_or_not}
use Rattle.image_laws.proofs.KeptPages.{KeepsPages, by_words, held_back, owner_with, held_with}
use Rattle.rename_laws.proofs.MovedCounts.{IsFallen, IsAlmostTidy}
use Rattle.rename_laws.proofs.MovedNames as here

-- the node that slot d named has no name left in C
abbrev pub IsOut : ℕ → List ℕ → List ℕ → ℕ → Type 0
IsOut P I C d = (slot_inode P I d ≢ 0) × (Reached P C (slot_inode P I d) → ⊥)

-- Page j was that node's, or it is the source's, in which no name is left.
pub record IsSpare (P : ℕ) (I C : List ℕ) (s d j : ℕ) : Type 0 where
  pub in_range : j < data_pages_of P
  pub why : (IsOut P I C d × (page_owner P I j ≡ slot_inode P I d)) ⊎ ((j ≡ page_of_slot s) × (IsRoomOf P C (slot_owner P I s) j → ⊥))

-- J means what the commit leaves, and its words are those of I but for the two slots and the count that falls.
pub record HasCleared (P : ℕ) (I J : List ℕ) (s d : ℕ) : Type 0 where
  pub means : SameMeaning P (moved P I s d) J
  pub descriptors : (j f : ℕ) → j < data_pages_of P → f < 8 → word J (descriptor_word_of P j f) ≡ word I (descriptor_word_of P j f)
  pub inodes : (x f : ℕ) → 1 ≤ x → x ≤ inodes_of P → f < 16 → f ≢ 1 → word J (inode_word_of x f) ≡ word I (inode_word_of x f)
  pub links : (x : ℕ) → 1 ≤ x → x ≤ inodes_of P → IsFallen P I s d x (inode_links J x)
  pub slots : (t f : ℕ) → t ≢ s → t ≢ d → f < 16 → word J (slot_word_of P t f) ≡ word I (slot_word_of P t f)
  pub source : (f : ℕ) → f < 16 → word J (slot_word_of P s f) ≡ 0
  pub number : slot_inode P J d ≡ slot_inode P I s
  pub name : (f : ℕ) → 2 ≤ f → f < 16 → word J (slot_word_of P d f) ≡ word I (slot_word_of P d f)
  pub pointer : slot_pointer P J d ≡ 0
  pub version : word J 1 ≡ word I 1

module _ (P : ℕ) (I : List ℕ) (pa pb : Route) (s d : ℕ) (c : CanMove P I pa pb s d) where
  coherent : IsCoherent P (moved P I s d)
  coherent = (here.after P I pa pb s d c).coherent

  pub source_directory : IsDirectory (moved P I s d) (slot_owner P I s)
  source_directory = here.kind_same P I pa pb s d c (slot_owner P I s) (pa, c.source_path) ∙ c.source_directory

  -- ---- which pages these are

  pub out_or_not : IsOut P I (moved P I s d) d ⊎ (IsOut P I (moved P I s d) d → ⊥)
  out_or_not = both_or_not _ _ (none_or_not _ (cases_eq (slot_inode P I d) 0)) (none_or_not _ (decided (dec_reached P (moved P I s d) coherent (slot_inode P I d))))

  pub room_left : (j : ℕ) → IsRoomOf P (moved P I s d) (slot_owner P I s) j ⊎ (IsRoomOf P (moved P I s d) (slot_owner P I s) j → ⊥)
  room_left j = room_or_not P (moved P I s d) (slot_owner P I s) j (here.source_owner_reached P I pa pb s d c) source_directory

  pub spare_or_not : (j : ℕ) → IsSpare P I (moved P I s d) s d j ⊎ (IsSpare P I (moved P I s d) s d j → ⊥)
  spare_or_not j = elim (cases_lt j (data_pages_of P)) [
    | inr ge ↦ inr (λ spare. let lt = spare.in_range in omega (arith, lt))
    | inl lt ↦ elim (either_or_not _ _ (both_or_not _ _ out_or_not (cases_eq (page_owner P I j) (slot_inode P I d))) (both_or_not _ _ (cases_eq j (page_of_slot s)) (none_or_not _ (room_left j)))) [
      | inl why ↦ inl (record { in_range = lt; why = why })
      | inr never ↦ inr (λ spare. never spare.why)
    ]
  ]

  -- ---- nothing needs them

  reached_slot : (t x j : ℕ) → IsRoomOf P I x j → page_of_slot t ≡ j → slot_owner P I t ≡ x → IsLive P I t → IsReachedSlot P I t
  reached_slot t x j room at o live =
      record { owner = subst (Reached P I) (sym o) room.reached; directory = ap (inode_kind I) o ∙ room.directory; live = live }

  -- a directory that is replaced has no page
  no_page : (j : ℕ) → IsAlmostTidy P I s d → j < data_pages_of P → slot_inode P I d ≢ 0 → IsDirectory I (slot_inode P I d)
      → page_owner P I j ≢ slot_inode P I d
  unfolding slot_owner page_owner
  no_page j near lt some two owner =
      let at : j ≡ page_of_slot d = near.pages j (record {
        in_range = lt;
        free = λ kept. elim kept [
          | inl file ↦ (let one = sym (ap (inode_kind I) owner) ∙ file.file in omega (arith, one, two))
          | inr room ↦
              let (t, here_at, o, live) = room.slot in
              here.no_owner P I pa pb s d c t (reached_slot t (page_owner P I j) j room here_at o live) (o ∙ owner)
        ];
        nonzero = (0, descriptor_field_read I 0 (omega arith), (λ z. some (sym owner ∙ z)));
      }) in
      here.no_owner P I pa pb s d c d (here.replaced_slot P I pa pb s d c some) (ap (page_owner P I) (sym at) ∙ owner)

  -- so a node that is out is a file where it has pages
  file_page : (j : ℕ) → IsAlmostTidy P I s d → j < data_pages_of P → IsOut P I (moved P I s d) d → page_owner P I j ≡ slot_inode P I d
      → page_kind P I j ≡ 1
  file_page j near lt out owner =
      let reached : Reached P I (page_owner P I j) = subst (Reached P I) (sym owner) (here.replaced_reached P I pa pb s d c out.0) in
      elim ((c.coherent Rule.kinds (page_owner P I j)).kind reached) [
        | inl file ↦ (c.coherent Rule.page_kinds j).file lt reached file
        | inr two ↦ absurd (no_page j near lt out.0 (sym (ap (inode_kind I) owner) ∙ two) owner)
      ]

  module _ (J : List ℕ) (near : IsAlmostTidy P I s d) (cleared : HasCleared P I J s d) where
    paged : KeepsPages P I J (λ j. ⊥)
    paged = by_words P I J (λ j. ⊥) (λ j f lt read none. cleared.descriptors j f lt (in_descriptor I f read))

    owner_same : (j : ℕ) → j < data_pages_of P → page_owner P J j ≡ page_owner P I j
    owner_same j lt = paged.owner j lt (λ none. none)

    inode_kind_same : (x : ℕ) → Reached P I x → inode_kind J x ≡ inode_kind I x
    unfolding inode_kind
    inode_kind_same x r = let (some, most) = in_range P I c.coherent x r in cleared.inodes x 0 some most (omega arith) (λ e. omega (arith, e))

    pointer_zero : (t : ℕ) → IsHeld P I t → slot_pointer P J t ≡ 0
    unfolding slot_pointer
    pointer_zero t held = elim (cases_eq t d) [
      | inl e ↦ ap (λ u. slot_pointer P J u) e ∙ cleared.pointer
      | inr nd ↦ elim (cases_eq t s) [
        | inl e ↦ ap (λ u. slot_pointer P J u) e ∙ cleared.source 1 (omega arith)
        | inr ns ↦ cleared.slots t 1 ns nd (omega arith) ∙ c.alone t held nd
      ]
    ]

    back : (x : ℕ) → Reached P J x → Reached P (moved P I s d) x
    back x (q, b) = (q, (cleared.means.names q x).1 b)

    -- where no name is left in the source's page, its slots name nothing
    empty_page : (IsRoomOf P (moved P I s d) (slot_owner P I s) (page_of_slot s) → ⊥) → (t : ℕ) → page_of_slot t ≡ page_of_slot s
        → slot_inode P J t ≡ 0
    unfolding slot_inode slot_owner
    empty_page none t at = elim (cases_eq t s) [
      | inl e ↦ ap (λ u. slot_inode P J u) e ∙ cleared.source 0 (omega arith)
      | inr ns ↦ elim (cases_eq t d) [
        | inl e ↦ absurd (none (here.room_from P I pa pb s d c (moved P I s d) (slot_owner P I s) (page_of_slot s) d
            (here.slot_new P I pa pb s d c) (sym (ap page_of_slot e) ∙ at)
            (here.owner_same P I pa pb s d c d c.held.in_range ∙ sym (ap (slot_owner P I) e) ∙ owner_with P I s t at)))
        | inr nd ↦ cleared.slots t 0 ns nd (omega arith) ∙ elim (live_or_not P I t) [
          | inl live ↦
              let room = here.room_old P I pa pb s d c in
              let slot = reached_slot t (slot_owner P I s) (page_of_slot s) room at (owner_with P I s t at) live in
              absurd (none (here.room_from P I pa pb s d c (moved P I s d) (slot_owner P I s) (page_of_slot s) t (here.slot_forward P I pa pb s d c t ns nd slot) at
              (here.owner_same P I pa pb s d c t live.held.in_range ∙ owner_with P I s t at)))
          | inr dead ↦ near.slots t 0 nd (inl (subst (λ j. IsRoomOf P I (page_owner P I j) j) (sym at) (here.room_old P I pa pb s d c))) dead (omega arith)
        ]
      ]
    ]

    needless : (j : ℕ) → IsSpare P I (moved P I s d) s d j → IsNeedless P J j
    unfolding slot_owner
    needless j spare = record {
      in_range = spare.in_range;
      why = elim spare.why [
        | inl (out, owner) ↦ inl (
          paged.kind j spare.in_range (λ none. none) ∙ file_page j near spare.in_range out owner,
          (λ r. out.1 (subst (Reached P (moved P I s d)) (owner_same j spare.in_range ∙ owner) (back (page_owner P J j) r))),
        )
        | inr (at, none) ↦
            let owner : page_owner P J j ≡ slot_owner P I s = owner_same j spare.in_range ∙ ap (page_owner P I) at in
            let empty : IsRoomOf P (moved P I s d) (slot_owner P I s) (page_of_slot s) → ⊥ = λ room.
            none (subst (IsRoomOf P (moved P I s d) (slot_owner P I s)) (sym at) room) in
            inr (record {
              kind = paged.kind j spare.in_range (λ none. none) ∙ ap (page_kind P I) at ∙ c.source.held.kind;
              directory = λ r. ap (inode_kind J) owner ∙ inode_kind_same (slot_owner P I s) (pa, c.source_path) ∙ c.source_directory;
              numbers = λ t here_at. empty_page empty t (here_at ∙ at);
              pointers = λ t here_at. pointer_zero t (held_with P I s t (here_at ∙ at) c.source.held);
            })
      ];
    }

    pub may_give : MayGive P J (IsSpare P I (moved P I s d) s d)
    may_give = record {
      coherent = cleared.means.coherent;
      no_pointer = λ t held. pointer_zero t (held_back paged t (λ none. none) held);
      decided = spare_or_not;
      needless = needless;
    }
