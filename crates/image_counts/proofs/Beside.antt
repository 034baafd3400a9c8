-- Beside a residue a page with an owner or a kind is kept or the residue's, and a slot of a directory that the residue has nothing of is
-- live or zero.
use Rattle.std.proofs.Common.{◌≡◌, ◌≢◌, ◌⊎◌, inl, inr, ℕ, ◌+◌, ◌*◌, ◌<◌, ◌≤◌, List, length, sym, subst, ◌∙◌, arith}
use Rattle.std.proofs.lemmas.Bool.{cases_eq, cases_lt}
use Rattle.layout.specs.Geometry.{data_pages_of, page_of_slot, slot_word_of}
use Rattle.layout.proofs.GeometryLaws.{page_of_slot_below, slot_below}
use Rattle.layout.proofs.Widths.{descriptor_field_read}
use Rattle.layout.specs.Fields.{word, inode_size, page_owner, page_kind, page_offset, slot_inode}
use Rattle.tree_model.specs.Tree.{name_count, pages_in}
use Rattle.tree_model.specs.Capacity.{pages_in_use, free_pages}
use Rattle.tree_model.specs.Run.{State}
use Rattle.image_reading.specs.Counts.{IsIn, Count}
use Rattle.image_reading.specs.Reading.{IsDirectory, HasBytes, slot_owner, IsLive, Reached, IsReachedSlot, IsRoomOf, pages_of_size}
use Rattle.image_reading.specs.Repairs.{IsKept, IsLitterPage, IsLitterSlot}
use Rattle.image_reading.specs.Residue.{Residue}
use Rattle.image_reading.specs.Soundness.{Rule, IsCoherent}
use Rattle.image_reading.proofs.Counts.{count_one}
use Rattle.image_reading.proofs.Residues.{counted}
use Rattle.image_counts.specs.Entries.{IsSlotOf, IsSlotIn, IsPageIn, IsUnusedPage, IsUnusedDataPage}
use Rattle.image_counts.specs.Laws.{HasRoomWords, IsApart, ReadsBeside, supply_beside, HasPagesBeside, RoomBesideLaw, FilePagesBesideLaw, PageCountBesideLaw}
use Rattle.image_counts.proofs.Paths.{in_range}
use Rattle.image_counts.proofs.Inodes.{reached_or_not}
use Rattle.image_counts.proofs.Links.{not_both_kinds}
use Rattle.image_counts.proofs.Slots.{count_names}
use Rattle.image_counts.proofs.Counting.{count_alike, count_either, count_parts, count_less}
use Rattle.image_counts.proofs.Decided.{IsDecided, live_or_not, room_or_not, room_owner, room_below}
use Rattle.image_counts.proofs.Pages.{IsFilePage, count_file_pages, count_kept, count_room}
use Rattle.image_counts.proofs.PageSlots.{count_slots_of}

-- a kept page is a data page
pub kept_within : (P : ℕ) (I : List ℕ) (j : ℕ) → IsKept P I j → j < data_pages_of P
kept_within P I j kept = elim kept [ inl page ↦ page.in_range | inr room ↦ room_below P I (page_owner P I j) j room ]

unused_or_not : (P : ℕ) (I : List ℕ) (j : ℕ) → IsDecided (IsUnusedPage P I j)
unused_or_not P I j = elim (cases_eq (page_owner P I j) 0) [
  | inr owned ↦ inr (λ unused. owned unused.0)
  | inl free ↦ elim (cases_eq (page_kind P I j) 0) [
    | inr kind ↦ inr (λ unused. kind unused.1)
    | inl none ↦ inl (free, none)
  ]
]

module _ (P : ℕ) (I : List ℕ) (residue : Residue) (state : State) (holds : ReadsBeside P I residue state) where
  coherent : IsCoherent P I
  coherent = holds.coherent

  -- ---- kept pages

  file_page_or_not : (j : ℕ) → j < data_pages_of P → Reached P I (page_owner P I j) → HasBytes I (page_owner P I j) → IsDecided (IsKept P I j)
  file_page_or_not j within reached file = elim (cases_lt (page_offset P I j) (pages_of_size (inode_size I (page_owner P I j)))) [
    | inl below ↦ inl (inl (record { in_range = within; owner = reached; file = file; below = below }))
    | inr above ↦ inr (λ kept. elim kept [
      | inl page ↦ let below = page.below in omega (arith, above, below)
      | inr room ↦ not_both_kinds I (page_owner P I j) file room.directory
    ])
  ]

  directory_page_or_not : (j : ℕ) → Reached P I (page_owner P I j) → IsDirectory I (page_owner P I j) → IsDecided (IsKept P I j)
  directory_page_or_not j reached directory = elim (room_or_not P I (page_owner P I j) j reached directory) [
    | inl room ↦ inl (inr room)
    | inr none ↦ inr (λ kept. elim kept [
      | inl page ↦ not_both_kinds I (page_owner P I j) page.file directory
      | inr room ↦ none room
    ])
  ]

  kept_or_not : (j : ℕ) → j < data_pages_of P → IsDecided (IsKept P I j)
  kept_or_not j within = elim (reached_or_not P I state.tree coherent holds.reads.tree (page_owner P I j)) [
    | inl reached ↦ elim ((coherent Rule.kinds (page_owner P I j)).kind reached) [
      | inl file ↦ file_page_or_not j within reached file
      | inr directory ↦ directory_page_or_not j reached directory
    ]
    | inr unreached ↦ inr (λ kept. elim kept [ inl page ↦ unreached page.owner | inr room ↦ unreached room.reached ])
  ]

  reached_nonzero : (i : ℕ) → Reached P I i → i ≢ 0
  reached_nonzero i reached zero = let least = (in_range P I coherent i reached).0 in omega (arith, least, zero)

  kept_owned : (j : ℕ) → IsKept P I j → page_owner P I j ≢ 0
  kept_owned j kept = elim kept [
    | inl page ↦ reached_nonzero (page_owner P I j) page.owner
    | inr room ↦ reached_nonzero (page_owner P I j) room.reached
  ]

  -- ---- pages in use

  litter_page : (j : ℕ) → j < data_pages_of P → ¬ IsKept P I j → ¬ IsUnusedPage P I j → IsLitterPage P I j
  unfolding page_owner page_kind
  litter_page j within free used = elim (cases_eq (page_owner P I j) 0) [
    | inr owned ↦ record { in_range = within; free = free; nonzero = (0, descriptor_field_read I 0 (omega arith), owned) }
    | inl none ↦ record { in_range = within; free = free; nonzero = (1, descriptor_field_read I 1 (omega arith), λ kind. used (none, kind)) }
  ]

  -- a page that has either is kept or litter
  kept_or_litter : (j : ℕ) → j < data_pages_of P → ¬ IsUnusedPage P I j → IsKept P I j ⊎ IsLitterPage P I j
  kept_or_litter j within used = elim (kept_or_not j within) [ inl kept ↦ inl kept | inr free ↦ inr (litter_page j within free used) ]

  litter_left : (j : ℕ) → IsLitterPage P I j → IsIn j residue.pages
  litter_left j litter = (holds.beside.of_pages.each j).1 litter

  used_kept : (j : ℕ) → j < data_pages_of P → ¬ IsUnusedPage P I j → IsKept P I j ⊎ IsIn j residue.pages
  used_kept j within used = elim (kept_or_litter j within used) [ inl kept ↦ inl kept | inr litter ↦ inr (litter_left j litter) ]

  left_used : (j : ℕ) → IsIn j residue.pages → ¬ IsUnusedPage P I j
  left_used j left unused = elim (holds.beside.marks j left) [ inl owned ↦ owned unused.0 | inr kind ↦ kind unused.1 ]

  kept_used : (j : ℕ) → IsKept P I j ⊎ IsIn j residue.pages → ¬ IsUnusedPage P I j
  kept_used j has unused = elim has [ inl kept ↦ kept_owned j kept unused.0 | inr left ↦ left_used j left unused ]

  count_used : Count (λ j. IsKept P I j ⊎ IsLitterPage P I j) (pages_in_use state.tree state.room + length residue.pages)
  count_used = count_either (IsKept P I) (IsLitterPage P I) (pages_in_use state.tree state.room) (length residue.pages) (λ j kept litter. litter.free kept)
      (count_kept P I state.tree state.room coherent holds.reads.tree holds.reads.room) (counted (IsLitterPage P I) residue.pages holds.beside.of_pages)

  free_pages_are : (n : ℕ) → Count (IsUnusedDataPage P I) n → free_pages (supply_beside P residue) state.tree state.room ≡ n
  free_pages_are n unused =
      let total = count_parts (λ j. IsKept P I j ⊎ IsLitterPage P I j) (IsUnusedDataPage P I) 0 (data_pages_of P) (pages_in_use state.tree state.room + length residue.pages) n
      (λ j used page. in_use j used page.1) (λ j. (in_table j, either j)) count_used unused in
      omega (arith, total)
    where
      in_use : (j : ℕ) → IsKept P I j ⊎ IsLitterPage P I j → ¬ IsUnusedPage P I j
      in_use j used = elim used [ inl kept ↦ kept_used j (inl kept) | inr litter ↦ left_used j (litter_left j litter) ]

      within : (j : ℕ) → j < data_pages_of P → (0 ≤ j) × (j < 0 + data_pages_of P)
      within j lt = (omega arith, omega (arith, lt))

      in_table : (j : ℕ) → (IsKept P I j ⊎ IsLitterPage P I j) ⊎ IsUnusedDataPage P I j → (0 ≤ j) × (j < 0 + data_pages_of P)
      in_table j has = elim has [
        | inl used ↦ elim used [ inl kept ↦ within j (kept_within P I j kept) | inr litter ↦ within j litter.in_range ]
        | inr page ↦ within j page.0
      ]

      either : (j : ℕ) → (0 ≤ j) × (j < 0 + data_pages_of P) → (IsKept P I j ⊎ IsLitterPage P I j) ⊎ IsUnusedDataPage P I j
      either j range = elim (unused_or_not P I j) [
        | inl unused ↦ inr (omega (arith, range.1), unused)
        | inr used ↦ inl (kept_or_litter j (omega (arith, range.1)) used)
      ]

  pub has_pages_beside : HasPagesBeside P I residue state
  has_pages_beside = record {
    used = λ j within. (kept_used j, used_kept j within);
    owned = kept_owned;
    free = free_pages_are;
  }

  -- ---- the pages of an inode that the residue has nothing of

  module _ (i : ℕ) (reached : Reached P I i) (apart : IsApart P I residue i) where
    own_page_kept : (j : ℕ) → IsPageIn P I i j → IsKept P I j
    own_page_kept j page = elim (used_kept j page.in_range (λ unused. reached_nonzero i reached (sym page.owner ∙ unused.0))) [
      | inl kept ↦ kept
      | inr left ↦ absurd (apart.pages j left page.owner)
    ]

    -- a file's pages are one for each page of its size
    pub count_pages_of_file : HasBytes I i → Count (IsPageIn P I i) (pages_of_size (inode_size I i))
    count_pages_of_file file = count_alike (IsFilePage P I i) (IsPageIn P I i) (pages_of_size (inode_size I i)) to from (count_file_pages P I coherent i reached file)
      where
        to : (j : ℕ) → IsFilePage P I i j → IsPageIn P I i j
        to j page = record { in_range = page.0.in_range; owner = page.1 }

        from : (j : ℕ) → IsPageIn P I i j → IsFilePage P I i j
        from j page = elim (own_page_kept j page) [
          | inl kept ↦ (kept, page.owner)
          | inr room ↦ absurd (not_both_kinds I i file (subst (IsDirectory I) page.owner room.directory))
        ]

  -- ---- the pages and slots of a directory that the residue has nothing of

  module _ (d : ℕ) (reached : Reached P I d) (directory : IsDirectory I d) (apart : IsApart P I residue d) where
    page_kept : (j : ℕ) → IsPageIn P I d j → IsRoomOf P I d j
    page_kept j page = elim (own_page_kept d reached apart j page) [
      | inl other ↦ absurd (not_both_kinds I d (subst (HasBytes I) page.owner other.file) directory)
      | inr room ↦ subst (λ z. IsRoomOf P I z j) page.owner room
    ]

    kept_page : (j : ℕ) → IsRoomOf P I d j → IsPageIn P I d j
    kept_page j room = record { in_range = room_below P I d j room; owner = room_owner P I d j room }

    count_pages : Count (IsPageIn P I d) (pages_in state.room d)
    count_pages = count_alike (IsRoomOf P I d) (IsPageIn P I d) (pages_in state.room d) kept_page page_kept
        (count_room P I state.room holds.reads.room d reached directory)

    slot_page : (s : ℕ) → IsSlotIn P I d s → IsPageIn P I d (page_of_slot s)
    unfolding slot_owner
    slot_page s slot = record { in_range = page_of_slot_below P s slot.in_range; owner = slot.owner }

    page_slot : (s : ℕ) → IsPageIn P I d (page_of_slot s) → IsSlotIn P I d s
    unfolding slot_owner
    page_slot s page = record { in_range = slot_below P s page.in_range; owner = page.owner }

    count_all_slots : Count (IsSlotIn P I d) (32 * pages_in state.room d)
    count_all_slots = count_alike (λ s. IsPageIn P I d (page_of_slot s)) (IsSlotIn P I d) (32 * pages_in state.room d) page_slot slot_page
        (count_slots_of (IsPageIn P I d) (pages_in state.room d) count_pages)

    litter_slot : (s f : ℕ) → IsSlotIn P I d s → ¬ IsLive P I s → f < 16 → word I (slot_word_of P s f) ≢ 0 → IsLitterSlot P I s
    litter_slot s f slot dead small other = record {
      page = let page = slot_page s slot in subst (λ z. IsRoomOf P I z (page_of_slot s)) (sym page.owner) (page_kept (page_of_slot s) page);
      dead = dead;
      nonzero = (f, small, other);
    }

    -- a slot that isn't live is zero
    dead_zero : (s f : ℕ) → IsSlotIn P I d s → ¬ IsLive P I s → f < 16 → word I (slot_word_of P s f) ≡ 0
    dead_zero s f slot dead small = elim (cases_eq (word I (slot_word_of P s f)) 0) [
      | inl zero ↦ zero
      | inr other ↦ absurd (apart.slots s ((holds.beside.of_slots.each s).1 (litter_slot s f slot dead small other)) slot.owner)
    ]

    dead_free : (s : ℕ) → IsSlotIn P I d s → ¬ IsLive P I s → slot_inode P I s ≡ 0
    unfolding slot_inode
    dead_free s slot dead = dead_zero s 0 slot dead (omega arith)

    numbered_live : (s : ℕ) → IsSlotIn P I d s → slot_inode P I s ≢ 0 → IsReachedSlot P I s
    numbered_live s slot numbered = elim (live_or_not P I s) [
      | inl live ↦ record { owner = subst (Reached P I) (sym slot.owner) reached; directory = subst (IsDirectory I) (sym slot.owner) directory; live = live }
      | inr dead ↦ absurd (numbered (dead_free s slot dead))
    ]

    free_zero : (s f : ℕ) → IsSlotIn P I d s → slot_inode P I s ≡ 0 → f < 16 → word I (slot_word_of P s f) ≡ 0
    free_zero s f slot none small = dead_zero s f slot (λ live. live.names none) small

    named_slot : (s : ℕ) → IsSlotOf P I d s → IsSlotIn P I d s
    named_slot s named = record { in_range = named.0.live.held.in_range; owner = named.1 }

    full_numbered : name_count state.tree d ≡ 32 * pages_in state.room d → (s : ℕ) → IsSlotIn P I d s → slot_inode P I s ≢ 0
    full_numbered full s slot none =
        let less = count_less (IsSlotOf P I d) (IsSlotIn P I d) (name_count state.tree d) (32 * pages_in state.room d) s named_slot slot
        (λ named. named.0.live.names none) (count_names P I state.tree coherent holds.reads.tree d) count_all_slots in
        omega (arith, less, full)

    numbered_full : ((s : ℕ) → IsSlotIn P I d s → slot_inode P I s ≢ 0) → name_count state.tree d ≡ 32 * pages_in state.room d
    numbered_full all = count_one (IsSlotIn P I d) (name_count state.tree d) (32 * pages_in state.room d)
        (count_alike (IsSlotOf P I d) (IsSlotIn P I d) (name_count state.tree d) named_slot
        (λ s slot. (numbered_live s slot (all s slot), slot.owner))
        (count_names P I state.tree coherent holds.reads.tree d))
        count_all_slots

    pub room_words_beside : HasRoomWords P I state d
    room_words_beside = record {
      pages = count_pages;
      live = λ s slot. ((λ named. named.live.names), numbered_live s slot);
      zeros = free_zero;
      full = (full_numbered, numbered_full);
    }

pub page_count_beside_law : PageCountBesideLaw
page_count_beside_law P I residue state holds = has_pages_beside P I residue state holds

pub file_pages_beside_law : FilePagesBesideLaw
file_pages_beside_law P I residue state holds i reached file apart = count_pages_of_file P I residue state holds i reached apart file

pub room_beside_law : RoomBesideLaw
room_beside_law P I residue state holds d reached directory apart = room_words_beside P I residue state holds d reached directory apart
