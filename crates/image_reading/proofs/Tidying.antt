-- When nothing is to be repaired in words that fit together.
use Rattle.std.proofs.Common.{◌≡◌, ◌≢◌, inl, inr, ℕ, ◌+◌, ◌*◌, ◌%◌, ◌<◌, ◌≤◌, List, refl, sym, ap, subst, ◌∙◌, arith}
use Rattle.std.proofs.lemmas.Bool.{cases_eq, cases_lt}
use Rattle.layout.proofs.GeometryLaws.{page_of_slot_below}
use Rattle.layout.specs.Geometry.{inodes_of, data_pages_of, page_of_slot, inode_word_of, descriptor_word_of, slot_word_of}
use Rattle.layout.specs.Fields.{word, inode_links, page_owner}
use Rattle.image_reading.specs.Reading.{HasBytes, Reached, IsNameOf, IsChildOf, IsLinkCount, IsRoomOf}
use Rattle.image_reading.specs.Repairs.{IsKept, IsPointer, IsLitterSlot, IsLitterPage, IsLitterInode, IsLitterCount}
use Rattle.image_reading.specs.Scan.{IsRename}
use Rattle.image_reading.specs.Soundness.{Rule, IsCoherent}
use Rattle.image_reading.specs.Tidy.{IsTidied}
use Rattle.image_reading.proofs.Counts.{count_none, none_counted, count_one}
use Rattle.image_reading.proofs.Places.{one_inode}
use Rattle.image_reading.proofs.Walked.{reached_range}
use Rattle.image_reading.specs.Litter.{IsZeroInode, IsZeroDescriptor, HasZeroSlots, IsTidyPage, IsTidyInode}

module _ (P : ℕ) (I : List ℕ) where
  pub in_range : (i : ℕ) → IsCoherent P I → Reached P I i → (1 ≤ i) × (i ≤ inodes_of P)
  in_range i coherent reached = reached_range P I i (one_inode P ((coherent Rule.head 0).size refl)) reached

  -- ---- all parts

  pub tidy_whole : IsCoherent P I → ((s : ℕ) → ¬ IsPointer P I s) → ((i : ℕ) → IsTidyInode P I i) → ((j : ℕ) → IsTidyPage P I j) → IsTidied P I
  tidy_whole coherent none inodes pages = record {
    coherent = coherent;
    repaired = record {
      of_pointers = count_none (IsPointer P I) none;
      of_slots = count_none (IsLitterSlot P I) (λ s. (pages (page_of_slot s)).slots s refl);
      of_pages = count_none (IsLitterPage P I) (λ j. (pages j).page);
      of_inodes = count_none (IsLitterInode P I) (λ i. (inodes i).inode);
      of_counts = count_none (IsLitterCount P I) (λ i. (inodes i).links);
    };
  }

  pub tidy_pointers : IsTidied P I → (s : ℕ) → ¬ IsPointer P I s
  tidy_pointers tidy = none_counted (IsPointer P I) tidy.repaired.of_pointers

  pub tidy_inodes : IsTidied P I → (i : ℕ) → IsTidyInode P I i
  tidy_inodes tidy i = record {
    inode = none_counted (IsLitterInode P I) tidy.repaired.of_inodes i;
    links = none_counted (IsLitterCount P I) tidy.repaired.of_counts i;
  }

  pub tidy_pages : IsTidied P I → (j : ℕ) → IsTidyPage P I j
  tidy_pages tidy j = record {
    page = none_counted (IsLitterPage P I) tidy.repaired.of_pages j;
    slots = λ s at. none_counted (IsLitterSlot P I) tidy.repaired.of_slots s;
  }

  -- ---- the rename pointer

  pub no_pointer : (target inode : ℕ) → IsRename P I target inode → target ≡ 0 → (s : ℕ) → ¬ IsPointer P I s
  no_pointer target inode rename none s pointer = pointer.nonzero ((rename.all s pointer).0 ∙ none)

  pub some_pointer : (target inode : ℕ) → IsRename P I target inode → target ≢ 0 → ¬ IsTidied P I
  some_pointer target inode rename some tidy =
      let (s, held, is, other) = rename.some some in
      tidy_pointers tidy s (record { held = held; nonzero = λ zero. some (sym is ∙ zero) })

  -- ---- inodes

  module _ (i : ℕ) (least : 1 ≤ i) (most : i ≤ inodes_of P) where
    pub zero_tidy : ¬ Reached P I i → IsZeroInode I i → IsTidyInode P I i
    zero_tidy unreached zeros = record {
      inode = λ litter. let (f, lt, other) = litter.nonzero in other (zeros f lt);
      links = λ litter. unreached litter.reached;
    }

    pub tidy_zero : ¬ Reached P I i → IsTidyInode P I i → IsZeroInode I i
    tidy_zero unreached tidy f lt = elim (cases_eq (word I (inode_word_of i f)) 0) [
      | inl is ↦ is
      | inr other ↦ absurd (tidy.inode (record { least = least; most = most; unreached = unreached; nonzero = (f, lt, other) }))
    ]

  -- ---- a reached inode's links

  module _ (i n : ℕ) (coherent : IsCoherent P I) (reached : Reached P I i) (count : IsLinkCount P I i n) where
    pub links_tidy : inode_links I i ≡ n → IsTidyInode P I i
    links_tidy is = record { inode = λ litter. litter.unreached reached; links = λ litter. litter.other (subst (IsLinkCount P I i) (sym is) count) }

    one_count : (m : ℕ) → IsLinkCount P I i m → m ≡ n
    one_count m other = elim ((coherent Rule.kinds i).kind reached) [
      | inl file ↦ count_one (IsNameOf P I i) m n (other.file file) (count.file file)
      | inr directory ↦
          let (a, children, is) = other.directory directory in
          let (b, counted, same) = count.directory directory in
          is ∙ ap (λ (k : ℕ). 2 + k) (count_one (IsChildOf P I i) a b children counted) ∙ sym same
    ]

    pub tidy_links : IsTidyInode P I i → inode_links I i ≡ n
    tidy_links tidy = elim (cases_eq (inode_links I i) n) [
      | inl is ↦ is
      | inr other ↦ absurd (tidy.links (record { reached = reached; other = λ linked. other (one_count (inode_links I i) linked) }))
    ]

  -- ---- pages

  litter_kept : (j s : ℕ) → page_of_slot s ≡ j → IsLitterSlot P I s → IsRoomOf P I (page_owner P I j) j
  litter_kept j s at litter = subst (λ (k : ℕ). IsRoomOf P I (page_owner P I k) k) at litter.page

  module _ (j : ℕ) (within : j < data_pages_of P) (unkept : ¬ IsKept P I j) where
    pub zero_page_tidy : IsZeroDescriptor P I j → IsTidyPage P I j
    zero_page_tidy zeros = record {
      page = λ litter. let (f, lt, other) = litter.nonzero in other (zeros f (omega arith) lt);
      slots = λ s at litter. unkept (inr (litter_kept j s at litter));
    }

    pub tidy_zero_page : IsTidyPage P I j → IsZeroDescriptor P I j
    tidy_zero_page tidy f low lt = elim (cases_eq (word I (descriptor_word_of P j f)) 0) [
      | inl is ↦ is
      | inr other ↦ absurd (tidy.page (record { in_range = within; free = unkept; nonzero = (f, lt, other) }))
    ]

  module _ (j : ℕ) (kept : IsKept P I j) where
    pub file_page_tidy : HasBytes I (page_owner P I j) → IsTidyPage P I j
    file_page_tidy file = record {
      page = λ litter. litter.free kept;
      slots = λ s at litter. let directory = (litter_kept j s at litter).directory in omega (arith, file, directory);
    }

    pub zeros_tidy : HasZeroSlots P I j → IsTidyPage P I j
    zeros_tidy zeros = record {
      page = λ litter. litter.free kept;
      slots = λ s at litter. let (f, lt, nonzero) = litter.nonzero in nonzero (zeros s at litter.dead f lt);
    }

    kept_room : ¬ HasBytes I (page_owner P I j) → IsRoomOf P I (page_owner P I j) j
    kept_room other = elim kept [ inl page ↦ absurd (other page.file) | inr room ↦ room ]

    pub tidy_zeros : ¬ HasBytes I (page_owner P I j) → IsTidyPage P I j → HasZeroSlots P I j
    tidy_zeros other tidy s at dead f lt = elim (cases_eq (word I (slot_word_of P s f)) 0) [
      | inl is ↦ is
      | inr nonzero ↦ absurd (tidy.slots s at (record {
        page = subst (λ (k : ℕ). IsRoomOf P I (page_owner P I k) k) (sym at) (kept_room other);
        dead = dead;
        nonzero = (f, lt, nonzero);
      }))
    ]

  -- ---- past the last

  pub page_past : (j : ℕ) → data_pages_of P ≤ j → IsTidyPage P I j
  page_past j past = record {
    page = λ litter. let within = litter.in_range in omega (arith, past, within);
    slots = λ s at litter. let (t, page, owner, live) = (litter_kept j s at litter).slot in let within = page_of_slot_below P t live.held.in_range in omega (arith, past, within, page);
  }

  pub inode_outside : (i : ℕ) → IsCoherent P I → ((1 ≤ i) → (i ≤ inodes_of P) → ⊥) → IsTidyInode P I i
  inode_outside i coherent outside = record {
    inode = λ litter. outside litter.least litter.most;
    links = λ litter. let range = in_range i coherent litter.reached in outside range.0 range.1;
  }

-- what holds at the 32 slots of a page holds at each slot of it
pub slots_of_page : (Q : ℕ → Type 0) (page : ℕ) → ((k : ℕ) → k < 32 → Q (32 * page + k)) → (s : ℕ) → page_of_slot s ≡ page → Q s
unfolding page_of_slot
slots_of_page Q page each s at =
    let k = s % 32 in
    let is : 32 * page + k ≡ s = omega (arith, at) in
    subst Q is (each k (omega arith))

-- ---- loops over inodes

module _ (P : ℕ) (I : List ℕ) (n : ℕ) where
  pub one_inode_more : ((i : ℕ) → 1 ≤ i → i ≤ n → IsTidyInode P I i) → IsTidyInode P I (n + 1) → (i : ℕ) → 1 ≤ i → i ≤ n + 1 → IsTidyInode P I i
  one_inode_more before here i least most = elim (cases_eq i (n + 1)) [
    | inl same ↦ subst (IsTidyInode P I) (sym same) here
    | inr other ↦ before i least (omega (arith, most, other))
  ]

  pub all_inodes : IsCoherent P I → n ≡ inodes_of P → ((i : ℕ) → 1 ≤ i → i ≤ n → IsTidyInode P I i) → (i : ℕ) → IsTidyInode P I i
  all_inodes coherent size before i = elim (cases_lt i 1) [
    | inl below ↦ inode_outside P I i coherent (λ least most. omega (arith, below, least))
    | inr least ↦ elim (cases_lt n i) [
      | inl past ↦ inode_outside P I i coherent (λ low most. omega (arith, past, most, size))
      | inr within ↦ before i (omega (arith, least)) (omega (arith, within))
    ]
  ]
