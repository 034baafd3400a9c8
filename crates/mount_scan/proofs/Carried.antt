-- What the words of an image say of those that recovery makes of them. P is the number of pages, W the words.
use Rattle.std.proofs.Common.{◌≡◌, ◌≢◌, ◌↔◌, inl, inr, ℕ, ◌+◌, ◌-◌, ◌*◌, ◌<◌, ◌≤◌, Bool, false, List, [], ◌∷◌, ◌++◌, length, get_or, set, refl, sym, ap, subst, ◌∙◌, arith}
use Rattle.layout.specs.Geometry.{inodes_of, data_pages_of, page_of_slot}
use Rattle.layout.specs.Name.{IsNameWords, name_in_words}
use Rattle.layout.specs.Fields.{inode_kind, inode_size, page_owner, page_kind, page_offset, slot_name, slot_words}
use Rattle.image_reading.specs.Counts.{IsIn}
use Rattle.image_reading.specs.Reading.{IsDirectory, HasBytes, slot_owner, Reached, IsReachedSlot}
use Rattle.image_reading.specs.Repairs.{IsKept}
use Rattle.image_reading.specs.Scanned.{AreNames}
use Rattle.image_reading.specs.Soundness.{Rule, IsCoherent}
use Rattle.image_reading.specs.Tidy.{Tidy}
use Rattle.image_reading.proofs.ReachedTable.{in_at}
use Rattle.image_reading.proofs.Tidied.{as_tidy}
use Rattle.image_counts.specs.Entries.{IsEntryOf}
use Rattle.image_counts.proofs.Paths.{in_range}
use Rattle.repair_laws.specs.Mended.{IsMended}
use Rattle.repair_laws.specs.Laws.{HasIndexOf}
use Rattle.repair_laws.proofs.Ends.{end_law}
use Rattle.repair_laws.proofs.Mended.{some_law, mended_law, index_law}
use Rattle.allocators.specs.Numbers.{IsFree}
use Rattle.volatile_index.specs.Index.{NodeView, node_of, inodes_of_index, IsSameElsewhere}
use Rattle.volume.specs.Stands.{KnowsNodes, Knows}
use Rattle.volume.proofs.Unused.{free_unused}
use Rattle.mount_scan.specs.Building.{Holds}
use Rattle.mount_scan.proofs.Facts.{offset_below}
use Rattle.mount_scan.proofs.Holding.{page_skipped, file_page_set, page_pushed}

module _ (P : ℕ) (W : List ℕ) (coherent : IsCoherent P W) where
  -- ---- pages

  owner_reached : (j : ℕ) → IsKept P W j → Reached P W (page_owner P W j)
  owner_reached j kept = elim kept [ inl page ↦ page.owner | inr room ↦ room.reached ]

  owner_in_table : (j : ℕ) → IsKept P W j → (1 ≤ page_owner P W j) × (page_owner P W j ≤ inodes_of P)
  owner_in_table j kept = in_range P W coherent (page_owner P W j) (owner_reached j kept)

  file_owner : (j : ℕ) → j < data_pages_of P → IsKept P W j → page_kind P W j ≡ 1 → HasBytes W (page_owner P W j)
  file_owner j within kept kind = elim ((coherent Rule.kinds (page_owner P W j)).kind (owner_reached j kept)) [
    | inl file ↦ file
    | inr directory ↦ let slots = (coherent Rule.page_kinds j).directory within (owner_reached j kept) directory in absurd (omega (arith, kind, slots))
  ]

  directory_owner : (j : ℕ) → j < data_pages_of P → IsKept P W j → page_kind P W j ≢ 1 → IsDirectory W (page_owner P W j)
  directory_owner j within kept kind = elim ((coherent Rule.kinds (page_owner P W j)).kind (owner_reached j kept)) [
    | inl file ↦ absurd (kind ((coherent Rule.page_kinds j).file within (owner_reached j kept) file))
    | inr directory ↦ directory
  ]

  -- ---- slots

  pub name_reached : (names : List ℕ) (k s : ℕ) → AreNames P W names → k < length names → s ≡ get_or names k 0 → IsReachedSlot P W s
  name_reached names k s are within is = subst (IsReachedSlot P W) (sym is) ((are.exactly (get_or names k 0)).0 (in_at names k 0 within))

  -- the directory that a name stands in, as the owner of its page
  pub name_owner : (names : List ℕ) (k s j d : ℕ) → AreNames P W names → k < length names → s ≡ get_or names k 0 → j ≡ page_of_slot s → d ≡ page_owner P W j → (d ≡ slot_owner P W s) × (1 ≤ d) × (d ≤ inodes_of P)
  unfolding slot_owner
  name_owner names k s j d are within is page owner =
      let same : d ≡ slot_owner P W s = owner ∙ ap (page_owner P W) page in
      let (least, most) = in_range P W coherent d (subst (Reached P W) (sym same) (name_reached names k s are within is).owner) in
      (same, least, most)

  pub slot_named : (s : ℕ) → IsReachedSlot P W s → IsNameWords (slot_words P W s)
  slot_named s slot = coherent Rule.names s slot

  named_entry : (s d : ℕ) (words name : List ℕ) → IsReachedSlot P W s → d ≡ slot_owner P W s → words ≡ slot_words P W s → name ≡ name_in_words words → IsEntryOf P W d name s
  unfolding slot_name
  named_entry s d words name slot owner words_are name_is = record {
    slot = slot;
    owner = sym owner;
    name = sym (name_is ∙ ap name_in_words words_are);
  }

  -- ---- the words that recovery makes

  pub some_mended : (K : List ℕ) × IsMended P W K
  some_mended = let (A, B, C, K, repair) = some_law P W coherent in (K, end_law P W A B C K coherent repair)

  -- what holds of an index at each of them
  pub each_inode : (p : ℕ) (names : List ℕ) (put : ℕ) (index : List NodeView) → ((K : List ℕ) → IsMended P W K → Holds P K p names put index) → inodes_of_index index ≡ inodes_of P
  each_inode p names put index holds = let (K, mended) = some_mended in (holds K mended).each_inode

  pub owner_in_index : (p d : ℕ) (index : List NodeView) → IsKept P W p → d ≡ page_owner P W p → inodes_of_index index ≡ inodes_of P → (1 ≤ d) × (d ≤ inodes_of_index index)
  owner_in_index p d index kept owner size = let (least, most) = owner_in_table p kept in (omega (arith, least, owner), omega (arith, most, owner, size))

  module _ (K : List ℕ) (mended : IsMended P W K) where
    pub tidy : Tidy P K
    tidy = as_tidy (mended_law P W K coherent mended).1

    index_of : HasIndexOf P W K
    index_of = index_law P W K coherent mended

    -- ---- what is free

    pub free_inode : (i : ℕ) → 1 ≤ i → i ≤ inodes_of P → (¬ Reached P W i) ↔ (inode_kind K i ≡ 0)
    free_inode i least most = (
      (λ none. ((index_of.free_inodes i).1 (record { least = least; most = most; unreached = none })).2),
      (λ zero. ((index_of.free_inodes i).0 (least, most, zero)).unreached),
    )

    pub free_page : (j : ℕ) → j < data_pages_of P → (¬ IsKept P W j) ↔ (page_owner P K j ≡ 0)
    free_page j within = (
      (λ none. ((index_of.free_pages j).1 (record { in_range = within; free = none })).1),
      (λ zero. ((index_of.free_pages j).0 (within, zero)).free),
    )

    -- ---- inodes

    pub same_kind : (i : ℕ) → Reached P W i → inode_kind K i ≡ inode_kind W i
    same_kind i reached = index_of.kinds i reached

    pub same_size : (i : ℕ) → Reached P W i → inode_size K i ≡ inode_size W i
    same_size i reached = index_of.sizes i reached

    -- ---- pages

    same_owner : (j : ℕ) → IsKept P W j → page_owner P K j ≡ page_owner P W j
    same_owner j kept = ((index_of.pages (page_owner P W j) j (owner_in_table j kept).0).1 (kept, refl)).owner

    owner_kind : (j : ℕ) → IsKept P W j → inode_kind K (page_owner P K j) ≡ inode_kind W (page_owner P W j)
    owner_kind j kept = ap (inode_kind K) (same_owner j kept) ∙ same_kind (page_owner P W j) (owner_reached j kept)

    owned : (j : ℕ) → IsKept P W j → page_owner P K j ≢ 0
    owned j kept zero = let least = (owner_in_table j kept).0 in let same = same_owner j kept in omega (arith, least, same, zero)

    pub page_free : (p : ℕ) (index : List NodeView) → p < data_pages_of P → ¬ IsKept P W p → Holds P K p [] 0 index → Holds P K (p + 1) [] 0 index
    page_free p index within none = page_skipped P K p index ((free_page p within).0 none)

    module _ (p d : ℕ) (within : p < data_pages_of P) (kept : IsKept P W p) (owner : d ≡ page_owner P W p) where
      owner_after : d ≡ page_owner P K p
      owner_after = owner ∙ sym (same_owner p kept)

      -- a file's page has a place in its offset
      pub offset_in_file : (offset : ℕ) (index : List NodeView) → page_kind P W p ≡ 1 → offset ≡ page_offset P W p → Holds P K p [] 0 index → offset < length (node_of index d).pages
      offset_in_file offset index kind offset_is holds =
          let (least, most) = owner_in_table p kept in
          let same = same_owner p kept in
          let in_range : (1 ≤ page_owner P K p) × (page_owner P K p ≤ inodes_of P) = (omega (arith, least, same), omega (arith, most, same)) in
          let file = owner_kind p kept ∙ file_owner p within kept kind in
          let below = offset_below P K tidy (page_owner P K p) in_range.0 in_range.1 file p (record { in_range = within; owner = refl }) in
          let long = (holds.each (page_owner P K p) in_range.0 in_range.1).places file in
          let there = ap (λ k. length (node_of index k).pages) owner_after in
          let offset_after = index_of.offsets p kept in
          omega (arith, below, long, there, offset_is, offset_after)

      pub page_set : (offset : ℕ) (old new : List NodeView) → page_kind P W p ≡ 1 → offset ≡ page_offset P W p → IsSameElsewhere d old new
          → (node_of new d).pages ≡ set (node_of old d).pages offset p → (node_of new d).entries ≡ (node_of old d).entries → Holds P K p [] 0 old → Holds P K (p + 1) [] 0 new
      page_set offset old new kind offset_is elsewhere pages entries =
          file_page_set P K p old new tidy within (owned p kept) (owner_kind p kept ∙ file_owner p within kept kind)
          (subst (λ (k : ℕ). IsSameElsewhere k old new) owner_after elsewhere)
          (subst (λ (k : ℕ). (node_of new k).pages ≡ set (node_of old k).pages (page_offset P K p) p) owner_after
          (pages ∙ ap (λ (o : ℕ). set (node_of old d).pages o p) (offset_is ∙ sym (index_of.offsets p kept))))
          (subst (λ (k : ℕ). (node_of new k).entries ≡ (node_of old k).entries) owner_after entries)

      pub page_added : (old new : List NodeView) → page_kind P W p ≢ 1 → IsSameElsewhere d old new
          → (node_of new d).pages ≡ (node_of old d).pages ++ p ∷ [] → (node_of new d).entries ≡ (node_of old d).entries → Holds P K p [] 0 old → Holds P K (p + 1) [] 0 new
      page_added old new kind elsewhere pages entries =
          page_pushed P K p old new tidy within (owned p kept) (owner_kind p kept ∙ directory_owner p within kept kind)
          (subst (λ (k : ℕ). IsSameElsewhere k old new) owner_after elsewhere)
          (subst (λ (k : ℕ). (node_of new k).pages ≡ (node_of old k).pages ++ p ∷ []) owner_after pages)
          (subst (λ (k : ℕ). (node_of new k).entries ≡ (node_of old k).entries) owner_after entries)

    -- ---- slots

    pub entry_after : (s d : ℕ) (words name : List ℕ) → IsReachedSlot P W s → d ≡ slot_owner P W s → words ≡ slot_words P W s → name ≡ name_in_words words → IsEntryOf P K d name s
    entry_after s d words name slot owner words_are name_is = (index_of.entries d s name).1 (named_entry s d words name slot owner words_are name_is)

    pub all_named : (names : List ℕ) → AreNames P W names → (d slot : ℕ) (bytes : List ℕ) → IsEntryOf P K d bytes slot → IsIn slot names
    all_named names are d slot bytes entry = (are.exactly slot).1 ((index_of.entries d slot bytes).0 entry).slot

    -- ---- all of it

    pub knows : (index : List NodeView) (inodes data_pages : List Bool) (marked : Bool) → length W ≡ 512 * P → KnowsNodes P index K
        → length inodes ≡ inodes_of P → ((number : ℕ) → number < inodes_of P → IsFree inodes number ↔ ¬ Reached P W (number + 1))
        → length data_pages ≡ data_pages_of P → ((page : ℕ) → page < data_pages_of P → IsFree data_pages page ↔ ¬ IsKept P W page)
        → Knows (record { size = P; index = index; inodes = inodes; data_pages = data_pages; stopped = false; marked = marked; kept = 0 }) K
    knows index inodes data_pages marked whole nodes each_inode unreached each_page unkept = record {
      whole = mended.size ∙ whole;
      nodes = nodes;
      each_inode = each_inode;
      inodes = λ i least most.
          let known = unreached (i - 1) (omega (arith, least, most)) in
          let same : i - 1 + 1 ≡ i = omega (arith, least) in
          let after = free_inode i least most in (
            (λ free. after.0 (subst (λ (n : ℕ). ¬ Reached P W n) same (known.0 free))),
            (λ zero. known.1 (subst (λ (n : ℕ). ¬ Reached P W n) (sym same) (after.1 zero))),
          );
      each_page = each_page;
      data_pages = λ j within.
          let known = unkept j within in
          let after = free_page j within in
          free_unused P K data_pages (mended_law P W K coherent mended).1 j within ((λ free. after.0 (known.0 free)), (λ zero. known.1 (after.1 zero)));
    }
