-- What tidy words say of their pages and slots.
use Rattle.std.proofs.Common.{◌≡◌, ◌≢◌, inl, inr, ℕ, ◌*◌, ◌<◌, ◌≤◌, List, length, refl, sym, subst, ◌∙◌, arith}
use Rattle.layout.specs.Geometry.{inodes_of, data_pages_of, page_of_slot}
use Rattle.layout.specs.Fields.{inode_kind, inode_size, page_owner, page_offset}
use Rattle.tree_model.specs.Run.{State}
use Rattle.image_reading.specs.Reading.{IsDirectory, HasBytes, slot_owner, Reached, IsPageOf, pages_of_size, ReadsAs}
use Rattle.image_reading.specs.Soundness.{Rule, IsCoherent}
use Rattle.image_reading.specs.Tidy.{Tidy}
use Rattle.image_reading.proofs.FilePages.{page_from_place}
use Rattle.image_reading.proofs.Tidied.{tidied}
use Rattle.image_counts.specs.Entries.{IsEntryOf, IsPageIn}
use Rattle.image_counts.proofs.Paths.{in_range, same_slot}
use Rattle.image_counts.proofs.Nodes.{one_page}
use Rattle.image_counts.proofs.Inodes.{has_used_inodes}
use Rattle.image_counts.proofs.Tidied.{owned_kept}
use Rattle.image_laws.proofs.Trees.{tree_law}
use Rattle.image_laws.proofs.Rooms.{room_law}

module _ (P : ℕ) (I : List ℕ) (tidy : Tidy P I) where
  coherent : IsCoherent P I
  coherent = (tidied tidy).coherent

  pub whole : length I ≡ 512 * P
  whole = (coherent Rule.head 0).whole refl

  abbrev state : State
  state = record { tree = (tree_law P I coherent).0; room = (room_law P I coherent).0 }

  reads : ReadsAs P I state
  reads = record { tree = (tree_law P I coherent).1; room = (room_law P I coherent).1 }

  -- ---- inodes

  pub in_table : (i : ℕ) → Reached P I i → (1 ≤ i) × (i ≤ inodes_of P)
  in_table i reached = in_range P I coherent i reached

  kind_reached : (i : ℕ) → 1 ≤ i → i ≤ inodes_of P → inode_kind I i ≢ 0 → Reached P I i
  kind_reached i least most kind = ((has_used_inodes P I state.tree (tidied tidy) reads.tree).used i least most).1 kind

  file_reached : (i : ℕ) → 1 ≤ i → i ≤ inodes_of P → HasBytes I i → Reached P I i
  file_reached i least most file = kind_reached i least most (λ zero. omega (arith, file, zero))

  -- ---- pages

  pub owner_reached : (j : ℕ) → j < data_pages_of P → page_owner P I j ≢ 0 → Reached P I (page_owner P I j)
  owner_reached j within owned = elim (owned_kept P I state (tidied tidy) reads j within owned) [ inl page ↦ page.owner | inr room ↦ room.reached ]

  -- ---- pages of files

  module _ (i : ℕ) (least : 1 ≤ i) (most : i ≤ inodes_of P) (file : HasBytes I i) where
    pub offset_below : (j : ℕ) → IsPageIn P I i j → page_offset P I j < pages_of_size (inode_size I i)
    offset_below j page = elim (owned_kept P I state (tidied tidy) reads j page.in_range (λ zero. let is = page.owner in omega (arith, least, zero, is))) [
      | inl kept ↦ subst (λ z. page_offset P I j < pages_of_size (inode_size I z)) page.owner kept.below
      | inr room ↦
          let directory = subst (IsDirectory I) page.owner room.directory in
          absurd (omega (arith, file, directory))
    ]

    page_of : (j : ℕ) → IsPageIn P I i j → IsPageOf P I i (page_offset P I j) j
    page_of j page = page_from_place (record {
      in_range = page.in_range;
      owner = page.owner;
      kind = (coherent Rule.page_kinds j).file page.in_range (subst (Reached P I) (sym page.owner) (file_reached i least most file)) (subst (HasBytes I) (sym page.owner) file);
      offset = refl;
    })

    pub page_at : (k : ℕ) → k < pages_of_size (inode_size I i) → (j : ℕ) × IsPageIn P I i j × (page_offset P I j ≡ k)
    page_at k below =
        let (j, page) = coherent Rule.all_pages i (file_reached i least most file) file k below in
        (j, record { in_range = page.in_range; owner = page.owner }, page.offset)

    pub one_offset : (j h : ℕ) → IsPageIn P I i j → IsPageIn P I i h → page_offset P I j ≡ page_offset P I h → j ≡ h
    one_offset j h a b same =
        one_page P I coherent i (page_offset P I h) j h (file_reached i least most file) file (offset_below h b)
        (subst (λ k. IsPageOf P I i k j) same (page_of j a)) (page_of h b)

  -- ---- slots

  pub one_entry : (d s t : ℕ) (bytes : List ℕ) → IsEntryOf P I d bytes s → IsEntryOf P I d bytes t → s ≡ t
  one_entry d s t bytes a b = same_slot P I coherent s t a.slot b.slot (a.owner ∙ sym b.owner) (a.name ∙ sym b.name)

pub entry_directory : (P : ℕ) (I : List ℕ) (d s : ℕ) (bytes : List ℕ) → IsEntryOf P I d bytes s → IsDirectory I d
entry_directory P I d s bytes entry = subst (IsDirectory I) entry.owner entry.slot.directory

pub entry_page : (P : ℕ) (I : List ℕ) (d s : ℕ) (bytes : List ℕ) → IsEntryOf P I d bytes s → page_owner P I (page_of_slot s) ≡ d
unfolding slot_owner
entry_page P I d s bytes entry = entry.owner
