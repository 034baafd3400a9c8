-- What an index of the last words holds is read off the first.
use Rattle.std.proofs.Common.{◌≡◌, ◌≢◌, ◌↔◌, inl, inr, ℕ, ◌+◌, ◌<◌, ◌≤◌, List, refl, sym, ap, ◌∙◌, arith}
use Rattle.layout.specs.Fields.{word, inode_kind, page_owner, slot_name}
use Rattle.layout.specs.Geometry.{page_of_slot, inode_word_of, slot_word_of}
use Rattle.layout.specs.Name.{name_in_words}
use Rattle.layout.proofs.Widths.{inode_field_read}
use Rattle.image_reading.specs.Reading.{slot_owner, Reached, IsReachedSlot}
use Rattle.image_reading.specs.Repairs.{IsKept}
use Rattle.image_reading.specs.Soundness.{Rule, IsCoherent}
use Rattle.image_counts.specs.Entries.{IsEntryOf, IsPageIn, IsFreePage, IsFreeInode}
use Rattle.image_laws.proofs.Paths.{reached_pos}
use Rattle.image_laws.proofs.Words.{slot_words-same}
use Rattle.repair_laws.specs.Mended.{IsUnkept, IsUnreached, GivesUp, Unpoints, Clears, Frees, IsRepair}
use Rattle.repair_laws.specs.Laws.{HasIndexOf}
use Rattle.repair_laws.proofs.After.{stays}
use Rattle.repair_laws.proofs.Apart.{gives_slot, unpoints_slot, clears_slot, frees_slot}
use Rattle.repair_laws.proofs.Ending as ending

module _ (P : ℕ) (W A B C K : List ℕ) (coherent : IsCoherent P W) (repair : IsRepair P W A B C K) where
  -- ---- entries

  name_word : (s f : ℕ) → IsReachedSlot P W s → 2 ≤ f → f < 16 → word K (slot_word_of P s f) ≡ word W (slot_word_of P s f)
  name_word s f slot low small =
      stays (Frees P W) C K repair.fourth (slot_word_of P s f) (λ v frees. frees_slot P W s f small frees refl)
      ∙ stays (Clears P W) B C repair.third (slot_word_of P s f) (λ v clears. let (some, dead, none) = clears_slot P W s f coherent small clears refl in dead.dead slot.live)
      ∙ stays (Unpoints P W) A B repair.second (slot_word_of P s f) (λ v unpoints. let (one, held) = unpoints_slot P W s f small unpoints refl in omega (arith, one, low))
      ∙ stays (GivesUp P W) W A repair.first (slot_word_of P s f) (λ v gives. let (zero, d, left) = gives_slot P W s f small gives refl in omega (arith, zero, low))

  same_name : (s : ℕ) → IsReachedSlot P W s → slot_name P K s ≡ slot_name P W s
  unfolding slot_name
  same_name s slot = ap name_in_words (slot_words-same P W K s (λ f lt. name_word s (2 + f) slot (omega arith) (omega (arith, lt))))

  same_owner : (s : ℕ) → IsReachedSlot P W s → slot_owner P K s ≡ slot_owner P W s
  unfolding slot_owner
  same_owner s slot = ending.kept_owner P W A B C K coherent repair (page_of_slot s) (ending.slots_page P W A B C K coherent repair s slot)

  entries : (d s : ℕ) (bytes : List ℕ) → IsEntryOf P K d bytes s ↔ IsEntryOf P W d bytes s
  entries d s bytes = (
    λ entry. let slot = ending.slot_before P W A B C K coherent repair s entry.slot in
        record { slot = slot; owner = sym (same_owner s slot) ∙ entry.owner; name = sym (same_name s slot) ∙ entry.name },
    λ entry. record {
      slot = ending.slot_after P W A B C K coherent repair s entry.slot;
      owner = same_owner s entry.slot ∙ entry.owner;
      name = same_name s entry.slot ∙ entry.name;
    },
  )

  -- ---- pages

  kept_owned : (j : ℕ) → IsKept P W j → page_owner P W j ≢ 0
  kept_owned j kept = elim kept [ inl page ↦ reached_pos P W (page_owner P W j) page.owner | inr room ↦ reached_pos P W (page_owner P W j) room.reached ]

  pages : (i j : ℕ) → 1 ≤ i → IsPageIn P K i j ↔ (IsKept P W j × (page_owner P W j ≡ i))
  pages i j some = (
    λ page.
        let owner = page.owner in
        let kept = ending.owned_kept P W A B C K coherent repair j page.in_range (λ none. omega (arith, none, owner, some)) in
        (kept, sym (ending.kept_owner P W A B C K coherent repair j kept) ∙ page.owner),
    λ (kept, owner). record {
      in_range = ending.kept_below P W A B C K coherent repair j kept;
      owner = ending.kept_owner P W A B C K coherent repair j kept ∙ owner;
    },
  )

  free_pages : (j : ℕ) → IsFreePage P K j ↔ IsUnkept P W j
  free_pages j = (
    λ (lt, none). record { in_range = lt; free = λ kept. kept_owned j kept (sym (ending.kept_owner P W A B C K coherent repair j kept) ∙ none) },
    λ unkept. (unkept.in_range, ending.free_owner P W A B C K coherent repair j unkept.in_range unkept.free),
  )

  -- ---- inodes

  kind_some : (i : ℕ) → Reached P W i → inode_kind W i ≢ 0
  kind_some i reached none = elim ((coherent Rule.kinds i).kind reached) [
    | inl file ↦ omega (arith, file, none)
    | inr directory ↦ omega (arith, directory, none)
  ]

  free_inodes : (i : ℕ) → IsFreeInode P K i ↔ IsUnreached P W i
  unfolding inode_kind
  free_inodes i = (
    λ (least, most, none). record {
      least = least;
      most = most;
      unreached = λ reached. kind_some i reached (sym (ending.same_kind P W A B C K coherent repair i reached) ∙ none);
    },
    λ unreached. (unreached.least, unreached.most, repair.fourth.new (inode_word_of i 0) 0 (Frees.inode i 0 unreached (inode_field_read W 0 (omega arith)))),
  )

  pub has_index : HasIndexOf P W K
  has_index = record {
    entries = entries;
    numbers = λ s slot. ending.live_number P W A B C K coherent repair s slot.live;
    kinds = ending.same_kind P W A B C K coherent repair;
    sizes = ending.same_size P W A B C K coherent repair;
    pages = pages;
    offsets = ending.kept_offset P W A B C K coherent repair;
    free_inodes = free_inodes;
    free_pages = free_pages;
  }
