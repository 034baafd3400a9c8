-- What is proved beside a residue, of a tidy image, which has none.
use Rattle.std.proofs.Common.{◌≢◌, inl, inr, ℕ, ◌<◌, List}
use Rattle.std.proofs.lemmas.Bool.{cases_eq}
use Rattle.layout.specs.Geometry.{data_pages_of}
use Rattle.layout.specs.Fields.{page_owner, page_kind}
use Rattle.tree_model.specs.Capacity.{pages_in_use}
use Rattle.tree_model.specs.Run.{State}
use Rattle.image_reading.specs.Reading.{IsDirectory, Reached, ReadsAs}
use Rattle.image_reading.specs.Repairs.{IsKept}
use Rattle.image_reading.specs.Residue.{no_residue}
use Rattle.image_reading.specs.Tidy.{IsTidied}
use Rattle.image_counts.specs.Entries.{IsOwnedPage, IsFreePage, IsUnusedPage, IsUnusedDataPage}
use Rattle.image_counts.specs.Laws.{HasRoomWords, HasUsedPages, HasPagesBeside, RoomLaw, FilePagesLaw, PageCountLaw}
use Rattle.image_counts.proofs.Apart.{reads_tidied, apart_nothing}
use Rattle.image_counts.proofs.Beside.{kept_within, page_count_beside_law, file_pages_beside_law, room_beside_law}
use Rattle.image_counts.proofs.Counting.{count_alike}
use Rattle.image_counts.proofs.Pages.{kept_page_law}

pub room_law : RoomLaw
room_law P I state tidy reads d reached directory = room_beside_law P I no_residue state (reads_tidied P I state tidy reads) d reached directory (apart_nothing P I d)

pub file_pages_law : FilePagesLaw
file_pages_law P I state tidy reads i reached file = file_pages_beside_law P I no_residue state (reads_tidied P I state tidy reads) i reached file (apart_nothing P I i)

module _ (P : ℕ) (I : List ℕ) (state : State) (tidy : IsTidied P I) (reads : ReadsAs P I state) where
  pub has_room_words : (d : ℕ) → Reached P I d → IsDirectory I d → HasRoomWords P I state d
  has_room_words = room_law P I state tidy reads

  beside : HasPagesBeside P I no_residue state
  beside = page_count_beside_law P I no_residue state (reads_tidied P I state tidy reads)

  used_kept : (j : ℕ) → j < data_pages_of P → ¬ IsUnusedPage P I j → IsKept P I j
  used_kept j within used = elim ((beside.used j within).1 used) [ inl kept ↦ kept | inr none ↦ absurd none ]

  pub owned_kept : (j : ℕ) → j < data_pages_of P → page_owner P I j ≢ 0 → IsKept P I j
  owned_kept j within owned = used_kept j within (λ unused. owned unused.0)

  free_unused : (j : ℕ) → IsFreePage P I j → IsUnusedDataPage P I j
  free_unused j (within, none) = elim (cases_eq (page_kind P I j) 0) [
    | inl zero ↦ (within, (none, zero))
    | inr kind ↦ absurd (beside.owned j (used_kept j within (λ unused. kind unused.1)) none)
  ]

  has_used_pages : HasUsedPages P I state
  has_used_pages = record {
    owned = count_alike (IsKept P I) (IsOwnedPage P I) (pages_in_use state.tree state.room) (λ j kept. (kept_within P I j kept, beside.owned j kept))
        (λ j page. owned_kept j page.0 page.1) (kept_page_law P I state tidy.coherent reads);
    kept = λ j within. (beside.owned j, owned_kept j within);
    free = λ n free. beside.free n (count_alike (IsFreePage P I) (IsUnusedDataPage P I) n free_unused (λ j page. (page.0, page.1.0)) free);
  }

pub page_count_law : PageCountLaw
page_count_law P I state tidy reads = has_used_pages P I state tidy reads
