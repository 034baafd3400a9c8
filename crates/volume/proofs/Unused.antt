-- In a tidy image a page without an owner has no kind either, so it is free in the set exactly where it has no owner.
use Rattle.std.proofs.Common.{◌≡◌, ◌↔◌, inl, inr, ℕ, ◌<◌, Bool, List, arith}
use Rattle.std.proofs.lemmas.Bool.{cases_eq}
use Rattle.layout.specs.Geometry.{data_pages_of}
use Rattle.layout.specs.Fields.{page_kind, page_owner}
use Rattle.layout.proofs.Widths.{descriptor_field_read}
use Rattle.image_reading.specs.Reading.{Reached}
use Rattle.image_reading.specs.Repairs.{IsKept, IsLitterPage}
use Rattle.image_reading.specs.Tidy.{IsTidied}
use Rattle.image_counts.specs.Entries.{IsUnusedPage}
use Rattle.image_counts.proofs.Counting.{none_counted}
use Rattle.image_counts.proofs.Paths.{in_range}
use Rattle.allocators.specs.Numbers.{IsFree}
use Rattle.volume.specs.Volume.{VolumeView}
use Rattle.volume.specs.Stands.{Knows}

module _ (P : ℕ) (I : List ℕ) (tidy : IsTidied P I) where
  not_reached : (i : ℕ) → i ≡ 0 → Reached P I i → ⊥
  not_reached i none reached = let least = (in_range P I tidy.coherent i reached).0 in omega (arith, least, none)

  not_kept : (j : ℕ) → page_owner P I j ≡ 0 → IsKept P I j → ⊥
  not_kept j unowned kept = elim kept [
    | inl page ↦ not_reached (page_owner P I j) unowned page.owner
    | inr room ↦ not_reached (page_owner P I j) unowned room.reached
  ]

  litter : (j : ℕ) → j < data_pages_of P → page_owner P I j ≡ 0 → (page_kind P I j ≡ 0 → ⊥) → IsLitterPage P I j
  unfolding page_kind
  litter j within unowned kind = record { in_range = within; free = not_kept j unowned; nonzero = (1, descriptor_field_read I 1 (omega arith), kind) }

  pub unowned_unused : (j : ℕ) → j < data_pages_of P → page_owner P I j ≡ 0 → IsUnusedPage P I j
  unowned_unused j within unowned = elim (cases_eq (page_kind P I j) 0) [
    | inl none ↦ (unowned, none)
    | inr some ↦ absurd (none_counted (IsLitterPage P I) tidy.repaired.of_pages j (litter j within unowned some))
  ]

  pub unused_unowned : (j : ℕ) → j < data_pages_of P → (page_owner P I j ≡ 0) ↔ IsUnusedPage P I j
  unused_unowned j within = (unowned_unused j within, (λ unused. unused.0))

-- what a volume knows of free pages, of tidy words by their owners alone
pub free_unowned : (volume : VolumeView) (I : List ℕ) → Knows volume I → IsTidied volume.size I → (j : ℕ) → j < data_pages_of volume.size → IsFree volume.data_pages j ↔ (page_owner volume.size I j ≡ 0)
free_unowned volume I knows tidy j within =
    let both = knows.data_pages j within in
    ((λ free. (both.0 free).0), (λ unowned. both.1 (unowned_unused volume.size I tidy j within unowned)))

-- and back
pub free_unused : (P : ℕ) (I : List ℕ) (free : List Bool) → IsTidied P I → (j : ℕ) → j < data_pages_of P → IsFree free j ↔ (page_owner P I j ≡ 0) → IsFree free j ↔ IsUnusedPage P I j
free_unused P I free tidy j within both = ((λ is. unowned_unused P I tidy j within (both.0 is)), (λ unused. both.1 unused.0))
