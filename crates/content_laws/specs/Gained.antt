-- What an index of the image holds after a file has got pages.
use Rattle.std.specs.Prelude.{◌≡◌, ◌↔◌, ℕ, ◌+◌, ◌<◌, ◌≤◌, List, Contains, Some, slice_get}
use Rattle.layout.specs.Fields.{inode_kind, inode_size, page_owner, slot_inode, slot_name}
use Rattle.layout.specs.Geometry.{inodes_of, data_pages_of}
use Rattle.image_reading.specs.Reading.{Reached, IsReachedSlot, IsPageOf, pages_of_size}
use Rattle.image_counts.specs.Entries.{IsSlotOf}

-- K has what W has, and the pages, which stand behind those that file i had.
pub record HasGained (P : ℕ) (W K : List ℕ) (i : ℕ) (pages : List ℕ) : Type 0 where
  pub reached : (x : ℕ) → Reached P K x ↔ Reached P W x
  pub kinds : (x : ℕ) → 1 ≤ x → x ≤ inodes_of P → inode_kind K x ≡ inode_kind W x
  pub entries : (x t : ℕ) → IsSlotOf P K x t ↔ IsSlotOf P W x t
  pub names : (t : ℕ) → IsReachedSlot P W t → slot_name P K t ≡ slot_name P W t
  pub inodes : (t : ℕ) → IsReachedSlot P W t → slot_inode P K t ≡ slot_inode P W t
  pub gained : (k j : ℕ) → slice_get pages k ≡ Some j → IsPageOf P K i (pages_of_size (inode_size W i) + k) j
  pub owners : (j : ℕ) → j < data_pages_of P → ¬ Contains pages j → page_owner P K j ≡ page_owner P W j
  pub files : (x k j : ℕ) → Reached P W x → ¬ Contains pages j → IsPageOf P K x k j ↔ IsPageOf P W x k j
