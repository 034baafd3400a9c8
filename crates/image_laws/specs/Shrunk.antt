-- What an index of the image holds after unlink and rmdir.
use Rattle.std.specs.Prelude.{◌≡◌, ◌≢◌, ◌↔◌, ℕ, ◌<◌, List}
use Rattle.layout.specs.Fields.{page_owner, slot_inode, slot_name}
use Rattle.layout.specs.Geometry.{data_pages_of}
use Rattle.tree_model.specs.PathText.{Route}
use Rattle.image_reading.specs.Reading.{slot_owner, Reached, IsNameOf, IsPageOf}
use Rattle.image_counts.specs.Entries.{IsSlotOf}
use Rattle.image_laws.specs.Drop.{CanDrop, Drops, IsGiven, dropped}

-- K has what W has, but slot s names nothing, and what is given back has no owner.
pub record HasShrunk (P : ℕ) (W K : List ℕ) (s : ℕ) : Type 0 where
  pub entries : (x t : ℕ) → IsSlotOf P K x t ↔ (IsSlotOf P W x t × (t ≢ s))
  pub reached : (x : ℕ) → x ≢ slot_inode P W s → Reached P K x ↔ Reached P W x
  pub inode : Reached P K (slot_inode P W s) ↔ ((t : ℕ) × IsNameOf P W (slot_inode P W s) t × (t ≢ s))
  pub names : (t : ℕ) → t ≢ s → slot_name P K t ≡ slot_name P W t
  pub inodes : (t : ℕ) → t ≢ s → slot_inode P K t ≡ slot_inode P W t
  pub given : (j : ℕ) → IsGiven P (dropped P W s) (slot_owner P W s) s (slot_inode P W s) j → page_owner P K j ≡ 0
  pub owners : (j : ℕ) → j < data_pages_of P → (IsGiven P (dropped P W s) (slot_owner P W s) s (slot_inode P W s) j → ⊥) → page_owner P K j ≡ page_owner P W j
  pub files : (x k j : ℕ) → Reached P K x → IsPageOf P K x k j ↔ IsPageOf P W x k j

abbrev pub ShrunkLaw : Type 0
ShrunkLaw = (P : ℕ) (W I J K : List ℕ) (p : Route) (s y : ℕ) → CanDrop P W p s → Drops P W I J K s y → HasShrunk P W K s
