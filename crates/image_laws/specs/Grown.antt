-- What an index of the image holds after a node was made.
use Rattle.std.specs.Prelude.{◌≡◌, ◌≢◌, ◌↔◌, ◌⊎◌, ℕ, ◌<◌, List}
use Rattle.layout.specs.Fields.{page_owner, slot_inode, slot_name}
use Rattle.layout.specs.Geometry.{data_pages_of, page_of_slot}
use Rattle.layout.specs.Name.{name_in_words}
use Rattle.layout.specs.declared.kinds.NodeKind.{NodeKind}
use Rattle.tree_model.specs.PathText.{Route}
use Rattle.image_reading.specs.Reading.{HasBytes, Reached, IsReachedSlot, IsPageOf, IsRoomOf}
use Rattle.image_counts.specs.Entries.{IsSlotOf, IsFreePage}
use Rattle.image_laws.specs.Create.{CanMake, IsVacant, MakesNode, MakesEmptyPage, committed, owned}

-- J has what W has, and inode i, named by slot s of directory d.
pub record HasGrown (P : ℕ) (W J : List ℕ) (d s i : ℕ) (name : List ℕ) : Type 0 where
  pub reached : (x : ℕ) → Reached P J x ↔ (Reached P W x ⊎ (x ≡ i))
  pub entries : (x t : ℕ) → IsSlotOf P J x t ↔ (IsSlotOf P W x t ⊎ ((x ≡ d) × (t ≡ s)))
  pub pages : (x j : ℕ) → IsRoomOf P J x j ↔ (IsRoomOf P W x j ⊎ ((x ≡ d) × (j ≡ page_of_slot s)))
  pub files : (x k j : ℕ) → Reached P W x → HasBytes W x → IsPageOf P J x k j ↔ IsPageOf P W x k j
  pub owner : page_owner P J (page_of_slot s) ≡ d
  pub owners : (j : ℕ) → j < data_pages_of P → j ≢ page_of_slot s → page_owner P J j ≡ page_owner P W j
  pub new_name : slot_name P J s ≡ name_in_words name
  pub new_inode : slot_inode P J s ≡ i
  pub names : (t : ℕ) → IsReachedSlot P W t → slot_name P J t ≡ slot_name P W t
  pub inodes : (t : ℕ) → IsReachedSlot P W t → slot_inode P J t ≡ slot_inode P W t

abbrev pub GrownLaw : Type 0
GrownLaw = (P : ℕ) (W I : List ℕ) (p : Route) (kind : NodeKind) (d s i : ℕ) (name : List ℕ) → CanMake P W p d i name → IsVacant P W d s → MakesNode P W I kind d s i name
    → HasGrown P W (committed P I s i) d s i name

abbrev pub NewPageGrownLaw : Type 0
NewPageGrownLaw = (P : ℕ) (W A I : List ℕ) (p : Route) (kind : NodeKind) (d j s i : ℕ) (name : List ℕ) → CanMake P W p d i name → IsFreePage P W j → page_of_slot s ≡ j
    → MakesEmptyPage P W A j → MakesNode P (owned P A j d) I kind d s i name → HasGrown P W (committed P I s i) d s i name
