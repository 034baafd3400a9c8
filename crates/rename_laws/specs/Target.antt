-- What a rename needs of a tidy image: W are its words, s is the slot that names what moves, and slot d of directory x takes its number.
use Rattle.std.specs.Prelude.{◌≡◌, ◌≢◌, ◌⊎◌, ℕ, ◌∷◌, ◌++◌, List, Option, Some, None}
use Rattle.layout.specs.Fields.{inode_kind, slot_inode, slot_name}
use Rattle.layout.specs.Geometry.{page_of_slot}
use Rattle.layout.specs.Name.{name_in_words}
use Rattle.tree_model.specs.PathText.{Route}
use Rattle.image_reading.specs.Reading.{HasBytes, IsDirectory, slot_owner, Names, IsReachedSlot}
use Rattle.image_reading.specs.Tidy.{IsTidied}
use Rattle.image_counts.specs.Entries.{IsSlotOf, IsFreePage}
use Rattle.image_laws.specs.Create.{CanName, IsVacant}

-- Where slot d stands: it is vacant and gets these name words, or so it is in a new page, or it names an inode, which is replaced.
pub data Target : Type 0 where
  Vacant : (name : List ℕ) → Target
  Opened : (page : ℕ) (name : List ℕ) → Target
  Taken : (replaced : ℕ) → Target

-- Slot d is an entry of directory x and names another node of the same kind, which has no names where it is a directory.
pub record CanReplace (P : ℕ) (W : List ℕ) (s x d r : ℕ) : Type 0 where
  pub entry : IsSlotOf P W x d
  pub number : slot_inode P W d ≡ r
  pub other : r ≢ slot_inode P W s
  pub same_kind : inode_kind W r ≡ inode_kind W (slot_inode P W s)
  pub empty : IsDirectory W r → (t : ℕ) → IsSlotOf P W r t → ⊥

-- Slot d stands so.
abbrev pub CanTake : ℕ → List ℕ → Route → ℕ → ℕ → ℕ → Target → Type 0
CanTake P W pb s x d (Vacant name) = CanName P W pb x name × IsVacant P W x d
CanTake P W pb s x d (Opened j name) = CanName P W pb x name × IsFreePage P W j × (page_of_slot d ≡ j)
CanTake P W pb s x d (Taken r) = CanReplace P W s x d r

-- pa names the directory of the reached slot s, pb names directory x, and a directory doesn't move into itself.
pub record CanRename (P : ℕ) (W : List ℕ) (pa pb : Route) (s x d : ℕ) (target : Target) : Type 0 where
  pub tidy : IsTidied P W
  pub source_path : Names P W pa (slot_owner P W s)
  pub source : IsReachedSlot P W s
  pub target_path : Names P W pb x
  pub target_directory : IsDirectory W x
  pub outside : IsDirectory W (slot_inode P W s) → (r : Route) → pb ≢ r ++ slot_name P W s ∷ pa
  pub target_slot : CanTake P W pb s x d target

-- the number that slot d has before: that of an inode that is replaced
abbrev pub old_number : Target → ℕ
old_number (Vacant name) = 0
old_number (Opened j name) = 0
old_number (Taken r) = r

-- the new name
abbrev pub name_of : ℕ → List ℕ → ℕ → Target → List ℕ
name_of P W d (Vacant name) = name_in_words name
name_of P W d (Opened j name) = name_in_words name
name_of P W d (Taken r) = slot_name P W d

-- ---- links

-- the option holds the inode of which Q is said, where there is one
abbrev pub Holds : (ℕ → Type 0) → Option ℕ → Type 0
Holds Q None = (y : ℕ) → Q y → ⊥
Holds Q (Some y) = Q y

-- a directory moves from another one
pub record IsDirectoryMoved (P : ℕ) (W : List ℕ) (s x : ℕ) : Type 0 where
  pub directory : IsDirectory W (slot_inode P W s)
  pub leaves : slot_owner P W s ≢ x

-- Inode y has a link more: x, where a directory comes that replaces none.
abbrev pub IsRising : ℕ → List ℕ → ℕ → ℕ → Target → ℕ → Type 0
IsRising P W s x (Vacant name) y = IsDirectoryMoved P W s x × (y ≡ x)
IsRising P W s x (Opened j name) y = IsDirectoryMoved P W s x × (y ≡ x)
IsRising P W s x (Taken r) y = ⊥

-- Inode y has a link less: the old parent of a directory that leaves it or replaces one, or a file that is replaced.
abbrev pub IsFalling : ℕ → List ℕ → ℕ → ℕ → Target → ℕ → Type 0
IsFalling P W s x (Vacant name) y = IsDirectoryMoved P W s x × (y ≡ slot_owner P W s)
IsFalling P W s x (Opened j name) y = IsDirectoryMoved P W s x × (y ≡ slot_owner P W s)
IsFalling P W s x (Taken r) y = (IsDirectory W r × (y ≡ slot_owner P W s)) ⊎ (HasBytes W r × (y ≡ r))
