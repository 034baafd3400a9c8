-- What each step of some repairs stores, and what all of them take.
use Rattle.std.specs.Prelude.{◌≡◌, ◌⊎◌, ℕ, ◌+◌, ◌*◌, List, [], ◌∷◌, length, Option, IfSome}
use Rattle.pm_trait.specs.Unfolds.{Step, events_in, fences_in}
use Rattle.recovery.specs.declared.part.Part.{Part}
use Rattle.recovery.specs.declared.part.Part.TheVariants.{Number, Pointer, Owner, Name, Links, Descriptor, Inode}
use Rattle.recovery.specs.declared.repairs.Repairs.{Repairs}
use Rattle.recovery.specs.Parts.{IsNumber, AreNumbers, IsRising, events_of_part}
use Rattle.recovery.specs.Changes.{IsOne, IsCleared, IsLinked, changing, one_changes}

-- The part is one word, and there is such an object where one is named.
pub record CanClearWord (P : ℕ) (part : Part) (number : Option ℕ) : Type 0 where
  pub one : events_of_part part ≡ 2
  pub there : IfSome number (IsNumber P part)

-- the numbers of a list are those of objects, each once, in rising order
pub record AreObjects (P : ℕ) (part : Part) (numbers : List ℕ) : Type 0 where
  pub rising : IsRising numbers
  pub each : AreNumbers P part numbers

pub record HasObjects (repairs : Repairs) : Type 0 where
  pub owners : AreObjects repairs.geometry.pages Owner repairs.owners.items
  pub slots : AreObjects repairs.geometry.pages Name repairs.slots.items
  pub links : AreObjects repairs.geometry.pages Links repairs.links.items
  pub descriptors : AreObjects repairs.geometry.pages (Descriptor repairs.descriptor_width) repairs.descriptors.items
  pub inodes : AreObjects repairs.geometry.pages (Inode repairs.inode_width) repairs.inodes.items

-- what the third step stores
abbrev pub IsClearedBy : Repairs → ℕ → ℕ → Type 0
IsClearedBy r a v =
    (IsCleared r.geometry.pages Owner r.owners.items a v ⊎ IsCleared r.geometry.pages Name r.slots.items a v)
    ⊎ IsLinked r.geometry.pages r.links.items r.counts.items a v

-- and the fourth
abbrev pub IsFreedBy : Repairs → ℕ → ℕ → Type 0
IsFreedBy r a v =
    IsCleared r.geometry.pages (Descriptor r.descriptor_width) r.descriptors.items a v
    ⊎ IsCleared r.geometry.pages (Inode r.inode_width) r.inodes.items a v

-- their stores and flushes
abbrev pub clear_changes : Repairs → ℕ
clear_changes r =
    events_of_part Owner * length r.owners.items + events_of_part Name * length r.slots.items + events_of_part Links * length r.links.items

abbrev pub free_changes : Repairs → ℕ
free_changes r =
    events_of_part (Descriptor r.descriptor_width) * length r.descriptors.items + events_of_part (Inode r.inode_width) * length r.inodes.items

-- ---- the steps

-- the number of the slot that a committed rename left
abbrev pub giving_up : Repairs → Step
giving_up r = changing (IsOne r.geometry.pages Number r.left) (one_changes r.left)

-- the rename pointer
abbrev pub unpointing : Repairs → Step
unpointing r = changing (IsOne r.geometry.pages Pointer r.pointer) (one_changes r.pointer)

-- owners of pages, words 1 to 15 of dead slots, and links
abbrev pub clearing : Repairs → Step
clearing r = changing (IsClearedBy r) (clear_changes r)

-- words of descriptors behind the owner, and words of inodes
abbrev pub freeing : Repairs → Step
freeing r = changing (IsFreedBy r) (free_changes r)

abbrev pub steps_of : Repairs → List Step
steps_of r = giving_up r ∷ unpointing r ∷ clearing r ∷ freeing r ∷ []

-- the stores, flushes and fences of all of them
abbrev pub events_of_repairs : Repairs → ℕ
events_of_repairs r = events_in (steps_of r)

-- one fence for each that has a store
abbrev pub fences_of_repairs : Repairs → ℕ
fences_of_repairs r = fences_in (steps_of r)
