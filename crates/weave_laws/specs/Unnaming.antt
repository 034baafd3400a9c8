-- A slot gives up its number, and with it a name goes: what that leaves to be repaired, beside other calls. P is the number of pages, I the
-- words before.
use Rattle.std.specs.Prelude.{◌≡◌, ◌↔◌, ◌⊎◌, ℕ, Bool, true, false, List, Option, Some, None}
use Rattle.layout.specs.Fields.{slot_inode}
use Rattle.tree_model.specs.PathText.{Route}
use Rattle.image_reading.specs.Counts.{IsIn, IsDistinct}
use Rattle.image_reading.specs.Reading.{HasBytes, IsDirectory, slot_owner, Reached}
use Rattle.image_counts.specs.Entries.{IsPageIn}
use Rattle.image_counts.specs.Laws.{IsApart}
use Rattle.image_laws.specs.Drop.{dropped}
use Rattle.image_laws.specs.Remove.{CanRemove}
use Rattle.image_reading.specs.Residue.{Residue, IsTidyBeside}
use Rattle.weave_laws.specs.Entering.{IsNamelessPage}
use Rattle.weave_laws.specs.Joined.{joined}
use Rattle.weave_laws.specs.Removing.{unnamed_left}

-- a link less has a file that stays, or the directory that a directory goes from
abbrev pub IsFallen : ℕ → List ℕ → ℕ → Bool → Option ℕ → Type 0
IsFallen P I s goes None = HasBytes I (slot_inode P I s) × (goes ≡ true)
IsFallen P I s goes (Some y) = (HasBytes I (slot_inode P I s) × (goes ≡ false) × (y ≡ slot_inode P I s)) ⊎ (IsDirectory I (slot_inode P I s) × (y ≡ slot_owner P I s))

-- What goes with the name: the node, where no other path names it, with its pages; the slot's page, where no name is left in it; a link.
pub record GoesWith (P : ℕ) (I : List ℕ) (s : ℕ) (given_back : Option ℕ) (pages : List ℕ) (goes : Bool) (falling : Option ℕ) : Type 0 where
  pub node : (goes ≡ true) ↔ ¬ Reached P (dropped P I s) (slot_inode P I s)
  pub distinct : IsDistinct pages
  pub pages_are : (j : ℕ) → IsIn j pages ↔ ((goes ≡ true) × IsPageIn P I (slot_inode P I s) j)
  pub page : IsNamelessPage P (dropped P I s) (slot_owner P I s) s given_back
  pub link : IsFallen P I s goes falling

-- The others have left nothing of the node, nor of its directory.
abbrev pub UnnamedLaw : Type 0
UnnamedLaw = (P : ℕ) (I : List ℕ) (p : Route) (s : ℕ) (given_back : Option ℕ) (pages : List ℕ) (goes : Bool) (falling : Option ℕ) (others : Residue) → CanRemove P I p s
    → GoesWith P I s given_back pages goes falling → IsApart P I others (slot_inode P I s) → IsApart P I others (slot_owner P I s) → IsTidyBeside P I others
    → IsTidyBeside P (dropped P I s) (joined (unnamed_left s given_back pages goes (slot_inode P I s) falling) others)
