-- A slot that names nothing any more is cleared, pages lose their owner, and what is left of them and of an inode is cleared: what each
-- step leaves to be repaired, beside other calls. P is the number of pages, I the words before a step, J those after it.
use Rattle.std.specs.Prelude.{◌≡◌, ◌≢◌, ℕ, Bool, true, false, List, [], ◌∷◌, ◌++◌, Option, Some, None, Contains}
use Rattle.layout.specs.Fields.{page_kind, slot_pointer}
use Rattle.layout.specs.Geometry.{page_of_slot}
use Rattle.image_reading.specs.Counts.{IsIn}
use Rattle.image_reading.specs.Reading.{IsHeld, Reached}
use Rattle.image_laws.specs.Drop.{ClearsName, GivesPages, ClearsRest}
use Rattle.image_laws.specs.Frame.{SameMeaning}
use Rattle.image_laws.specs.Stages.{MayClearName, MayFree}
use Rattle.image_reading.specs.Residue.{Residue, IsTidyBeside}
use Rattle.weave_laws.specs.Joined.{joined}
use Rattle.weave_laws.specs.Naming.{slots_left, pages_left, HasSpareLink}

abbrev pub inodes_left : Bool → ℕ → List ℕ
inodes_left true i = i ∷ []
inodes_left false i = []

abbrev pub falling_left : Option ℕ → List ℕ
falling_left None = []
falling_left (Some y) = y ∷ []

-- behind the commit: the slot, or its page where no name is left in it; the node's pages and the node, where it goes; the links of what
-- stays and has one less
abbrev pub unnamed_left : ℕ → Option ℕ → List ℕ → Bool → ℕ → Option ℕ → Residue
unnamed_left s given_back pages goes i falling = record {
  pointer = None;
  slots = slots_left s given_back;
  pages = pages ++ pages_left given_back;
  inodes = inodes_left goes i;
  counts = falling_left falling;
}

-- Pages, and with them an inode where it goes: behind the clearing of the slot, and once the pages have no owner. Pages alone: those that a
-- file doesn't reach, new ones before its size rises and those behind its end once it fell.
abbrev pub cleared_left : List ℕ → Bool → ℕ → Residue
cleared_left pages goes i = record { pointer = None; slots = []; pages = pages; inodes = inodes_left goes i; counts = [] }

-- The inode that has a link less is reached, and has a link more than is counted; or it isn't, and nothing is said.
abbrev pub IsFallingLink : ℕ → List ℕ → ℕ → Option ℕ → Type 0
IsFallingLink P I y None = ¬ Reached P I y
IsFallingLink P I y (Some falling) = (y ≡ falling) × Reached P I y × HasSpareLink P I y

-- the page that is given back is the slot's
abbrev pub IsPageOfName : ℕ → Option ℕ → Type 0
IsPageOfName s None = Unit {0}
IsPageOfName s (Some page) = page_of_slot s ≡ page

-- the slot is cleared, and a link falls
abbrev pub ClearedLaw : Type 0
ClearedLaw = (P : ℕ) (I J : List ℕ) (s y : ℕ) (given_back : Option ℕ) (pages : List ℕ) (goes : Bool) (i : ℕ) (falling : Option ℕ) (others : Residue) → MayClearName P I s y
    → IsPageOfName s given_back → IsFallingLink P I y falling → ClearsName P I J s y → IsTidyBeside P I (joined (unnamed_left s given_back pages goes i falling) others)
    → IsTidyBeside P J (joined (cleared_left (pages ++ pages_left given_back) goes i) others)

-- a page that is left and has a kind, and no slot of which points
pub record IsLeftPage (P : ℕ) (I : List ℕ) (residue : Residue) (j : ℕ) : Type 0 where
  pub left : IsIn j residue.pages
  pub kind : page_kind P I j ≢ 0
  pub pointers : (t : ℕ) → page_of_slot t ≡ j → IsHeld P I t → slot_pointer P I t ≡ 0

-- such pages lose their owner: the same is left
abbrev pub GivenLaw : Type 0
GivenLaw = (P : ℕ) (I J pages : List ℕ) (residue : Residue) → SameMeaning P I J → GivesPages P I J (Contains pages)
    → ((j : ℕ) → Contains pages j → IsLeftPage P I residue j) → IsTidyBeside P I residue → IsTidyBeside P J residue

-- what is left of them and of the inode is cleared: nothing of them is left
abbrev pub FreedLaw : Type 0
FreedLaw = (P : ℕ) (I J pages : List ℕ) (goes : Bool) (i : ℕ) (others : Residue) → MayFree P I (Contains pages) (goes ≡ true) i → ClearsRest P I J (Contains pages) (goes ≡ true) i
    → IsTidyBeside P I (joined (cleared_left pages goes i) others) → IsTidyBeside P J others
