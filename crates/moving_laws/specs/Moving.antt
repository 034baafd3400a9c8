-- What a rename leaves to be repaired, cut at each of its fences. P is the number of pages, W the words before it, which are tidy. It runs
-- alone: it names every node.
use Rattle.std.specs.Prelude.{◌≡◌, ◌↔◌, ℕ, Bool, ◌&&◌, true, if◌then◌else◌, List, [], ◌∷◌, ◌++◌, Option, Some, None}
use Rattle.layout.specs.Geometry.{page_of_slot}
use Rattle.tree_model.specs.PathText.{Route}
use Rattle.tree_model.specs.Run.{State}
use Rattle.tree_model.specs.Tree.{is_number}
use Rattle.tree_model.specs.declared.command.Command.TheVariants.{Rename}
use Rattle.image_reading.specs.Counts.{IsIn, IsDistinct}
use Rattle.image_reading.specs.Reading.{slot_owner, IsRoomOf, ReadsAs}
use Rattle.image_reading.specs.Residue.{Residue, no_residue, IsTidyBeside}
use Rattle.image_counts.specs.Entries.{IsPageIn}
use Rattle.image_laws.specs.Create.{MakesNamedPage, owned}
use Rattle.image_laws.specs.CreateStep.{IsStepped}
use Rattle.image_laws.specs.Move.{moved}
use Rattle.rename_laws.specs.Target.{Target, Vacant, Opened, Taken, CanRename, Holds, IsFalling, old_number}
use Rattle.rename_laws.specs.Ready.{IsMoveReady}
use Rattle.rename_laws.specs.Intervals.{left, IsGone, IsCleared, IsGiven}
use Rattle.rename_laws.specs.End.{ArePaths, FillsItsPages}
use Rattle.weave_laws.specs.Naming.{pages_left}
use Rattle.weave_laws.specs.Removing.{falling_left, cleared_left, unnamed_left}

-- ---- a new page: A are the words with it, still without an owner

abbrev pub opened_left : ℕ → Residue
opened_left page = record no_residue { pages = page ∷ [] }

abbrev pub PageFilledLaw : Type 0
PageFilledLaw = (P : ℕ) (W A : List ℕ) (pa pb : Route) (s x d j : ℕ) (name : List ℕ) → CanRename P W pa pb s x d (Opened j name) → MakesNamedPage P W A j d name
    → IsTidyBeside P A (opened_left j)

-- and so it is with its owner
abbrev pub PageOwnedLaw : Type 0
PageOwnedLaw = (P : ℕ) (W A : List ℕ) (pa pb : Route) (s x d j : ℕ) (name : List ℕ) → CanRename P W pa pb s x d (Opened j name) → MakesNamedPage P W A j d name
    → IsTidyBeside P (owned P A j x) (opened_left j)

-- ---- slot d points at slot s: I are the words from which it may take the number

-- until then it is to be cleared where it names nothing, or its new page in place of it
abbrev pub waiting_slots : ℕ → Target → List ℕ
waiting_slots d (Vacant name) = d ∷ []
waiting_slots d (Opened page name) = []
waiting_slots d (Taken r) = []

abbrev pub new_page : Target → Option ℕ
new_page (Vacant name) = None
new_page (Opened page name) = Some page
new_page (Taken r) = None

-- the links that have risen are one too many
abbrev pub pointed_left : ℕ → Target → Option ℕ → Residue
pointed_left d target rising = record { pointer = Some d; slots = waiting_slots d target; pages = pages_left (new_page target); inodes = []; counts = falling_left rising }

abbrev pub PointedLaw : Type 0
PointedLaw = (P : ℕ) (W I : List ℕ) (pa pb : Route) (s x d : ℕ) (target : Target) (rising : Option ℕ) → IsMoveReady P W I pa pb s x d target rising
    → IsTidyBeside P I (pointed_left d target rising)

-- ---- the commit, and slot s gives up its number: C are the words that the commit leaves

-- the page of slot s is given back where no name is left in it
abbrev pub GivesBackSource : ℕ → List ℕ → List ℕ → ℕ → Option ℕ → Type 0
GivesBackSource P W C s None = IsRoomOf P C (slot_owner P W s) (page_of_slot s)
GivesBackSource P W C s (Some page) = (page_of_slot s ≡ page) × ¬ IsRoomOf P C (slot_owner P W s) page

-- What goes with the old name: a replaced inode that no path names any more, with its pages; the page of slot s; a link.
pub record GoesWithMove (P : ℕ) (W C : List ℕ) (s x : ℕ) (target : Target) (given_back : Option ℕ) (pages : List ℕ) (goes : Bool) (falling : Option ℕ) : Type 0 where
  pub node : (goes ≡ true) ↔ IsGone P C target
  pub distinct : IsDistinct pages
  pub pages_are : (j : ℕ) → IsIn j pages ↔ ((goes ≡ true) × IsPageIn P C (old_number target) j)
  pub page : GivesBackSource P W C s given_back
  pub link : Holds (IsFalling P W s x target) falling

-- the falling inode, whose link word is too high until it falls; a replaced inode r that goes isn't reached, and has no such word
abbrev pub still_high : Bool → ℕ → Option ℕ → Option ℕ
still_high goes r falling = if goes && is_number falling r then None else falling

-- slot d points until slot s is cleared, and the rest is as where a name was given up
abbrev pub moved_left : ℕ → ℕ → Option ℕ → List ℕ → Bool → ℕ → Option ℕ → Residue
moved_left s d given_back pages goes r falling = record (unnamed_left s given_back pages goes r (still_high goes r falling)) { pointer = Some d }

abbrev pub MovedLaw : Type 0
MovedLaw = (P : ℕ) (W I : List ℕ) (pa pb : Route) (s x d : ℕ) (target : Target) (rising given_back : Option ℕ) (pages : List ℕ) (goes : Bool) (falling : Option ℕ) → IsMoveReady P W I pa pb s x d target rising
    → GoesWithMove P W (moved P I s d) s x target given_back pages goes falling → IsTidyBeside P (moved P I s d) (moved_left s d given_back pages goes (old_number target) falling)

abbrev pub LeftLaw : Type 0
LeftLaw = (P : ℕ) (W I : List ℕ) (pa pb : Route) (s x d : ℕ) (target : Target) (rising given_back : Option ℕ) (pages : List ℕ) (goes : Bool) (falling : Option ℕ) → IsMoveReady P W I pa pb s x d target rising
    → GoesWithMove P W (moved P I s d) s x target given_back pages goes falling → IsTidyBeside P (left P I s d) (moved_left s d given_back pages goes (old_number target) falling)

-- ---- the pointer and slot s are cleared, and a link falls, to J; then the pages that go lose their owner, to G

abbrev pub MoveClearedLaw : Type 0
MoveClearedLaw = (P : ℕ) (W I J : List ℕ) (pa pb : Route) (s x d : ℕ) (target : Target) (rising given_back : Option ℕ) (pages : List ℕ) (goes : Bool) (falling : Option ℕ) → IsMoveReady P W I pa pb s x d target rising
    → IsCleared P W I J s x d target falling → GoesWithMove P W (moved P I s d) s x target given_back pages goes falling → IsTidyBeside P J (cleared_left (pages ++ pages_left given_back) goes (old_number target))

abbrev pub MoveGivenLaw : Type 0
MoveGivenLaw = (P : ℕ) (W I J G : List ℕ) (pa pb : Route) (s x d : ℕ) (target : Target) (rising given_back : Option ℕ) (pages : List ℕ) (goes : Bool) (falling : Option ℕ) → IsMoveReady P W I pa pb s x d target rising
    → IsGiven P W I J G s x d target falling → GoesWithMove P W (moved P I s d) s x target given_back pages goes falling → IsTidyBeside P G (cleared_left (pages ++ pages_left given_back) goes (old_number target))

-- ---- the state that the commit leaves

-- It is one that the step allows, as that of the last words is. (No node is new: id n is not read.)
abbrev pub MovedStateLaw : Type 0
MovedStateLaw = (P : ℕ) (W I : List ℕ) (old : State) (pa pb from to : Route) (s x d n : ℕ) (target : Target) (rising : Option ℕ) → IsMoveReady P W I pa pb s x d target rising
    → ArePaths P W pa pb from to s d target → ReadsAs P W old → FillsItsPages old x target → IsStepped P (moved P I s d) old (Rename from to) n
