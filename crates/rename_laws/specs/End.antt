-- What a rename reads as from its commit on, and its last words.
use Rattle.std.specs.Prelude.{◌≡◌, ℕ, true, false, Option, List, ◌∷◌, reverse}
use Rattle.layout.specs.Fields.{slot_name}
use Rattle.layout.specs.Geometry.{page_of_slot}
use Rattle.tree_model.specs.PathText.{Route}
use Rattle.tree_model.specs.Run.{State}
use Rattle.tree_model.specs.Step.{is_full, room_after, with_moved, without_path, without_unnamed}
use Rattle.tree_model.specs.Tree.{Tree}
use Rattle.tree_model.specs.declared.command.Command.TheVariants.{Rename}
use Rattle.image_reading.specs.Reading.{slot_owner, IsRoomOf, Reads, HasRoom, ReadsAs}
use Rattle.image_reading.specs.Tidy.{IsTidied}
use Rattle.image_laws.specs.CreateStep.{IsStepped}
use Rattle.image_laws.specs.Move.{HasRoomMoved, moved}
use Rattle.rename_laws.specs.Target.{Target, Vacant, Opened, Taken, CanRename, name_of}
use Rattle.rename_laws.specs.Ready.{IsMoveReady}
use Rattle.rename_laws.specs.Intervals.{Finishes}

-- the two paths: that of slot s, and that of the new name
pub record ArePaths (P : ℕ) (W : List ℕ) (pa pb from to : Route) (s d : ℕ) (target : Target) : Type 0 where
  pub from_is : reverse from ≡ slot_name P W s ∷ pa
  pub to_is : reverse to ≡ name_of P W d target ∷ pb

-- the first path with all below it in place of the second
abbrev pub renamed : Tree → Route → Route → Tree
renamed T from to = without_unnamed (with_moved (without_path T to) from to)

-- Once the commit is stored the words read as the tree with the path in its new place.
abbrev pub CommittedLaw : Type 0
CommittedLaw = (P : ℕ) (W I : List ℕ) (pa pb from to : Route) (s x d : ℕ) (target : Target) (rising : Option ℕ) (T : Tree)
    → IsMoveReady P W I pa pb s x d target rising → ArePaths P W pa pb from to s d target → Reads P W T → Reads P (moved P I s d) (renamed T from to)

-- The last words are tidy,
abbrev pub MovedTidyLaw : Type 0
MovedTidyLaw = (P : ℕ) (W I J G K : List ℕ) (pa pb : Route) (s x d : ℕ) (target : Target) (rising falling : Option ℕ) → IsMoveReady P W I pa pb s x d target rising
    → Finishes P W I J G K s x d target falling → IsTidied P K

-- and read as that tree.
abbrev pub MovedReadsLaw : Type 0
MovedReadsLaw = (P : ℕ) (W I J G K : List ℕ) (pa pb from to : Route) (s x d : ℕ) (target : Target) (rising falling : Option ℕ) (T : Tree)
    → IsMoveReady P W I pa pb s x d target rising → Finishes P W I J G K s x d target falling → ArePaths P W pa pb from to s d target
    → Reads P W T → Reads P K (renamed T from to)

-- A directory gains a page with the new one, and loses that of slot s where it is given up.
abbrev pub MovedRoomLaw : Type 0
MovedRoomLaw = (P : ℕ) (W I J G K : List ℕ) (pa pb : Route) (s x d : ℕ) (target : Target) (rising falling : Option ℕ) → IsMoveReady P W I pa pb s x d target rising
    → Finishes P W I J G K s x d target falling → HasRoomMoved P I K s d

-- the directory takes a new page only where its names fill those that it has
abbrev pub FillsItsPages : State → ℕ → Target → Type 0
FillsItsPages old x (Vacant name) = Unit {0}
FillsItsPages old x (Opened j name) = is_full old.tree old.room x ≡ true
FillsItsPages old x (Taken r) = Unit {0}

-- What is left is a state that the step allows. (No node is new: id n is not read.)
abbrev pub MoveStepLaw : Type 0
MoveStepLaw = (P : ℕ) (W I J G K : List ℕ) (old : State) (pa pb from to : Route) (s x d n : ℕ) (target : Target) (rising falling : Option ℕ)
    → IsMoveReady P W I pa pb s x d target rising → Finishes P W I J G K s x d target falling → ArePaths P W pa pb from to s d target
    → ReadsAs P W old → FillsItsPages old x target → IsStepped P K old (Rename from to) n

-- The room is the step's with a page given back exactly where slot s's has no live slot any more.
pub record HasStepRoom (P : ℕ) (W K : List ℕ) (old : State) (from to : Route) (s n : ℕ) : Type 0 where
  pub kept : IsRoomOf P K (slot_owner P W s) (page_of_slot s) → HasRoom P K (room_after n old.tree old.room (Rename from to) false)
  pub given : ¬ IsRoomOf P K (slot_owner P W s) (page_of_slot s) → HasRoom P K (room_after n old.tree old.room (Rename from to) true)

abbrev pub MoveGivesLaw : Type 0
MoveGivesLaw = (P : ℕ) (W I J G K : List ℕ) (old : State) (pa pb from to : Route) (s x d n : ℕ) (target : Target) (rising falling : Option ℕ)
    → IsMoveReady P W I pa pb s x d target rising → Finishes P W I J G K s x d target falling → ArePaths P W pa pb from to s d target
    → ReadsAs P W old → FillsItsPages old x target → HasStepRoom P W K old from to s n

-- A directory whose names fill its pages keeps that of slot s: the names beside it stay.
abbrev pub FullSourceLaw : Type 0
FullSourceLaw = (P : ℕ) (W I J G K : List ℕ) (old : State) (pa pb : Route) (s x d : ℕ) (target : Target) (rising falling : Option ℕ)
    → IsMoveReady P W I pa pb s x d target rising → Finishes P W I J G K s x d target falling → ReadsAs P W old
    → is_full old.tree old.room (slot_owner P W s) ≡ true → IsRoomOf P K (slot_owner P W s) (page_of_slot s)

-- The words before don't read so.
abbrev pub DifferenceLaw : Type 0
DifferenceLaw = (P : ℕ) (W : List ℕ) (pa pb from to : Route) (s x d : ℕ) (target : Target) (T : Tree) → CanRename P W pa pb s x d target
    → ArePaths P W pa pb from to s d target → Reads P W T → Reads P W (renamed T from to) → ⊥
