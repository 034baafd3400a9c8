-- What link leaves is a state that the step allows.
use Rattle.std.specs.Prelude.{◌≡◌, ℕ, Bool, true, false, Some, List, ◌∷◌, reverse}
use Rattle.layout.specs.Geometry.{page_of_slot}
use Rattle.layout.specs.Name.{name_in_words}
use Rattle.tree_model.specs.PathText.{Route}
use Rattle.tree_model.specs.Tree.{Tree, Room, IsRoom, parent, id_at, is_directory}
use Rattle.tree_model.specs.Step.{is_full, room_after}
use Rattle.tree_model.specs.Run.{State}
use Rattle.tree_model.specs.declared.command.Command.TheVariants.{Link}
use Rattle.image_reading.specs.Reading.{ReadsAs}
use Rattle.image_counts.specs.Entries.{IsFreePage}
use Rattle.image_laws.specs.Add.{with_page}
use Rattle.image_laws.specs.Create.{IsVacant, MakesEmptyPage, committed, owned}
use Rattle.image_laws.specs.CreateStep.{IsStepped}
use Rattle.image_laws.specs.Link.{MakesLink, CanLink}

-- The room after a link: a page more where the directory was full. (No node is new: id n is not read.)
pub record HasRoomLinked (T : Tree) (room : Room) (from path : Route) (d n : ℕ) : Type 0 where
  pub not_full : (gives : Bool) → is_full T room d ≡ false → room_after n T room (Link from path) gives ≡ room
  pub full : (gives : Bool) → is_full T room d ≡ true → room_after n T room (Link from path) gives ≡ with_page room d

abbrev pub LinkRoomLaw : Type 0
LinkRoomLaw = (T : Tree) (room : Room) (from path : Route) (d n : ℕ) → IsRoom T room → id_at T (parent path) ≡ Some d → is_directory T d ≡ true
    → HasRoomLinked T room from path d n

-- with a vacant slot,
abbrev pub LinkStepLaw : Type 0
LinkStepLaw = (P : ℕ) (W I : List ℕ) (old : State) (p from path : Route) (d s i n : ℕ) (name : List ℕ) → CanLink P W p d i name → IsVacant P W d s
    → MakesLink P W I s i name → reverse path ≡ name_in_words name ∷ p → ReadsAs P W old → id_at old.tree from ≡ Some i
    → IsStepped P (committed P I s i) old (Link from path) n

-- and with a new page, where the directory is full
abbrev pub NewPageLinkStepLaw : Type 0
NewPageLinkStepLaw = (P : ℕ) (W A I : List ℕ) (old : State) (p from path : Route) (d j s i n : ℕ) (name : List ℕ) → CanLink P W p d i name → IsFreePage P W j
    → page_of_slot s ≡ j → MakesEmptyPage P W A j → MakesLink P (owned P A j d) I s i name → reverse path ≡ name_in_words name ∷ p → ReadsAs P W old
    → id_at old.tree from ≡ Some i → is_full old.tree old.room d ≡ true → IsStepped P (committed P I s i) old (Link from path) n
