-- What create and mkdir leave is a state that the step allows.
use Rattle.std.specs.Prelude.{◌≡◌, ℕ, Bool, true, false, None, Some, List, ◌∷◌, reverse}
use Rattle.layout.specs.Geometry.{page_of_slot}
use Rattle.layout.specs.Name.{name_in_words}
use Rattle.layout.specs.declared.kinds.NodeKind.{NodeKind}
use Rattle.tree_model.specs.PathText.{Route}
use Rattle.tree_model.specs.Tree.{Tree, Room, IsTree, IsRoom, parent, id_at, node_at, is_directory}
use Rattle.tree_model.specs.Step.{making, is_full, tree_after, room_after, RoomAfterWith}
use Rattle.tree_model.specs.Run.{State}
use Rattle.tree_model.specs.declared.command.Command.{Command}
use Rattle.image_reading.specs.Reading.{ReadsAs}
use Rattle.image_counts.specs.Entries.{IsFreePage}
use Rattle.image_laws.specs.Add.{with_page, with_node}
use Rattle.image_laws.specs.Create.{CanMake, IsVacant, MakesNode, MakesEmptyPage, committed, owned}

-- The new node's directory d is there, and its id i isn't.
pub record CanBeMade (T : Tree) (room : Room) (path : Route) (d i : ℕ) : Type 0 where
  pub formed : IsTree T
  pub fits : IsRoom T room
  pub above : id_at T (parent path) ≡ Some d
  pub directory : is_directory T d ≡ true
  pub absent : node_at T i ≡ None

-- The room after the command: a page more where the directory was full, and a new directory has none.
pub record HasRoomAfter (T : Tree) (room : Room) (kind : NodeKind) (path : Route) (d i : ℕ) : Type 0 where
  pub not_full : (gives : Bool) → is_full T room d ≡ false → room_after i T room (making kind path) gives ≡ with_node room i kind
  pub full : (gives : Bool) → is_full T room d ≡ true → room_after i T room (making kind path) gives ≡ with_node (with_page room d) i kind

abbrev pub RoomAfterLaw : Type 0
RoomAfterLaw = (T : Tree) (room : Room) (kind : NodeKind) (path : Route) (d i : ℕ) → CanBeMade T room path d i → HasRoomAfter T room kind path d i

-- J reads as a state that the accepted command may leave; a new node gets id i.
pub record IsStepped (P : ℕ) (J : List ℕ) (old : State) (c : Command) (i : ℕ) : Type 0 where
  pub new : State
  pub reads : ReadsAs P J new
  pub tree : new.tree ≡ tree_after i old.tree c
  pub room : RoomAfterWith None i old.tree old.room c new.room

-- with a vacant slot,
abbrev pub CreateStepLaw : Type 0
CreateStepLaw = (P : ℕ) (W I : List ℕ) (old : State) (p path : Route) (kind : NodeKind) (d s i : ℕ) (name : List ℕ) → CanMake P W p d i name → IsVacant P W d s
    → MakesNode P W I kind d s i name → reverse path ≡ name_in_words name ∷ p → ReadsAs P W old
    → IsStepped P (committed P I s i) old (making kind path) i

-- and with a new page, where the directory is full
abbrev pub NewPageStepLaw : Type 0
NewPageStepLaw = (P : ℕ) (W A I : List ℕ) (old : State) (p path : Route) (kind : NodeKind) (d j s i : ℕ) (name : List ℕ) → CanMake P W p d i name → IsFreePage P W j
    → page_of_slot s ≡ j → MakesEmptyPage P W A j → MakesNode P (owned P A j d) I kind d s i name → reverse path ≡ name_in_words name ∷ p → ReadsAs P W old
    → is_full old.tree old.room d ≡ true → IsStepped P (committed P I s i) old (making kind path) i
