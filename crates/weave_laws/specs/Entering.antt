-- A name comes or goes by the one word that commits it, whatever other calls have left: the words after it read as the state that the
-- command leaves. P is the number of pages, I the words before.
use Rattle.std.specs.Prelude.{◌≡◌, ◌↔◌, ◌⊎◌, ℕ, Bool, true, List, ◌∷◌, reverse, set, Option, Some, None}
use Rattle.layout.specs.Fields.{inode_kind, slot_name}
use Rattle.layout.specs.Geometry.{page_of_slot}
use Rattle.layout.specs.Kinds.{node_code}
use Rattle.layout.specs.declared.kinds.NodeKind.{NodeKind}
use Rattle.tree_model.specs.PathText.{Route}
use Rattle.tree_model.specs.Tree.{Room, id_at}
use Rattle.tree_model.specs.Step.{making, is_full, new_node, room_after}
use Rattle.tree_model.specs.Run.{State}
use Rattle.tree_model.specs.declared.command.Command.TheVariants.{Link}
use Rattle.image_reading.specs.Reading.{slot_owner, IsNode, IsRoomOf, HasRoom, ReadsAs}
use Rattle.image_laws.specs.Add.{IsNewNode, IsOldFile, CanAdd, with_page, with_node}
use Rattle.image_laws.specs.Create.{committed}
use Rattle.image_laws.specs.CreateStep.{IsStepped}
use Rattle.image_laws.specs.Drop.{dropped}
use Rattle.image_laws.specs.DropStep.{Removal, removing}
use Rattle.image_laws.specs.Quiet.{IsMix}
use Rattle.image_laws.specs.Remove.{CanRemove}

-- ---- a name comes

-- Directory d has a name in the slot's page, or it is full, and takes that page.
abbrev pub HasSlotPlace : ℕ → List ℕ → State → ℕ → ℕ → Type 0
HasSlotPlace P I old d s = IsRoomOf P I d (page_of_slot s) ⊎ (is_full old.tree old.room d ≡ true)

-- with a new node,
abbrev pub NodeEnteredLaw : Type 0
NodeEnteredLaw = (P : ℕ) (I : List ℕ) (old : State) (p path : Route) (kind : NodeKind) (d s i : ℕ) → CanAdd P I p d s i → IsNewNode P I i → IsNode P I i (new_node kind)
    → HasSlotPlace P I old d s → reverse path ≡ slot_name P I s ∷ p → ReadsAs P I old → IsStepped P (committed P I s i) old (making kind path) i

-- which its kind tells,
abbrev pub NewNodeLaw : Type 0
NewNodeLaw = (P : ℕ) (I : List ℕ) (kind : NodeKind) (i : ℕ) → IsNewNode P I i → inode_kind I i ≡ node_code kind → IsNode P I i (new_node kind)

-- or with a file that has a name already (no node is new: id n is not read)
abbrev pub LinkEnteredLaw : Type 0
LinkEnteredLaw = (P : ℕ) (I : List ℕ) (old : State) (p from path : Route) (d s i n : ℕ) → CanAdd P I p d s i → IsOldFile P I i → id_at old.tree from ≡ Some i
    → HasSlotPlace P I old d s → reverse path ≡ slot_name P I s ∷ p → ReadsAs P I old → IsStepped P (committed P I s i) old (Link from path) n

-- the page of slot s, where directory d has no name in it
abbrev pub IsNamelessPage : ℕ → List ℕ → ℕ → ℕ → Option ℕ → Type 0
IsNamelessPage P I d s None = IsRoomOf P I d (page_of_slot s)
IsNamelessPage P I d s (Some page) = (page_of_slot s ≡ page) × ¬ IsRoomOf P I d page

-- the room with that page
abbrev pub with_taken : Room → ℕ → Option ℕ → Room
with_taken room d None = room
with_taken room d (Some page) = with_page room d

-- Which room it is: d has a page more exactly where it takes one.
abbrev pub NodeRoomLaw : Type 0
NodeRoomLaw = (P : ℕ) (I : List ℕ) (p : Route) (kind : NodeKind) (d s : ℕ) (new_page : Option ℕ) (i : ℕ) (room : Room) → CanAdd P I p d s i → inode_kind I i ≡ node_code kind
    → IsNamelessPage P I d s new_page → HasRoom P I room → HasRoom P (committed P I s i) (with_node (with_taken room d new_page) i kind)

abbrev pub LinkedRoomLaw : Type 0
LinkedRoomLaw = (P : ℕ) (I : List ℕ) (p : Route) (d s : ℕ) (new_page : Option ℕ) (i : ℕ) (room : Room) → CanAdd P I p d s i → IsOldFile P I i
    → IsNamelessPage P I d s new_page → HasRoom P I room → HasRoom P (committed P I s i) (with_taken room d new_page)

-- ---- a name goes

abbrev pub RemovedEnteredLaw : Type 0
RemovedEnteredLaw = (P : ℕ) (I : List ℕ) (old : State) (p path : Route) (s n : ℕ) (kind : Removal) → CanRemove P I p s → reverse path ≡ slot_name P I s ∷ p → ReadsAs P I old
    → IsStepped P (dropped P I s) old (removing kind path) n

-- Which room it is: a page is given back exactly where no name is left in the slot's.
abbrev pub RemovedRoomLaw : Type 0
RemovedRoomLaw = (P : ℕ) (I : List ℕ) (old : State) (p path : Route) (s n : ℕ) (kind : Removal) (gives : Bool) → CanRemove P I p s → reverse path ≡ slot_name P I s ∷ p → ReadsAs P I old
    → ((gives ≡ true) ↔ ¬ IsRoomOf P (dropped P I s) (slot_owner P I s) (page_of_slot s)) → HasRoom P (dropped P I s) (room_after n old.tree old.room (removing kind path) gives)

-- ---- a crash

-- One word is stored whole: a crash leaves the words before, or those after.
abbrev pub OneWordLaw : Type 0
OneWordLaw = (I M : List ℕ) (a v : ℕ) → IsMix I (set I a v) M → (M ≡ I) ⊎ (M ≡ set I a v)
