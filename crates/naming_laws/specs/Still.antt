-- What commands that name nothing of each other leave of what the other finds.
use Rattle.std.specs.Prelude.{◌≡◌, ◌≢◌, ℕ, ◌≤◌, Bool, true, false, List, length, Some, None}
use Rattle.std.specs.List.{Contains}
use Rattle.tree_model.specs.PathText.{Route}
use Rattle.tree_model.specs.Tree.{Tree, File, Room, parent, id_at, node_at, name_count, path_count, link_count, pages_in}
use Rattle.tree_model.specs.Capacity.{Supply, free_inodes, free_pages}
use Rattle.tree_model.specs.Step.{walk_faults, need, refusal_with, resolved, answer_of, tree_after, room_after, RoomAfterWith}
use Rattle.tree_model.specs.Run.{State, IsVolumeState}
use Rattle.tree_model.specs.Fences.{fences_of_accepted}
use Rattle.tree_model.specs.declared.command.Command.{Command}
use Rattle.naming_laws.specs.Naming.{paths_of, names_inode, AreApart, inode_need}

-- ---- a command that waits

-- An accepted command is carried out, and a node that it makes gets this id, which no node has.
pub record Enters (supply : Supply) (id : ℕ) (old new : State) (c : Command) : Type 0 where
  pub accepted : refusal_with supply old.tree old.room c ≡ None
  pub unused : node_at old.tree id ≡ None
  pub tree : new.tree ≡ tree_after id old.tree (resolved old.tree c)
  pub room : RoomAfterWith None id old.tree old.room c new.room

-- The command finds the same in both states: its walks, the ids of its paths, and of each id that it names the node and how many names,
-- links, paths and pages it has.
pub record FindsSame (c : Command) (old new : State) : Type 0 where
  pub walks : walk_faults new.tree c ≡ walk_faults old.tree c
  pub ids : (path : Route) → Contains (paths_of c) path → id_at new.tree path ≡ id_at old.tree path
  pub named : (id : ℕ) → names_inode new.tree c id ≡ names_inode old.tree c id
  pub nodes : (id : ℕ) → names_inode old.tree c id ≡ true → node_at new.tree id ≡ node_at old.tree id
  pub names : (id : ℕ) → names_inode old.tree c id ≡ true → name_count new.tree id ≡ name_count old.tree id
  pub links : (id : ℕ) → names_inode old.tree c id ≡ true → link_count new.tree id ≡ link_count old.tree id
  pub paths : (id : ℕ) → names_inode old.tree c id ≡ true → path_count new.tree id ≡ path_count old.tree id
  pub pages : (id : ℕ) → names_inode old.tree c id ≡ true → pages_in new.room id ≡ pages_in old.room id

-- A command that is accepted finds the same after one that names nothing of what it names.
abbrev pub ApartLaw : Type 0
ApartLaw = (volume : ℕ) (supply others : Supply) (id : ℕ) (old new : State) (c other : Command) → IsVolumeState volume old → refusal_with supply old.tree old.room c ≡ None
    → Enters others id old new other → AreApart old.tree c other → FindsSame c old new

-- an id that no node has, and that wasn't given, no node has afterwards
abbrev pub UnusedLaw : Type 0
UnusedLaw = (volume : ℕ) (supply : Supply) (id : ℕ) (old new : State) (other : Command) → IsVolumeState volume old → Enters supply id old new other
    → (free : ℕ) → node_at old.tree free ≡ None → free ≢ id → node_at new.tree free ≡ None

-- The node of this id is the same, or in neither state there is one; and so is how many names, links, paths and pages it has.
pub record KeepsNode (id : ℕ) (old new : State) : Type 0 where
  pub node : node_at new.tree id ≡ node_at old.tree id
  pub names : name_count new.tree id ≡ name_count old.tree id
  pub links : link_count new.tree id ≡ link_count old.tree id
  pub paths : path_count new.tree id ≡ path_count old.tree id
  pub pages : pages_in new.room id ≡ pages_in old.room id

-- Each id that the command doesn't name is kept, but the one that it was given; so are the paths of a node that it doesn't name, and what is at
-- a path in it, absence too.
pub record KeepsOthers (given : ℕ) (old new : State) (c : Command) : Type 0 where
  pub nodes : (id : ℕ) → names_inode old.tree c id ≡ false → id ≢ given → KeepsNode id old new
  pub paths : (path : Route) (id : ℕ) → id_at old.tree path ≡ Some id → names_inode old.tree c id ≡ false → id_at new.tree path ≡ Some id
  pub names : (path : Route) (id : ℕ) → id_at old.tree (parent path) ≡ Some id → names_inode old.tree c id ≡ false → id_at new.tree path ≡ id_at old.tree path

-- Every command that is carried out keeps the others, whatever waits beside it. A rename names every node, so it keeps absence alone.
abbrev pub UntouchedLaw : Type 0
UntouchedLaw = (volume : ℕ) (supply : Supply) (id : ℕ) (old new : State) (other : Command) → IsVolumeState volume old → Enters supply id old new other → KeepsOthers id old new other

-- As much is free as the command needed.
pub record HasEnough (later : Supply) (old new : State) (c : Command) : Type 0 where
  pub inodes : inode_need c ≤ free_inodes later new.tree
  pub pages : need old.tree old.room c ≤ free_pages later new.tree new.room

-- It is accepted still, needs as many pages, and takes as many fences, whatever state it leaves.
pub record IsStillAccepted (later : Supply) (old new : State) (c : Command) : Type 0 where
  pub accepted : refusal_with later new.tree new.room c ≡ None
  pub need : need new.tree new.room c ≡ need old.tree old.room c
  pub fences : (after : State) → fences_of_accepted new c after ≡ fences_of_accepted old c after

abbrev pub StillLaw : Type 0
StillLaw = (volume : ℕ) (supply later : Supply) (old new : State) (c : Command) → IsVolumeState volume old → refusal_with supply old.tree old.room c ≡ None → FindsSame c old new
    → HasEnough later old new c → IsStillAccepted later old new c

-- ---- a file whose bytes are being written

-- The trees differ in the bytes of this file alone, and not in their number.
pub record DifferInBytes (file : ℕ) (T U : Tree) : Type 0 where
  pub names : U.names ≡ T.names
  pub others : (id : ℕ) → id ≢ file → node_at U id ≡ node_at T id
  pub bytes : List ℕ
  pub torn : List ℕ
  pub is : node_at T file ≡ Some (File bytes)
  pub is_torn : node_at U file ≡ Some (File torn)
  pub size : length torn ≡ length bytes

-- The command does the same to both trees.
pub record DoesSame (supply : Supply) (id file : ℕ) (T U : Tree) (room : Room) (c : Command) : Type 0 where
  pub refusal : refusal_with supply U room c ≡ refusal_with supply T room c
  pub answer : answer_of supply U room c ≡ answer_of supply T room c
  pub tree : DifferInBytes file (tree_after id T c) (tree_after id U c)
  pub room_same : (gives : Bool) → room_after id U room c gives ≡ room_after id T room c gives

-- A command that is accepted and doesn't name the file does the same, whatever its bytes are.
abbrev pub TornLaw : Type 0
TornLaw = (volume : ℕ) (supply : Supply) (id file : ℕ) (T U : Tree) (room : Room) (c : Command) → IsVolumeState volume (record { tree = T; room = room })
    → refusal_with supply T room c ≡ None → node_at T id ≡ None → names_inode T c file ≡ false → DifferInBytes file T U → DoesSame supply id file T U room c
