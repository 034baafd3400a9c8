-- Where a path leads.
use Rattle.std.specs.Prelude.{◌≡◌, ℕ, List, [], ◌∷◌, false, not, ◌&&◌, nat_lt, length, Option, Some, None, Result, Ok, Err}
use Rattle.layout.specs.declared.kinds.NodeKind.{NodeKind}
use Rattle.tree_model.specs.PathText.{Route}
use Rattle.tree_model.specs.Tree.{Tree, is_root, parent, last_name, id_at, is_directory, is_file, name_count, bytes_of}
use Rattle.tree_model.specs.Walk.{Place, root_place, walk, walk_to_parent}
use Rattle.tree_model.specs.Step.{first, at, fault_of, id_of}
use Rattle.tree_model.specs.Run.{State}
use Rattle.tree_model.specs.declared.reply.Refusal.{Refusal}
use Rattle.tree_model.specs.declared.reply.Refusal.TheVariants.{NotFound as IsMissing, NotDir as IsNoDirectory, Root, IsDir, NotEmpty}
use Rattle.volume.specs.declared.resolve.Walk.{Walk}
use Rattle.volume.specs.declared.resolve.Walk.TheVariants.{NotFound, NotDir}
use Rattle.volume.specs.declared.resolve.LastName.{LastName}
use Rattle.volume.specs.Moves.{is_directory_kind}
use Rattle.volume.specs.Planned.{IsNameAt}

abbrev pub refusal_of_walk : Walk → Refusal
refusal_of_walk NotFound = IsMissing
refusal_of_walk NotDir = IsNoDirectory

-- the place that the path leads to, or why there is none
abbrev pub place_of : Route → Result ℕ Walk → Result Place Refusal
place_of path (Ok inode) = Ok (record { path = path; id = inode })
place_of path (Err fault) = Err (refusal_of_walk fault)

-- the place of the directory that would hold the path's last name; for the root, which has no name, the root itself
abbrev pub place_of_parent : Route → Result (Option LastName) Walk → Result Place Refusal
place_of_parent path (Ok None) = Ok root_place
place_of_parent path (Ok (Some last)) = Ok (record { path = parent path; id = last.directory })
place_of_parent path (Err fault) = Err (refusal_of_walk fault)

-- the last name of a path; the root has none
abbrev pub IsLastName : Route → Option LastName → Type 0
IsLastName path None = path ≡ []
IsLastName path (Some last) = (is_root path ≡ false) × (last.name ≡ last_name path)

-- how the row of a command begins that takes a name away
abbrev pub name_row : Tree → Route → Option Refusal
name_row T path = first (fault_of (walk T path) ∷ at Root (is_root path) ∷ [])

-- and of one that reads or writes a file
abbrev pub file_row : Tree → Route → Option Refusal
file_row T path = first (fault_of (walk T path) ∷ at IsDir (is_directory T (id_of T path)) ∷ [])

-- The path names a file of this inode, which has so many bytes.
pub record IsSizedFile (T : Tree) (path : Route) (inode size : ℕ) : Type 0 where
  pub row : file_row T path ≡ None
  pub inode_is : id_at T path ≡ Some inode
  pub size_is : size ≡ length (bytes_of T inode)

-- The walk to the path's directory ends at this one, and the path's last name is this.
pub record WouldHold (T : Tree) (path : Route) (d : ℕ) (name : List ℕ) : Type 0 where
  pub walked : walk_to_parent T path ≡ Ok (record { path = parent path; id = d })
  pub below : is_root path ≡ false
  pub named : name ≡ last_name path

-- The path isn't the root's, and its last name stands in this slot and names the inode.
pub record IsMovedName (P : ℕ) (I : List ℕ) (state : State) (path : Route) (directory : ℕ) (name : List ℕ) (slot inode : ℕ) : Type 0 where
  pub row : name_row state.tree path ≡ None
  pub named : IsNameAt P I state path directory name slot inode

-- why a node of this kind may not take another's name: the other is no directory, or is one, or has names
abbrev pub replace_row : Tree → NodeKind → ℕ → Option Refusal
replace_row T kind inode =
    first (at IsNoDirectory (is_directory_kind kind && is_file T inode) ∷ at IsDir (not (is_directory_kind kind) && is_directory T inode)
    ∷ at NotEmpty (is_directory_kind kind && is_directory T inode && nat_lt 0 (name_count T inode)) ∷ [])
