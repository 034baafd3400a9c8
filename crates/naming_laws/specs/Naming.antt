-- Which nodes a command names.
use Rattle.std.specs.Prelude.{◌≡◌, ℕ, Bool, true, false, ◌||◌, if◌then◌else◌, List, [], ◌∷◌, is_some}
use Rattle.tree_model.specs.PathText.{Route}
use Rattle.tree_model.specs.Tree.{Tree, parent, id_at, node_at, is_number}
use Rattle.tree_model.specs.declared.command.Command.{Command}
use Rattle.tree_model.specs.declared.command.Command.TheVariants.{Create, Mkdir, Link, Unlink, Rmdir, Rename, Write, Truncate, Read, Stat as Tell, List as Show, Df}

-- The paths that a command asks about, and those of the directories whose names it would change.
abbrev pub paths_of : Command → List Route
paths_of (Create path) = path ∷ parent path ∷ []
paths_of (Mkdir path) = path ∷ parent path ∷ []
paths_of (Link from to) = from ∷ to ∷ parent to ∷ []
paths_of (Unlink path) = path ∷ parent path ∷ []
paths_of (Rmdir path) = path ∷ parent path ∷ []
paths_of (Rename from to) = from ∷ parent from ∷ to ∷ parent to ∷ []
paths_of (Write path offset bytes) = path ∷ []
paths_of (Truncate path size) = path ∷ []
paths_of (Read path offset count) = path ∷ []
paths_of (Tell path) = path ∷ []
paths_of (Show path) = path ∷ []
paths_of Df = []

-- a rename moves all paths below its own, so it names every node
abbrev pub names_all : Command → Bool
names_all (Create path) = false
names_all (Mkdir path) = false
names_all (Link from to) = false
names_all (Unlink path) = false
names_all (Rmdir path) = false
names_all (Rename from to) = true
names_all (Write path offset bytes) = false
names_all (Truncate path size) = false
names_all (Read path offset count) = false
names_all (Tell path) = false
names_all (Show path) = false
names_all Df = false

abbrev pub is_at_one_of : Tree → List Route → ℕ → Bool
is_at_one_of T [] id = false
is_at_one_of T (path ∷ paths) id = is_number (id_at T path) id || is_at_one_of T paths id

-- whether the command names the node of this id
abbrev pub names_inode : Tree → Command → ℕ → Bool
names_inode T c id = if names_all c then is_some (node_at T id) else is_at_one_of T (paths_of c) id

-- no node is named by both
abbrev pub AreApart : Tree → Command → Command → Type 0
AreApart T one other = (id : ℕ) → names_inode T one id ≡ true → names_inode T other id ≡ false

-- how many inodes a command takes
abbrev pub inode_need : Command → ℕ
inode_need (Create path) = 1
inode_need (Mkdir path) = 1
inode_need (Link from to) = 0
inode_need (Unlink path) = 0
inode_need (Rmdir path) = 0
inode_need (Rename from to) = 0
inode_need (Write path offset bytes) = 0
inode_need (Truncate path size) = 0
inode_need (Read path offset count) = 0
inode_need (Tell path) = 0
inode_need (Show path) = 0
inode_need Df = 0
