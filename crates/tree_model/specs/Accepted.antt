-- What an accepted command found, and what it makes of it: one record a command.
use Rattle.std.specs.Prelude.{◌≡◌, ◌≢◌, ℕ, ◌+◌, ◌≤◌, ◌==◌, true, false, if◌then◌else◌, max, List, length, Some, None, is_none, ◌⊎◌}
use Rattle.tree_model.specs.PathText.{Route}
use Rattle.tree_model.specs.Tree.{Tree, Node, File, Room, is_root, parent, rest_after, id_at, node_at, is_directory, name_count, path_count}
use Rattle.tree_model.specs.Capacity.{Supply, free_inodes, free_pages, file_limit}
use Rattle.tree_model.specs.Step.{id_of, is_same_node, least_free_id, page_for_name, rise, read_limit, resized, overwritten, tree_after}
use Rattle.tree_model.specs.declared.command.Command.{Command}
use Rattle.tree_model.specs.declared.command.Command.TheVariants.{Create, Mkdir, Link, Unlink, Rmdir, Rename, Write, Truncate, Read, Stat as Tell, List as Show, Df}

-- ---- what stands at a path

-- a directory would hold the last name of the path
pub record HasHolder (T : Tree) (path : Route) : Type 0 where
  pub directory : ℕ
  pub below : is_root path ≡ false
  pub held : id_at T (parent path) ≡ Some directory
  pub is : id_of T (parent path) ≡ directory
  pub holds : is_directory T directory ≡ true

pub record IsNodeAt (T : Tree) (path : Route) : Type 0 where
  pub id : ℕ
  pub node : Node
  pub named : id_at T path ≡ Some id
  pub is : id_of T path ≡ id
  pub present : node_at T id ≡ Some node

pub record IsFileAt (T : Tree) (path : Route) : Type 0 where
  pub id : ℕ
  pub bytes : List ℕ
  pub named : id_at T path ≡ Some id
  pub is : id_of T path ≡ id
  pub file : node_at T id ≡ Some (File bytes)

pub record IsDirectoryAt (T : Tree) (path : Route) : Type 0 where
  pub id : ℕ
  pub named : id_at T path ≡ Some id
  pub is : id_of T path ≡ id
  pub directory : is_directory T id ≡ true

-- the path is free, and so is the page that its directory may need for it
pub record MayName (supply : Supply) (T : Tree) (room : Room) (path : Route) : Type 0 where
  pub holder : HasHolder T path
  pub absent : id_at T path ≡ None
  pub page : page_for_name T room (Some holder.directory) ≤ free_pages supply T room

-- ---- create, mkdir, link

-- an inode is free, and the least free id is no node's
pub record MayMake (supply : Supply) (T : Tree) (room : Room) (path : Route) : Type 0 where
  pub place : MayName supply T room path
  pub inode : 1 ≤ free_inodes supply T
  pub unused : node_at T (least_free_id T) ≡ None

pub record MayLink (supply : Supply) (T : Tree) (room : Room) (from to : Route) : Type 0 where
  pub source : IsFileAt T from
  pub place : MayName supply T room to

-- ---- unlink, rmdir

-- the file goes exactly where this is its only path
pub record MayUnlink (T : Tree) (path : Route) : Type 0 where
  pub holder : HasHolder T path
  pub source : IsFileAt T path
  pub goes : (new : ℕ) → is_none (node_at (tree_after new T (Unlink path)) source.id) ≡ (path_count T source.id == 1)

-- an empty directory always goes
pub record MayRemove (T : Tree) (path : Route) : Type 0 where
  pub holder : HasHolder T path
  pub source : IsDirectoryAt T path
  pub empty : name_count T source.id ≡ 0
  pub goes : (new : ℕ) → node_at (tree_after new T (Rmdir path)) source.id ≡ None

-- ---- rename

-- The new path names another node of the kind of the moved one, which has no names. It goes exactly where this is
-- its only path.
pub record MayReplace (T : Tree) (from to : Route) (moved : ℕ) : Type 0 where
  pub target : IsNodeAt T to
  pub other : target.id ≢ moved
  pub kind : is_directory T target.id ≡ is_directory T moved
  pub empty : name_count T target.id ≡ 0
  pub goes : (new : ℕ) → is_none (node_at (tree_after new T (Rename from to)) target.id) ≡ (path_count T target.id == 1)

-- the paths name two nodes, and neither lies below the first
pub record MayMove (supply : Supply) (T : Tree) (room : Room) (from to : Route) (moved : ℕ) : Type 0 where
  pub differ : is_same_node T from to ≡ false
  pub outside : rest_after from to ≡ None
  pub target : MayName supply T room to ⊎ MayReplace T from to moved

-- where both paths name one node nothing is done
pub record MayRename (supply : Supply) (T : Tree) (room : Room) (from to : Route) : Type 0 where
  pub source : IsNodeAt T from
  pub old_holder : HasHolder T from
  pub new_holder : HasHolder T to
  pub moves : (is_same_node T from to ≡ true) ⊎ MayMove supply T room from to source.id

-- ---- write, truncate

abbrev pub bytes_after_write : List ℕ → ℕ → List ℕ → List ℕ
bytes_after_write old offset new = if length new == 0 then old else overwritten old offset new

abbrev pub size_after_write : ℕ → ℕ → ℕ → ℕ
size_after_write old offset count = if count == 0 then old else max old (offset + count)

-- the file gets these bytes, of this size, and the pages that it grows by are free
pub record MayWrite (supply : Supply) (T : Tree) (room : Room) (path : Route) (offset : ℕ) (bytes : List ℕ) : Type 0 where
  pub source : IsFileAt T path
  pub within : offset + length bytes ≤ file_limit
  pub pages : (if length bytes == 0 then 0 else rise source.bytes (offset + length bytes)) ≤ free_pages supply T room
  pub size : length (bytes_after_write source.bytes offset bytes) ≡ size_after_write (length source.bytes) offset (length bytes)
  pub written : (new : ℕ) → node_at (tree_after new T (Write path offset bytes)) source.id ≡ Some (File (bytes_after_write source.bytes offset bytes))

pub record MayTruncate (supply : Supply) (T : Tree) (room : Room) (path : Route) (size : ℕ) : Type 0 where
  pub source : IsFileAt T path
  pub within : size ≤ file_limit
  pub pages : rise source.bytes size ≤ free_pages supply T room
  pub cut : length (resized source.bytes size) ≡ size
  pub written : (new : ℕ) → node_at (tree_after new T (Truncate path size)) source.id ≡ Some (File (resized source.bytes size))

-- ---- the reading commands

pub record MayRead (T : Tree) (path : Route) (count : ℕ) : Type 0 where
  pub source : IsFileAt T path
  pub within : count ≤ read_limit

-- ---- every command

-- What a command that is accepted found.
abbrev pub Accepted : Supply → Tree → Room → Command → Type 0
Accepted supply T room (Create path) = MayMake supply T room path
Accepted supply T room (Mkdir path) = MayMake supply T room path
Accepted supply T room (Link from to) = MayLink supply T room from to
Accepted supply T room (Unlink path) = MayUnlink T path
Accepted supply T room (Rmdir path) = MayRemove T path
Accepted supply T room (Rename from to) = MayRename supply T room from to
Accepted supply T room (Write path offset bytes) = MayWrite supply T room path offset bytes
Accepted supply T room (Truncate path size) = MayTruncate supply T room path size
Accepted supply T room (Read path offset count) = MayRead T path count
Accepted supply T room (Tell path) = IsNodeAt T path
Accepted supply T room (Show path) = IsDirectoryAt T path
Accepted supply T room Df = Unit {0}
