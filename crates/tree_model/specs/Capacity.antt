-- What a volume has, and what a tree with its room takes of it.
use Rattle.std.specs.Prelude.{◌≡◌, ℕ, ◌+◌, ◌-◌, ◌^◌, ◌≤◌, IsTrue, List, length, Some, is_some, sum_by}
use Rattle.layout.specs.Geometry.{inodes_of, data_pages_of}
use Rattle.tree_model.specs.Tree.{Tree, File, Room, node_at, node_pages}

-- a volume of so many pages, of which others hold so many inodes and data pages
pub record Supply : Type 0 where
  pub pages : ℕ
  pub taken_inodes : ℕ
  pub taken_pages : ℕ

-- a volume of which nothing is held by others
abbrev pub untaken : ℕ → Supply
untaken volume = record { pages = volume; taken_inodes = 0; taken_pages = 0 }

abbrev pub inodes_in_use : Tree → ℕ
inodes_in_use T = length T.nodes.entries

-- the pages of files, and those of directories
abbrev pub pages_in_use : Tree → Room → ℕ
pages_in_use T room = sum_by (λ e. node_pages e.1) T.nodes.entries + sum_by (λ e. e.1) room.entries

abbrev pub free_inodes : Supply → Tree → ℕ
free_inodes supply T = inodes_of supply.pages - (inodes_in_use T + supply.taken_inodes)

abbrev pub free_pages : Supply → Tree → Room → ℕ
free_pages supply T room = data_pages_of supply.pages - (pages_in_use T room + supply.taken_pages)

-- a file has at most so many bytes
abbrev pub file_limit : ℕ
file_limit = 2 ^ 40

-- A volume of so many pages can hold the tree with its room.
pub record Fits (volume : ℕ) (T : Tree) (room : Room) : Type 0 where
  -- inodes are numbered from 1
  pub ids : (id : ℕ) → IsTrue (is_some (node_at T id)) → (1 ≤ id) × (id ≤ inodes_of volume)
  pub inodes : inodes_in_use T ≤ inodes_of volume
  pub pages : pages_in_use T room ≤ data_pages_of volume
  pub sizes : (id : ℕ) (bytes : List ℕ) → node_at T id ≡ Some (File bytes) → length bytes ≤ file_limit
