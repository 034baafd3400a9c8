-- What callers see of a mounted volume.
use Rattle.std.specs.Prelude.{ℕ, Bool, List}
use Rattle.volatile_index.specs.Index.{NodeView}

-- the number of its pages; what its index holds; which inodes are free, inode i at place i - 1, and which data pages; whether a
-- fence has failed; whether the device has the mark of a volume that was closed; and how many events running calls have left
pub record VolumeView : Type 0 where
  pub size : ℕ
  pub index : List NodeView
  pub inodes : List Bool
  pub data_pages : List Bool
  pub stopped : Bool
  pub marked : Bool
  pub kept : ℕ
