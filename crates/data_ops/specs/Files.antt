-- Pages of a file, in the order of their offsets. P is the number of pages, I the words.
use Rattle.std.specs.Prelude.{◌≡◌, ℕ, ◌+◌, ◌<◌, ◌≤◌, List, length, slice_index, Contains}
use Rattle.layout.specs.Geometry.{inodes_of, data_pages_of}
use Rattle.layout.specs.Fields.{inode_size}
use Rattle.inode_state.specs.States.{IsLive}
use Rattle.inode_state.specs.Inode.{fields_at}
use Rattle.page_state.specs.States.{IsFree}
use Rattle.page_state.specs.Page.{EachPage, AreDistinct, descriptor_of}
use Rattle.image_reading.specs.Reading.{HasBytes, pages_of_size}
use Rattle.image_counts.specs.Entries.{IsPageIn}

-- The pages are distinct data pages of bytes with this owner, at the offsets from `first` on.
pub record AreBytesFrom (P : ℕ) (I : List ℕ) (owner first : ℕ) (pages : List ℕ) : Type 0 where
  pub in_range : EachPage pages (λ page. page < data_pages_of P)
  pub distinct : AreDistinct pages
  pub each : (k : ℕ) → k < length pages → descriptor_of P I (slice_index pages k) ≡ record { owner = owner; kind = 1; offset = first + k }

-- The inode is a file's, and these are all its pages, as many as its bytes take.
pub record HasPages (P : ℕ) (I : List ℕ) (i : ℕ) (pages : List ℕ) : Type 0 where
  pub least : 1 ≤ i
  pub most : i ≤ inodes_of P
  pub live : IsLive i (fields_at I i)
  pub file : HasBytes I i
  pub bytes : AreBytesFrom P I i 0 pages
  pub all : (j : ℕ) → IsPageIn P I i j → Contains pages j
  pub count : length pages ≡ pages_of_size (inode_size I i)

-- The pages are distinct data pages, and free.
pub record AreFree (P : ℕ) (I : List ℕ) (pages : List ℕ) : Type 0 where
  pub in_range : EachPage pages (λ page. page < data_pages_of P)
  pub distinct : AreDistinct pages
  pub free : EachPage pages (λ page. IsFree (descriptor_of P I page))
