-- The steps of a truncation and of a write, and what each asks of the words before it. P is the number of pages, I those words.
use Rattle.std.specs.Prelude.{◌≡◌, ℕ, ◌<◌, ◌≤◌, Bool, true, false, nat_lt, List, [], ◌∷◌, length, Contains}
use Rattle.pm_trait.specs.DeviceView.{DeviceView}
use Rattle.layout.specs.Geometry.{inodes_of, pieces}
use Rattle.layout.specs.Fields.{inode_size}
use Rattle.inode_state.specs.States.{IsLive}
use Rattle.inode_state.specs.Inode.{fields_at}
use Rattle.inode_state.specs.Covered.{HasPagesFor}
use Rattle.image_laws.specs.Drop.{GivesPages}
use Rattle.content_laws.specs.Cut.{ClearsPages}
use Rattle.content_laws.specs.Growth.{FillsFile, TakesPages, sized}
use Rattle.volume.specs.Costs.{commit_events}
use Rattle.pm_trait.specs.Unfolds.{Step}
use Rattle.data_ops.specs.declared.grow.Growth.{Growth}
use Rattle.data_ops.specs.Files.{AreBytesFrom}
use Rattle.data_ops.specs.Growing.{fill_events, owner_events, release_events}

-- ---- what each asks

-- The file is longer than this.
pub record CanLower (P : ℕ) (I : List ℕ) (inode size : ℕ) : Type 0 where
  pub least : 1 ≤ inode
  pub most : inode ≤ inodes_of P
  pub live : IsLive inode (fields_at I inode)
  pub less : size < inode_size I inode

-- The pages are a file's, and stand past its end.
pub record CanDisown (P : ℕ) (I : List ℕ) (inode : ℕ) (pages : List ℕ) : Type 0 where
  pub least : 1 ≤ inode
  pub most : inode ≤ inodes_of P
  pub live : IsLive inode (fields_at I inode)
  pub first : ℕ
  pub behind : pieces (inode_size I inode) 4096 ≤ first
  pub pages_are : AreBytesFrom P I inode first pages

-- The pages were a file's, and have no owner.
pub record CanRelease (P : ℕ) (I pages : List ℕ) : Type 0 where
  pub first : ℕ
  pub pages_are : AreBytesFrom P I 0 first pages

-- The new pages are filled, for offsets that follow one another, and have no owner.
pub record CanOwn (P : ℕ) (I : List ℕ) (inode : ℕ) (pages : List ℕ) : Type 0 where
  pub least : 1 ≤ inode
  pub first : ℕ
  pub pages_are : AreBytesFrom P I 0 first pages

-- The file has its pages for this size, and they are settled.
pub record CanRaise (P : ℕ) (device : DeviceView) (inode size : ℕ) : Type 0 where
  pub least : 1 ≤ inode
  pub most : inode ≤ inodes_of P
  pub live : IsLive inode (fields_at device.words inode)
  pub covered : HasPagesFor P inode size device

-- ---- the steps

-- the file's size, by which it is cut or has grown
abbrev pub sizing : ℕ → ℕ → Step
sizing inode size = record { Makes = λ I J. J ≡ sized I inode size; stores = true; events = commit_events }

-- the owners of the pages that a cut gives back, where there are any
abbrev pub giving : ℕ → List ℕ → Step
giving P pages = record { Makes = λ I J. GivesPages P I J (Contains pages); stores = nat_lt 0 (length pages); events = owner_events (length pages) }

-- and the rest of their descriptors
abbrev pub freeing : ℕ → List ℕ → Step
freeing P pages = record { Makes = λ I J. ClearsPages P I J (Contains pages); stores = nat_lt 0 (length pages); events = release_events (length pages) }

-- the bytes of the range, and zeros beside it past the old size, in old pages and in new ones, with the kinds and offsets of these
abbrev pub filling_file : ℕ → Growth → List ℕ → List ℕ → Step
filling_file P growth bytes pages = record { Makes = λ I J. FillsFile P I J growth.inode growth.offset bytes pages; stores = true; events = fill_events growth (length pages) }

-- the owner of the new pages, where there are any
abbrev pub owning : ℕ → ℕ → List ℕ → Step
owning P inode pages = record { Makes = λ I J. TakesPages P I J inode pages; stores = nat_lt 0 (length pages); events = owner_events (length pages) }

-- The steps of a growth: the bytes; the owner of the new pages, where there are any; and the size, by which the file has grown.
abbrev pub growth_steps : ℕ → Growth → List ℕ → List ℕ → List Step
growth_steps P growth bytes pages = filling_file P growth bytes pages ∷ owning P growth.inode pages ∷ sizing growth.inode growth.new_size ∷ []

-- the ones or the others
abbrev pub either_steps : Bool → List Step → List Step → List Step
either_steps true ones others = ones
either_steps false ones others = others
