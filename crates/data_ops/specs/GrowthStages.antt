-- A growth between two of its steps: what stands then of the device and of the volume as they are, and what the next step makes. P is the
-- number of pages, I the words.
use Rattle.std.specs.Prelude.{◌≡◌, ℕ, ◌+◌, ◌-◌, ◌^◌, ◌<◌, ◌≤◌, List, [], ◌∷◌, length, Contains, Option, Some, None}
use Rattle.pm_trait.specs.DeviceView.{DeviceView}
use Rattle.pm_trait.specs.Unfolds.{Step}
use Rattle.layout.specs.Fields.{inode_size}
use Rattle.image_reading.specs.Reading.{pages_of_size}
use Rattle.volatile_index.specs.Index.{inodes_of_index}
use Rattle.volume.specs.Volume.{VolumeView}
use Rattle.volume.specs.Entered.{HasPagePlaces, IsTaken, MayTakePages, TakesPages, PutsPages}
use Rattle.data_ops.specs.Files.{AreBytesFrom, AreFree, HasPages}
use Rattle.data_ops.specs.Steps.{CanRaise, filling_file, owning, sizing, growth_steps}
use Rattle.data_ops.specs.declared.grow.Growth.{Growth}
use Rattle.data_ops.specs.declared.grow.Progress.{Progress}
use Rattle.data_ops.specs.declared.grow.Progress.TheVariants.{Begun, Filled, Owned}

-- ---- the steps that are left

abbrev pub left_of_growth : ℕ → Growth → List ℕ → List ℕ → Progress → List Step
left_of_growth P growth bytes pages Begun = growth_steps P growth bytes pages
left_of_growth P growth bytes pages Filled = owning P growth.inode pages ∷ sizing growth.inode growth.new_size ∷ []
left_of_growth P growth bytes pages Owned = sizing growth.inode growth.new_size ∷ []

-- and the first of them
abbrev pub step_of_growth : ℕ → Growth → List ℕ → List ℕ → Progress → Step
step_of_growth P growth bytes pages Begun = filling_file P growth bytes pages
step_of_growth P growth bytes pages Filled = owning P growth.inode pages
step_of_growth P growth bytes pages Owned = sizing growth.inode growth.new_size

-- ---- what stands before it, of the device

-- The file has its old size and pages, the new pages are free, and these are as many as it grows by; a range that begins below the old
-- size has a byte.
pub record CanFill (P : ℕ) (I : List ℕ) (growth : Growth) (bytes old_pages new_pages : List ℕ) : Type 0 where
  pub held : HasPages P I growth.inode old_pages
  pub old_size : inode_size I growth.inode ≡ growth.old_size
  pub free : AreFree P I new_pages
  pub larger : growth.old_size < growth.new_size
  pub small : growth.new_size ≤ 2 ^ 40
  pub inside : growth.offset + length bytes ≤ growth.new_size
  pub count : length new_pages ≡ pages_of_size growth.new_size - pages_of_size growth.old_size
  pub reaches : growth.old_size ≤ growth.offset + length bytes
  pub some : growth.offset < growth.old_size → 0 < length bytes

-- There are new pages, filled for the offsets behind the old ones, and together they are enough for the new size.
pub record AreFilled (P : ℕ) (I : List ℕ) (growth : Growth) (old_pages new_pages : List ℕ) : Type 0 where
  pub some : 0 < length new_pages
  pub held : HasPages P I growth.inode old_pages
  pub pages_are : AreBytesFrom P I 0 (length old_pages) new_pages
  pub enough : pages_of_size growth.new_size ≤ length old_pages + length new_pages

abbrev pub IsGrowthAt : ℕ → DeviceView → Growth → List ℕ → List ℕ → List ℕ → Progress → Type 0
IsGrowthAt P device growth bytes old_pages new_pages Begun = CanFill P device.words growth bytes old_pages new_pages
IsGrowthAt P device growth bytes old_pages new_pages Filled = AreFilled P device.words growth old_pages new_pages
IsGrowthAt P device growth bytes old_pages new_pages Owned = CanRaise P device growth.inode growth.new_size

-- ---- and of the volume

abbrev pub AreTaken : VolumeView → List ℕ → Type 0
AreTaken volume pages = (page : ℕ) → Contains pages page → IsTaken volume.data_pages page

-- the new pages are free until they are filled, and then taken
abbrev pub HasNewPages : VolumeView → List ℕ → Progress → Type 0
HasNewPages volume pages Begun = MayTakePages volume pages
HasNewPages volume pages Filled = AreTaken volume pages
HasNewPages volume pages Owned = AreTaken volume pages

-- The file is one of the index and has places for the new pages, and these are held.
pub record KnowsGrowth (volume : VolumeView) (inode : ℕ) (pages : List ℕ) (progress : Progress) : Type 0 where
  pub least : 1 ≤ inode
  pub most : inode ≤ inodes_of_index volume.index
  pub places : HasPagePlaces volume inode pages
  pub numbers : HasNewPages volume pages progress

-- ---- what comes of it

-- the next step that has a store: owners are given where there are new pages
abbrev pub next_of_growth : Progress → List ℕ → Option Progress
next_of_growth Begun [] = Some Owned
next_of_growth Begun (page ∷ pages) = Some Filled
next_of_growth Filled pages = Some Owned
next_of_growth Owned pages = None

-- what the volume takes in behind the step: the numbers behind the first, and the pages of the file behind the size, which commits
abbrev pub EntersGrowth : ℕ → List ℕ → Progress → VolumeView → VolumeView → Type 0
EntersGrowth inode pages Begun old new = TakesPages old new pages
EntersGrowth inode pages Filled old new = new ≡ old
EntersGrowth inode pages Owned old new = PutsPages old new inode pages
