-- A file that gets another size: the words that the intervals of a truncation store. P is the number of pages.
use Rattle.std.specs.Prelude.{◌≡◌, ◌≢◌, ℕ, ◌-◌, ◌<◌, ◌≤◌, nat_lt, List, [], ◌∷◌, length, drop, Result, OnOk}
use Rattle.pm_trait.specs.DeviceView.{DeviceView}
use Rattle.layout.specs.Geometry.{inode_word_of}
use Rattle.tree_model.specs.PathText.{Route}
use Rattle.tree_model.specs.Run.{State}
use Rattle.tree_model.specs.declared.command.Command.{Command}
use Rattle.tree_model.specs.declared.command.Command.TheVariants.{Truncate}
use Rattle.image_reading.specs.Reading.{ReadsAs, pages_of_size}
use Rattle.layout.specs.Fields.{inode_size}
use Rattle.content_laws.specs.Cut.{CanCut, Cuts}
use Rattle.volume.specs.Commit.{HangsOn}
use Rattle.volume.specs.declared.plan.Action.TheVariants.{Resize}
use Rattle.volume.specs.Entered.{EntersPages, LeavesLastPages}
use Rattle.volume.specs.Planned.{IsPlanned}
use Rattle.volume.specs.Volume.{VolumeView}
use Rattle.volume.specs.declared.plan.Resizing.{Resizing}
use Rattle.pm_trait.specs.Unfolds.{Step, Unfolds}
use Rattle.data_ops.specs.Files.{HasPages}
use Rattle.data_ops.specs.declared.grow.Growth.{Growth}
use Rattle.data_ops.specs.Growing.{MayGrow, StoresGrowth}
use Rattle.data_ops.specs.Steps.{sizing, giving, freeing, growth_steps, either_steps}

-- it gives a file another size
abbrev pub IsTruncation : Command → Type 0
IsTruncation command = (path : Route) × (size : ℕ) × (command ≡ Truncate path size)

-- The file is cut to less, its pages are these, and so many of them go.
pub record MayCut (P : ℕ) (W : List ℕ) (resizing : Resizing) (pages : List ℕ) : Type 0 where
  pub can : CanCut P W resizing.inode resizing.new_size
  pub held : HasPages P W resizing.inode pages
  pub old_size : inode_size W resizing.inode ≡ resizing.old_size
  pub cut : resizing.cut ≡ pages_of_size resizing.old_size - pages_of_size resizing.new_size

-- the pages that a cut gives back, the last ones of the file's
abbrev pub gone_pages : Resizing → List ℕ → List ℕ
gone_pages resizing pages = drop (length pages - resizing.cut) pages

-- The steps of a cut: the size, by which the file is cut; the owners of the pages behind its end, where there are any; and the rest of
-- their descriptors.
abbrev pub cut_steps : ℕ → Resizing → List ℕ → List Step
cut_steps P resizing pages = sizing resizing.inode resizing.new_size ∷ giving P (gone_pages resizing pages) ∷ freeing P (gone_pages resizing pages) ∷ []

-- a growth to the new size, in which no byte is written
abbrev pub growth_to : Resizing → Growth
growth_to resizing = record { inode = resizing.inode; old_size = resizing.old_size; new_size = resizing.new_size; offset = resizing.old_size }

-- The file may be cut to its new size, or grow to it, and its pages are these.
pub record MayResize (P : ℕ) (W : List ℕ) (resizing : Resizing) (pages : List ℕ) : Type 0 where
  pub other : resizing.new_size ≢ resizing.old_size
  pub cut : resizing.new_size < resizing.old_size → MayCut P W resizing pages
  pub grow : resizing.old_size < resizing.new_size → MayGrow P W (growth_to resizing) [] pages resizing.new_pages

-- The volume has the file's new pages, or has given back its last ones.
pub record TakesIn (old new : VolumeView) (resizing : Resizing) : Type 0 where
  pub cut : resizing.new_size < resizing.old_size → LeavesLastPages old new resizing.inode resizing.cut
  pub grown : resizing.old_size ≤ resizing.new_size → EntersPages old new resizing.inode resizing.new_pages

-- The words read as the state, and the resizing is what an accepted command of this path does.
pub record IsResizingAt (P : ℕ) (W : List ℕ) (state : State) (path : Route) (resizing : Resizing) : Type 0 where
  pub reads : ReadsAs P W state
  pub planned : IsPlanned P W state (Truncate path resizing.new_size) (Resize resizing)

-- From W to J the file is cut, in the intervals of the laws.
pub record StoresCut (P : ℕ) (W J : List ℕ) (i z : ℕ) : Type 0 where
  pub given : List ℕ
  pub cuts : Cuts P W given J i z

-- The steps of a truncation: to more those of a growth, and to less those of a cut. These are the file's pages.
abbrev pub resize_steps : ℕ → Resizing → List ℕ → List Step
resize_steps P resizing pages = either_steps (nat_lt resizing.old_size resizing.new_size) (growth_steps P (growth_to resizing) [] resizing.new_pages) (cut_steps P resizing pages)

-- From W to J the file gets its new size.
pub record StoresSize (P : ℕ) (W J : List ℕ) (resizing : Resizing) : Type 0 where
  pub grown : resizing.old_size < resizing.new_size → StoresGrowth P W J resizing.inode resizing.new_size resizing.old_size [] resizing.new_pages
  pub cut : resizing.new_size < resizing.old_size → StoresCut P W J resizing.inode resizing.new_size

-- The steps were made in turn, each settled before the next. Where it succeeds the words are those, and no other word has changed.
-- What a crash leaves hangs on the size alone.
pub record HasStoredSize {T E : Type 0} (P : ℕ) (before after : DeviceView) (resizing : Resizing) (pages : List ℕ) (result : Result T E) : Type 0 where
  pub in_turn : Unfolds (resize_steps P resizing pages) before after result
  pub made : OnOk result (StoresSize P before.words after.words resizing)
  pub commit_word : HangsOn P before.trail after.trail (inode_word_of resizing.inode 2)
