-- A file that grows, by a write or by a truncation whose call waits between two of its steps, beside other calls. P is the number of pages, I the words.
use Rattle.std.specs.Prelude.{◌≡◌, ℕ, ◌+◌, ◌^◌, ◌<◌, ◌≤◌, true, false, List, [], ◌∷◌, ◌++◌, Some, None, Contains}
use Rattle.pm_trait.specs.DeviceView.{DeviceView}
use Rattle.pm_trait.specs.Unfolds.{events_in}
use Rattle.layout.specs.Fields.{inode_size, page_owner, page_kind}
use Rattle.tree_model.specs.PathText.{Route}
use Rattle.tree_model.specs.Step.{with_bytes, overwritten, resized}
use Rattle.tree_model.specs.Tree.{bytes_of, id_at, is_file}
use Rattle.tree_model.specs.Run.{State}
use Rattle.tree_model.specs.declared.command.Command.{Command}
use Rattle.tree_model.specs.declared.command.Command.TheVariants.{Write, Truncate}
use Rattle.image_reading.specs.Counts.{IsIn}
use Rattle.image_reading.specs.Residue.{Residue, no_residue}
use Rattle.image_reading.specs.Soundness.{Sound}
use Rattle.image_counts.specs.Entries.{IsPageIn}
use Rattle.image_laws.specs.Quiet.{IsMix}
use Rattle.content_laws.specs.Torn.{ReadsTorn}
use Rattle.weave_laws.specs.Growing.{HaveRange}
use Rattle.weave_laws.specs.Removing.{cleared_left}
use Rattle.weave_laws.specs.Waiting.{AreInOrder, HasNoPageOf}
use Rattle.volatile_index.specs.Index.{pages_of}
use Rattle.volume.specs.Volume.{VolumeView}
use Rattle.volume.specs.Stages.{HasKept, keeping}
use Rattle.volume.specs.declared.plan.Writing.{Writing}
use Rattle.volume.specs.declared.plan.Resizing.{Resizing}
use Rattle.volume.specs.declared.plan.Action.{Action}
use Rattle.volume.specs.declared.plan.Action.TheVariants.{Write as WriteBytes, Resize}
use Rattle.data_ops.specs.declared.grow.Growth.{Growth}
use Rattle.data_ops.specs.declared.grow.Progress.{Progress}
use Rattle.data_ops.specs.declared.grow.Progress.TheVariants.{Begun, Filled, Owned}
use Rattle.data_ops.specs.Cutting.{growth_to}
use Rattle.data_ops.specs.Growing.{IsGrowing}
use Rattle.data_ops.specs.GrowthStages.{IsGrowthAt, KnowsGrowth, EntersGrowth, left_of_growth, step_of_growth, next_of_growth}
use Rattle.data_ops.specs.GrowthSteps.{StandsGrowth}
use Rattle.data_ops.specs.Writing.{growth_of}
use Rattle.waiting_laws.specs.Beside.{Holding, Holds, IsReady, StandsWith, MakesStep, Leaves, Commits, PassesBy}

-- ---- what the call holds, and what it has left

-- the file with its pages, and these new ones
abbrev pub file_held_by : VolumeView → ℕ → List ℕ → Holding
file_held_by volume inode pages = record { slots = []; pages = pages_of volume.index inode ++ pages; inodes = inode ∷ [] }

-- pages that the file doesn't reach
abbrev pub pages_left_by : ℕ → List ℕ → Residue
pages_left_by inode pages = cleared_left pages false inode

-- ---- where it waits

-- The new pages are filled, and then they are the file's (a call that has stored nothing doesn't wait).
abbrev pub HasItsNewPages : ℕ → List ℕ → ℕ → List ℕ → Progress → Type 0
HasItsNewPages P I inode pages Begun = ⊥
HasItsNewPages P I inode pages Filled = (j : ℕ) → Contains pages j → (page_owner P I j ≡ 0) × (page_kind P I j ≡ 1)
HasItsNewPages P I inode pages Owned = (j : ℕ) → Contains pages j → IsPageIn P I inode j

-- The file has its pages up to its old size, and the new ones up to the new one, none of which is in a list; and they hold the range.
pub record WaitsToGrow (volume : VolumeView) (device : DeviceView) (state : State) (growth : Growth) (bytes pages : List ℕ) (progress : Progress) (others : Residue) : Type 0 where
  pub beside : StandsWith volume device state (pages_left_by growth.inode pages) others
  pub at : IsGrowthAt volume.size device growth bytes (pages_of volume.index growth.inode) pages progress
  pub knows : KnowsGrowth volume growth.inode pages progress
  pub file : is_file state.tree growth.inode ≡ true
  pub size : inode_size device.words growth.inode ≡ growth.old_size
  pub larger : growth.old_size < growth.new_size
  pub small : growth.new_size ≤ 2 ^ 40
  pub old_order : AreInOrder volume.size device.words (pages_of volume.index growth.inode) 0 growth.old_size
  pub old_pages : (j : ℕ) → Contains (pages_of volume.index growth.inode) j → IsPageIn volume.size device.words growth.inode j
  pub new_order : AreInOrder volume.size device.words pages growth.old_size growth.new_size
  pub new_pages : HasItsNewPages volume.size device.words growth.inode pages progress
  pub range : HaveRange volume.size device.words (pages_of volume.index growth.inode ++ pages) growth.inode growth.offset bytes
  pub unlisted : (i j : ℕ) → IsIn j pages → ¬ Contains (pages_of volume.index i) j
  pub alone : HasNoPageOf volume.size device.words others growth.inode

-- ---- what a step leaves

-- A crash leaves the part of the range below the size of file i torn. At the end the file has that part.
pub record TearsFile (P : ℕ) (I J : List ℕ) (old new : State) (i offset : ℕ) (bytes : List ℕ) : Type 0 where
  pub crash : (M : List ℕ) → IsMix I J M → Sound P M × ReadsTorn P I M i offset bytes
  pub file : is_file old.tree i ≡ true
  pub tree : new.tree ≡ with_bytes old.tree i (resized (overwritten (bytes_of old.tree i) offset bytes) (inode_size I i))
  pub room : new.room ≡ old.room

pub record WaitsOn (old new : VolumeView) (before after : DeviceView) (later : State) (growth : Growth) (bytes pages : List ℕ) (progress : Progress) (others : Residue) : Type 0 where
  pub waits : WaitsToGrow new after later growth bytes pages progress others
  pub leaves : Leaves old new before after later (pages_left_by growth.inode pages) others (file_held_by old growth.inode pages)

-- ---- it begins

-- The plan of the command grows the file so, over these new pages.
pub data IsGrowthOf : Growth → List ℕ → List ℕ → Command → Action → Type 0 where
  write : (path : Route) (writing : Writing) (bytes : List ℕ) → writing.old_size < writing.offset + writing.count
      → IsGrowthOf (growth_of writing) bytes writing.new_pages (Write path writing.offset bytes) (WriteBytes writing)
  truncate : (path : Route) (resizing : Resizing) → resizing.old_size < resizing.new_size
      → IsGrowthOf (growth_to resizing) [] resizing.new_pages (Truncate path resizing.new_size) (Resize resizing)

-- The first step stores the part of the range that lies below the size, and behind that the call waits.
abbrev pub GrowthFilledLaw : Type 0
GrowthFilledLaw = (volume new : VolumeView) (before after : DeviceView) (state : State) (command : Command) (action : Action) (growth : Growth) (bytes pages : List ℕ) (next : Progress) (others : Residue)
    → IsReady volume before state command action others → IsGrowthOf growth bytes pages command action
    → MakesStep (step_of_growth volume.size growth bytes pages Begun) (EntersGrowth growth.inode pages Begun) (keeping volume action) new before after
    → next_of_growth Begun pages ≡ Some next → StandsGrowth new after growth bytes pages next
    → (later : State) × TearsFile volume.size before.words after.words state later growth.inode growth.offset bytes
    × WaitsOn volume new before after later growth bytes pages next others

-- ---- while it waits

-- What it has left lies in what it holds.
abbrev pub GrowthHoldsLaw : Type 0
GrowthHoldsLaw = (volume : VolumeView) (device : DeviceView) (state : State) (growth : Growth) (bytes pages : List ℕ) (progress : Progress) (others : Residue)
    → WaitsToGrow volume device state growth bytes pages progress others → Holds volume device.words (pages_left_by growth.inode pages) (file_held_by volume growth.inode pages)

-- It waits still when another call has made a step, and holds the same,
abbrev pub GrowthStillLaw : Type 0
GrowthStillLaw = (old new : VolumeView) (before after : DeviceView) (state later : State) (growth : Growth) (bytes pages : List ℕ) (progress : Progress) (others now : Residue)
    → WaitsToGrow old before state growth bytes pages progress others → PassesBy old new before after state later (file_held_by old growth.inode pages)
    → StandsWith new after later (pages_left_by growth.inode pages) now → HasNoPageOf new.size after.words now growth.inode
    → WaitsToGrow new after later growth bytes pages progress now × (file_held_by new growth.inode pages ≡ file_held_by old growth.inode pages)

-- and may make its next step, where its events are kept.
abbrev pub GrowthStandsLaw : Type 0
GrowthStandsLaw = (volume : VolumeView) (device : DeviceView) (state : State) (growth : Growth) (bytes pages : List ℕ) (progress : Progress) (others : Residue)
    → WaitsToGrow volume device state growth bytes pages progress others → HasKept volume device (events_in (left_of_growth volume.size growth bytes pages progress))
    → StandsGrowth volume device growth bytes pages progress

-- ---- it goes on

-- Behind a step that doesn't commit it waits again.
abbrev pub GrowthOwnedLaw : Type 0
GrowthOwnedLaw = (old new : VolumeView) (before after : DeviceView) (state : State) (growth : Growth) (bytes pages : List ℕ) (progress next : Progress) (others : Residue)
    → WaitsToGrow old before state growth bytes pages progress others → MakesStep (step_of_growth old.size growth bytes pages progress) (EntersGrowth growth.inode pages progress) old new before after
    → next_of_growth progress pages ≡ Some next → StandsGrowth new after growth bytes pages next
    → WaitsOn old new before after state growth bytes pages next others

-- The step that commits it is its last (no node is new: id n is not read).
abbrev pub GrowthEndsLaw : Type 0
GrowthEndsLaw = (old new : VolumeView) (before after : DeviceView) (state : State) (path : Route) (command : Command) (growth : Growth) (bytes pages : List ℕ) (progress : Progress) (n : ℕ) (others : Residue)
    → WaitsToGrow old before state growth bytes pages progress others → IsGrowing growth bytes path command → id_at state.tree path ≡ Some growth.inode
    → MakesStep (step_of_growth old.size growth bytes pages progress) (EntersGrowth growth.inode pages progress) old new before after → next_of_growth progress pages ≡ None
    → (commits : Commits old.size before.words after.words state command n)
    × Leaves old new before after commits.stepped.new no_residue others (file_held_by old growth.inode pages)
