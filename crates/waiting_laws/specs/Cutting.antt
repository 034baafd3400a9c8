-- A truncation to less that waits between two of its steps, beside other calls. P is the number of pages, I the words.
use Rattle.std.specs.Prelude.{◌≡◌, ℕ, true, List, [], Contains}
use Rattle.pm_trait.specs.DeviceView.{DeviceView}
use Rattle.pm_trait.specs.Unfolds.{events_in}
use Rattle.layout.specs.Fields.{page_owner}
use Rattle.tree_model.specs.PathText.{Route}
use Rattle.tree_model.specs.Tree.{is_file}
use Rattle.tree_model.specs.Run.{State}
use Rattle.tree_model.specs.declared.command.Command.TheVariants.{Truncate}
use Rattle.tree_model.specs.declared.reply.Reply.TheVariants.{Done}
use Rattle.image_reading.specs.Residue.{Residue, no_residue}
use Rattle.weave_laws.specs.Waiting.{HasNoPageOf}
use Rattle.knowing_laws.specs.Knowing.{AreListedAt}
use Rattle.volatile_index.specs.Index.{pages_of}
use Rattle.volume.specs.Volume.{VolumeView}
use Rattle.volume.specs.Stages.{HasKept, keeping}
use Rattle.volume.specs.declared.next.Next.TheVariants.{More, Ended}
use Rattle.volume.specs.declared.plan.Resizing.{Resizing}
use Rattle.volume.specs.declared.plan.Action.TheVariants.{Resize}
use Rattle.data_ops.specs.declared.truncate.CutProgress.{CutProgress}
use Rattle.data_ops.specs.declared.truncate.CutProgress.TheVariants.{Begun, Lowered, Trimmed}
use Rattle.data_ops.specs.declared.truncate.Stage.TheVariants.{Cutting}
use Rattle.data_ops.specs.Cutting.{gone_pages}
use Rattle.data_ops.specs.ResizeStages.{begun_resizing, left_of, step_of, IsAt, next_of, EntersAt, StandsStage}
use Rattle.waiting_laws.specs.Beside.{Holding, Holds, IsReady, StandsWith, MakesStep, Leaves, Commits, PassesBy}
use Rattle.waiting_laws.specs.Growing.{file_held_by, pages_left_by}

-- ---- what it holds, and what it has left

-- the file with its pages
abbrev pub held_by : VolumeView → Resizing → Holding
held_by volume resizing = file_held_by volume resizing.inode []

-- the last pages of the file, behind its new end
abbrev pub pages_cut : VolumeView → Resizing → List ℕ
pages_cut volume resizing = gone_pages resizing (pages_of volume.index resizing.inode)

abbrev pub left_by : VolumeView → Resizing → Residue
left_by volume resizing = pages_left_by resizing.inode (pages_cut volume resizing)

-- ---- where it waits

-- The pages behind the end are the file's, and then have no owner (a call that has stored nothing doesn't wait).
abbrev pub HasItsCutPages : ℕ → List ℕ → ℕ → List ℕ → CutProgress → Type 0
HasItsCutPages P I inode pages Begun = ⊥
HasItsCutPages P I inode pages Lowered = (j : ℕ) → Contains pages j → page_owner P I j ≡ inode
HasItsCutPages P I inode pages Trimmed = (j : ℕ) → Contains pages j → page_owner P I j ≡ 0

pub record WaitsToCut (volume : VolumeView) (device : DeviceView) (state : State) (resizing : Resizing) (progress : CutProgress) (others : Residue) : Type 0 where
  pub beside : StandsWith volume device state (left_by volume resizing) others
  pub at : IsAt volume device (Cutting resizing progress)
  pub file : is_file state.tree resizing.inode ≡ true
  pub cut : HasItsCutPages volume.size device.words resizing.inode (pages_cut volume resizing) progress
  pub kept : (j : ℕ) → Contains (pages_of volume.index resizing.inode) j → ¬ Contains (pages_cut volume resizing) j → page_owner volume.size device.words j ≡ resizing.inode
  pub listed : AreListedAt volume (pages_cut volume resizing) resizing.inode
  pub alone : HasNoPageOf volume.size device.words others resizing.inode

-- ---- what a step leaves

pub record WaitsOn (old new : VolumeView) (before after : DeviceView) (later : State) (resizing : Resizing) (progress : CutProgress) (others : Residue) : Type 0 where
  pub waits : WaitsToCut new after later resizing progress others
  pub leaves : Leaves old new before after later (left_by new resizing) others (held_by old resizing)

-- ---- its first step commits it (no node is new: id n is not read)

-- Where pages are to be given back it waits behind that,
abbrev pub CutLoweredLaw : Type 0
CutLoweredLaw = (volume new : VolumeView) (before after : DeviceView) (state : State) (path : Route) (resizing : Resizing) (progress : CutProgress) (n : ℕ) (others : Residue)
    → IsReady volume before state (Truncate path resizing.new_size) (Resize resizing) others → begun_resizing resizing ≡ Cutting resizing Begun
    → MakesStep (step_of (keeping volume (Resize resizing)) (Cutting resizing Begun)) (EntersAt (Cutting resizing Begun)) (keeping volume (Resize resizing)) new before after
    → next_of (Cutting resizing Begun) ≡ More (Cutting resizing progress) → StandsStage new after (Cutting resizing progress)
    → (commits : Commits volume.size before.words after.words state (Truncate path resizing.new_size) n)
    × WaitsOn volume new before after commits.stepped.new resizing progress others

-- and else it has ended.
abbrev pub CutAtOnceLaw : Type 0
CutAtOnceLaw = (volume new : VolumeView) (before after : DeviceView) (state : State) (path : Route) (resizing : Resizing) (n : ℕ) (others : Residue)
    → IsReady volume before state (Truncate path resizing.new_size) (Resize resizing) others → begun_resizing resizing ≡ Cutting resizing Begun
    → MakesStep (step_of (keeping volume (Resize resizing)) (Cutting resizing Begun)) (EntersAt (Cutting resizing Begun)) (keeping volume (Resize resizing)) new before after
    → next_of (Cutting resizing Begun) ≡ Ended Done
    → (commits : Commits volume.size before.words after.words state (Truncate path resizing.new_size) n)
    × Leaves volume new before after commits.stepped.new no_residue others (held_by volume resizing)

-- ---- while it waits

-- What it has left lies in what it holds.
abbrev pub CutHoldsLaw : Type 0
CutHoldsLaw = (volume : VolumeView) (device : DeviceView) (state : State) (resizing : Resizing) (progress : CutProgress) (others : Residue)
    → WaitsToCut volume device state resizing progress others → Holds volume device.words (left_by volume resizing) (held_by volume resizing)

-- It waits still when another call has made a step, and has left and holds the same,
abbrev pub CutStillLaw : Type 0
CutStillLaw = (old new : VolumeView) (before after : DeviceView) (state later : State) (resizing : Resizing) (progress : CutProgress) (others now : Residue)
    → WaitsToCut old before state resizing progress others → PassesBy old new before after state later (held_by old resizing)
    → StandsWith new after later (left_by old resizing) now → HasNoPageOf new.size after.words now resizing.inode
    → WaitsToCut new after later resizing progress now × (left_by new resizing ≡ left_by old resizing) × (held_by new resizing ≡ held_by old resizing)

-- and may make its next step, where its events are kept.
abbrev pub CutStandsLaw : Type 0
CutStandsLaw = (volume : VolumeView) (device : DeviceView) (state : State) (resizing : Resizing) (progress : CutProgress) (others : Residue)
    → WaitsToCut volume device state resizing progress others → HasKept volume device (events_in (left_of volume (Cutting resizing progress))) → StandsStage volume device (Cutting resizing progress)

-- ---- it goes on

-- Behind a step that isn't its last it waits again.
abbrev pub CutTrimmedLaw : Type 0
CutTrimmedLaw = (old new : VolumeView) (before after : DeviceView) (state : State) (resizing : Resizing) (progress next : CutProgress) (others : Residue)
    → WaitsToCut old before state resizing progress others → MakesStep (step_of old (Cutting resizing progress)) (EntersAt (Cutting resizing progress)) old new before after
    → next_of (Cutting resizing progress) ≡ More (Cutting resizing next) → StandsStage new after (Cutting resizing next)
    → WaitsOn old new before after state resizing next others

-- Behind its last step nothing of it is left.
abbrev pub CutEndsLaw : Type 0
CutEndsLaw = (old new : VolumeView) (before after : DeviceView) (state : State) (resizing : Resizing) (progress : CutProgress) (others : Residue)
    → WaitsToCut old before state resizing progress others → MakesStep (step_of old (Cutting resizing progress)) (EntersAt (Cutting resizing progress)) old new before after
    → next_of (Cutting resizing progress) ≡ Ended Done
    → Leaves old new before after state no_residue others (held_by old resizing)
