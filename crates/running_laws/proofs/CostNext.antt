-- A step leaves the size of the volume, and a call goes on with the same name or file.
use Rattle.std.proofs.Common.{◌≡◌, ℕ, ◌≤◌, Bool, true, false, length, Option, Some, None, refl, ap, subst, ◌∙◌}
use Rattle.std.specs.Prelude.{nat_lt, if◌then◌else◌}
use Rattle.pm_trait.specs.DeviceView.{DeviceView}
use Rattle.fence_token.specs.declared.states.Clean.{Clean}
use Rattle.tree_model.specs.declared.reply.Reply.TheVariants.{Done}
use Rattle.volatile_index.specs.Index.{pages_of}
use Rattle.volume.specs.Volume.{VolumeView}
use Rattle.volume.specs.Costs.{goes_of, pages_removed, pages_replaced}
use Rattle.volume.specs.Entered.{pages_of_option}
use Rattle.volume.specs.declared.next.Next.{Next}
use Rattle.volume.specs.declared.next.Next.TheVariants.{More, Ended}
use Rattle.volume.specs.declared.plan.Moving.{Moving}
use Rattle.volume.specs.declared.plan.NewEntry.{NewEntry}
use Rattle.volume.specs.declared.plan.NewName.{NewName}
use Rattle.volume.specs.declared.plan.Removal.{Removal}
use Rattle.volume.specs.declared.plan.Resizing.{Resizing}
use Rattle.volume.proofs.Moments.{takes_beside, inode_beside, name_beside}
use Rattle.entry_steps.specs.declared.place.NamePlace.{NamePlace}
use Rattle.entry_steps.specs.declared.place.NamePlace.TheVariants.{Slot, Page}
use Rattle.create_ops.specs.declared.run.Stage.{Stage as MakingStage}
use Rattle.create_ops.specs.declared.run.Stage.TheVariants.{Begun as MakingBegun, Written as NodeWritten, Claimed as NodeClaimed}
use Rattle.create_ops.specs.Stages as entries
use Rattle.unlink_ops.specs.declared.link.Stage.{Stage as LinkingStage}
use Rattle.unlink_ops.specs.declared.link.Stage.TheVariants.{Begun as LinkingBegun, Written as LinkWritten, Claimed as LinkClaimed}
use Rattle.unlink_ops.specs.LinkStages as links
use Rattle.unlink_ops.specs.declared.removal.Stage.{Stage as RemovalStage}
use Rattle.unlink_ops.specs.declared.removal.Stage.TheVariants.{Begun as NameThere, Unnamed, Cleared as SlotCleared, Disowned as PagesDisowned}
use Rattle.unlink_ops.specs.RemovalStages as removals
use Rattle.rename_ptr.specs.declared.rename.Progress.{Progress as MoveProgress}
use Rattle.rename_ptr.specs.declared.rename.Progress.TheVariants.{Begun as MoveBegun, Filled as MoveFilled, Opened, Pointed, Moved, Left, Cleared, Disowned}
use Rattle.rename_ptr.specs.declared.rename.Stage.{Stage as MoveStage}
use Rattle.rename_ptr.specs.declared.rename.Stage.TheVariants.{Nothing as NamesKept, Moving as MovesName}
use Rattle.rename_ptr.specs.Stages as moves
use Rattle.data_ops.specs.declared.grow.Progress.{Progress}
use Rattle.data_ops.specs.declared.truncate.CutProgress.{CutProgress}
use Rattle.data_ops.specs.declared.truncate.CutProgress.TheVariants.{Begun as CutBegun, Lowered, Trimmed}
use Rattle.data_ops.specs.declared.truncate.Stage.{Stage as ResizeStage}
use Rattle.data_ops.specs.declared.truncate.Stage.TheVariants.{Nothing as SizeKept, Growing as GrowsBySize, Cutting}
use Rattle.data_ops.specs.GrowthStages.{next_of_growth}
use Rattle.data_ops.specs.ResizeStages as resizes

-- ---- an entry, and one more name

module _ (old new : VolumeView) where
  entry_place_size : (entry : NewEntry) (place : NamePlace Clean) → entries.EntersAfterPlace entry place old new → new.size ≡ old.size
  entry_place_size entry (Slot slot) puts = (name_beside old new entry.directory entry.name entry.slot entry.new_page puts).size
  entry_place_size entry (Page page) same = ap (λ (v : VolumeView). v.size) same

  pub entry_size : (entry : NewEntry) (stage : MakingStage) → entries.EntersAtStage entry stage old new → new.size ≡ old.size
  entry_size entry MakingBegun (taken, page, inode) =
      (inode_beside taken new entry.inode inode).size ∙ (takes_beside old taken (pages_of_option entry.new_page) page).size
  entry_size entry (NodeWritten node) enters = entry_place_size entry node.place enters
  entry_size entry (NodeClaimed node) puts = (name_beside old new entry.directory entry.name entry.slot entry.new_page puts).size

  link_place_size : (link : NewName) (place : NamePlace Clean) → links.EntersAfterPlace link place old new → new.size ≡ old.size
  link_place_size link (Slot slot) puts = (name_beside old new link.directory link.name link.slot link.new_page puts).size
  link_place_size link (Page page) same = ap (λ (v : VolumeView). v.size) same

  pub link_size : (link : NewName) (stage : LinkingStage) → links.EntersAtStage link stage old new → new.size ≡ old.size
  link_size link LinkingBegun takes = ap (λ (v : VolumeView). v.size) takes
  link_size link (LinkWritten file) enters = link_place_size link file.place enters
  link_size link (LinkClaimed file) puts = (name_beside old new link.directory link.name link.slot link.new_page puts).size

-- ---- a name that goes

-- the name of the call that goes on, and this one where it has ended
abbrev removal_of : Removal → Next removals.RunningView → Removal
removal_of removal (More running) = running.removal
removal_of removal (Ended reply) = removal

module _ (removal : Removal) where
  removal_goes : (goes : Bool) → removal ≡ removal_of removal (if goes then removals.at_stage removal PagesDisowned else Ended Done)
  removal_goes true = refl
  removal_goes false = refl

  removal_gives : (some : Bool)
      → removal ≡ removal_of removal (if some then removals.at_stage removal SlotCleared else if removal.loss.goes then removals.at_stage removal PagesDisowned else Ended Done)
  removal_gives true = refl
  removal_gives false = removal_goes removal.loss.goes

  removal_kept : (stage : RemovalStage) → removal ≡ removal_of removal (removals.next_of removal stage)
  removal_kept NameThere = refl
  removal_kept Unnamed = removal_gives (nat_lt 0 (pages_removed removal))
  removal_kept SlotCleared = refl
  removal_kept PagesDisowned = refl

pub removal_next : (running next : removals.RunningView) → removals.next_of running.removal running.stage ≡ More next → running.removal ≡ next.removal
removal_next running next is = removal_kept running.removal running.stage ∙ ap (removal_of running.removal) is

-- ---- a name that moves

abbrev move_in : Moving → MoveStage → Moving
move_in moving NamesKept = moving
move_in moving (MovesName other progress) = other

abbrev move_of : Moving → Next MoveStage → Moving
move_of moving (More running) = move_in moving running
move_of moving (Ended reply) = moving

module _ (moving : Moving) where
  move_first : (new : Option ℕ) → moving ≡ move_of moving (moves.next_first moving new)
  move_first None = refl
  move_first (Some page) = refl

  move_goes : (goes : Bool) → moving ≡ move_of moving (if goes then More (MovesName moving Disowned) else Ended Done)
  move_goes true = refl
  move_goes false = refl

  move_gives : (some : Bool)
      → moving ≡ move_of moving (if some then More (MovesName moving Cleared) else if goes_of moving.replaced then More (MovesName moving Disowned) else Ended Done)
  move_gives true = refl
  move_gives false = move_goes (goes_of moving.replaced)

  move_kept : (progress : MoveProgress) → moving ≡ move_of moving (moves.next_moving moving progress)
  move_kept MoveBegun = move_first moving.new_page
  move_kept MoveFilled = refl
  move_kept Opened = refl
  move_kept Pointed = refl
  move_kept Moved = refl
  move_kept Left = move_gives (nat_lt 0 (pages_replaced moving))
  move_kept Cleared = refl
  move_kept Disowned = refl

pub move_next : (moving other : Moving) (progress next : MoveProgress) → moves.next_moving moving progress ≡ More (MovesName other next) → moving ≡ other
move_next moving other progress next is = move_kept moving progress ∙ ap (move_of moving) is

-- ---- a file gets another size

abbrev resize_in : Resizing → ResizeStage → Resizing
resize_in resizing SizeKept = resizing
resize_in resizing (GrowsBySize other progress) = other
resize_in resizing (Cutting other progress) = other

abbrev resize_of : Resizing → Next ResizeStage → Resizing
resize_of resizing (More running) = resize_in resizing running
resize_of resizing (Ended reply) = resizing

module _ (resizing : Resizing) where
  cut_gives : (some : Bool) → resizing ≡ resize_of resizing (if some then More (Cutting resizing Lowered) else Ended Done)
  cut_gives true = refl
  cut_gives false = refl

  cut_kept : (progress : CutProgress) → resizing ≡ resize_of resizing (resizes.next_cutting resizing progress)
  cut_kept CutBegun = cut_gives (nat_lt 0 resizing.cut)
  cut_kept Lowered = refl
  cut_kept Trimmed = refl

  -- a growth goes on with a growth
  growth_next : (next : Option Progress) (other : Resizing) (progress : CutProgress) → resizes.next_growing resizing next ≡ More (Cutting other progress) → ⊥
  growth_next (Some progress) other cut is = let clash : ◌≡◌ {A = Next ResizeStage} (More (GrowsBySize resizing progress)) (More (Cutting other cut)) = is in absurd cc
  growth_next None other cut is = let clash : ◌≡◌ {A = Next ResizeStage} (Ended Done) (More (Cutting other cut)) = is in absurd cc

pub cut_next : (volume : VolumeView) (device : DeviceView) (running : ResizeStage) (other : Resizing) (progress : CutProgress) → resizes.StandsStage volume device running
    → resizes.next_of running ≡ More (Cutting other progress) → other.cut ≤ length (pages_of volume.index other.inode)
cut_next volume device SizeKept other next stands is = let clash : ◌≡◌ {A = Next ResizeStage} (Ended Done) (More (Cutting other next)) = is in absurd cc
cut_next volume device (GrowsBySize resizing progress) other next stands is = absurd (growth_next resizing (next_of_growth progress resizing.new_pages) other next is)
cut_next volume device (Cutting resizing progress) other next stands is =
    subst (λ (cut : Resizing). cut.cut ≤ length (pages_of volume.index cut.inode)) (cut_kept resizing progress ∙ ap (resize_of resizing) is) stands.at.2.enough
