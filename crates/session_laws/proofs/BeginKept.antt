-- The first step of a call may be made, has a fence, and leaves the events that are kept for others.
use Rattle.std.proofs.Common.{◌≡◌, ℕ, ◌+◌, ◌<◌, Bool, true, false, nat_le, nat_lt, if◌then◌else◌, List, [], ◌∷◌, Option, Some, None, refl, sym, ap, subst, ◌∙◌, arith, true≢false}
use Rattle.pm_trait.specs.DeviceView.{DeviceView}
use Rattle.tree_model.proofs.TreeKept.{same_some}
use Rattle.volume.specs.Volume.{VolumeView}
use Rattle.volume.specs.Costs.{events_of, fences_for_growth, fences_of_plan}
use Rattle.volume.specs.Entered.{pages_of_option}
use Rattle.volume.specs.Stages.{keeping}
use Rattle.volume.specs.declared.plan.Action.{Action}
use Rattle.volume.specs.declared.plan.Action.TheVariants.{Make, Name, Remove, Move, Write as WriteBytes, WriteNothing, Resize, KeepSize, KeepNames}
use Rattle.volume.specs.declared.plan.Action.TheVariants.{Read as ReadBytes, Status, Names, Space}
use Rattle.volume.specs.declared.plan.NewEntry.{NewEntry}
use Rattle.volume.specs.declared.plan.NewName.{NewName}
use Rattle.volume.specs.declared.plan.Removal.{Removal}
use Rattle.volume.specs.declared.plan.Resizing.{Resizing}
use Rattle.volume.specs.declared.plan.Writing.{Writing}
use Rattle.volume.proofs.Moments.{takes_beside, inode_beside, removal_beside}
use Rattle.create_ops.specs.Stages as entries
use Rattle.unlink_ops.specs.LinkStages as links
use Rattle.unlink_ops.specs.RemovalStages as removals
use Rattle.rename_ptr.specs.Stages as moves
use Rattle.data_ops.specs.ResizeStages as resizes
use Rattle.data_ops.specs.WriteStages as writes
use Rattle.data_ops.specs.declared.grow.Progress.TheVariants.{Begun}
use Rattle.data_ops.specs.declared.truncate.CutProgress.TheVariants.{Begun as CutBegun}
use Rattle.data_ops.specs.declared.truncate.Stage.TheVariants.{Nothing as SizeKept, Growing as GrowsBySize, Cutting}
use Rattle.data_ops.specs.declared.write.Stage.TheVariants.{Nothing as NothingWritten, Inside, Growing as GrowsByWrite}
use Rattle.running_calls.specs.declared.running.Running.{Running}
use Rattle.running_calls.specs.declared.running.Running.TheVariants.{Makes, Links, Removes, Moves, Writes, Resizes}
use Rattle.running_calls.specs.Stages.{StandsStage, MayBegin, EntersAt, begun}
use Rattle.running_laws.specs.Steps.{runs_beside}

-- a plan that reads begins no call
pub none_begins : {X : Type 0} (running : Running) → ◌≡◌ {A = Option Running} None (Some running) → X
none_begins running is = absurd (cc)

-- and a rename runs alone
pub alone : {X : Type 0} (moved running : Running) → Some moved ≡ Some running → runs_beside moved ≡ false → runs_beside running ≡ true → X
alone moved running begins apart beside = absurd (true≢false (sym beside ∙ sym (ap runs_beside (same_some moved running begins)) ∙ apart))

-- ---- it may be made

same_entry : (one other : NewEntry) → ◌≡◌ {A = Action} (Make one) (Make other) → one ≡ other
same_entry one other is = cc

same_link : (one other : NewName) → ◌≡◌ {A = Action} (Name one) (Name other) → one ≡ other
same_link one other is = cc

same_removal : (one other : Removal) → ◌≡◌ {A = Action} (Remove one) (Remove other) → one ≡ other
same_removal one other is = cc

module _ (volume : VolumeView) (device : DeviceView) (bytes : List ℕ) where
  stands_with : (action : Action) (one first : Running) → Some one ≡ Some first → StandsStage (keeping volume action) device bytes one
      → StandsStage (keeping volume action) device bytes first
  stands_with action one first begins stands = subst (λ (r : Running). StandsStage (keeping volume action) device bytes r) (same_some one first begins) stands

  pub begun_stands : (action : Action) (first : Running) → MayBegin volume device bytes action → begun action ≡ Some first → StandsStage (keeping volume action) device bytes first
  begun_stands (Make entry) first (made, same, unmarked, stands) begins =
      stands_with (Make entry) (Makes (entries.begun entry)) first begins
      (subst (λ (e : NewEntry). entries.StandsStage (keeping volume (Make entry)) device (entries.begun e)) (sym (same_entry entry made same)) stands)
  begun_stands (Name link) first (named, same, unmarked, stands) begins =
      stands_with (Name link) (Links (links.begun link)) first begins
      (subst (λ (l : NewName). links.StandsStage (keeping volume (Name link)) device (links.begun l)) (sym (same_link link named same)) stands)
  begun_stands (Remove removal) first (taken, same, unmarked, stands) begins =
      stands_with (Remove removal) (Removes (removals.begun removal)) first begins
      (subst (λ (r : Removal). removals.StandsStage (keeping volume (Remove removal)) device (removals.begun r)) (sym (same_removal removal taken same)) stands)
  begun_stands (Move moving) first (which, unmarked, stands) begins = stands_with (Move moving) (Moves (moves.begun (Move moving))) first begins stands
  begun_stands (WriteBytes writing) first (which, unmarked, stands) begins =
      stands_with (WriteBytes writing) (Writes (writes.begun (WriteBytes writing))) first begins stands
  begun_stands WriteNothing first (which, unmarked, stands) begins = stands_with WriteNothing (Writes (writes.begun WriteNothing)) first begins stands
  begun_stands (Resize resizing) first (which, unmarked, stands) begins =
      stands_with (Resize resizing) (Resizes (resizes.begun (Resize resizing))) first begins stands
  begun_stands KeepSize first (which, unmarked, stands) begins = stands_with KeepSize (Resizes (resizes.begun KeepSize)) first begins stands
  begun_stands KeepNames first (which, unmarked, stands) begins = stands_with KeepNames (Moves (moves.begun KeepNames)) first begins stands
  begun_stands (ReadBytes reading) first may begins = absurd may
  begun_stands (Status inode) first may begins = absurd may
  begun_stands (Names inode) first may begins = absurd may
  begun_stands Space first may begins = absurd may

-- ---- it has a fence

growth_fences : (pages : List ℕ) → 0 < fences_for_growth pages
growth_fences [] = omega arith
growth_fences (page ∷ pages) = omega arith

write_fences : (writing : Writing) (inside : Bool) → 0 < (if inside then 1 else fences_for_growth writing.new_pages)
write_fences writing true = omega arith
write_fences writing false = growth_fences writing.new_pages

resize_fences : (resizing : Resizing) (losing : ℕ) (grows : Bool) → 0 < (if grows then fences_for_growth resizing.new_pages else 1 + losing)
resize_fences resizing losing true = growth_fences resizing.new_pages
resize_fences resizing losing false = omega arith

pub some_fence : (action : Action) → 0 < events_of action → 0 < fences_of_plan action
some_fence (Make entry) some = omega arith
some_fence (Name link) some = omega arith
some_fence (Remove removal) some = omega arith
some_fence (Move moving) some = omega arith
some_fence (WriteBytes writing) some = write_fences writing (nat_le (writing.offset + writing.count) writing.old_size)
some_fence WriteNothing some = absurd (omega (arith, some))
some_fence (Resize resizing) some = resize_fences resizing _ (nat_lt resizing.old_size resizing.new_size)
some_fence KeepSize some = absurd (omega (arith, some))
some_fence KeepNames some = absurd (omega (arith, some))
some_fence (ReadBytes reading) some = absurd (omega (arith, some))
some_fence (Status inode) some = absurd (omega (arith, some))
some_fence (Names inode) some = absurd (omega (arith, some))
some_fence Space some = absurd (omega (arith, some))

-- ---- what is kept

module _ (old new : VolumeView) where
  same_kept : new ≡ old → new.kept ≡ old.kept
  same_kept same = ap (λ (v : VolumeView). v.kept) same

  kept_with : (one first : Running) → Some one ≡ Some first → (EntersAt one old new → new.kept ≡ old.kept) → EntersAt first old new → new.kept ≡ old.kept
  kept_with one first begins kept = subst (λ (r : Running). EntersAt r old new → new.kept ≡ old.kept) (same_some one first begins) kept

  write_kept : (writing : Writing) (inside : Bool) → writes.EntersAt (if inside then Inside writing else GrowsByWrite writing Begun) old new → new.kept ≡ old.kept
  write_kept writing true enters = same_kept enters
  write_kept writing false enters = (takes_beside old new writing.new_pages enters).kept

  resize_kept : (resizing : Resizing) (grows : Bool) → resizes.EntersAt (if grows then GrowsBySize resizing Begun else Cutting resizing CutBegun) old new → new.kept ≡ old.kept
  resize_kept resizing true enters = (takes_beside old new resizing.new_pages enters).kept
  resize_kept resizing false enters = same_kept enters

  entry_kept : (entry : NewEntry) → entries.EntersAt (entries.begun entry) old new → new.kept ≡ old.kept
  entry_kept entry (taken, takes, enters) = (inode_beside taken new entry.inode enters).kept ∙ (takes_beside old taken (pages_of_option entry.new_page) takes).kept

  pub first_kept : (action : Action) (first : Running) → begun action ≡ Some first → runs_beside first ≡ true → EntersAt first old new → new.kept ≡ old.kept
  first_kept (Make entry) first begins beside = kept_with (Makes (entries.begun entry)) first begins (entry_kept entry)
  first_kept (Name link) first begins beside = kept_with (Links (links.begun link)) first begins (λ takes. (takes_beside old new (pages_of_option link.new_page) takes).kept)
  first_kept (Remove removal) first begins beside =
      kept_with (Removes (removals.begun removal)) first begins (λ leaves. (removal_beside old new removal.directory removal.name leaves).kept)
  first_kept (Move moving) first begins beside = alone (Moves (moves.begun (Move moving))) first begins refl beside
  first_kept (WriteBytes writing) first begins beside =
      kept_with (Writes (writes.begun_writing writing)) first begins (write_kept writing (nat_le (writing.offset + writing.count) writing.old_size))
  first_kept WriteNothing first begins beside = kept_with (Writes NothingWritten) first begins same_kept
  first_kept (Resize resizing) first begins beside =
      kept_with (Resizes (resizes.begun_resizing resizing)) first begins (resize_kept resizing (nat_lt resizing.old_size resizing.new_size))
  first_kept KeepSize first begins beside = kept_with (Resizes SizeKept) first begins same_kept
  first_kept KeepNames first begins beside = alone (Moves (moves.begun KeepNames)) first begins refl beside
  first_kept (ReadBytes reading) first begins beside = none_begins first begins
  first_kept (Status inode) first begins beside = none_begins first begins
  first_kept (Names inode) first begins beside = none_begins first begins
  first_kept Space first begins beside = none_begins first begins
