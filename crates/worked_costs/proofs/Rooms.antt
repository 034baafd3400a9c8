-- What is kept for a call is enough for its next step, behind which the device is settled.
use Rattle.std.proofs.Common.{◌≡◌, inl, inr, ℕ, ◌+◌, ◌*◌, ◌^◌, ◌<◌, ◌≤◌, Bool, true, false, ◌||◌, nat_lt, drop, if◌then◌else◌, List, [], ◌∷◌, ◌-◌, length, refl, sym, ap, ◌∙◌, subst, arith, length-drop}
use Rattle.std.specs.Prelude.{Ok}
use Rattle.std.proofs.lemmas.Bool.{ltb-false}
use Rattle.pm_trait.specs.DeviceView.{DeviceView, IsSettledView}
use Rattle.pm_trait.specs.Unfolds.{MayFence, Step, Fenced, Takes, events_in}
use Rattle.fence_token.specs.declared.states.Clean.{Clean}
use Rattle.volume.specs.Volume.{VolumeView}
use Rattle.volume.specs.Costs.{count_of, pages_removed}
use Rattle.volume.specs.Stages.{HasKept}
use Rattle.volume.specs.declared.next.Next.{Next}
use Rattle.volume.specs.declared.next.Next.TheVariants.{More, Ended}
use Rattle.volume.specs.declared.plan.NewEntry.{NewEntry}
use Rattle.volume.specs.declared.plan.NewName.{NewName}
use Rattle.volume.specs.declared.plan.Removal.{Removal}
use Rattle.volume.specs.declared.plan.Resizing.{Resizing}
use Rattle.entry_steps.specs.declared.place.NamePlace.{NamePlace}
use Rattle.entry_steps.specs.declared.place.NamePlace.TheVariants.{Slot, Page}
use Rattle.entry_steps.specs.Waiting.{left_of_place, step_of_place}
use Rattle.removal_steps.specs.Steps.{count_cut, gone_pages as pages_that_go}
use Rattle.create_ops.specs.Stages as making
use Rattle.create_ops.specs.declared.run.Stage.{Stage as MakeStage}
use Rattle.create_ops.specs.declared.run.Stage.TheVariants as make
use Rattle.unlink_ops.specs.LinkStages as naming
use Rattle.unlink_ops.specs.declared.link.Stage.{Stage as NameStage}
use Rattle.unlink_ops.specs.declared.link.Stage.TheVariants as name
use Rattle.unlink_ops.specs.RemovalStages as removing
use Rattle.unlink_ops.specs.declared.removal.Stage.{Stage as RemoveStage}
use Rattle.unlink_ops.specs.declared.removal.Stage.TheVariants as remove
use Rattle.rename_ptr.specs.Stages as moving
use Rattle.rename_ptr.specs.declared.rename.Stage.{Stage as MoveStage}
use Rattle.rename_ptr.specs.declared.rename.Stage.TheVariants as move
use Rattle.rename_ptr.proofs.Ahead as ahead
use Rattle.rename_ptr.proofs.Stepping
use Rattle.data_ops.specs.Cutting.{gone_pages}
use Rattle.data_ops.specs.GrowthStages.{IsGrowthAt, left_of_growth, step_of_growth}
use Rattle.data_ops.specs.declared.grow.Growth.{Growth}
use Rattle.data_ops.specs.declared.grow.Progress.{Progress}
use Rattle.data_ops.specs.declared.grow.Progress.TheVariants as grow
use Rattle.data_ops.specs.WriteStages as writing
use Rattle.data_ops.specs.declared.write.Stage.{Stage as WriteStage}
use Rattle.data_ops.specs.declared.write.Stage.TheVariants as write
use Rattle.data_ops.specs.ResizeStages as resizing
use Rattle.data_ops.specs.declared.truncate.CutProgress.{CutProgress}
use Rattle.data_ops.specs.declared.truncate.CutProgress.TheVariants as cut
use Rattle.data_ops.specs.declared.truncate.Stage.{Stage as ResizeStage}
use Rattle.data_ops.specs.declared.truncate.Stage.TheVariants as resize
use Rattle.volatile_index.specs.Index.{pages_of}

-- ---- the first of the steps that are left

fits_of : (step : Step) (later left : List Step) → left ≡ step ∷ later → step.stores ≡ true → step.events ≤ events_in left
fits_of step later left is stores =
    let all = ap events_in is in
    let first = ap (λ (b : Bool). if b then step.events else 0) stores in
    omega (arith, all, first)

fits : (step : Step) (left : List Step) → left ≡ step ∷ drop 1 left → step.stores ≡ true → step.events ≤ events_in left
fits step left is stores = fits_of step (drop 1 left) left is stores

-- and it may be made
may_fence : (volume : VolumeView) (device : DeviceView) (events left : ℕ) → length device.words ≡ 512 * volume.size → IsSettledView device → HasKept volume device left → device.fences < 2 ^ 63 → events ≤ left → MayFence device (512 * volume.size) events 1
may_fence volume device events left whole settled kept few within = record {
  whole = whole;
  settled = settled;
  room = let among = kept.among in let room = kept.room in omega (arith, among, room, within);
  countable = omega (arith, few);
}

some : (n : ℕ) → 0 < n → nat_lt 0 n ≡ true
some n more = elim (nat_lt 0 n) as (λ t. nat_lt 0 n ≡ t → t ≡ true) [ true ↦ λ is. refl | false ↦ λ is. (let most = ltb-false 0 n is in absurd (omega (arith, most, more))) ] refl

or_true : (b : Bool) → b || true ≡ true
or_true true = refl
or_true false = refl

place_fits : (P directory slot inode : ℕ) (place : NamePlace Clean) → (step_of_place P directory slot inode place).events ≤ events_in (left_of_place P directory slot inode place)
place_fits P directory slot inode (Slot dentry) = fits (step_of_place P directory slot inode (Slot dentry)) (left_of_place P directory slot inode (Slot dentry)) refl refl
place_fits P directory slot inode (Page page) = fits (step_of_place P directory slot inode (Page page)) (left_of_place P directory slot inode (Page page)) refl refl

make_fits : (P : ℕ) (entry : NewEntry) (stage : MakeStage) → (making.step_at P entry stage).events ≤ events_in (making.left_at P entry stage)
make_fits P entry make.Begun = fits (making.step_at P entry make.Begun) (making.left_at P entry make.Begun) refl refl
make_fits P entry (make.Written node) = place_fits P entry.directory entry.slot entry.inode node.place
make_fits P entry (make.Claimed node) = fits (making.step_at P entry (make.Claimed node)) (making.left_at P entry (make.Claimed node)) refl refl

name_fits : (P : ℕ) (link : NewName) (stage : NameStage) → (naming.step_at P link stage).events ≤ events_in (naming.left_at P link stage)
name_fits P link name.Begun = fits (naming.step_at P link name.Begun) (naming.left_at P link name.Begun) refl refl
name_fits P link (name.Written file) = place_fits P link.directory link.slot link.inode file.place
name_fits P link (name.Claimed file) = fits (naming.step_at P link (name.Claimed file)) (naming.left_at P link (name.Claimed file)) refl refl

module _ (P : ℕ) (I : List ℕ) (removal : Removal) (pages : List ℕ) (count : length pages ≡ removal.loss.pages) where
  cut_is : count_cut pages removal.given_back ≡ pages_removed removal
  cut_is = ap (λ (n : ℕ). n + count_of removal.given_back) count

  remove_fits : (stage : RemoveStage) → removing.IsAt P I removal pages stage → (removing.step_at P removal pages stage).events ≤ events_in (removing.left_at P removal pages stage)
  remove_fits remove.Begun at = fits (removing.step_at P removal pages remove.Begun) (removing.left_at P removal pages remove.Begun) refl refl
  remove_fits remove.Unnamed at = fits (removing.step_at P removal pages remove.Unnamed) (removing.left_at P removal pages remove.Unnamed) refl refl
  remove_fits remove.Cleared at = fits (removing.step_at P removal pages remove.Cleared) (removing.left_at P removal pages remove.Cleared) refl (some (count_cut pages removal.given_back) (let more = at.some in omega (arith, more, cut_is)))
  remove_fits remove.Disowned at = fits (removing.step_at P removal pages remove.Disowned) (removing.left_at P removal pages remove.Disowned) refl (elim at.some [
    | inl more ↦ ap (λ (b : Bool). b || removal.loss.goes) (some (count_cut pages removal.given_back) (omega (arith, more, cut_is)))
    | inr goes ↦ ap (λ (b : Bool). nat_lt 0 (count_cut pages removal.given_back) || b) goes ∙ or_true (nat_lt 0 (count_cut pages removal.given_back))
  ])

growth_fits : (P : ℕ) (device : DeviceView) (growth : Growth) (bytes olds pages : List ℕ) (progress : Progress) → IsGrowthAt P device growth bytes olds pages progress
    → (step_of_growth P growth bytes pages progress).events ≤ events_in (left_of_growth P growth bytes pages progress)
growth_fits P device growth bytes olds pages grow.Begun at = fits (step_of_growth P growth bytes pages grow.Begun) (left_of_growth P growth bytes pages grow.Begun) refl refl
growth_fits P device growth bytes olds pages grow.Filled at = fits (step_of_growth P growth bytes pages grow.Filled) (left_of_growth P growth bytes pages grow.Filled) refl (some (length pages) at.some)
growth_fits P device growth bytes olds pages grow.Owned at = fits (step_of_growth P growth bytes pages grow.Owned) (left_of_growth P growth bytes pages grow.Owned) refl refl

write_fits : (volume : VolumeView) (device : DeviceView) (bytes : List ℕ) (stage : WriteStage) → writing.StandsStage volume device bytes stage → (writing.step_of volume.size bytes stage).events ≤ events_in (writing.left_of volume.size bytes stage)
write_fits volume device bytes write.Nothing stands = omega arith
write_fits volume device bytes (write.Inside given) stands = fits (writing.step_of volume.size bytes (write.Inside given)) (writing.left_of volume.size bytes (write.Inside given)) refl refl
write_fits volume device bytes (write.Growing given progress) stands = growth_fits volume.size device _ bytes _ given.new_pages progress stands.at.1

module _ (P : ℕ) (I : List ℕ) (given : Resizing) (pages : List ℕ) (enough : given.cut ≤ length pages) where
  long : length (gone_pages given pages) ≡ given.cut
  long = let all = length-drop (length pages - given.cut) pages in omega (arith, all, enough)

  some_gone : 0 < given.cut → nat_lt 0 (length (gone_pages given pages)) ≡ true
  some_gone more = some (length (gone_pages given pages)) (omega (arith, more, long))

  cut_fits : (progress : CutProgress) → resizing.IsCutAt P I given pages progress → (resizing.step_of_cut P given pages progress).events ≤ events_in (resizing.left_of_cut P given pages progress)
  cut_fits cut.Begun at = fits (resizing.step_of_cut P given pages cut.Begun) (resizing.left_of_cut P given pages cut.Begun) refl refl
  cut_fits cut.Lowered at = fits (resizing.step_of_cut P given pages cut.Lowered) (resizing.left_of_cut P given pages cut.Lowered) refl (some_gone at.0)
  cut_fits cut.Trimmed at = fits (resizing.step_of_cut P given pages cut.Trimmed) (resizing.left_of_cut P given pages cut.Trimmed) refl (some_gone at.0)

resize_fits : (volume : VolumeView) (device : DeviceView) (stage : ResizeStage) → resizing.StandsStage volume device stage → (resizing.step_of volume stage).events ≤ events_in (resizing.left_of volume stage)
resize_fits volume device resize.Nothing stands = omega arith
resize_fits volume device (resize.Growing given progress) stands = growth_fits volume.size device _ [] _ given.new_pages progress stands.at.1
resize_fits volume device (resize.Cutting given progress) stands = cut_fits volume.size device.words given (pages_of volume.index given.inode) stands.at.2.enough progress stands.at.1

move_fits : (volume : VolumeView) (device : DeviceView) (stage : MoveStage) → moving.StandsStage volume device stage → (moving.step_of volume stage).events ≤ events_in (moving.left_of volume stage)
move_fits volume device move.Nothing stands = omega arith
move_fits volume device (move.Moving given progress) stands =
    let has = Stepping.has_store volume device given progress stands in
    let pages = pages_that_go volume given.replaced in
    fits_of (moving.step_at volume.size given pages progress) (ahead.later volume.size given pages progress) _ (ahead.left_is volume.size given pages progress has)
    (ahead.stores volume.size given pages (Stepping.count_is volume device given progress stands) progress has)

-- ---- so each call may make its step

module _ (volume : VolumeView) (device : DeviceView) (settled : IsSettledView device) (few : device.fences < 2 ^ 63) where
  pub make_begins : (running : making.RunningView) → making.StandsStage volume device running → MayFence device (512 * volume.size) (making.step_of volume.size running).events 1
  make_begins running stands = may_fence volume device _ _ stands.whole settled stands.kept few (make_fits volume.size running.entry running.stage)

  pub name_begins : (running : naming.RunningView) → naming.StandsStage volume device running → MayFence device (512 * volume.size) (naming.step_of volume.size running).events 1
  name_begins running stands = may_fence volume device _ _ stands.whole settled stands.kept few (name_fits volume.size running.link running.stage)

  pub remove_begins : (running : removing.RunningView) → removing.StandsStage volume device running → MayFence device (512 * volume.size) (removing.step_of volume running).events 1
  remove_begins running stands =
      may_fence volume device _ _ stands.whole settled stands.kept few (remove_fits volume.size device.words running.removal (removing.pages_gone volume running.removal) stands.losses.count running.stage stands.words)

  pub move_begins : (running : MoveStage) → moving.StandsStage volume device running → MayFence device (512 * volume.size) (moving.step_of volume running).events 1
  move_begins running stands = may_fence volume device _ _ stands.whole settled stands.kept few (move_fits volume device running stands)

  pub write_begins : (bytes : List ℕ) (running : WriteStage) → writing.StandsStage volume device bytes running → MayFence device (512 * volume.size) (writing.step_of volume.size bytes running).events 1
  write_begins bytes running stands = may_fence volume device _ _ stands.whole settled stands.kept few (write_fits volume device bytes running stands)

  pub resize_begins : (running : ResizeStage) → resizing.StandsStage volume device running → MayFence device (512 * volume.size) (resizing.step_of volume running).events 1
  resize_begins running stands = may_fence volume device _ _ stands.whole settled stands.kept few (resize_fits volume device running stands)

-- ---- and leaves the device settled

settles : (T E : Type 0) (stores : Bool) (events : ℕ) (old new : DeviceView) (value : T) → Fenced {E = E} stores events old new (Ok value) → IsSettledView old → IsSettledView new
settles T E true events old new value one settled = one.fenced.settled
settles T E false events old new value none settled = subst IsSettledView (sym none.0) settled

pub is_settled : {T E : Type 0} {step : Step} {old new : DeviceView} {value : T} → Takes {E = E} step old new (Ok value) → IsSettledView old → IsSettledView new
is_settled {T} {E} {step} {old} {new} {value} takes settled = settles T E step.stores step.events old new value takes.fenced settled
