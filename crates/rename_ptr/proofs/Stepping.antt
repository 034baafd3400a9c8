-- A step of a move was made and taken in: what its volume keeps, and that the next stage stands on the volume and the device behind it.
use Rattle.std.proofs.Common.{◌≡◌, inl, inr, ℕ, ◌+◌, ◌-◌, ◌*◌, ◌≤◌, Bool, true, false, if◌then◌else◌, List, [], length, refl, sym, ap, subst, ◌∙◌}
use Rattle.std.specs.Prelude.{Some, Result, Ok, Err, OnOk, IsErr}
use Rattle.pm_trait.specs.DeviceView.{DeviceView, StoresAndFences}
use Rattle.pm_trait.specs.Unfolds.{Fenced, MayFence, Step, Takes, events_in}
use Rattle.pm_trait.proofs.Unfolding.{failed}
use Rattle.volatile_index.specs.Index.{inodes_of_index}
use Rattle.volume.specs.Volume.{VolumeView}
use Rattle.volume.specs.Costs.{pages_of_loss}
use Rattle.volume.specs.Stages.{Advances, HasKept}
use Rattle.volume.specs.declared.plan.Loss.{Loss}
use Rattle.volume.specs.declared.plan.Moving.{Moving}
use Rattle.volume.proofs.Moments.{with_kept, IsSameBeside}
use Rattle.entry_steps.proofs.Keeping.{kept_enough, kept_on}
use Rattle.removal_steps.specs.Steps.{gone_pages}
use Rattle.rename_ptr.specs.Stages.{IsAt, HasStore, MayLose, StandsStage, StandsNext, EntersMoving, step_at, left_at, next_moving}
use Rattle.rename_ptr.specs.Counts.{events_at}
use Rattle.rename_ptr.specs.declared.rename.Progress.{Progress}
use Rattle.rename_ptr.specs.declared.rename.Stage.TheVariants.{Moving as Moves}
use Rattle.rename_ptr.proofs.Ahead.{IsNextOf, later, left_is, stores, events_are, next_cases}
use Rattle.rename_ptr.proofs.Known.{enters_beside, knows_kept}

stored_so : {T E : Type 0} {a b : DeviceView} {result : Result T E} (stores : Bool) (events : ℕ) → stores ≡ true → Fenced stores events a b result → StoresAndFences a b events result
stored_so {a = a} {b = b} {result = result} stores events is fenced = subst (λ (t : Bool). Fenced t events a b result) is fenced

-- a step whose fence failed, whatever the call would have given
pub failed_as : {T E U F : Type 0} {step : Step} {a b : DeviceView} {fault : E} (result : Result U F) → IsErr result → Takes {T = T} step a b (Err fault) → Takes step a b result
failed_as (Ok value) is takes = absurd (let none : false ≡ true = is in cc)
failed_as {T = T} {U = U} (Err other) is takes =
    elim (failed {T = U} {U = T} {later = []} (Err other) refl takes).in_turn [
      | inl (same, err) ↦ same
      | inr (between, made, rest) ↦ absurd (let none : false ≡ true = rest.1 in cc)
    ]

module _ (old : VolumeView) (before : DeviceView) (moving : Moving) (progress : Progress) (stands : StandsStage old before (Moves moving progress)) where
  abbrev P : ℕ
  P = old.size

  abbrev pages : List ℕ
  pages = gone_pages old moving.replaced

  abbrev step : Step
  step = step_at P moving pages progress

  pub has_store : HasStore moving progress
  has_store = stands.at.0.store

  pub count_is : length pages ≡ pages_of_loss moving.replaced
  count_is = stands.at.1.losses.count

  pub events_told : events_at moving progress ≡ step.events
  events_told = events_are P moving pages count_is progress has_store

  -- a node that is replaced is in the index
  pub loss_in_index : (loss : Loss) → moving.replaced ≡ Some loss → (1 ≤ loss.inode) × (loss.inode ≤ inodes_of_index old.index)
  loss_in_index loss is = let may : MayLose old moving (Some loss) = subst (MayLose old moving) is stands.at.1.losses.inode in (may.0, may.1)

  -- by the size and the pages that the call has
  module _ {Q : ℕ} {all : List ℕ} (size : Q ≡ P) (same : all ≡ pages) where
    pub at_as : IsAt Q before.words moving all progress
    at_as = subst (λ (l : List ℕ). IsAt Q before.words moving l progress) (sym same) (subst (λ (p : ℕ). IsAt p before.words moving pages progress) (sym size) stands.at.0)

    pub fence_as : MayFence before (512 * P) step.events 1 → MayFence before (512 * Q) (step_at Q moving all progress).events 1
    fence_as begins =
        subst (λ (l : List ℕ). MayFence before (512 * Q) (step_at Q moving l progress).events 1) (sym same)
        (subst (λ (p : ℕ). MayFence before (512 * p) (step_at p moving pages progress).events 1) (sym size) begins)

    pub takes_as : {T E : Type 0} {after : DeviceView} {result : Result T E} → Takes (step_at Q moving all progress) before after result → Takes step before after result
    takes_as {after = after} {result = result} takes =
        subst (λ (p : ℕ). Takes (step_at p moving pages progress) before after result) size (subst (λ (l : List ℕ). Takes (step_at Q moving l progress) before after result) same takes)

  -- the events of the steps that are left
  pub events_split : events_in (left_at P moving pages progress) ≡ step.events + events_in (later P moving pages progress)
  events_split =
      ap events_in (left_is P moving pages progress has_store)
      ∙ ap (λ (t : Bool). (if t then step.events else 0) + events_in (later P moving pages progress)) (stores P moving pages count_is progress has_store)

  kept_at : HasKept old before (step.events + events_in (later P moving pages progress))
  kept_at = subst (HasKept old before) events_split stands.kept

  pub among_kept : step.events ≤ old.kept
  among_kept = kept_enough step.events (events_in (later P moving pages progress)) kept_at

  -- it was settled, and its events are kept no more
  pub settled : {T E : Type 0} {result : Result T E} {value : T} (events : ℕ) (new : VolumeView) → result ≡ Ok value → events ≡ events_at moving progress → Advances events (λ old new. new ≡ old) old new result
      → new ≡ with_kept (old.kept - step.events) old
  settled events new is told advances =
      subst (λ (n : ℕ). new ≡ with_kept (old.kept - n) old) (told ∙ events_told) (subst (λ (r : Result _ _). OnOk r (new ≡ with_kept (old.kept - events) old)) is advances.made)

  module _ {T E : Type 0} {value : T} (new : VolumeView) (after : DeviceView) (takes : Takes {E = E} step before after (Ok value)) (enters : EntersMoving moving progress (with_kept (old.kept - step.events) old) new) where
    pub beside : IsSameBeside (with_kept (old.kept - step.events) old) new
    beside = enters_beside (with_kept (old.kept - step.events) old) new moving progress enters

    fenced : StoresAndFences {E = E} before after step.events (Ok value)
    fenced = stored_so step.stores step.events (stores P moving pages count_is progress has_store) takes.fenced

    module _ (next : Progress) (is : IsNextOf P moving pages progress next) where
      words_at : IsAt P after.words moving pages next
      words_at = record {
        first = stands.at.0.first;
        planned = stands.at.0.planned;
        pages_are = stands.at.0.pages_are;
        made = is.made stands.at.0.first before.words after.words stands.at.0.made takes.makes;
        store = is.store;
      }

      gone_same : gone_pages new moving.replaced ≡ pages
      gone_same = is.gone (with_kept (old.kept - step.events) old) new enters

      kept_next : HasKept new after (events_in (left_at P moving pages next))
      kept_next = kept_on step.events (events_in (left_at P moving pages next)) (subst (λ (n : ℕ). HasKept old before (step.events + n)) is.events kept_at) beside.kept fenced.room

      stands_next : StandsStage new after (Moves moving next)
      stands_next = record {
        going = beside.stopped ∙ stands.going;
        whole = fenced.long ∙ stands.whole ∙ ap (λ (p : ℕ). 512 * p) (sym beside.size);
        at = (
          subst (λ (p : ℕ). IsAt p after.words moving (gone_pages new moving.replaced) next) (sym beside.size)
              (subst (λ (l : List ℕ). IsAt P after.words moving l next) (sym gone_same) words_at),
          is.knows (with_kept (old.kept - step.events) old) new (knows_kept old (old.kept - step.events) moving progress stands.at.1) enters,
        );
        kept = subst (λ (p : ℕ). HasKept new after (events_in (left_at p moving (gone_pages new moving.replaced) next))) (sym beside.size)
            (subst (λ (l : List ℕ). HasKept new after (events_in (left_at P moving l next))) (sym gone_same) kept_next);
      }

    pub stage_next : StandsNext new after (next_moving moving progress)
    stage_next = next_cases P moving pages (λ next. StandsNext new after next) progress has_store count_is (λ next is. stands_next next is) (λ is. tt)
