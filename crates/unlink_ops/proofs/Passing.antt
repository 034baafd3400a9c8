-- A removal from one step to the next: what stands of its volume and its device then.
use Rattle.std.proofs.Common.{◌≡◌, inl, inr, ℕ, ◌+◌, ◌-◌, ◌*◌, Bool, true, false, cond, List, [], ◌∷◌, length, Contains, Option, Some, None, refl, sym, ap, subst, ◌∙◌, arith}
use Rattle.std.specs.Prelude.{nat_lt, ◌||◌, if◌then◌else◌, Result, Ok}
use Rattle.std.proofs.lemmas.Bool.{cases_eq, ltb-true, ltb-false, lt-ltb, le-ltb}
use Rattle.pm_trait.specs.DeviceView.{DeviceView, StoresAndFences}
use Rattle.pm_trait.specs.Unfolds.{Fenced, Step, Takes, step_events, events_in}
use Rattle.image_laws.specs.Drop.{GivesPages}
use Rattle.tree_model.specs.declared.reply.Reply.TheVariants.{Done}
use Rattle.volume.specs.declared.next.Next.TheVariants.{Ended}
use Rattle.volatile_index.specs.Index.{NodeView, pages_of}
use Rattle.volume.specs.Costs.{pages_removed, count_of, commit_events, clearing_events}
use Rattle.volume.specs.Entered.{LeavesName, LeavesPageOf, MayGo}
use Rattle.volume.specs.Stages.{HasKept}
use Rattle.volume.specs.Volume.{VolumeView}
use Rattle.volume.specs.declared.plan.Removal.{Removal}
use Rattle.volume.proofs.MayStill.{may_give_alike, may_go_alike, may_give_left, may_go_left, may_go_given}
use Rattle.volume.proofs.Moments.{with_kept, removal_beside}
use Rattle.entry_steps.proofs.Keeping.{kept_on}
use Rattle.removal_steps.specs.Steps.{IsCut, CanDisown, count_cut, giving}
use Rattle.unlink_ops.specs.declared.removal.Stage.{Stage}
use Rattle.unlink_ops.specs.declared.removal.Stage.TheVariants.{Begun, Unnamed, Cleared, Disowned}
use Rattle.unlink_ops.specs.RemovalStages.{IsGoingBut, IsAt, HasName, HasLosses, StandsStage, StandsNext, EntersAtStage, pages_gone, left_at, step_at, next_of, at_stage}
use Rattle.unlink_ops.proofs.Staged

-- ---- what is given back stays in the volume

module _ (volume : VolumeView) (removal : Removal) (losses : HasLosses volume removal) where
  pub losses_kept : (k : ℕ) → HasLosses (with_kept k volume) removal
  losses_kept k = record {
    node = losses.node;
    directory = losses.directory;
    count = losses.count;
    few = losses.few;
    page = may_give_alike volume (with_kept k volume) refl (λ page taken. taken) removal.directory removal.given_back losses.page;
    inode = λ goes. may_go_alike volume (with_kept k volume) refl (λ page taken. taken) removal.loss.inode (λ taken. taken) (losses.inode goes);
    apart = losses.apart;
  }

  module _ (new : VolumeView) (directory : ℕ) (name : List ℕ) (leaves : LeavesName volume new directory name) where
    pages_left : (inode : ℕ) → pages_of new.index inode ≡ pages_of volume.index inode
    pages_left inode = elim (cases_eq inode directory) [
      | inl same ↦ subst (λ (d : ℕ). pages_of new.index d ≡ pages_of volume.index d) (sym same) leaves.index.node.pages
      | inr other ↦ ap (λ (node : NodeView). node.pages) (leaves.index.elsewhere.others inode other)
    ]

    pub gone_left : pages_gone new removal ≡ pages_gone volume removal
    gone_left = ap (λ (pages : List ℕ). cond removal.loss.goes pages []) (pages_left removal.loss.inode)

    pub losses_left : HasLosses new removal
    losses_left =
        let inodes = leaves.index.elsewhere.inodes in
        record {
          node = (losses.node.0, (let most = losses.node.1 in omega (arith, most, inodes)));
          directory = (losses.directory.0, (let most = losses.directory.1 in omega (arith, most, inodes)));
          count = ap length gone_left ∙ losses.count;
          few = losses.few;
          page = may_give_left volume new directory name leaves removal.directory removal.given_back losses.page;
          inode = λ goes. may_go_left volume new directory name leaves removal.loss.inode (losses.inode goes);
          apart = λ goes. let (other, pages) = losses.apart goes in (other, (λ page is there. pages page is (subst (λ (l : List ℕ). Contains l page) gone_left there)));
        }

-- the pages that go are all of a node's that goes
pub all_gone : (volume : VolumeView) (removal : Removal) → removal.loss.goes ≡ true → pages_gone volume removal ≡ pages_of volume.index removal.loss.inode
all_gone volume removal goes = ap (λ (b : Bool). cond b (pages_of volume.index removal.loss.inode) []) goes

-- it may go once the page is given back
pub goes_given : (volume given : VolumeView) (removal : Removal) → HasLosses volume removal → LeavesPageOf volume given removal.directory removal.given_back → removal.loss.goes ≡ true → MayGo given removal.loss.inode
goes_given volume given removal losses page goes =
    let (other, pages) = losses.apart goes in
    may_go_given volume given removal.directory removal.loss.inode other removal.given_back page
    (λ page is there. pages page is (subst (λ (l : List ℕ). Contains l page) (sym (all_gone volume removal goes)) there)) (losses.inode goes)

-- ---- the steps

-- as many pages lose their owner as the plan says
pub as_planned : (volume : VolumeView) (removal : Removal) → HasLosses volume removal → count_cut (pages_gone volume removal) removal.given_back ≡ pages_removed removal
as_planned volume removal losses = ap (λ (n : ℕ). n + count_of removal.given_back) losses.count

pub none_cut : (pages : List ℕ) (given : Option ℕ) → count_cut pages given ≡ 0 → (page : ℕ) → IsCut pages given page → ⊥
none_cut [] None none page (inl there) = let inside = there.1 in omega (arith, inside)
none_cut [] None none page (inr is) = absurd cc
none_cut [] (Some given) none page cut = omega (arith, none)
none_cut (first ∷ pages) given none page cut = omega (arith, none)

-- where there is no page nothing changes
pub gives_none : (P : ℕ) (I pages : List ℕ) (given : Option ℕ) → count_cut pages given ≡ 0 → GivesPages P I I (IsCut pages given)
gives_none P I pages given none = record { size = refl; owners = λ page cut. absurd (none_cut pages given none page cut); others = λ a out. refl }

pub no_events : (step : Step) → step.stores ≡ false → step_events step ≡ 0
no_events step none = ap (λ (t : Bool). if t then step.events else 0) none

pub falls_away : (none later : ℕ) → none ≡ 0 → none + later ≡ later
falls_away none later is = omega (arith, is)

pub own_events : (step : Step) → step.stores ≡ true → step_events step ≡ step.events
own_events step some = ap (λ (t : Bool). if t then step.events else 0) some

pub with_fence : {T E : Type 0} {stores : Bool} {events : ℕ} {old new : DeviceView} {result : Result T E} → stores ≡ true → Fenced stores events old new result → StoresAndFences old new events result
with_fence {events = events} {old = old} {new = new} {result = result} is fenced = subst (λ (t : Bool). Fenced t events old new result) is fenced

-- the step that comes next has a store
pub some_store : (volume : VolumeView) (device : DeviceView) (removal : Removal) (stage : Stage) → StandsStage volume device (record { removal = removal; stage = stage })
    → (step_at volume.size removal (pages_gone volume removal) stage).stores ≡ true
some_store volume device removal Begun stands = refl
some_store volume device removal Unnamed stands = refl
some_store volume device removal Cleared stands = let some = stands.words.some in let same = as_planned volume removal stands.losses in lt-ltb 0 (count_cut (pages_gone volume removal) removal.given_back) (omega (arith, some, same))
some_store volume device removal Disowned stands =
    let same = as_planned volume removal stands.losses in
    let n = count_cut (pages_gone volume removal) removal.given_back in
    elim stands.words.some [
      | inl some ↦ ap (λ (t : Bool). t || removal.loss.goes) (lt-ltb 0 n (omega (arith, some, same)))
      | inr goes ↦ some_goes (nat_lt 0 n) removal.loss.goes goes
    ]
  where
    some_goes : (one other : Bool) → other ≡ true → (one || other) ≡ true
    some_goes true other is = refl
    some_goes false other is = is

-- ---- the stage

module _ (volume new : VolumeView) (device after : DeviceView) (removal : Removal) where
  abbrev P : ℕ
  P = volume.size

  abbrev pages : List ℕ
  pages = pages_gone volume removal

  -- a stage, by the volume's size and the pages that go as they were
  stands_as : (stage : Stage) → new.size ≡ P → pages_gone new removal ≡ pages → new.stopped ≡ false → length after.words ≡ 512 * P → IsAt P after.words removal pages stage → HasKept new after (events_in (left_at P removal pages stage))
      → HasName new removal stage → HasLosses new removal → StandsStage new after (record { removal = removal; stage = stage })
  stands_as stage size gone going whole words kept name losses = record {
    going = going;
    whole = whole ∙ ap (λ (p : ℕ). 512 * p) (sym size);
    words = subst (λ (p : ℕ). IsAt p after.words removal (pages_gone new removal) stage) (sym size) (subst (λ (l : List ℕ). IsAt P after.words removal l stage) (sym gone) words);
    kept = subst (λ (p : ℕ). HasKept new after (events_in (left_at p removal (pages_gone new removal) stage))) (sym size) (subst (λ (l : List ℕ). HasKept new after (events_in (left_at P removal l stage))) (sym gone) kept);
    name = name;
    losses = losses;
  }

  -- the name is out
  pub unnamed_stands : {T E : Type 0} {value : T} → StandsStage volume device (record { removal = removal; stage = Begun }) → Takes {E = E} (step_at P removal pages Begun) device after (Ok value) → LeavesName (with_kept (volume.kept - commit_events) volume) new removal.directory removal.name
      → StandsStage new after (record { removal = removal; stage = Unnamed })
  unnamed_stands stands takes leaves =
      let paid = with_kept (volume.kept - commit_events) volume in
      let beside = removal_beside paid new removal.directory removal.name leaves in
      let losses = losses_kept volume removal stands.losses (volume.kept - commit_events) in
      stands_as Unnamed beside.size (gone_left paid removal losses new removal.directory removal.name leaves) (beside.stopped ∙ stands.going) (takes.fenced.long ∙ stands.whole)
      (Staged.unnamed P device.words after.words removal pages stands.whole stands.words takes.makes)
      (kept_on commit_events (events_in (left_at P removal pages Unnamed)) stands.kept beside.kept takes.fenced.room)
      tt
      (losses_left paid removal losses new removal.directory removal.name leaves)

  abbrev paid_clearing : VolumeView
  paid_clearing = with_kept (volume.kept - clearing_events 1) volume

  -- the slot is free: whichever step comes next
  pub cleared_stands : {T E : Type 0} {value : T} → StandsStage volume device (record { removal = removal; stage = Unnamed }) → Takes {E = E} (step_at P removal pages Unnamed) device after (Ok value) → StandsNext paid_clearing after (next_of removal Unnamed)
  cleared_stands stands takes =
      elim (nat_lt 0 (pages_removed removal)) as (λ t. nat_lt 0 (pages_removed removal) ≡ t → StandsNext paid_clearing after (if t then at_stage removal Cleared else (if removal.loss.goes then at_stage removal Disowned else Ended Done))) [
        | true ↦ λ some. record {
          going = stands.going;
          whole = whole;
          words = record { some = ltb-true 0 (pages_removed removal) some; disown = disown; going = going };
          kept = kept;
          name = tt;
          losses = losses;
        }
        | false ↦ λ none. by_goes none removal.loss.goes refl
      ] refl
    where
      whole : length after.words ≡ 512 * P
      whole = takes.fenced.long ∙ stands.whole

      disown : CanDisown P after.words (Some removal.loss) pages removal.given_back
      disown = Staged.can_disown P device.words after.words removal pages stands.words takes.makes

      going : removal.loss.goes ≡ true → IsGoingBut P after.words removal pages (λ slot. ⊥)
      going = Staged.still_going P device.words after.words removal pages stands.words takes.makes

      losses : HasLosses paid_clearing removal
      losses = losses_kept volume removal stands.losses (volume.kept - clearing_events 1)

      kept : HasKept paid_clearing after (events_in (left_at P removal pages Cleared))
      kept = kept_on (clearing_events 1) (events_in (left_at P removal pages Cleared)) stands.kept refl takes.fenced.room

      no_page : nat_lt 0 (pages_removed removal) ≡ false → count_cut pages removal.given_back ≡ 0
      no_page none = let same = as_planned volume removal stands.losses in let few = ltb-false 0 (pages_removed removal) none in omega (arith, same, few)

      freed : nat_lt 0 (pages_removed removal) ≡ false → removal.loss.goes ≡ true → StandsStage paid_clearing after (record { removal = removal; stage = Disowned })
      freed none goes =
          let no = no_page none in
          record {
            going = stands.going;
            whole = whole;
            words = record { some = inr goes; rest = Staged.can_clear_rest P after.words after.words removal pages disown going (gives_none P after.words pages removal.given_back no) };
            kept = subst (HasKept paid_clearing after) (falls_away _ _ (no_events (giving P pages removal.given_back) (le-ltb 0 (count_cut pages removal.given_back) (omega (arith, no))))) kept;
            name = tt;
            losses = losses;
          }

      by_goes : nat_lt 0 (pages_removed removal) ≡ false → (goes : Bool) → removal.loss.goes ≡ goes → StandsNext paid_clearing after (if goes then at_stage removal Disowned else Ended Done)
      by_goes none true goes = freed none goes
      by_goes none false stays = tt

  -- the pages have no owner
  pub disowned_stands : {T E : Type 0} {value : T} → StandsStage volume device (record { removal = removal; stage = Cleared }) → Takes {E = E} (step_at P removal pages Cleared) device after (Ok value)
      → StandsStage (with_kept (volume.kept - (giving P pages removal.given_back).events) volume) after (record { removal = removal; stage = Disowned })
  disowned_stands stands takes =
      let step = giving P pages removal.given_back in
      let some = some_store volume device removal Cleared stands in
      let fenced = with_fence some takes.fenced in
      record {
        going = stands.going;
        whole = fenced.long ∙ stands.whole;
        words = record { some = inl stands.words.some; rest = Staged.can_clear_rest P device.words after.words removal pages stands.words.disown stands.words.going takes.makes };
        kept = kept_on step.events (events_in (left_at P removal pages Disowned)) (subst (λ (n : ℕ). HasKept volume device (n + events_in (left_at P removal pages Disowned))) (own_events step some) stands.kept) refl fenced.room;
        name = tt;
        losses = losses_kept volume removal stands.losses (volume.kept - step.events);
      }

  -- whatever the step was
  pub stands_next : {T E : Type 0} {value : T} (stage : Stage) → StandsStage volume device (record { removal = removal; stage = stage }) → Takes {E = E} (step_at P removal pages stage) device after (Ok value)
      → EntersAtStage removal stage (with_kept (volume.kept - (step_at P removal pages stage).events) volume) new → StandsNext new after (next_of removal stage)
  stands_next Begun stands takes enters = unnamed_stands stands takes enters
  stands_next Unnamed stands takes enters = subst (λ (v : VolumeView). StandsNext v after (next_of removal Unnamed)) (sym enters) (cleared_stands stands takes)
  stands_next Cleared stands takes enters = subst (λ (v : VolumeView). StandsNext v after (next_of removal Cleared)) (sym enters) (disowned_stands stands takes)
  stands_next Disowned stands takes enters = tt
