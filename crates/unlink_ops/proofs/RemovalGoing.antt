-- A removal from its begin to its end: the steps that are left, and what the volume is by now.
use Rattle.std.proofs.Common.{◌≡◌, ℕ, ◌+◌, ◌-◌, ◌*◌, ◌<◌, Bool, true, false, List, [], ◌∷◌, Option, Some, None, refl, sym, ap, subst, ◌∙◌, arith}
use Rattle.std.specs.Prelude.{nat_lt, ◌||◌, if◌then◌else◌, Result, Ok, Err, IsErr}
use Rattle.std.proofs.lemmas.Bool.{ltb-false, le-ltb, false≢true}
use Rattle.pm_trait.specs.declared.event.PmFault.{PmFault}
use Rattle.pm_trait.specs.DeviceView.{DeviceView}
use Rattle.pm_trait.specs.Unfolds.{MayFence, Step, step_events, Takes, Unfolds, events_in}
use Rattle.pm_trait.proofs.Unfolding as joining
use Rattle.pm_trait.proofs.Unfolding.{unfolds_failed_as}
use Rattle.pm_trait.proofs.Onward.{IsOnward, starts, one_more, skips, fails, ends}
use Rattle.image_laws.specs.Drop.{ClearsRest}
use Rattle.tree_model.specs.declared.reply.Reply.{Reply}
use Rattle.tree_model.specs.declared.reply.Reply.TheVariants.{Done}
use Rattle.volume.specs.Costs.{pages_removed, count_of, events_of}
use Rattle.volume.specs.Entered.{LeavesName, LeavesPageOf, LeavesInodeIf, HasDone}
use Rattle.volume.specs.Stages.{keeping}
use Rattle.volume.specs.Volume.{VolumeView}
use Rattle.volume.specs.declared.next.Next.{Next}
use Rattle.volume.specs.declared.next.Next.TheVariants.{More, Ended}
use Rattle.volume.specs.declared.plan.Removal.{Removal}
use Rattle.volume.specs.declared.plan.Action.TheVariants.{Remove}
use Rattle.volume.proofs.Moments.{IsSameBeside, with_kept, kept_already, removal_beside, page_beside, node_beside, has_removed}
use Rattle.removal_steps.specs.Steps.{IsCut, count_cut, giving, freeing}
use Rattle.unlink_ops.specs.declared.removal.Stage.{Stage}
use Rattle.unlink_ops.specs.declared.removal.Stage.TheVariants.{Begun, Unnamed, Cleared, Disowned}
use Rattle.unlink_ops.specs.RemovalStages.{RunningView, StandsStage, StandsNext, EntersAtStage, pages_gone, left_at, step_at, begun, next_of, at_stage}
use Rattle.unlink_ops.specs.Taking.{steps_of}
use Rattle.unlink_ops.proofs.Passing.{gone_left, losses_kept, as_planned, none_cut, gives_none, no_events, own_events, falls_away, some_store}

-- ---- the steps that are left

abbrev pub left_next : ℕ → List ℕ → Next RunningView → List Step
left_next P pages (More running) = left_at P running.removal pages running.stage
left_next P pages (Ended reply) = []

-- how many stages may follow this one
abbrev pub rank_of : Stage → ℕ
rank_of Begun = 3
rank_of Unnamed = 2
rank_of Cleared = 1
rank_of Disowned = 0

abbrev pub rank : Next RunningView → ℕ
rank (More running) = rank_of running.stage + 1
rank (Ended reply) = 0

fewer_cleared : (removal : Removal) (gives goes : Bool) → rank (if gives then at_stage removal Cleared else (if goes then at_stage removal Disowned else Ended Done)) < 3
fewer_cleared removal true goes = omega arith
fewer_cleared removal false true = omega arith
fewer_cleared removal false false = omega arith

-- a step brings it nearer to its end
fewer_at : (removal : Removal) (stage : Stage) → rank (next_of removal stage) < rank_of stage + 1
fewer_at removal Begun = omega arith
fewer_at removal Unnamed = fewer_cleared removal (nat_lt 0 (pages_removed removal)) removal.loss.goes
fewer_at removal Cleared = omega arith
fewer_at removal Disowned = omega arith

pub fewer : (removal : Removal) (stage : Stage) (next : Next RunningView) → next ≡ next_of removal stage → rank next < rank_of stage + 1
fewer removal stage next is = subst (λ (n : Next RunningView). rank n < rank_of stage + 1) (sym is) (fewer_at removal stage)

module _ (P : ℕ) (removal : Removal) (pages : List ℕ) where
  -- those behind the next one
  abbrev rest_at : Stage → List Step
  rest_at Begun = left_at P removal pages Unnamed
  rest_at Unnamed = left_at P removal pages Cleared
  rest_at Cleared = left_at P removal pages Disowned
  rest_at Disowned = []

  left_is : (stage : Stage) → left_at P removal pages stage ≡ step_at P removal pages stage ∷ rest_at stage
  left_is Begun = refl
  left_is Unnamed = refl
  left_is Cleared = refl
  left_is Disowned = refl

  abbrev gives : Step
  gives = giving P pages removal.given_back

  abbrev frees : Step
  frees = freeing P pages removal.given_back removal.loss.goes removal.loss.inode

  module _ (planned : count_cut pages removal.given_back ≡ pages_removed removal) where
    module _ (none : nat_lt 0 (pages_removed removal) ≡ false) where
      no_page : count_cut pages removal.given_back ≡ 0
      no_page = let few = ltb-false 0 (pages_removed removal) none in omega (arith, planned, few)

      gives_not : gives.stores ≡ false
      gives_not = le-ltb 0 (count_cut pages removal.given_back) (omega (arith, no_page))

      frees_not : removal.loss.goes ≡ false → frees.stores ≡ false
      frees_not stays = ap (λ (t : Bool). t || removal.loss.goes) gives_not ∙ stays

      frees_none : (I : List ℕ) → removal.loss.goes ≡ false → ClearsRest P I I (IsCut pages removal.given_back) (removal.loss.goes ≡ true) removal.loss.inode
      frees_none I stays = record {
        size = refl;
        rests = λ j f cut some few. absurd (none_cut pages removal.given_back no_page j cut);
        inode = λ goes f few. absurd (false≢true (sym stays ∙ goes));
        others = λ a out kept. refl;
      }

    -- steps without a store fall away
    module _ (words : ℕ) (steps : List Step) (before device : DeviceView) where
      over_cleared : IsOnward words steps before (rest_at Unnamed) device → IsOnward words steps before (left_next P pages (next_of removal Unnamed)) device
      over_cleared onward =
          elim (nat_lt 0 (pages_removed removal)) as (λ t. nat_lt 0 (pages_removed removal) ≡ t → IsOnward words steps before (left_next P pages (if t then at_stage removal Cleared else (if removal.loss.goes then at_stage removal Disowned else Ended Done))) device) [
            | true ↦ λ some. onward
            | false ↦ λ none. over_given none removal.loss.goes refl
          ] refl
        where
          given : nat_lt 0 (pages_removed removal) ≡ false → IsOnward words steps before (frees ∷ []) device
          given none = skips words steps before gives (frees ∷ []) device (gives_not none) (gives_none P device.words pages removal.given_back (no_page none)) onward

          over_given : nat_lt 0 (pages_removed removal) ≡ false → (goes : Bool) → removal.loss.goes ≡ goes → IsOnward words steps before (left_next P pages (if goes then at_stage removal Disowned else Ended Done)) device
          over_given none true is = given none
          over_given none false is = skips words steps before frees [] device (frees_not none is) (frees_none none device.words is) (given none)

      pub onward_next : (stage : Stage) → IsOnward words steps before (rest_at stage) device → IsOnward words steps before (left_next P pages (next_of removal stage)) device
      onward_next Begun onward = onward
      onward_next Unnamed onward = over_cleared onward
      onward_next Cleared onward = onward
      onward_next Disowned onward = onward

    -- and have no events
    events_cleared : events_in (left_next P pages (next_of removal Unnamed)) ≡ events_in (rest_at Unnamed)
    events_cleared =
        elim (nat_lt 0 (pages_removed removal)) as (λ t. nat_lt 0 (pages_removed removal) ≡ t → events_in (left_next P pages (if t then at_stage removal Cleared else (if removal.loss.goes then at_stage removal Disowned else Ended Done))) ≡ events_in (rest_at Unnamed)) [
          | true ↦ λ some. refl
          | false ↦ λ none. events_given none removal.loss.goes refl
        ] refl
      where
        given : nat_lt 0 (pages_removed removal) ≡ false → events_in (frees ∷ []) ≡ events_in (rest_at Unnamed)
        given none = sym (falls_away (step_events gives) (events_in (frees ∷ [])) (no_events gives (gives_not none)))

        events_given : nat_lt 0 (pages_removed removal) ≡ false → (goes : Bool) → removal.loss.goes ≡ goes → events_in (left_next P pages (if goes then at_stage removal Disowned else Ended Done)) ≡ events_in (rest_at Unnamed)
        events_given none true is = given none
        events_given none false is = sym (falls_away (step_events frees) 0 (no_events frees (frees_not none is))) ∙ given none

    pub events_next : (stage : Stage) → events_in (left_next P pages (next_of removal stage)) ≡ events_in (rest_at stage)
    events_next Begun = refl
    events_next Unnamed = events_cleared
    events_next Cleared = refl
    events_next Disowned = refl

-- ---- what the volume is by now

-- its name is out
pub record HasNameOut (old now : VolumeView) (removal : Removal) : Type 0 where
  pub kept : ℕ
  pub out : VolumeView
  pub name : LeavesName (with_kept kept old) out removal.directory removal.name
  pub same : now ≡ with_kept now.kept out

-- and its numbers are given back
pub record HasAllOut (old now : VolumeView) (removal : Removal) : Type 0 where
  pub before : VolumeView
  pub named : HasNameOut old before removal
  pub kept : ℕ
  pub given : VolumeView
  pub page : LeavesPageOf (with_kept kept before) given removal.directory removal.given_back
  pub inode : LeavesInodeIf removal.loss.goes given now removal.loss.inode

abbrev HasComeTo : VolumeView → VolumeView → Removal → Stage → Type 0
HasComeTo old now removal Begun = now ≡ with_kept now.kept old
HasComeTo old now removal Unnamed = HasNameOut old now removal
HasComeTo old now removal Cleared = HasNameOut old now removal
HasComeTo old now removal Disowned = HasNameOut old now removal

abbrev HasCome : VolumeView → VolumeView → Removal → Next RunningView → Type 0
HasCome old now removal (More running) = (running.removal ≡ removal) × (pages_gone now removal ≡ pages_gone old removal) × HasComeTo old now removal running.stage
HasCome old now removal (Ended reply) = (reply ≡ Done) × HasAllOut old now removal

none_given : (given : Option ℕ) → count_of given ≡ 0 → given ≡ None
none_given None none = refl
none_given (Some page) none = absurd (omega (arith, none))

-- behind a step it has come further
module _ (old volume new : VolumeView) (removal : Removal) (k : ℕ) where
  out_still : HasNameOut old volume removal → new ≡ with_kept k volume → HasNameOut old new removal
  out_still out same = record {
    kept = out.kept;
    out = out.out;
    name = out.name;
    same = same ∙ ap (with_kept k) out.same ∙ ap (λ (n : ℕ). with_kept n out.out) (sym (ap (λ (v : VolumeView). v.kept) same));
  }

  gone_still : pages_gone volume removal ≡ pages_gone old removal → new ≡ with_kept k volume → pages_gone new removal ≡ pages_gone old removal
  gone_still gone same = ap (λ (v : VolumeView). pages_gone v removal) same ∙ gone

  -- where there is nothing to give back, all is out already
  all_out : HasNameOut old volume removal → new ≡ with_kept k volume → nat_lt 0 (pages_removed removal) ≡ false → removal.loss.goes ≡ false → HasAllOut old new removal
  all_out out same none stays =
      let few = ltb-false 0 (pages_removed removal) none in
      record {
        before = volume;
        named = out;
        kept = k;
        given = new;
        page = subst (LeavesPageOf (with_kept k volume) new removal.directory) (sym (none_given removal.given_back (omega (arith, few)))) same;
        inode = subst (λ (goes : Bool). LeavesInodeIf goes new new removal.loss.inode) (sym stays) refl;
      }

  come_cleared : HasNameOut old volume removal → pages_gone volume removal ≡ pages_gone old removal → new ≡ with_kept k volume → HasCome old new removal (next_of removal Unnamed)
  come_cleared out gone same =
      elim (nat_lt 0 (pages_removed removal)) as (λ t. nat_lt 0 (pages_removed removal) ≡ t → HasCome old new removal (if t then at_stage removal Cleared else (if removal.loss.goes then at_stage removal Disowned else Ended Done))) [
        | true ↦ λ some. (refl, gone_still gone same, out_still out same)
        | false ↦ λ none. by_goes none removal.loss.goes refl
      ] refl
    where
      by_goes : nat_lt 0 (pages_removed removal) ≡ false → (goes : Bool) → removal.loss.goes ≡ goes → HasCome old new removal (if goes then at_stage removal Disowned else Ended Done)
      by_goes none true is = (refl, gone_still gone same, out_still out same)
      by_goes none false is = (refl, all_out out same none is)

  come_on : (device : DeviceView) (stage : Stage) → StandsStage volume device (record { removal = removal; stage = stage }) → pages_gone volume removal ≡ pages_gone old removal → HasComeTo old volume removal stage → EntersAtStage removal stage (with_kept k volume) new
      → HasCome old new removal (next_of removal stage)
  come_on device Begun stands gone come enters = (
    refl,
    gone_left (with_kept k volume) removal (losses_kept volume removal stands.losses k) new removal.directory removal.name enters ∙ gone,
    record { kept = k; out = new; name = subst (λ (v : VolumeView). LeavesName v new removal.directory removal.name) (ap (with_kept k) come) enters; same = refl },
  )
  come_on device Unnamed stands gone come enters = come_cleared come gone enters
  come_on device Cleared stands gone come enters = (refl, gone_still gone enters, out_still come enters)
  come_on device Disowned stands gone come enters = (refl, record { before = volume; named = come; kept = k; given = enters.given; page = enters.page; inode = enters.inode })

-- and what isn't named is as it was
beside_same : (old new : VolumeView) → new ≡ old → IsSameBeside old new
beside_same old new same = subst (IsSameBeside old) (sym same) (record { size = refl; stopped = refl; marked = refl; kept = refl })

beside : (removal : Removal) (stage : Stage) (old new : VolumeView) → EntersAtStage removal stage old new → IsSameBeside old new
beside removal Begun old new enters = removal_beside old new removal.directory removal.name enters
beside removal Unnamed old new enters = beside_same old new enters
beside removal Cleared old new enters = beside_same old new enters
beside removal Disowned old new enters =
    let one = page_beside old enters.given removal.directory removal.given_back enters.page in
    let two = node_beside enters.given new removal.loss.goes removal.loss.inode enters.inode in
    record { size = two.size ∙ one.size; stopped = two.stopped ∙ one.stopped; marked = two.marked ∙ one.marked; kept = two.kept ∙ one.kept }

-- ---- the loop

-- From the old volume and device the call has come so far: what the steps that are left make of the device, all make of the old one.
pub record HasGone (old : VolumeView) (before : DeviceView) (removal : Removal) (volume : VolumeView) (device : DeviceView) (next : Next RunningView) : Type 0 where
  pub size : volume.size ≡ old.size
  pub same : (volume.stopped ≡ old.stopped) × (volume.marked ≡ old.marked)
  pub kept : volume.kept ≡ old.kept + events_in (left_next old.size (pages_gone old removal) next)
  pub stands : StandsNext volume device next
  pub come : HasCome old volume removal next
  pub onward : IsOnward (512 * old.size) (steps_of old.size removal (pages_gone old removal)) before (left_next old.size (pages_gone old removal) next) device

module _ (old : VolumeView) (before : DeviceView) (removal : Removal) where
  abbrev P : ℕ
  P = old.size

  abbrev pages : List ℕ
  pages = pages_gone old removal

  abbrev steps : List Step
  steps = steps_of P removal pages

  -- ---- at its begin

  pub at_begin : (volume : VolumeView) (running : RunningView) → volume ≡ keeping old (Remove removal) → running ≡ begun removal → events_of (Remove removal) ≡ events_in steps → StandsStage (keeping old (Remove removal)) before (begun removal) → MayFence before (512 * P) (events_in steps) 4
      → HasGone old before removal volume before (More running)
  at_begin volume running kept is costs stands may = subst (λ (v : VolumeView). HasGone old before removal v before (More running)) (sym kept) (subst (λ (r : RunningView). HasGone old before removal (keeping old (Remove removal)) before (More r)) (sym is) (record {
    size = refl;
    same = (refl, refl);
    kept = ap (λ (n : ℕ). old.kept + n) costs;
    stands = stands;
    come = (refl, refl, refl);
    onward = starts (512 * P) 4 steps before (omega arith) may;
  }))

  module _ (volume : VolumeView) (device : DeviceView) (stage : Stage) (gone : HasGone old before removal volume device (More (record { removal = removal; stage = stage }))) where
    -- the step by the volume's size and pages as they were
    step_same : step_at volume.size removal (pages_gone volume removal) stage ≡ step_at P removal pages stage
    step_same = ap (λ (p : ℕ). step_at p removal (pages_gone volume removal) stage) gone.size ∙ ap (λ (l : List ℕ). step_at P removal l stage) gone.come.1

    own : step_events (step_at P removal pages stage) ≡ (step_at volume.size removal (pages_gone volume removal) stage).events
    own = ap step_events (sym step_same) ∙ own_events (step_at volume.size removal (pages_gone volume removal) stage) (some_store volume device removal stage gone.stands)

    onward_at : IsOnward (512 * P) steps before (step_at P removal pages stage ∷ rest_at P removal pages stage) device
    onward_at = subst (λ (l : List Step). IsOnward (512 * P) steps before l device) (left_is P removal pages stage) gone.onward

    may_advance_at : MayFence device (512 * volume.size) (step_at volume.size removal (pages_gone volume removal) stage).events 1
    may_advance_at =
        let first = joining.starts (step_at P removal pages stage) (rest_at P removal pages stage) onward_at.begins in
        subst (λ (p : ℕ). MayFence device (512 * p) (step_at volume.size removal (pages_gone volume removal) stage).events 1) (sym gone.size) (subst (λ (n : ℕ). MayFence device (512 * P) n 1) own first)

    step_as : {T E : Type 0} {after : DeviceView} {result : Result T E} → Takes (step_at volume.size removal (pages_gone volume removal) stage) device after result → Takes (step_at P removal pages stage) device after result
    step_as {after = after} {result = result} takes = subst (λ (step : Step). Takes step device after result) step_same takes

    failed_at : {T U F : Type 0} {fault : PmFault} (after : DeviceView) (result : Result U F) → IsErr result → Takes {T = T} (step_at volume.size removal (pages_gone volume removal) stage) device after (Err fault) → Unfolds steps before after result
    failed_at after (Ok value) is takes = absurd (let none : false ≡ true = is in cc)
    failed_at {fault = fault} after (Err other) is takes =
        unfolds_failed_as other (fails (512 * P) steps before (step_at P removal pages stage) (rest_at P removal pages stage) device after fault (Err fault) refl (step_as takes) onward_at)

    advanced_at : {T : Type 0} (value : T) (next : Next RunningView) (new : VolumeView) (after : DeviceView) → Takes {E = PmFault} (step_at volume.size removal (pages_gone volume removal) stage) device after (Ok value) → next ≡ next_of removal stage
        → EntersAtStage removal stage (with_kept (volume.kept - (step_at volume.size removal (pages_gone volume removal) stage).events) volume) new → StandsNext new after next → HasGone old before removal new after next
    advanced_at value next new after takes is enters stands =
        let spent = (step_at volume.size removal (pages_gone volume removal) stage).events in
        let now = beside removal stage (with_kept (volume.kept - spent) volume) new enters in
        let planned : count_cut pages removal.given_back ≡ pages_removed removal = ap (λ (l : List ℕ). count_cut l removal.given_back) (sym gone.come.1) ∙ as_planned volume removal gone.stands.losses in
        let left = events_next P removal pages planned stage in
        let all = ap events_in (left_is P removal pages stage) in
        subst (λ (n : Next RunningView). StandsNext new after n → HasGone old before removal new after n) (sym is) (λ stands. record {
          size = now.size ∙ gone.size;
          same = (now.stopped ∙ gone.same.0, now.marked ∙ gone.same.1);
          kept = let had = gone.kept in let has = now.kept in let one = own in omega (arith, had, has, one, left, all);
          stands = stands;
          come = come_on old volume new removal (volume.kept - spent) device stage gone.stands gone.come.1 gone.come.2 enters;
          onward = onward_next P removal pages planned (512 * P) steps before after stage (one_more (512 * P) steps before (step_at P removal pages stage) (rest_at P removal pages stage) device after value (step_as takes) onward_at);
        }) stands

  -- ---- of any running call that has come so

  module _ (volume : VolumeView) (device : DeviceView) (running : RunningView) (gone : HasGone old before removal volume device (More running)) where
    abbrev stage : Stage
    stage = running.stage

    as_running : HasGone old before removal volume device (More (record { removal = removal; stage = stage }))
    as_running = subst (λ (r : Removal). HasGone old before removal volume device (More (record { removal = r; stage = stage }))) gone.come.0 gone

    pub may_advance : MayFence device (512 * volume.size) (step_at volume.size running.removal (pages_gone volume running.removal) stage).events 1
    may_advance = subst (λ (r : Removal). MayFence device (512 * volume.size) (step_at volume.size r (pages_gone volume r) stage).events 1) (sym gone.come.0) (may_advance_at volume device stage as_running)

    pub failed : {T U F : Type 0} {fault : PmFault} (after : DeviceView) (result : Result U F) → IsErr result → Takes {T = T} (step_at volume.size running.removal (pages_gone volume running.removal) stage) device after (Err fault) → Unfolds steps before after result
    failed {T} {U} {F} {fault} after result is takes = failed_at volume device stage as_running after result is (subst (λ (r : Removal). Takes {T = T} (step_at volume.size r (pages_gone volume r) stage) device after (Err fault)) gone.come.0 takes)

    pub advanced : {T : Type 0} (value : T) (next : Next RunningView) (new : VolumeView) (after : DeviceView) → Takes {E = PmFault} (step_at volume.size running.removal (pages_gone volume running.removal) stage) device after (Ok value) → next ≡ next_of running.removal stage
        → EntersAtStage running.removal stage (with_kept (volume.kept - (step_at volume.size running.removal (pages_gone volume running.removal) stage).events) volume) new → StandsNext new after next → HasGone old before removal new after next
    advanced value next new after takes is enters stands =
        let same = gone.come.0 in
        advanced_at volume device stage as_running value next new after
        (subst (λ (r : Removal). Takes {E = PmFault} (step_at volume.size r (pages_gone volume r) stage) device after (Ok value)) same takes)
        (subst (λ (r : Removal). next ≡ next_of r stage) same is)
        (subst (λ (r : Removal). EntersAtStage r stage (with_kept (volume.kept - (step_at volume.size r (pages_gone volume r) stage).events) volume) new) same enters) stands

  -- ---- at its end

  module _ (volume : VolumeView) (device : DeviceView) (reply : Reply) (gone : HasGone old before removal volume device (Ended reply)) where
    pub done : reply ≡ Done
    done = gone.come.0

    pub all_made : Unfolds {T = Unit {0}} {E = PmFault} steps before device (Ok (tt {0}))
    all_made = ends (512 * P) steps before device gone.onward

    pub same_kept : volume.kept ≡ old.kept
    same_kept = let is = gone.kept in omega (arith, is)

    pub has_done : HasDone old volume (Remove removal)
    has_done =
        let all = gone.come.1 in
        let named = all.named in
        subst (λ (v : VolumeView). HasDone old v (Remove removal)) (kept_already volume old.kept same_kept)
        (has_removed old named.out all.given volume named.kept all.kept removal named.name (subst (λ (v : VolumeView). LeavesPageOf v all.given removal.directory removal.given_back) (ap (with_kept all.kept) named.same) all.page) all.inode)
