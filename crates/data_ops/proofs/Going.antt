-- A call that goes from stage to stage, whatever its stages are: what its steps that are left make of the device, all make of the old one.
use Rattle.std.proofs.Common.{◌≡◌, ℕ, ◌+◌, ◌-◌, ◌*◌, ◌≤◌, ◌<◌, Bool, false, true, cond, List, [], ◌∷◌, length, refl, sym, ap, subst, ◌∙◌, arith}
use Rattle.std.specs.Prelude.{Option, Result, Ok, Err, IsErr}
use Rattle.pm_trait.specs.declared.event.PmFault.{PmFault}
use Rattle.pm_trait.specs.DeviceView.{DeviceView}
use Rattle.pm_trait.specs.Unfolds.{MayFence, Step, Takes, Unfolds, events_in, step_events}
use Rattle.pm_trait.proofs.Unfolding as joining
use Rattle.pm_trait.proofs.Unfolding.{unfolds_as, unfolds_failed_as}
use Rattle.pm_trait.proofs.Onward.{IsOnward, one_more, skips, fails, ends, starts}
use Rattle.tree_model.specs.declared.reply.Reply.{Reply}
use Rattle.volume.specs.Volume.{VolumeView}
use Rattle.volume.specs.Costs.{events_of}
use Rattle.volume.specs.Stages.{keeping, next_by}
use Rattle.volume.specs.declared.next.Next.{Next}
use Rattle.volume.specs.declared.next.Next.TheVariants.{More, Ended}
use Rattle.volume.specs.declared.plan.Action.{Action}
use Rattle.volume.proofs.Moments.{IsSameBeside, with_kept, kept_already}

-- ---- the steps behind one that was made

-- The steps of the next stage are the rest, but for such as have no store.
pub record IsBehind (rest behind : List Step) (after : DeviceView) : Type 1 where
  pub events : events_in behind ≡ events_in rest
  pub onward : (words : ℕ) (steps : List Step) (before : DeviceView) → IsOnward words steps before rest after → IsOnward words steps before behind after

pub all_behind : (rest : List Step) (after : DeviceView) → IsBehind rest rest after
all_behind rest after = record { events = refl; onward = λ words steps before onward. onward }

pub none_behind : {rest behind : List Step} {after : DeviceView} (step : Step) → step.stores ≡ false → step.Makes after.words after.words → IsBehind rest behind after → IsBehind (step ∷ rest) behind after
none_behind {rest} {behind} {after} step none makes is = record {
  events = let others = is.events in let own = ap (λ (b : Bool). cond b step.events 0) none in omega (arith, others, own);
  onward = λ words steps before onward. is.onward words steps before (skips words steps before step rest after none makes onward);
}

-- a step that has a store has all its events
pub stored_events : (step : Step) → step.stores ≡ true → step_events step ≡ step.events
stored_events step stores = ap (λ (b : Bool). cond b step.events 0) stores

-- ---- the loop

-- A call by its stages: all its steps; the step of a stage, and the rest behind it; what stands before a stage, and what has come by then.
pub record Call (R : Type 0) : Type 1 where
  pub steps : List Step
  pub step : VolumeView → R → Step
  pub rest : VolumeView → R → List Step
  pub Stands : VolumeView → DeviceView → Next R → Type 0
  pub Come : VolumeView → Next R → Type 0

abbrev pub left_next : {R : Type 0} → Call R → VolumeView → Next R → List Step
left_next call volume (More running) = call.step volume running ∷ call.rest volume running
left_next call volume (Ended reply) = []

-- From the old volume and device the call has come so far.
pub record HasGone {R : Type 0} (call : Call R) (old : VolumeView) (before : DeviceView) (volume : VolumeView) (device : DeviceView) (next : Next R) : Type 0 where
  pub size : volume.size ≡ old.size
  pub marked : volume.marked ≡ old.marked
  pub kept : volume.kept ≡ old.kept + events_in (left_next call volume next)
  pub stands : call.Stands volume device next
  pub come : call.Come volume next
  pub onward : IsOnward (512 * volume.size) call.steps before (left_next call volume next) device

-- where it begins, the plan's events are kept
pub begins : {R : Type 0} (call : Call R) (old : VolumeView) (before : DeviceView) (plan : Action) (first : R) → call.steps ≡ left_next call (keeping old plan) (More first) → events_of plan ≡ events_in call.steps
    → length call.steps ≤ 3 → MayFence before (512 * old.size) (events_of plan) 3 → call.Stands (keeping old plan) before (More first) → call.Come (keeping old plan) (More first) → HasGone call old before (keeping old plan) before (More first)
begins call old before plan first all costs few may stands come = record {
  size = refl;
  marked = refl;
  kept = let same = ap events_in all in omega (arith, costs, same);
  stands = stands;
  come = come;
  onward = subst (λ (l : List Step). IsOnward (512 * old.size) call.steps before l before) all (starts (512 * old.size) 3 call.steps before few (subst (λ (n : ℕ). MayFence before (512 * old.size) n 3) costs may));
}

module _ {R : Type 0} (call : Call R) (old : VolumeView) (before : DeviceView) where
  module _ {volume : VolumeView} {device : DeviceView} {running : R} (gone : HasGone call old before volume device (More running)) where
    abbrev step : Step
    step = call.step volume running

    -- the next step may begin
    pub may_go : step_events step ≡ step.events → MayFence device (512 * volume.size) step.events 1
    may_go own = subst (λ (n : ℕ). MayFence device (512 * volume.size) n 1) own (joining.starts step (call.rest volume running) gone.onward.begins)

    -- it was made
    pub goes_on : {T E : Type 0} {value : T} {new : VolumeView} {after : DeviceView} {next : Next R} → step_events step ≡ step.events → Takes {E = E} step device after (Ok value) → IsSameBeside (with_kept (volume.kept - step.events) volume) new
        → IsBehind (call.rest volume running) (left_next call new next) after → call.Stands new after next → call.Come new next → HasGone call old before new after next
    goes_on {value = value} {new} {after} {next} own takes beside behind stands come = record {
      size = beside.size ∙ gone.size;
      marked = beside.marked ∙ gone.marked;
      kept = let had = gone.kept in let has = beside.kept in let same = behind.events in omega (arith, had, has, same, own);
      stands = stands;
      come = come;
      onward = subst (λ (p : ℕ). IsOnward (512 * p) call.steps before (left_next call new next) after) (sym beside.size)
          (behind.onward (512 * volume.size) call.steps before (one_more (512 * volume.size) call.steps before step (call.rest volume running) device after value takes gone.onward));
    }

    -- its fence failed
    pub failed : {T U F : Type 0} {fault : PmFault} {after : DeviceView} (result : Result U F) → IsErr result → Takes {T = T} step device after (Err fault) → Unfolds call.steps before after result
    failed (Ok value) is takes = absurd (let none : false ≡ true = is in cc)
    failed {fault = fault} {after} (Err other) is takes = unfolds_failed_as other (fails (512 * volume.size) call.steps before step (call.rest volume running) device after fault (Err fault) refl takes gone.onward)

    pub stopped_same : {new : VolumeView} → new ≡ record volume { stopped = true } → (new.stopped ≡ true) × (new.size ≡ old.size) × (new.marked ≡ old.marked)
    stopped_same is = (ap (λ (v : VolumeView). v.stopped) is, ap (λ (v : VolumeView). v.size) is ∙ gone.size, ap (λ (v : VolumeView). v.marked) is ∙ gone.marked)

  -- at its end all steps are made, and as many events are kept as at its begin
  module _ {volume : VolumeView} {device : DeviceView} {reply : Reply} (gone : HasGone call old before volume device (Ended reply)) where
    pub all_made : Unfolds {E = PmFault} call.steps before device (Ok reply)
    all_made = unfolds_as reply (ends (512 * volume.size) call.steps before device gone.onward)

    pub kept_back : with_kept old.kept volume ≡ volume
    kept_back = kept_already volume old.kept (let kept = gone.kept in omega (arith, kept))

-- ---- by what the code tells: its first stage, and whether a step gave the reply

pub begun_as : {R : Type 0} {call : Call R} {old volume : VolumeView} {before : DeviceView} (plan : Action) {first running : R} → volume ≡ keeping old plan → running ≡ first → HasGone call old before (keeping old plan) before (More first) → HasGone call old before volume before (More running)
begun_as {R} {call} {old} {before = before} plan {running = running} kept is gone =
    subst (λ (v : VolumeView). HasGone call old before v before (More running)) (sym kept) (subst (λ (stage : R). HasGone call old before (keeping old plan) before (More stage)) (sym is) gone)

pub gone_as : {R : Type 0} {call : Call R} {old volume : VolumeView} {before device : DeviceView} (running : R) {told other : Option Reply} → told ≡ other → HasGone call old before volume device (next_by told running) → HasGone call old before volume device (next_by other running)
gone_as {call = call} {old} {volume} {before} {device} running is gone = subst (λ (told : Option Reply). HasGone call old before volume device (next_by told running)) is gone

pub fewer_as : {R : Type 0} (rank : Next R → ℕ) (running : R) {told other : Option Reply} {next : Next R} {n : ℕ} → told ≡ other → next_by told running ≡ next → rank next < n → rank (next_by other running) < n
fewer_as {R} rank running {n = n} is same less = subst (λ (told : Option Reply). rank (next_by told running) < n) is (subst (λ (next : Next R). rank next < n) (sym same) less)
