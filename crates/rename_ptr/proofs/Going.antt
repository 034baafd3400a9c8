-- A rename from its begin to its end: the steps that are left, and what the volume is by now.
use Rattle.std.proofs.Common.{◌≡◌, ◌⊎◌, inl, inr, ℕ, ◌+◌, ◌-◌, ◌*◌, ◌^◌, ◌<◌, ◌≤◌, Bool, true, false, if◌then◌else◌, List, [], ◌∷◌, ◌++◌, length, Option, None, Some, refl, sym, ap, subst, ◌∙◌, arith}
use Rattle.std.specs.Prelude.{Result, Ok, Err, IsErr}
use Rattle.pm_trait.specs.declared.event.PmFault.{PmFault}
use Rattle.pm_trait.specs.DeviceView.{DeviceView}
use Rattle.pm_trait.specs.Unfolds.{MayFence, Step, Takes, Unfolds, events_in}
use Rattle.pm_trait.proofs.Unfolding as joining
use Rattle.pm_trait.proofs.Onward.{IsOnward, one_more, fails, starts, ends}
use Rattle.tree_model.specs.declared.reply.Reply.{Reply}
use Rattle.tree_model.specs.declared.reply.Reply.TheVariants.{Done}
use Rattle.volume.specs.Volume.{VolumeView}
use Rattle.volume.specs.Costs.{events_of, pages_of_loss}
use Rattle.volume.specs.Stages.{keeping}
use Rattle.volume.specs.declared.next.Next.{Next}
use Rattle.volume.specs.declared.next.Next.TheVariants.{More, Ended}
use Rattle.volume.specs.declared.plan.Action.{Action}
use Rattle.volume.specs.declared.plan.Action.TheVariants.{Move, KeepNames}
use Rattle.volume.specs.declared.plan.Moving.{Moving}
use Rattle.volume.proofs.Moments.{with_kept, kept_already, IsSameBeside}
use Rattle.removal_steps.specs.Steps.{gone_pages}
use Rattle.rename_ptr.specs.Steps.{opening, moving_steps, steps_of}
use Rattle.rename_ptr.specs.Stages.{HasStore, StandsStage, StandsNext, EntersAt, EntersMoving, begun, left_of, step_of, step_at, next_of, next_moving}
use Rattle.rename_ptr.specs.declared.rename.Progress.{Progress}
use Rattle.rename_ptr.specs.declared.rename.Progress.TheVariants.{Begun}
use Rattle.rename_ptr.specs.declared.rename.Stage.{Stage}
use Rattle.rename_ptr.specs.declared.rename.Stage.TheVariants.{Nothing, Moving as Moves}
use Rattle.rename_ptr.proofs.Ahead.{IsNextOf, IsLast, rank as rank_of, later, left_is, stores, next_cases}
use Rattle.rename_ptr.proofs.Come.{HasComeTo, HasGivenBack}
use Rattle.rename_ptr.proofs.Stepping

-- ---- the steps that are left

abbrev pub left_now : VolumeView → Next Stage → List Step
left_now volume (More running) = left_of volume running
left_now volume (Ended reply) = []

abbrev pub rank : Next Stage → ℕ
rank (More Nothing) = 1
rank (More (Moves moving progress)) = 1 + rank_of progress
rank (Ended reply) = 0

few_by : (P : ℕ) (moving : Moving) (pages : List ℕ) (page : Option ℕ) → length (opening P moving page ++ moving_steps P moving pages) ≤ 8
few_by P moving pages None = omega arith
few_by P moving pages (Some page) = omega arith

-- a step brings it nearer to its end
module _ (volume : VolumeView) (device : DeviceView) where
  pub fewer : (running : Stage) → StandsStage volume device running → rank (next_of running) < rank (More running)
  fewer Nothing stands = omega arith
  fewer (Moves moving progress) stands =
      next_cases volume.size moving (gone_pages volume moving.replaced) (λ next. rank next < 1 + rank_of progress) progress (Stepping.has_store volume device moving progress stands) (Stepping.count_is volume device moving progress stands)
      (λ next is. let less = is.fewer in omega (arith, less)) (λ is. omega arith)

-- ---- the loop

-- what the plan was, and what the volume has come to
abbrev HasCome : VolumeView → VolumeView → Action → Next Stage → Type 0
HasCome old now plan (More Nothing) = (plan ≡ KeepNames) × (now ≡ old)
HasCome old now plan (More (Moves moving progress)) = (plan ≡ Move moving) × HasComeTo old now moving progress × (gone_pages now moving.replaced ≡ gone_pages old moving.replaced)
HasCome old now plan (Ended reply) = (reply ≡ Done) × (((plan ≡ KeepNames) × (now ≡ old)) ⊎ ((moving : Moving) × (plan ≡ Move moving) × HasGivenBack old now moving))

-- its counter of fences has room for one that it doesn't make
abbrev MayIdle : DeviceView → Next Stage → Type 0
MayIdle device (More Nothing) = device.fences + 1 < 2 ^ 64
MayIdle device (More (Moves moving progress)) = Unit {0}
MayIdle device (Ended reply) = Unit {0}

-- From the old volume and device the call has come so far: what the steps that are left make of the device, all make of the old one.
pub record HasGone (old : VolumeView) (before : DeviceView) (plan : Action) (volume : VolumeView) (device : DeviceView) (next : Next Stage) : Type 0 where
  pub size : volume.size ≡ old.size
  pub stopped : volume.stopped ≡ old.stopped
  pub marked : volume.marked ≡ old.marked
  pub kept : volume.kept ≡ old.kept + events_in (left_now old next)
  pub stands : StandsNext volume device next
  pub come : HasCome old volume plan next
  pub idle : MayIdle device next
  pub onward : IsOnward (512 * old.size) (left_of old (begun plan)) before (left_now old next) device

-- nothing is kept for nothing
kept_nothing : (volume : VolumeView) → with_kept (volume.kept + 0) volume ≡ volume
kept_nothing volume = kept_already volume (volume.kept + 0) (omega arith)

module _ (old : VolumeView) (before : DeviceView) where
  -- ---- at its begin

  pub begins_none : (next : Next Stage) (volume : VolumeView) → next ≡ More Nothing → volume ≡ keeping old KeepNames → StandsNext volume before next → MayFence before (512 * old.size) 0 8 → HasGone old before KeepNames volume before next
  begins_none next volume is kept stands begins = subst (λ (n : Next Stage). HasGone old before KeepNames volume before n) (sym is) (record {
    size = ap (λ (v : VolumeView). v.size) kept;
    stopped = ap (λ (v : VolumeView). v.stopped) kept;
    marked = ap (λ (v : VolumeView). v.marked) kept;
    kept = ap (λ (v : VolumeView). v.kept) kept;
    stands = subst (StandsNext volume before) is stands;
    come = (refl, kept ∙ kept_nothing old);
    idle = (let few = begins.countable in omega (arith, few));
    onward = starts (512 * old.size) 8 [] before (omega arith) begins;
  })

  pub begins_move : (moving : Moving) (next : Next Stage) (volume : VolumeView) → next ≡ More (Moves moving Begun) → volume ≡ keeping old (Move moving) → StandsNext volume before next
      → events_of (Move moving) ≡ events_in (steps_of old.size moving (gone_pages old moving.replaced)) → MayFence before (512 * old.size) (events_in (steps_of old.size moving (gone_pages old moving.replaced))) 8
      → HasGone old before (Move moving) volume before next
  begins_move moving next volume is kept stands costs begins = subst (λ (n : Next Stage). HasGone old before (Move moving) volume before n) (sym is) (record {
    size = ap (λ (v : VolumeView). v.size) kept;
    stopped = ap (λ (v : VolumeView). v.stopped) kept;
    marked = ap (λ (v : VolumeView). v.marked) kept;
    kept = ap (λ (v : VolumeView). v.kept) kept ∙ ap (λ (n : ℕ). old.kept + n) costs;
    stands = subst (StandsNext volume before) is stands;
    come = (refl, kept ∙ ap (λ (k : ℕ). with_kept k old) (sym (ap (λ (v : VolumeView). v.kept) kept)), ap (λ (v : VolumeView). gone_pages v moving.replaced) kept);
    idle = tt;
    onward = starts (512 * old.size) 8 (steps_of old.size moving (gone_pages old moving.replaced)) before (few_by old.size moving (gone_pages old moving.replaced) moving.new_page) begins;
  })

  -- ---- a step

  module _ (plan : Action) (volume : VolumeView) (device : DeviceView) (moving : Moving) (progress : Progress) (gone : HasGone old before plan volume device (More (Moves moving progress))) where
    abbrev P : ℕ
    P = old.size

    abbrev pages : List ℕ
    pages = gone_pages old moving.replaced

    abbrev steps : List Step
    steps = left_of old (begun plan)

    has_store : HasStore moving progress
    has_store = Stepping.has_store volume device moving progress gone.stands

    count_is : length pages ≡ pages_of_loss moving.replaced
    count_is = ap length (sym gone.come.2) ∙ Stepping.count_is volume device moving progress gone.stands

    step_is : step_of volume (Moves moving progress) ≡ step_at P moving pages progress
    step_is = ap (λ (p : ℕ). step_at p moving (gone_pages volume moving.replaced) progress) gone.size ∙ ap (λ (l : List ℕ). step_at P moving l progress) gone.come.2

    onward_at : IsOnward (512 * P) steps before (step_at P moving pages progress ∷ later P moving pages progress) device
    onward_at = subst (λ (l : List Step). IsOnward (512 * P) steps before l device) (left_is P moving pages progress has_store) gone.onward

    may_move : MayFence device (512 * volume.size) (step_of volume (Moves moving progress)).events 1
    may_move =
        let first = joining.starts (step_at P moving pages progress) (later P moving pages progress) onward_at.begins in
        let all = subst (λ (t : Bool). MayFence device (512 * P) (if t then (step_at P moving pages progress).events else 0) 1) (stores P moving pages count_is progress has_store) first in
        subst (λ (p : ℕ). MayFence device (512 * p) (step_of volume (Moves moving progress)).events 1) (sym gone.size)
        (subst (λ (s : Step). MayFence device (512 * P) s.events 1) (sym step_is) all)

    failed_move : {T : Type 0} {fault : PmFault} (after : DeviceView) (result : Result (Unit {0}) PmFault) → IsErr result → Takes {T = T} (step_of volume (Moves moving progress)) device after (Err fault) → Unfolds steps before after result
    failed_move {T} {fault} after result is takes =
        fails (512 * P) steps before (step_at P moving pages progress) (later P moving pages progress) device after fault result is
        (subst (λ (s : Step). Takes {T = T} s device after (Err fault)) step_is takes) onward_at

    module _ {T : Type 0} {value : T} (new : VolumeView) (after : DeviceView) (takes : Takes {E = PmFault} (step_of volume (Moves moving progress)) device after (Ok value))
        (enters : EntersMoving moving progress (with_kept (volume.kept - (step_of volume (Moves moving progress)).events) volume) new) where
      abbrev k : ℕ
      k = volume.kept - (step_of volume (Moves moving progress)).events

      took : Takes {E = PmFault} (step_at P moving pages progress) device after (Ok value)
      took = subst (λ (s : Step). Takes {E = PmFault} s device after (Ok value)) step_is takes

      beside : IsSameBeside (with_kept k volume) new
      beside = Stepping.beside volume device moving progress gone.stands new after takes enters

      onward_next : IsOnward (512 * P) steps before (later P moving pages progress) after
      onward_next = one_more (512 * P) steps before (step_at P moving pages progress) (later P moving pages progress) device after value took onward_at

      -- what is kept for those behind it
      kept_later : new.kept ≡ old.kept + events_in (later P moving pages progress)
      kept_later =
          let now = beside.kept in
          let had = gone.kept in
          let split = ap events_in (left_is P moving pages progress has_store) ∙ ap (λ (t : Bool). (if t then (step_at P moving pages progress).events else 0) + events_in (later P moving pages progress)) (stores P moving pages count_is progress has_store) in
          let same = ap (λ (s : Step). s.events) step_is in
          omega (arith, now, had, split, same)

      -- by the next stage that has a step, or by the end
      goes_next : (next : Progress) → IsNextOf P moving pages progress next → StandsNext new after (More (Moves moving next)) → HasGone old before plan new after (More (Moves moving next))
      goes_next next is stands = record {
        size = beside.size ∙ gone.size;
        stopped = beside.stopped ∙ gone.stopped;
        marked = beside.marked ∙ gone.marked;
        kept = kept_later ∙ ap (λ (n : ℕ). old.kept + n) is.events;
        stands = stands;
        come = (gone.come.0, is.come old volume new k gone.come.1 enters, is.gone (with_kept k volume) new enters ∙ gone.come.2);
        idle = tt;
        onward = is.onward (512 * P) steps before after onward_next;
      }

      goes_last : IsLast P moving pages progress → HasGone old before plan new after (Ended Done)
      goes_last is = record {
        size = beside.size ∙ gone.size;
        stopped = beside.stopped ∙ gone.stopped;
        marked = beside.marked ∙ gone.marked;
        kept = kept_later ∙ ap (λ (n : ℕ). old.kept + n) is.events;
        stands = tt;
        come = (refl, inr (moving, gone.come.0, is.come old volume new k gone.come.1 enters));
        idle = tt;
        onward = is.onward (512 * P) steps before after onward_next;
      }

      move_goes : StandsNext new after (next_moving moving progress) → HasGone old before plan new after (next_moving moving progress)
      move_goes =
          next_cases P moving pages (λ next. StandsNext new after next → HasGone old before plan new after next) progress has_store count_is (λ next is stands. goes_next next is stands) (λ is stands. goes_last is)

  -- ---- where nothing is to be done

  module _ (plan : Action) (volume : VolumeView) (device : DeviceView) (gone : HasGone old before plan volume device (More Nothing)) where
    may_idle : MayFence device (512 * volume.size) 0 1
    may_idle = let begins = gone.onward.begins in record { whole = begins.whole ∙ ap (λ (p : ℕ). 512 * p) (sym gone.size); settled = begins.settled; room = omega arith; countable = gone.idle }

    idle_goes : (new : VolumeView) (after : DeviceView) → new ≡ with_kept (volume.kept - 0) volume → after ≡ device → HasGone old before plan new after (Ended Done)
    idle_goes new after kept same =
        let now : new ≡ volume = kept ∙ kept_already volume (volume.kept - 0) (omega arith) in
        subst (λ (d : DeviceView). HasGone old before plan new d (Ended Done)) (sym same)
        (subst (λ (v : VolumeView). HasGone old before plan v device (Ended Done)) (sym now) (record {
          size = gone.size;
          stopped = gone.stopped;
          marked = gone.marked;
          kept = gone.kept;
          stands = tt;
          come = (refl, inl (gone.come.0, gone.come.1));
          idle = tt;
          onward = gone.onward;
        }))

  -- ---- a stage

  pub may_advance : (plan : Action) (volume : VolumeView) (device : DeviceView) (running : Stage) → HasGone old before plan volume device (More running) → MayFence device (512 * volume.size) (step_of volume running).events 1
  may_advance plan volume device Nothing gone = may_idle plan volume device gone
  may_advance plan volume device (Moves moving progress) gone = may_move plan volume device moving progress gone

  pub failed : {T : Type 0} {fault : PmFault} (plan : Action) (volume : VolumeView) (device : DeviceView) (running : Stage) → HasGone old before plan volume device (More running) → (after : DeviceView) (result : Result (Unit {0}) PmFault) → IsErr result
      → Takes {T = T} (step_of volume running) device after (Err fault) → Unfolds (left_of old (begun plan)) before after result
  failed plan volume device Nothing gone after result is takes = let clash : false ≡ true = takes.fenced.1 in absurd cc
  failed plan volume device (Moves moving progress) gone after result is takes = failed_move plan volume device moving progress gone after result is takes

  pub goes_on : {T : Type 0} {value : T} (plan : Action) (volume : VolumeView) (device : DeviceView) (running : Stage) → HasGone old before plan volume device (More running) → (new : VolumeView) (after : DeviceView) (next : Next Stage) → next ≡ next_of running
      → Takes {E = PmFault} (step_of volume running) device after (Ok value) → EntersAt running (with_kept (volume.kept - (step_of volume running).events) volume) new → StandsNext new after next → HasGone old before plan new after next
  goes_on plan volume device Nothing gone new after next is takes enters stands = subst (λ (n : Next Stage). HasGone old before plan new after n) (sym is) (idle_goes plan volume device gone new after enters takes.fenced.0)
  goes_on plan volume device (Moves moving progress) gone new after next is takes enters stands =
      subst (λ (n : Next Stage). HasGone old before plan new after n) (sym is) (move_goes plan volume device moving progress gone new after takes enters (subst (StandsNext new after) is stands))

  -- ---- at its end

  module _ (plan : Action) (volume : VolumeView) (device : DeviceView) (reply : Reply) (gone : HasGone old before plan volume device (Ended reply)) where
    pub unfolds : Unfolds {T = Unit {0}} {E = PmFault} (left_of old (begun plan)) before device (Ok (tt {0}))
    unfolds = ends (512 * old.size) (left_of old (begun plan)) before device gone.onward

    pub kept_same : volume.kept ≡ old.kept
    kept_same = let kept = gone.kept in omega (arith, kept)
