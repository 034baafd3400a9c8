-- The plan of a command is carried out by a call that goes from stage to stage, whatever the two are.
use Rattle.std.proofs.Common.{◌≡◌, ◌+◌, ◌<◌, ◌≤◌, false, true, List, [], ◌∷◌, length, refl, sym, subst, ◌∙◌, arith, ◌⊎◌, inl, inr}
use Rattle.std.specs.Prelude.{Result, Ok, Err, IsErr, OnOk}
use Rattle.pm_trait.specs.declared.event.PmFault.{PmFault}
use Rattle.pm_trait.specs.DeviceView.{DeviceView, MakesIntervals}
use Rattle.pm_trait.specs.Unfolds.{KeepsWords, Step, Takes, Unfolds, events_in}
use Rattle.pm_trait.proofs.DeviceViewLaws.{intervals_as}
use Rattle.layout.specs.Superblock.{has_mark, IsSuperblockWord}
use Rattle.tree_model.specs.declared.command.Command.{Command}
use Rattle.tree_model.specs.declared.reply.Reply.{Reply}
use Rattle.tree_model.specs.PathText.{Route}
use Rattle.tree_model.specs.Replies.{reply_of}
use Rattle.tree_model.specs.Run.{State}
use Rattle.tree_model.specs.Step.{Answer}
use Rattle.volume.specs.Volume.{VolumeView}
use Rattle.volume.specs.Carried.{IsPlanFor, MayCarry, IsAtomic, LeavesState, Follows, Carries}
use Rattle.volume.specs.Costs.{events_of, kept_events, fences_of_plan}
use Rattle.volume.specs.Entered.{HasDone}
use Rattle.volume.specs.Stages.{HasKept, keeping}
use Rattle.volume.specs.declared.next.Next.TheVariants.{More, Ended}
use Rattle.volume.specs.declared.plan.Action.{Action}
use Rattle.volume.proofs.KeptEvents.{bounded, has_kept_alone}
use Rattle.volume.proofs.Moments.{IsSameBeside, with_kept}
use Rattle.plan_laws.proofs.Left.{KeepsMark, kept_room}
use Rattle.entry_steps.specs.Waiting.{idle_step}
use Rattle.entry_steps.proofs.Answered.{failed_as, follows_as}
use Rattle.entry_steps.proofs.Reserved.{enough}
use Rattle.data_ops.proofs.Going.{Call, HasGone, left_next, begins, all_made, kept_back, failed, stopped_same}
use Rattle.data_ops.proofs.Steps.{only}

-- ---- what is made of a plan that has events, by the command of a path

module _ {volume : VolumeView} {old : DeviceView} {plan : Action} {answer : Answer} {IsOurs : Command → Type 0} (of : Route → Command)
    (own : (state : State) (command : Command) → IsOurs command → IsPlanFor volume old state command plan → (path : Route) × (command ≡ of path) × IsPlanFor volume old state (of path) plan)
    (planned : (state : State) × (path : Route) × IsPlanFor volume old state (of path) plan) (ready : MayCarry volume old plan) (more : 0 < events_of plan)
    {new : DeviceView} (beside : KeepsWords IsSuperblockWord old.words new.words) (atomic : (state : State) (path : Route) → IsPlanFor volume old state (of path) plan → has_mark old.words ≡ false → IsAtomic volume.size old new state (of path)) where
  meant : {E : Type 0} {after : VolumeView} (reply : Result Reply E) → ((state : State) (path : Route) → IsPlanFor volume old state (of path) plan → OnOk reply (LeavesState volume after old new state (of path) answer))
      → (state : State) (command : Command) → IsOurs command → IsPlanFor volume old state command plan → Follows volume after old new state command answer reply
  meant reply leaves state command ours for =
      let (path, is, here) = own state command ours for in
      follows_as (of path) command is (record { made = leaves state path here; atomic = atomic state path here (sym here.stands.mark ∙ ready.unmarked more) })

  pub carries_made : {T E F : Type 0} {done : T} {after : VolumeView} (reply : Reply) → reply ≡ reply_of answer → MakesIntervals {E = E} old new (events_of plan) (fences_of_plan plan) (Ok done) → IsSameBeside volume after → HasDone volume after plan
      → ((state : State) (path : Route) → IsPlanFor volume old state (of path) plan → KeepsMark volume after old.words new.words new → LeavesState volume after old new state (of path) answer) → Carries {E = F} volume after old new plan answer IsOurs (Ok reply)
  carries_made {after = after} reply told device same done leaves =
      let keeps : KeepsMark volume after old.words new.words new = record {
        known = planned.2.stands.mark;
        same = same.marked;
        beside = beside;
        room = kept_room volume.marked volume.kept plan old new more ready.reserved.room device.room;
        no_call = same.kept ∙ planned.2.stands.no_call;
      } in
      record {
        meaning = meant (Ok reply) (λ state path here. leaves state path here keeps);
        answered = record { reply = told; going = same.stopped ∙ ready.going; knows = done; stopped = tt; size = same.size; marked = same.marked };
        device = intervals_as reply device;
        idle = λ none. absurd (omega (arith, none, more));
        beside = beside;
      }

  -- a fence failed, and the volume is stopped
  pub carries_stopped : {T E F : Type 0} {failed : E} {after : VolumeView} (fault : F) → MakesIntervals {T = T} old new (events_of plan) (fences_of_plan plan) (Err failed) → (after.stopped ≡ true) × (after.size ≡ volume.size) × (after.marked ≡ volume.marked)
      → Carries volume after old new plan answer IsOurs (Err fault)
  carries_stopped fault device (stopped, size, marked) = record {
    meaning = meant (Err fault) (λ state path here. tt);
    answered = record { reply = tt; going = tt; knows = tt; stopped = stopped; size = size; marked = marked };
    device = failed_as fault device;
    idle = λ none. absurd (omega (arith, none, more));
    beside = beside;
  }

-- ---- the call

-- the plan's events are kept, and there is room for them
pub kept_begins : {R : Type 0} (call : Call R) {volume : VolumeView} {before : DeviceView} {state : State} {command : Command} {plan : Action} (first : R) → IsPlanFor volume before state command plan → MayCarry volume before plan
    → call.steps ≡ left_next call (keeping volume plan) (More first) → events_of plan ≡ events_in call.steps → length call.steps ≤ 3
    → (HasKept (keeping volume plan) before (events_in call.steps) → call.Stands (keeping volume plan) before (More first) × call.Come (keeping volume plan) (More first)) → HasGone call volume before (keeping volume plan) before (More first)
kept_begins call {volume} {before} {state} {command} {plan} first for ready all costs few there =
    let has = has_kept_alone volume before plan (bounded volume before state command plan for) for.stands.no_call ready.reserved in
    let (stands, come) = there (subst (HasKept (keeping volume plan) before) costs has) in
    begins call volume before plan first all costs few (record {
      whole = for.stands.knows.whole;
      settled = for.stands.settled;
      room = enough (events_of plan) (kept_events volume.marked + volume.kept) before.spare ready.reserved.room;
      countable = let less = ready.countable in omega (arith, less);
    }) stands come

-- What comes of a call that carries out a plan: how it begins, what is done at its end, and where a fence failed in it.
pub record Runs {R : Type 0} (call : Call R) (old : VolumeView) (before : DeviceView) (plan : Action) (first : R) (answer : Answer) (IsOurs : Command → Type 0) (Stored : DeviceView → Result Reply PmFault → Type 0) : Type 0 where
  pub begun : HasGone call old before (keeping old plan) before (More first)
  pub done : (after : VolumeView) (device : DeviceView) (reply : Reply) → Unfolds {E = PmFault} call.steps before device (Ok reply) → call.Come after (Ended reply) → with_kept old.kept after ≡ after → Carries {E = PmFault} old after before device plan answer IsOurs (Ok reply)
  pub stopped : (after : VolumeView) (device : DeviceView) (fault : PmFault) → Unfolds {T = Reply} call.steps before device (Err fault) → (after.stopped ≡ true) × (after.size ≡ old.size) × (after.marked ≡ old.marked)
      → Carries old after before device plan answer IsOurs (Err fault)
  pub stored : (device : DeviceView) (result : Result Reply PmFault) → Unfolds call.steps before device result → Stored device result

-- with nothing to do the device and the volume are as they were
pub runs_idle : {R : Type 0} {call : Call R} {old : VolumeView} {before : DeviceView} {plan : Action} {first : R} {answer : Answer} {IsOurs : Command → Type 0} {Stored : DeviceView → Result Reply PmFault → Type 0} → call.steps ≡ idle_step ∷ []
    → HasGone call old before (keeping old plan) before (More first) → old.stopped ≡ false → HasDone old old plan → ((reply : Reply) → MakesIntervals {E = PmFault} before before (events_of plan) (fences_of_plan plan) (Ok reply))
    → ((state : State) (command : Command) → IsOurs command → IsPlanFor old before state command plan → (reply : Reply) → Follows {E = PmFault} old old before before state command answer (Ok reply))
    → ((after : VolumeView) (reply : Reply) → call.Come after (Ended reply) → with_kept old.kept after ≡ after → (reply ≡ reply_of answer) × (after ≡ old)) → ((device : DeviceView) (result : Result Reply PmFault) → Stored device result)
    → Runs call old before plan first answer IsOurs Stored
runs_idle {call = call} {old} {before} {plan} {answer = answer} {IsOurs} is begun going done device follows same stored = record {
  begun = begun;
  done = λ after new reply made come back.
      let (told, still) = same after reply come back in
      let idle = (only (subst (λ (l : List Step). Unfolds {E = PmFault} l before new (Ok reply)) is made)).fenced in
      let carries : Carries {E = PmFault} old old before before plan answer IsOurs (Ok reply) = record {
        meaning = λ state command ours for. follows state command ours for reply;
        answered = record { reply = told; going = going; knows = done; stopped = tt; size = refl; marked = refl };
        device = device reply;
        idle = λ none. (refl, refl);
        beside = λ word k. refl;
      } in
      subst (λ (v : VolumeView). Carries {E = PmFault} old v before new plan answer IsOurs (Ok reply)) (sym still) (subst (λ (d : DeviceView). Carries {E = PmFault} old old before d plan answer IsOurs (Ok reply)) (sym idle.0) carries);
  stopped = λ after new fault made stops. let none : false ≡ true = (only (subst (λ (l : List Step). Unfolds {T = Reply} l before new (Err fault)) is made)).fenced.1 in absurd cc;
  stored = λ new result made. stored new result;
}

module _ {R : Type 0} {call : Call R} {old : VolumeView} {before : DeviceView} {plan : Action} {first : R} {answer : Answer} {IsOurs : Command → Type 0} {Stored : DeviceView → Result Reply PmFault → Type 0}
    (runs : Runs call old before plan first answer IsOurs Stored) where
  module _ {after : VolumeView} {device : DeviceView} {reply : Reply} (gone : HasGone call old before after device (Ended reply)) where
    pub carries_on : Carries {E = PmFault} old after before device plan answer IsOurs (Ok reply)
    carries_on = runs.done after device reply (all_made call old before gone) gone.come (kept_back call old before gone)

    pub stored_on : Stored device (Ok reply)
    stored_on = runs.stored device (Ok reply) (all_made call old before gone)

  module _ {now : VolumeView} {between : DeviceView} {running : R} (gone : HasGone call old before now between (More running)) {T : Type 0} {fault : PmFault} {device : DeviceView} (result : Result Reply PmFault) (err : IsErr result)
      (takes : Takes {T = T} (call.step now running) between device (Err fault)) where
    pub carries_no_further : {after : VolumeView} → after ≡ record now { stopped = true } → Carries old after before device plan answer IsOurs result
    carries_no_further {after} stopped = by_result result err takes
      where
        by_result : (result : Result Reply PmFault) → IsErr result → Takes {T = T} (call.step now running) between device (Err fault) → Carries old after before device plan answer IsOurs result
        by_result (Ok reply) err takes = absurd (let clash : false ≡ true = err in cc)
        by_result (Err other) err takes = runs.stopped after device other (failed call old before gone (Err other) err takes) (stopped_same call old before gone stopped)

    pub stored_no_further : Stored device result
    stored_no_further = runs.stored device result (failed call old before gone result err takes)

-- what holds of both kinds of plan holds of its plan
pub by_plan : {A : Type 0} (Q : Action → Type 0) (make : A → Action) (nothing plan : Action) → ((x : A) → Q (make x)) → Q nothing → ((x : A) × (plan ≡ make x)) ⊎ (plan ≡ nothing) → Q plan
by_plan Q make nothing plan some none (inl (x, is)) = subst Q (sym is) (some x)
by_plan Q make nothing plan some none (inr is) = subst Q (sym is) none
