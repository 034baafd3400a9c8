-- A plan begins: its first step was made, or its fence failed. By what is known where it begins.
use Rattle.std.proofs.Common.{◌≡◌, ℕ, ◌+◌, ◌-◌, ◌<◌, ◌≤◌, Bool, true, false, if◌then◌else◌, List, length, set, Option, None, Some, Ok, Err, refl, sym, ap, subst, ◌∙◌, arith}
use Rattle.std.proofs.lemmas.Bool.{true≢false}
use Rattle.std.proofs.lemmas.List.{length-set}
use Rattle.pm_trait.specs.DeviceView.{DeviceView, IsSettledView, Acknowledges, MakesIntervals}
use Rattle.pm_trait.specs.Unfolds.{Fenced, Step, step_events, step_fences, fences_in}
use Rattle.pm_trait.proofs.Unfolding.{step_intervals}
use Rattle.tree_model.specs.Capacity.{Supply}
use Rattle.tree_model.specs.Run.{State, Line, is_changing}
use Rattle.tree_model.specs.declared.reply.Reply.{Reply}
use Rattle.tree_model.specs.declared.reply.Reply.TheVariants.{Done, Fault}
use Rattle.image_counts.specs.Laws.{supply_beside}
use Rattle.image_laws.specs.Quiet.{IsMix}
use Rattle.volume.specs.Stages.{keeping}
use Rattle.volume.specs.Volume.{VolumeView}
use Rattle.volume.specs.declared.next.Next.{Next}
use Rattle.volume.specs.declared.next.Next.TheVariants.{More, Ended as HasEnded}
use Rattle.volume.specs.declared.plan.Action.{Action}
use Rattle.running_calls.specs.declared.running.Running.{Running}
use Rattle.running_calls.specs.Stages.{IsNext, left_of, step_of}
use Rattle.running_laws.specs.Steps.{commits, given_inode}
use Rattle.running_laws.specs.Waits.{bytes_of_command}
use Rattle.session_laws.specs.Calls.{Call, Calls, call_at, left_of_all, ranges_of_all}
use Rattle.session_laws.specs.Going.{next_call}
use Rattle.session_laws.specs.Histories.{IsCrashOf}
use Rattle.session_laws.proofs.Lists.{without_idle}
use Rattle.sessions.specs.Advanced.{MadeStep, FailedStep, HasAdvanced, goes_on, ends, fails, with_entry, enters_now}
use Rattle.sessions.specs.Interleave.{InterleaveView, IsWeaving, task_of, tasks_of}
use Rattle.volume.specs.Named.{AreNamedBy}
use Rattle.session_laws.proofs.GoingStored.{enters_same}
use Rattle.sessions.specs.Steps.{IsBusyRightly, IsFencedChange, Steps, MayBeLeft, IsBeforeOrBehind, IsBeforeOrEntered, may_commit_first, may_commit, IsFreeOfOthers, number_of, KeepsFrame, begun_after}
use Rattle.sessions.specs.declared.entry.Entry.{Entry}
use Rattle.sessions.specs.declared.entry.StepReply.{StepReply}
use Rattle.sessions.specs.declared.entry.StepReply.TheVariants.{Running as RunsOn, Ended}
use Rattle.sessions.specs.declared.entry.WeaveReply.TheVariants.{Plain}
use Rattle.sessions.specs.declared.task.Task.{Task}
use Rattle.sessions.proofs.AnswerLaw.{acked_wait}
use Rattle.sessions.proofs.CarryCrash.{HoldsOfMixes, step_leaves, step_settled, end_acks, ends_waiting, ends_settled}
use Rattle.sessions.proofs.CarrySteps.{Began, DidStep, stepped_on}
use Rattle.sessions.proofs.FencesTakes.{TakesFirst}
use Rattle.sessions.proofs.GoesMade.{reply_next}
use Rattle.sessions.proofs.StepEvents.{interval_made, events_made, beside_made}
use Rattle.sessions.proofs.StepCrash.{IsStepState, IsTreeBehind, HasLegalEntry, left_behind, left_entered}
use Rattle.sessions.proofs.WeavesOne.{tasks_set}

abbrev pub first_step : InterleaveView → Action → Call → Step
first_step old action call = step_of (keeping old.volume action) (bytes_of_command call.command) call.running

-- what a crash in it leaves
abbrev pub IsFirstState : InterleaveView → Calls → State → Call → State → Type 0
IsFirstState old calls history call state =
    IsStepState (commits call.running) (supply_beside old.volume.size (left_of_all old.volume calls)) history call.command (given_inode call.running) state

-- Whether the entry comes with the first step; that it has a store, where the call goes on; what a crash in it leaves, with its entry where it commits; and
-- what is known behind it.
pub record BeginsAt (old : InterleaveView) (before : DeviceView) (calls : Calls) (history : State) (session : ℕ) (action : Action) (call : Call) (enters : Bool) : Type 0 where
  pub enters_is : enters_now (fences_in (left_of (keeping old.volume action) (bytes_of_command call.command) call.running)) call.behind ≡ enters
  pub settled : IsSettledView before
  pub stores : (running : Running) → IsNext call.running (More running) → (first_step old action call).stores ≡ true
  pub crash : (J M : List ℕ) → (first_step old action call).Makes before.words J → IsMix before.words J M
      → MayBeLeft old.volume.size calls history (Ok call.command) (IsFirstState old calls history call) M
  pub commit : commits call.running ≡ true → may_commit_first history call.command ≡ true
  pub legal : HasLegalEntry old.volume.size (commits call.running) (supply_beside old.volume.size (left_of_all old.volume calls)) history call.command (given_inode call.running)
      (Ok call.command)
  pub began : (new : VolumeView) (after : DeviceView) (next : Next Running)
      → MadeStep (keeping old.volume action) new before after (bytes_of_command call.command) call.running next
      → Began old new after calls history session call next enters

module _ (old new : InterleaveView) (before after : DeviceView) (calls : Calls) (history : State) (session : ℕ) (action : Action) (call : Call) (enters : Bool)
    (weaving : IsWeaving old before calls history) (idle : call_at calls session ≡ None) (within : session < length calls) (number : call.number ≡ old.begun + 1)
    (changing : is_changing call.command ≡ true) (free : IsFreeOfOthers calls history call.command)
    (names : AreNamedBy history.tree call.command call.named) (at : BeginsAt old before calls history session action call enters)
    (takes : TakesFirst old before calls history action call)
    (fenced_change : (first_step old action call).stores ≡ true → IsFencedChange (supply_beside old.volume.size (left_of_all old.volume calls)) history (Ok call.command)) where
  abbrev keeps : InterleaveView
  keeps = record old { volume = keeping old.volume action; begun = old.begun + 1 }

  abbrev step : Step
  step = first_step old action call

  abbrev bytes : List ℕ
  bytes = bytes_of_command call.command

  abbrev line : Line
  line = Ok call.command

  -- whether its entry comes with the step
  abbrev comes : Bool
  comes = enters_now (fences_in (left_of (keeping old.volume action) bytes call.running)) call.behind

  -- the entries behind it
  entries_are : (reply : Reply) (added : List Entry)
      → added ≡ (if comes then with_entry old session call.number (Plain reply) else old.entries)
      → added ≡ (if enters then with_entry old session call.number (Plain reply) else old.entries)
  entries_are reply added is = is ∙ ap (λ (b : Bool). if b then with_entry old session call.number (Plain reply) else old.entries) at.enters_is

  -- as many sessions are there, on the same volume
  frame : (next : Next Running) (fenced : DeviceView) → MadeStep (keeping old.volume action) new.volume before fenced bytes call.running next
      → length new.tasks ≡ length old.tasks → KeepsFrame old new
  frame next fenced made long =
      let keeps_all = enters_same (record (keeping old.volume action) { kept = (keeping old.volume action).kept - step.events }) new.volume call.running made.enters in
      record { size = keeps_all.size; marked = keeps_all.marked; sessions = long }

  few_fences : (b : Bool) → (if b then 1 else 0) ≤ 1
  few_fences true = omega arith
  few_fences false = omega arith

  -- ---- a crash in it

  abbrev supply : Supply
  supply = supply_beside old.volume.size (left_of_all old.volume calls)

  abbrev id : ℕ
  id = given_inode call.running

  abbrev Left : (State → Type 0) → List ℕ → Type 0
  Left IsOne image = MayBeLeft old.volume.size calls history line IsOne image

  module _ (there : DeviceView) (makes : step.Makes before.words there.words) where
    leaves_behind : (later : State) → IsTreeBehind (commits call.running) history call.command id later → HoldsOfMixes (Left (IsBeforeOrBehind history later 0)) before there
    leaves_behind later tree image mix =
        left_behind old.volume.size calls history line image (commits call.running) supply call.command id later tree (at.crash there.words image makes mix)

    leaves_entered : HoldsOfMixes (Left (IsBeforeOrEntered old.volume.size (call_at calls session) history line)) before there
    leaves_entered image mix =
        left_entered old.volume.size calls history line image (commits call.running) supply call.command id (call_at calls session)
        (λ commit. ap (λ (ran : Option Call). may_commit ran history line) idle ∙ at.commit commit) at.legal (at.crash there.words image makes mix)

  -- ---- it goes on

  module _ (running : Running) (made : MadeStep (keeping old.volume action) new.volume before after bytes call.running (More running))
      (new_is : new ≡ record keeps {
        volume = new.volume;
        tasks = set old.tasks session (Some (task_of (record call { running = running })));
        entries = (if comes then with_entry old session call.number (Plain Done) else old.entries);
      }) where
    costs : MakesIntervals {T = Unit {0}} {E = Unit {0}} before after (step_events step) (step_fences step) (Ok tt)
    costs = step_intervals step before after (Ok tt) at.settled made.takes

    one_fence : after.fences ≡ before.fences + 1
    one_fence = costs.counted ∙ ap (λ (b : Bool). before.fences + (if b then 1 else 0)) (at.stores running made.next_is)

    went_did : DidStep old new before after calls session call (More running) enters
    went_did = record {
      tasks = ap (λ (w : InterleaveView). w.tasks) new_is
          ∙ ap (λ (tasks : List (Option Task)). set tasks session (Some (task_of (record call { running = running })))) weaving.tasks
          ∙ sym (tasks_set calls session (Some (record call { running = running })));
      entries = entries_are Done new.entries (ap (λ (w : InterleaveView). w.entries) new_is);
      begun = ap (λ (w : InterleaveView). w.begun) new_is;
      bytes = ap (λ (w : InterleaveView). w.bytes) new_is;
      most = (let one = one_fence in omega (arith, one));
      fence = one_fence;
      acks = (let same = costs.acks in omega (arith, same));
      acked = λ told is. costs.no_ack;
      faults = costs.no_fault;
      events = events_made step before after after (reply_next call (More running)) made.takes refl;
    }

    went_began : Began old new.volume after calls history session call (More running) enters
    went_began = at.began new.volume after (More running) made

    went : Steps old new before after calls history session line (RunsOn call.number)
    went = record {
      frame = frame (More running) after made (ap (λ (w : InterleaveView). length w.tasks) new_is ∙ length-set old.tasks session
          (Some (task_of (record call { running = running }))));
      beside = beside_made (keeping old.volume action) bytes call.running before after after made.takes.makes refl;
      going = λ going. stepped_on old new before after calls history session call (More running) enters weaving idle within number changing free names went_began went_did
          (takes new.volume after (More running) made)
          (λ waiting. step_leaves (λ count image. Left (IsBeforeOrBehind history went_began.later count) image) step before after (Ok tt) at.settled made.takes
          (leaves_behind after made.takes.makes went_began.later went_began.tree))
          (λ waiting. step_settled (λ count words. IsCrashOf old.volume.size words (ranges_of_all (set calls session (next_call call (More running)))) went_began.later)
          step before after at.settled made.takes);
      failed = λ stopped. absurd (true≢false (sym stopped ∙ went_began.going));
    }

  -- ---- it ends, and is acknowledged

  module _ (told : Reply) (fenced : DeviceView) (made : MadeStep (keeping old.volume action) new.volume before fenced bytes call.running (HasEnded told))
      (acks : Acknowledges fenced after)
      (new_is : new ≡ record keeps {
        volume = new.volume;
        entries = (if comes then with_entry old session call.number (Plain told) else old.entries);
      }) where
    end_costs : MakesIntervals {T = Unit {0}} {E = Unit {0}} before fenced (step_events step) (step_fences step) (Ok tt)
    end_costs = step_intervals step before fenced (Ok tt) at.settled made.takes

    end_did : DidStep old new before after calls session call (HasEnded told) enters
    end_did = record {
      tasks = ap (λ (w : InterleaveView). w.tasks) new_is ∙ weaving.tasks ∙ ap tasks_of (sym (without_idle calls session idle));
      entries = entries_are told new.entries (ap (λ (w : InterleaveView). w.entries) new_is);
      begun = ap (λ (w : InterleaveView). w.begun) new_is;
      bytes = ap (λ (w : InterleaveView). w.bytes) new_is;
      most = (let counted = end_costs.counted in let few = few_fences step.stores in let same = acks.fences in omega (arith, counted, few, same));
      fence = tt;
      acks = (let same = end_costs.acks in let one = acks.acks in omega (arith, same, one));
      acked = end_acks step before fenced after at.settled made.takes acks;
      faults = acks.faults ∙ end_costs.no_fault;
      events = events_made step before fenced after (reply_next call (HasEnded told)) made.takes acks;
    }

    end_began : Began old new.volume after calls history session call (HasEnded told) enters
    end_began =
        let there = at.began new.volume fenced (HasEnded told) made in
        record {
          words = there.words;
          later = there.later;
          waits = acked_wait new.volume fenced after there.words (set calls session None) there.waits acks;
          going = there.going;
          history_is = there.history_is;
          goes = there.goes;
          tree = there.tree;
          entered = there.entered;
          told = there.told;
        }

    end_frame : KeepsFrame old new
    end_frame = frame (HasEnded told) fenced made (ap (λ (w : InterleaveView). length w.tasks) new_is)

    ended : Steps old new before after calls history session line (Ended call.number (Plain told))
    ended = record {
      frame = end_frame;
      beside = beside_made (keeping old.volume action) bytes call.running before fenced after made.takes.makes acks.words;
      going = λ going. stepped_on old new before after calls history session call (HasEnded told) enters weaving idle within number changing free names end_began end_did
          (λ left. acks.fences ∙ takes new.volume fenced (HasEnded told) made left)
          (λ waiting. ends_waiting step before fenced after at.settled made.takes acks old.volume.size new calls history end_began.later session line waiting end_frame.size
          (leaves_behind fenced made.takes.makes end_began.later end_began.tree))
          (λ waiting. ends_settled step before fenced after at.settled made.takes acks old.volume.size new (set calls session None) end_began.later waiting end_frame.size);
      failed = λ stopped. absurd (true≢false (sym stopped ∙ end_began.going));
    }

  -- ---- its fence failed

  module _ (failed : FailedStep (keeping old.volume action) new.volume before after bytes call.running) (new_is : new ≡ record keeps { volume = new.volume }) where
    failed_costs : MakesIntervals {T = Unit {0}} {E = Unit {0}} before after (step_events step) (step_fences step) (Err tt)
    failed_costs = step_intervals step before after (Err tt) at.settled failed.takes

    -- the session runs none
    idle_tasks : old.tasks ≡ set old.tasks session None
    idle_tasks =
        weaving.tasks ∙ ap tasks_of (sym (without_idle calls session idle)) ∙ tasks_set calls session None
        ∙ ap (λ (tasks : List (Option Task)). set tasks session None) (sym weaving.tasks)

    no_fence : after.fences < before.fences + step_fences step → before.fences ≤ after.fences → after.fences ≡ before.fences
    no_fence fewer least = let few = few_fences step.stores in omega (arith, fewer, least, few)

    -- what has no store doesn't fail
    stores_some : (some : Bool) → Fenced {T = Unit {0}} {E = Unit {0}} some step.events before after (Err tt) → some ≡ true
    stores_some true fenced = refl
    stores_some false (same, ok) = absurd (true≢false (sym ok))

    stopped : new.volume.stopped ≡ true
    stopped = ap (λ (v : VolumeView). v.stopped) failed.stopped

    failed_steps : Steps old new before after calls history session line (Ended call.number (Plain Fault))
    failed_steps = record {
      frame = record {
        size = ap (λ (v : VolumeView). v.size) failed.stopped;
        marked = ap (λ (v : VolumeView). v.marked) failed.stopped;
        sessions = ap (λ (w : InterleaveView). length w.tasks) new_is;
      };
      beside = beside_made (keeping old.volume action) bytes call.running before after after failed.takes.makes refl;
      going = λ going. absurd (true≢false (sym stopped ∙ going));
      failed = λ is. record {
        told = ap (λ (own : ℕ). Ended own (Plain Fault)) (number ∙ sym (ap (number_of old.begun) idle));
        cause = failed_costs.cause;
        busy = subst (λ (ran : Option Call). IsBusyRightly (RunsOn (number_of old.begun ran)) ran calls history line) (sym idle) free;
        began = λ none. fenced_change (stores_some step.stores failed.takes.fenced);
        entries = ap (λ (w : InterleaveView). w.entries) new_is;
        tasks = ap (λ (w : InterleaveView). w.tasks) new_is ∙ idle_tasks;
        begun = ap (λ (w : InterleaveView). w.begun) new_is ∙ sym (ap (begun_after old.begun) idle);
        bytes = ap (λ (w : InterleaveView). w.bytes) new_is;
        events = interval_made step before after (Err tt) failed.takes;
        fences = no_fence failed_costs.fewer failed_costs.least_fences;
        no_ack = failed_costs.acks;
        none_acked = failed_costs.no_ack;
        any_moment = step_leaves (λ count image. Left (IsBeforeOrEntered old.volume.size (call_at calls session) history line) image) step before after (Err tt) at.settled
            failed.takes (leaves_entered after failed.takes.makes);
        halts = failed_costs.halts;
      };
    }

  -- ---- whichever it was

  pub begins : (reply : StepReply) → HasAdvanced keeps new before after session (task_of call) bytes reply → Steps old new before after calls history session line reply
  begins reply (goes_on running made new_is told) = subst (λ (r : StepReply). Steps old new before after calls history session line r) (sym told) (went running made new_is)
  begins reply (ends answer fenced made acks new_is told) =
      subst (λ (r : StepReply). Steps old new before after calls history session line r) (sym told) (ended answer fenced made acks new_is)
  begins reply (fails failed new_is told) = subst (λ (r : StepReply). Steps old new before after calls history session line r) (sym told) (failed_steps failed new_is)
