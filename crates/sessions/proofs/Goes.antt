-- The call that a session runs goes on, where all wait: they wait again, its entry comes where it commits, and a crash leaves the history with it or
-- without it.
use Rattle.std.proofs.Common.{◌≡◌, inl, inr, ℕ, ◌<◌, true, List, length, length-set, set, Option, None, Some, Ok, Err, refl, sym, ap, subst, ◌∙◌, arith, true≢false}
use Rattle.std.proofs.lemmas.Bool.{cases_eq}
use Rattle.std.proofs.lemmas.List.{set-set}
use Rattle.pm_trait.specs.DeviceView.{DeviceView, StoresAndFences, Acknowledges}
use Rattle.pm_trait.specs.Unfolds.{Step}
use Rattle.tree_model.specs.Run.{State, Line}
use Rattle.tree_model.specs.declared.command.Command.{Command}
use Rattle.tree_model.specs.declared.reply.Reply.{Reply}
use Rattle.tree_model.specs.declared.reply.Reply.TheVariants.{Fault}
use Rattle.volume.specs.Volume.{VolumeView}
use Rattle.volume.specs.declared.next.Next.{Next}
use Rattle.volume.specs.declared.next.Next.TheVariants.{More, Ended as HasEnded}
use Rattle.unlink_ops.proofs.Passing.{with_fence}
use Rattle.running_calls.specs.declared.running.Running.{Running}
use Rattle.running_calls.specs.Stages.{step_of}
use Rattle.running_laws.specs.Waits.{bytes_of_command}
use Rattle.running_laws.proofs.StillWaits.{still_waits_law}
use Rattle.running_laws.proofs.WaitStands.{holds_law}
use Rattle.session_laws.specs.Calls.{Call, Calls, call_at, without, ranges_of_all}
use Rattle.session_laws.specs.Going.{GoOnAmongLaw, next_call}
use Rattle.session_laws.specs.Histories.{IsCrashOf}
use Rattle.session_laws.specs.Moving.{MoveWaits}
use Rattle.session_laws.proofs.ReadyPassed.{acknowledged_among_law}
use Rattle.sessions.specs.Advanced.{MadeStep, FailedStep, HasAdvanced, goes_on, ends, fails}
use Rattle.sessions.specs.Interleave.{InterleaveView, AllWait, idle, beside, alone, IsWeaving, task_of, tasks_of, with_task}
use Rattle.sessions.specs.Laws.{OthersHold, OthersHoldLaw, GoesOnLaw}
use Rattle.sessions.specs.Steps.{IsBusyRightly, MayStep, Steps, StepFails, KeepsFrame, MayBeLeft, IsBeforeOrBehind, IsBeforeOrEntered, number_of, begun_after}
use Rattle.sessions.specs.Tasks.{task_in}
use Rattle.sessions.specs.declared.entry.StepReply.{StepReply}
use Rattle.sessions.specs.declared.entry.StepReply.TheVariants.{Running as RunsOn, Ended}
use Rattle.sessions.specs.declared.entry.WeaveReply.TheVariants.{Plain}
use Rattle.sessions.specs.declared.task.Task.{Task}
use Rattle.sessions.proofs.GoesAlone.{stands_alone}
use Rattle.sessions.proofs.GoesBeside.{stands_beside}
use Rattle.sessions.proofs.GoesKnown.{StandsAt}
use Rattle.sessions.proofs.CarryCrash.{step_leaves, step_settled, end_acks, ends_waiting, ends_settled}
use Rattle.sessions.proofs.GoesLegal.{leaves_behind, leaves_entered}
use Rattle.sessions.proofs.GoesLists.{IsRun, run_by}
use Rattle.sessions.proofs.StepEvents.{interval_made, events_made, beside_made}
use Rattle.sessions.proofs.WeavesOne.{task_of_option, task_put, tasks_long, tasks_set, tasks_without}
use Rattle.sessions.proofs.GoesMade.{IsLeftSo, LeftAtAny, SettledAtAny, reply_next, steps_on}

-- ---- where it waits

-- it stands at its next step, beside others or alone
pub stands_at : GoOnAmongLaw → (weave : InterleaveView) (device : DeviceView) (calls : Calls) (history : State) (s : ℕ) (call : Call) → IsWeaving weave device calls history
    → call_at calls s ≡ Some call → StandsAt weave.volume device calls history s call
stands_at go_on_among weave device calls history s call weaving runs = by_waits weaving.waits
  where
    by_waits : AllWait weave.volume device weaving.words calls → StandsAt weave.volume device calls history s call
    by_waits (idle none going kept stands) = absurd (let clash : ◌≡◌ {A = Option Call} None (Some call) = sym (none s) ∙ runs in cc)
    by_waits (beside wait kept) = stands_beside go_on_among weave.volume device weaving.words history calls s call wait kept weaving.few runs weaving.history_is
    by_waits (alone r other wait later) =
        subst (λ (one : Call). StandsAt weave.volume device calls history s one) (same_call r other wait)
        (subst (λ (at : ℕ). StandsAt weave.volume device calls history at other) (same_session r other wait)
        (stands_alone weave.volume device weaving.words calls r other wait history weaving.history_is))
      where
        same_session : (r : ℕ) (other : Call) → MoveWaits weave.volume device weaving.words calls r other → r ≡ s
        same_session r other wait = elim (cases_eq r s) [
          | inl same ↦ same
          | inr differ ↦ absurd (let none = wait.alone s differ in let clash : ◌≡◌ {A = Option Call} None (Some call) = sym none ∙ runs in cc)
        ]

        same_call : (r : ℕ) (other : Call) → MoveWaits weave.volume device weaving.words calls r other → other ≡ call
        same_call r other wait =
            let both : ◌≡◌ {A = Option Call} (Some other) (Some call) = sym wait.runs ∙ ap (call_at calls) (same_session r other wait) ∙ runs in
            cc

-- ---- its step

module _ (old new : InterleaveView) (before : DeviceView) (calls : Calls) (history : State) (s : ℕ) (call : Call)
    (runs : call_at calls s ≡ Some call) (weaving : IsWeaving (with_task old s (task_of call)) before calls history) (others : old.tasks ≡ tasks_of (without calls s))
    (hold : OthersHold (with_task old s (task_of call)) calls s) (at : StandsAt old.volume before calls history s call) where
  abbrev bytes : List ℕ
  bytes = bytes_of_command call.command

  abbrev Made : DeviceView → Next Running → Type 0
  Made fenced next = MadeStep old.volume new.volume before fenced bytes call.running next

  abbrev step : Step
  step = step_of old.volume bytes call.running

  abbrev Left : (State → Type 0) → List ℕ → Type 0
  Left IsOne image = MayBeLeft old.volume.size calls history (Ok call.command) IsOne image

  stores_so : (next : Next Running) (fenced : DeviceView) → Made fenced next
      → StoresAndFences {T = Unit {0}} {E = Unit {0}} before fenced (step_of old.volume bytes call.running).events (Ok tt)
  stores_so next fenced made = with_fence at.first.stores made.takes.fenced

  -- a step that was made stops nothing
  going_so : (next : Next Running) (fenced after : DeviceView) (reply : StepReply) → Made fenced next → new.volume.stopped ≡ true
      → StepFails (with_task old s (task_of call)) new before after calls history s (Ok call.command) reply
  going_so next fenced after reply made stopped = absurd (true≢false (sym stopped ∙ (at.goes new.volume fenced next made).going))

  -- as many sessions run behind it
  frame_made : (next : Next Running) (fenced : DeviceView) → Made fenced next → IsLeftSo old new calls s call next → KeepsFrame (with_task old s (task_of call)) new
  frame_made next fenced made left =
      let went_to = at.goes new.volume fenced next made in
      record {
        size = went_to.size;
        marked = went_to.marked;
        sessions = ap (λ (tasks : List (Option Task)). length tasks) left.tasks ∙ tasks_long (set calls s (next_call call next)) ∙ length-set calls s (next_call call next)
            ∙ sym (tasks_long calls) ∙ sym (ap (λ (tasks : List (Option Task)). length tasks) weaving.tasks);
      }

  -- ---- it goes on

  left_on : (running : Running) (after : DeviceView) → Made after (More running) → LeftAtAny old new before after calls history call (set calls s (next_call call (More running)))
  left_on running after made later tree weaving =
      step_leaves (λ count image. Left (IsBeforeOrBehind history later count) image) step before after (Ok tt) at.settled made.takes
      (leaves_behind old.volume before calls history s call at after made.takes.makes later tree)

  settled_on : (running : Running) (after : DeviceView) → Made after (More running) → SettledAtAny old new before after (set calls s (next_call call (More running)))
  settled_on running after made later weaving =
      step_settled (λ count words. IsCrashOf old.volume.size words (ranges_of_all (set calls s (next_call call (More running)))) later) step before after at.settled made.takes

  run_on : (running : Running) (after : DeviceView) → Made after (More running) → IsLeftSo old new calls s call (More running)
      → Steps (with_task old s (task_of call)) new before after calls history s (Ok call.command) (reply_next call (More running))
  run_on running after made left =
      let stores = stores_so (More running) after made in
      let went_to = at.goes new.volume after (More running) made in
      record {
        frame = frame_made (More running) after made left;
        beside = beside_made old.volume bytes call.running before after after made.takes.makes refl;
        going = λ is. steps_on old new before calls history s call (More running) runs weaving others hold at after made left after went_to.waits stores
            (record { fences = refl; faults = refl; acks = omega arith }) (λ told is. stores.fenced.no_ack)
            (events_made step before after after (reply_next call (More running)) made.takes refl) (left_on running after made) (settled_on running after made);
        failed = going_so (More running) after after (reply_next call (More running)) made;
      }

  -- ---- it has ended

  left_ended : (told : Reply) (fenced after : DeviceView) → Made fenced (HasEnded told) → Acknowledges fenced after
      → LeftAtAny old new before after calls history call (set calls s (next_call call (HasEnded told)))
  left_ended told fenced after made acks later tree weaving =
      ends_waiting step before fenced after at.settled made.takes acks old.volume.size new calls history later s (Ok call.command) weaving
      (at.goes new.volume fenced (HasEnded told) made).size
      (leaves_behind old.volume before calls history s call at fenced made.takes.makes later tree)

  settled_ended : (told : Reply) (fenced after : DeviceView) → Made fenced (HasEnded told) → Acknowledges fenced after
      → SettledAtAny old new before after (set calls s (next_call call (HasEnded told)))
  settled_ended told fenced after made acks later weaving =
      ends_settled step before fenced after at.settled made.takes acks old.volume.size new (set calls s None) later weaving
      (at.goes new.volume fenced (HasEnded told) made).size

  end : (told : Reply) (fenced after : DeviceView) → Made fenced (HasEnded told) → Acknowledges fenced after → IsLeftSo old new calls s call (HasEnded told)
      → Steps (with_task old s (task_of call)) new before after calls history s (Ok call.command) (reply_next call (HasEnded told))
  end told fenced after made acks left =
      let stores = stores_so (HasEnded told) fenced made in
      let went_to = at.goes new.volume fenced (HasEnded told) made in
      record {
        frame = frame_made (HasEnded told) fenced made left;
        beside = beside_made old.volume bytes call.running before fenced after made.takes.makes acks.words;
        going = λ is. steps_on old new before calls history s call (HasEnded told) runs weaving others hold at fenced made left after
            (beside (acknowledged_among_law still_waits_law holds_law new.volume fenced after went_to.words (set calls s None) went_to.waits.0 acks) went_to.waits.1) stores
            (record { fences = acks.fences; faults = acks.faults; acks = acks.acks }) (end_acks step before fenced after at.settled made.takes acks)
            (events_made step before fenced after (reply_next call (HasEnded told)) made.takes acks) (left_ended told fenced after made acks) (settled_ended told fenced after made acks);
        failed = going_so (HasEnded told) fenced after (reply_next call (HasEnded told)) made;
      }

  -- ---- its fence failed

  fail : (after : DeviceView) (reply : StepReply) → FailedStep old.volume new.volume before after bytes call.running → new ≡ record old { volume = new.volume }
      → reply ≡ Ended call.number (Plain Fault)
      → Steps (with_task old s (task_of call)) new before after calls history s (Ok call.command) reply
  fail after reply failed is told =
      let stores : StoresAndFences {T = Unit {0}} {E = Unit {0}} before after (step_of old.volume bytes call.running).events (Err tt) =
      with_fence at.first.stores failed.takes.fenced in
      let stopped : new.volume.stopped ≡ true = ap (λ (volume : VolumeView). volume.stopped) failed.stopped in
      record {
        frame = record {
          size = ap (λ (volume : VolumeView). volume.size) failed.stopped;
          marked = ap (λ (volume : VolumeView). volume.marked) failed.stopped;
          sessions = ap (λ (weave : InterleaveView). length weave.tasks) is ∙ sym (length-set old.tasks s (Some (task_of call)));
        };
        beside = beside_made old.volume bytes call.running before after after failed.takes.makes refl;
        going = λ going. absurd (true≢false (sym stopped ∙ going));
        failed = λ stop. record {
          told = told ∙ ap (λ (number : ℕ). Ended number (Plain Fault)) (sym (ap (number_of old.begun) runs));
          cause = stores.cause;
          busy = subst (λ (ran : Option Call). IsBusyRightly (RunsOn (number_of old.begun ran)) ran calls history (Ok call.command)) (sym runs) tt;
          began = λ none. absurd (let clash : ◌≡◌ {A = Option Call} None (Some call) = sym none ∙ runs in cc);
          entries = ap (λ (weave : InterleaveView). weave.entries) is;
          tasks = ap (λ (weave : InterleaveView). weave.tasks) is ∙ others ∙ tasks_set calls s None ∙ ap (λ (tasks : List (Option Task)). set tasks s None) (sym weaving.tasks);
          begun = ap (λ (weave : InterleaveView). weave.begun) is ∙ sym (ap (begun_after old.begun) runs);
          bytes = ap (λ (weave : InterleaveView). weave.bytes) is;
          events = interval_made step before after (Err tt) failed.takes;
          fences = let least = stores.least_fences in let fewer = stores.fewer in omega (arith, least, fewer);
          no_ack = stores.acks;
          none_acked = stores.fenced.no_ack;
          any_moment = step_leaves (λ count image. Left (IsBeforeOrEntered old.volume.size (call_at calls s) history (Ok call.command)) image) step before after (Err tt) at.settled
              failed.takes (leaves_entered old.volume before calls history s call at after failed.takes.makes runs);
          halts = stores.fenced.halts;
        };
      }

  -- ---- whatever came of it

  tasks_so : (left : Option Call) → tasks_of (set calls s left) ≡ set old.tasks s (task_of_option left)
  tasks_so left =
      ap tasks_of (sym (set-set calls s None left)) ∙ tasks_set (without calls s) s left ∙ ap (λ (tasks : List (Option Task)). set tasks s (task_of_option left)) (sym others)

  pub steps : (after : DeviceView) (reply : StepReply) → HasAdvanced old new before after s (task_of call) bytes reply
      → Steps (with_task old s (task_of call)) new before after calls history s (Ok call.command) reply
  steps after reply (goes_on running made is told) =
      subst (Steps (with_task old s (task_of call)) new before after calls history s (Ok call.command)) (sym told)
      (run_on running after made (record {
        tasks = ap (λ (weave : InterleaveView). weave.tasks) is ∙ sym (tasks_so (Some (record call { running = running })));
        entries = ap (λ (weave : InterleaveView). weave.entries) is;
        begun = ap (λ (weave : InterleaveView). weave.begun) is;
        bytes = ap (λ (weave : InterleaveView). weave.bytes) is;
      }))
  steps after reply (ends said fenced made acks is told) =
      subst (Steps (with_task old s (task_of call)) new before after calls history s (Ok call.command)) (sym told)
      (end said fenced after made acks (record {
        tasks = ap (λ (weave : InterleaveView). weave.tasks) is ∙ others;
        entries = ap (λ (weave : InterleaveView). weave.entries) is;
        begun = ap (λ (weave : InterleaveView). weave.begun) is;
        bytes = ap (λ (weave : InterleaveView). weave.bytes) is;
      }))
  steps after reply (fails failed is told) = fail after reply failed is told

-- ---- the law

module _ (go_on_among : GoOnAmongLaw) (others_hold : OthersHoldLaw) (old new : InterleaveView) (before after : DeviceView) (calls : Calls) (history : State) (session : ℕ)
    (task : Task) (command : Command) (reply : StepReply) (may : MayStep (with_task old session task) before calls history session (Ok command)) (within : session < length old.tasks)
    (empty : task_in old.tasks session ≡ None) (advanced : HasAdvanced old new before after session task (bytes_of_command command) reply) where
  run : IsRun calls session task
  run =
      run_by (set old.tasks session (Some task)) calls session task may.weaving.tasks (task_put old.tasks session (Some task) within)

  abbrev Leads : Task → Command → Type 0
  Leads one c = Steps (with_task old session one) new before after calls history session (Ok c) reply

  -- by the call that has this task and gives this line
  by_call : (call : Call) → call_at calls session ≡ Some call → IsWeaving (with_task old session (task_of call)) before calls history
      → HasAdvanced old new before after session (task_of call) (bytes_of_command call.command) reply → Leads (task_of call) call.command
  by_call call runs weaving made =
      steps old new before calls history session call runs weaving (tasks_without old.tasks calls session (task_of call) weaving.tasks empty)
      (others_hold (with_task old session (task_of call)) before calls history session weaving)
      (stands_at go_on_among (with_task old session (task_of call)) before calls history session call weaving runs)
      after reply made

  same_command : command ≡ run.call.command
  same_command = let same : ◌≡◌ {A = Line} (Ok command) (Ok run.call.command) = may.same run.call run.runs in cc

  pub goes : Leads task command
  goes =
      subst (Leads task) (sym same_command)
      (subst (λ (one : Task). Leads one run.call.command) (sym run.task_is)
      (by_call run.call run.runs (subst (λ (one : Task). IsWeaving (with_task old session one) before calls history) run.task_is may.weaving)
      (subst (λ (one : Task). HasAdvanced old new before after session one (bytes_of_command run.call.command) reply) run.task_is
      (subst (λ (c : Command). HasAdvanced old new before after session task (bytes_of_command c) reply) same_command advanced))))

pub goes_on_law : GoOnAmongLaw → OthersHoldLaw → GoesOnLaw
goes_on_law go_on_among others_hold old new before after calls history session task command reply may within empty advanced =
    goes go_on_among others_hold old new before after calls history session task command reply may within empty advanced
