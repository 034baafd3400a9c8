-- A plan with an event begins beside the running calls, whatever its command but a rename.
use Rattle.std.proofs.Common.{◌≡◌, ℕ, ◌+◌, ◌-◌, ◌<◌, ◌≤◌, Bool, true, false, nat_le, List, ◌++◌, length, set, Option, None, Some, Ok, refl, sym, ap, ◌∙◌, arith}
use Rattle.std.proofs.lemmas.Bool.{true≢false}
use Rattle.pm_trait.specs.DeviceView.{DeviceView}
use Rattle.pm_trait.specs.Unfolds.{Step, fences_in}
use Rattle.tree_model.specs.Capacity.{Supply}
use Rattle.tree_model.specs.PathText.{Route}
use Rattle.tree_model.specs.Run.{State, is_changing}
use Rattle.tree_model.specs.Table.{Table, get}
use Rattle.tree_model.specs.Tree.{id_at, route_cmp}
use Rattle.naming_laws.specs.Naming.{inode_need}
use Rattle.image_reading.specs.Residue.{no_residue}
use Rattle.image_counts.specs.Laws.{supply_beside}
use Rattle.image_laws.specs.Quiet.{IsMix}
use Rattle.volume.specs.Costs.{events_of, fences_of_plan}
use Rattle.volume.specs.Stages.{keeping}
use Rattle.volume.specs.Volume.{VolumeView}
use Rattle.volume.specs.declared.next.Next.{Next}
use Rattle.volume.specs.declared.next.Next.TheVariants.{More, Ended as HasEnded}
use Rattle.volume.specs.declared.plan.Action.{Action}
use Rattle.volume.specs.declared.plan.Action.TheVariants.{Make}
use Rattle.create_ops.specs.Stages as entries
use Rattle.running_calls.specs.declared.running.Running.{Running}
use Rattle.running_calls.specs.declared.running.Running.TheVariants.{Makes}
use Rattle.running_calls.specs.Stages.{StandsStage, MayBegin, EntersAt, begun, left_of}
use Rattle.waiting_laws.specs.Beside.{MakesStep}
use Rattle.running_laws.specs.Numbers.{CostsAllOf, fences_left}
use Rattle.running_laws.specs.Steps.{commits, runs_beside, given_inode}
use Rattle.running_laws.specs.Waits.{bytes_of_command}
use Rattle.running_laws.proofs.BeginReady.{begins_law}
use Rattle.running_laws.proofs.BeginSteps.{first_step_law}
use Rattle.running_laws.proofs.CostPlan.{plan_costs_law}
use Rattle.running_laws.proofs.CostStep.{step_costs_law}
use Rattle.running_laws.proofs.CrashFirst.{first_crash_law}
use Rattle.running_laws.proofs.StillWaits.{still_waits_law}
use Rattle.running_laws.proofs.WaitHeld.{begun_holds_law, next_holds_law}
use Rattle.running_laws.proofs.WaitNames.{names_held_law}
use Rattle.running_laws.proofs.WaitStands.{holds_law}
use Rattle.session_laws.specs.Calls.{Call, Calls, call_at, left_of_all, range_of_call, ranges_of_all, CallsWait}
use Rattle.session_laws.specs.Going.{BeginAmongLaw, BeganAmong, IsCallOf, IsReadyAmong, behind_commit, next_call}
use Rattle.session_laws.specs.Histories.{HistoryGoesOn}
use Rattle.session_laws.proofs.BeginAmong.{begin_among_law}
use Rattle.session_laws.proofs.BeginKept.{begun_stands}
use Rattle.session_laws.proofs.CrashBegins.{begin_crash_law}
use Rattle.session_laws.proofs.HistoryBegins.{history_begins_law}
use Rattle.session_laws.proofs.Lists.{call_put}
use Rattle.session_laws.proofs.OrderTaken.{put_in_law}
use Rattle.session_laws.proofs.OthersWaits.{others_wait_law}
use Rattle.sessions.specs.Advanced.{MadeStep, entry_of, enters_now}
use Rattle.sessions.specs.Interleave.{InterleaveView, AllWait, beside}
use Rattle.sessions.specs.Planned.{IsPlannedAmong}
use Rattle.sessions.specs.Steps.{MayBeLeft, is_entered_behind}
use Rattle.sessions.specs.declared.entry.WeaveReply.TheVariants.{Plain}
use Rattle.sessions.proofs.CarryCommits.{plan_may_commit}
use Rattle.sessions.proofs.CarryEntry.{entry_legal}
use Rattle.sessions.proofs.CarryFree.{planned_beside, planned_ready, planned_may}
use Rattle.sessions.proofs.CarryMade.{BeginsAt, IsFirstState, first_step}
use Rattle.sessions.proofs.CarryPlans.{CommitsFirst, plan_first, plan_commits, enters_with_commit, committed_behind, ends_with_commit}
use Rattle.sessions.proofs.CarryRanges.{ranges_running}
use Rattle.sessions.proofs.CarryReplies.{told_of_plan, plan_told, plan_makes, first_told}
use Rattle.sessions.proofs.CarrySteps.{Began}
use Rattle.sessions.proofs.GoesFirst.{IsFirst}
use Rattle.sessions.proofs.GoesMade.{told_next}
use Rattle.sessions.proofs.GoesReplies.{AnswersAs}
use Rattle.sessions.proofs.StepCrash.{HasLegalEntry, left_in_step}
use Rattle.sessions.proofs.WeavesOne.{WaitBeside}

begins_among : BeginAmongLaw
begins_among =
    begin_among_law (put_in_law still_waits_law holds_law) (others_wait_law still_waits_law holds_law) begins_law first_step_law holds_law names_held_law begun_holds_law
    next_holds_law
    plan_costs_law step_costs_law

same_running : (one other : Running) → ◌≡◌ {A = Option Running} (Some one) (Some other) → one ≡ other
same_running one other is = cc

-- an entry doesn't commit first
makes_later : (action : Action) (running : Running) → begun action ≡ Some running → commits running ≡ true → (entry : _) × (action ≡ Make entry) → ⊥
makes_later action running begins commit (entry, is) =
    let first = same_running (Makes (entries.begun entry)) running (sym (ap begun is) ∙ begins) in
    true≢false (sym commit ∙ sym (ap commits first))

-- What is known where a plan begins that has an event.
module _ (old : InterleaveView) (before : DeviceView) (calls : Calls) (history : State) (session : ℕ) (action : Action) (call : Call)
    (planned : IsPlannedAmong old before calls history session call.command call.named action) (changing : is_changing call.command ≡ true)
    (plan_behind : call.behind ≡ behind_commit action) (starts : begun action ≡ Some call.running) (some : 0 < events_of action) where
  abbrev words : State
  words = planned.weaving.words

  abbrev bytes : List ℕ
  bytes = bytes_of_command call.command

  abbrev kept : VolumeView
  kept = keeping old.volume action

  abbrev step : Step
  step = first_step old action call

  wait : WaitBeside old.volume before words calls
  wait = planned_beside old before calls history session call.command call.named action planned changing

  ready : IsReadyAmong old.volume before words call.command action calls
  ready = planned_ready old before calls history session call.command call.named action planned changing

  may : MayBegin old.volume before bytes action
  may = planned_may old before calls history session call.command call.named action planned changing

  all_costs : CostsAllOf old.volume bytes action call.running
  all_costs = plan_costs_law old.volume before bytes action call.running may starts

  stands : StandsStage kept before bytes call.running
  stands = begun_stands old.volume before bytes action call.running may starts

  pub stores_first : IsFirst (left_of kept bytes call.running) step
  stores_first = plan_first kept bytes action call.running starts some

  pub fits : step.events ≤ kept.kept
  fits = let fit = stores_first.fits in let all = all_costs.events in omega (arith, fit, all)

  commit : CommitsFirst (commits call.running) (fences_of_plan action) (behind_commit action)
  commit = plan_commits action call.running starts some

  pub enters_is : enters_now (fences_in (left_of kept bytes call.running)) call.behind ≡ commits call.running
  enters_is =
      ap (λ (n : ℕ). enters_now n call.behind) (sym all_costs.fences) ∙ ap (λ (n : ℕ). enters_now (fences_of_plan action) n) plan_behind
      ∙ enters_with_commit (commits call.running) (fences_of_plan action) (behind_commit action) commit

  -- how many fences are left behind the step
  pub fences_are : (new : VolumeView) (after : DeviceView) (next : Next Running) → MadeStep kept new before after bytes call.running next
      → fences_of_plan action ≡ 1 + fences_left new bytes next
  fences_are new after next made =
      let between = record kept { kept = kept.kept - step.events } in
      let costs = step_costs_law kept between new before after bytes call.running next stands stores_first.some refl refl made.enters made.next_is made.stands in
      all_costs.fences ∙ costs.fences

  -- ---- beside others

  module _ (idle : call_at calls session ≡ None) (within : session < length calls) (runs : runs_beside call.running ≡ true) where
    of : IsCallOf words call.command action call calls
    of = record {
      command_is = refl;
      changing = changing;
      named = planned.named_is;
      free = planned.free;
      behind = plan_behind;
      running = starts;
      beside = runs;
      some = some;
    }

    makes_none : commits call.running ≡ true → inode_need call.command ≡ 1 → ⊥
    makes_none commits_now one =
        makes_later action call.running starts commits_now (plan_makes old.volume.size before.words words call.command action one planned.planned.plan_is)

    told : AnswersAs call.command (told_of_plan action)
    told = plan_told old.volume.size before.words words call.command action changing planned.planned.plan_is

    -- ---- a crash

    abbrev supply : Supply
    supply = supply_beside old.volume.size (left_of_all old.volume calls)

    same_paths : (path : Route) → id_at history.tree path ≡ id_at words.tree path
    same_paths path = ap (λ (names : Table route_cmp ℕ). get names path) (sym planned.weaving.history_is.tree.names)

    crash : (J M : List ℕ) → step.Makes before.words J → IsMix before.words J M
        → MayBeLeft old.volume.size calls history (Ok call.command) (IsFirstState old calls history call) M
    crash J M makes mix =
        left_in_step old.volume.size calls history (Ok call.command) M (commits call.running) supply call.command (given_inode call.running)
        (range_of_call call ++ ranges_of_all calls) (ranges_running old.volume.size before.words history words calls call action same_paths planned.planned.plan_is starts)
        (begin_crash_law first_crash_law old.volume before words history calls call.command action call J M wait.calls_wait ready of planned.weaving.history_is makes mix)

    legal : HasLegalEntry old.volume.size (commits call.running) supply history call.command (given_inode call.running) (Ok call.command)
    legal state commits_now enters = (
      entry_of old.tasks session call.number (Plain (told_of_plan action)),
      entry_legal old before calls history session planned.weaving idle call.number (told_of_plan action) call.command (given_inode call.running) state enters
          (makes_none commits_now) told,
    )

    -- ---- behind the step

    module _ (new : VolumeView) (after : DeviceView) (next : Next Running) (made : MadeStep kept new before after bytes call.running next) where
      makes_step : MakesStep step (EntersAt call.running) kept new before after
      makes_step = record { kept = fits; takes = made.takes; enters = made.enters }

      among : BeganAmong new after words calls session call next
      among =
          begins_among old.volume new before after words calls session call.command action call next wait.calls_wait idle within wait.kept ready of makes_step made.next_is
          made.stands

      goes : HistoryGoesOn supply (commits call.running) call.command (given_inode call.running)
          (ranges_of_all (set calls session (next_call call next))) history among.later
      goes =
          history_begins_law old.volume before words among.later history calls session call.command action call next wait.calls_wait idle within ready of made.next_is
          planned.weaving.history_is among.means

      entered_by : (behind : Next Running) → CallsWait new after among.later no_residue (set calls session (next_call call behind))
          → fences_of_plan action ≡ 1 + fences_left new bytes behind → is_entered_behind (next_call call behind) ≡ commits call.running
      entered_by (More running) waits fences =
          let now = record call { running = running } in
          let behind_it = (waits.each session now (call_put calls session (Some now) within)).behind in
          behind_it.committed ∙ ap (λ (n : ℕ). nat_le (fences_left new bytes (More running)) n) plan_behind
          ∙ committed_behind (commits call.running) (fences_of_plan action) (behind_commit action) (fences_left new bytes (More running)) commit fences
      entered_by (HasEnded reply) waits fences = ends_with_commit (commits call.running) (fences_of_plan action) (behind_commit action) commit fences

      entered : is_entered_behind (next_call call next) ≡ commits call.running
      entered = entered_by next among.calls_wait (fences_are new after next made)

      waits_on : AllWait new after among.later (set calls session (next_call call next))
      waits_on = beside among.calls_wait among.kept

      reply_is : commits call.running ≡ true → AnswersAs call.command (told_next next)
      reply_is commits_now supply T room = first_told action call.running next starts made.next_is commits_now ∙ told supply T room

      began_if : (b : Bool) → commits call.running ≡ b → Began old new after calls history session call next b
      began_if true commits_now =
          let (later, enters, now) = goes.enters commits_now in
          record {
            words = among.later;
            later = later;
            waits = waits_on;
            going = among.calls_wait.beside.going;
            history_is = now;
            goes = (given_inode call.running, enters, makes_none commits_now);
            tree = λ again. enters.after.tree;
            entered = entered ∙ commits_now;
            told = λ is. reply_is commits_now;
          }
      began_if false quiet = record {
        words = among.later;
        later = history;
        waits = waits_on;
        going = among.calls_wait.beside.going;
        history_is = goes.quiet quiet;
        goes = refl;
        tree = λ commits_now. absurd (true≢false (sym commits_now ∙ quiet));
        entered = entered ∙ quiet;
        told = λ is. absurd (true≢false (sym is));
      }

    pub begins_beside : BeginsAt old before calls history session action call (commits call.running)
    begins_beside = record {
      enters_is = enters_is;
      settled = wait.calls_wait.beside.stands.settled;
      stores = λ running is. stores_first.stores;
      crash = crash;
      commit = plan_may_commit old.volume.size before.words words (ranges_of_all calls) history call.command action call.running planned.weaving.history_is planned.planned.plan_is
          starts;
      legal = legal;
      began = λ new after next made. began_if new after next made (commits call.running) refl;
    }
