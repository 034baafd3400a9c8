-- A plan begins: its command takes as many fences as the plan between the history and what its entry leaves, and with the first step it takes one of
-- them, or where it has nothing to do none.
use Rattle.std.proofs.Common.{◌≡◌, ℕ, zero, suc, ◌+◌, ◌<◌, ◌≤◌, Bool, true, true≢false, if◌then◌else◌, List, Option, None, Some, Ok, refl, sym, ap, subst, ◌∙◌, arith}
use Rattle.pm_trait.specs.DeviceView.{DeviceView, MakesIntervals}
use Rattle.pm_trait.specs.Unfolds.{Step, step_events, step_fences}
use Rattle.pm_trait.proofs.Unfolding.{step_intervals}
use Rattle.tree_model.specs.Capacity.{Supply}
use Rattle.tree_model.specs.Fences.{fences_of_accepted}
use Rattle.tree_model.specs.Run.{State, IsVolumeState, is_changing}
use Rattle.tree_model.specs.Step.{tree_after, room_after}
use Rattle.tree_model.specs.Tree.{node_at}
use Rattle.tree_model.specs.declared.command.Command.{Command}
use Rattle.naming_laws.specs.Naming.{inode_need}
use Rattle.image_reading.specs.Residue.{Residue, no_residue}
use Rattle.image_counts.specs.Laws.{ReadsBeside, supply_beside}
use Rattle.image_counts.proofs.Inodes.{free_inode_beside_law}
use Rattle.mixing_laws.proofs.Does.{does_alike_law}
use Rattle.volume.specs.Costs.{events_of, fences_of_plan}
use Rattle.volume.specs.Stages.{keeping}
use Rattle.volume.specs.Volume.{VolumeView}
use Rattle.volume.specs.declared.next.Next.{Next}
use Rattle.volume.specs.declared.next.Next.TheVariants.{More, Ended as HasEnded}
use Rattle.volume.specs.declared.plan.Action.{Action}
use Rattle.plan_laws.specs.Laws.{gives_back, NamesApart}
use Rattle.plan_laws.proofs.PlanFences.{plan_fences_beside_law}
use Rattle.running_calls.specs.declared.running.Running.{Running}
use Rattle.running_calls.specs.Stages.{begun}
use Rattle.waiting_laws.specs.Beside.{IsReady}
use Rattle.waiting_laws.proofs.MakingBegins.{for_entry}
use Rattle.running_laws.specs.Steps.{IsAfter, commits, given_inode}
use Rattle.running_laws.specs.Waits.{bytes_of_command}
use Rattle.running_laws.proofs.BeginPlans.{IsCallOf, planned_call}
use Rattle.running_laws.proofs.CostPlan.{plan_costs_law}
use Rattle.session_laws.specs.Calls.{Call, Calls, left_of_all, ranges_of_all}
use Rattle.session_laws.specs.Going.{IsReadyAmong, behind_commit}
use Rattle.session_laws.specs.Histories.{EntersHistory}
use Rattle.session_laws.proofs.HistoryAlike.{apart}
use Rattle.session_laws.proofs.HistoryApart.{volume_state}
use Rattle.session_laws.proofs.HistoryBegins.{zero_unused}
use Rattle.session_laws.proofs.HistoryEnters.{enters}
use Rattle.sessions.specs.Advanced.{MadeStep}
use Rattle.sessions.specs.Interleave.{InterleaveView}
use Rattle.sessions.specs.Planned.{IsPlannedAmong}
use Rattle.sessions.specs.Steps.{IsFencedChange, IsLeastGiven}
use Rattle.sessions.proofs.CarryBeside.{stores_first, fences_are}
use Rattle.sessions.proofs.CarryFree.{planned_beside, planned_ready, planned_may}
use Rattle.sessions.proofs.CarryIdle.{IsIdle, plan_idle}
use Rattle.sessions.proofs.CarryMade.{first_step}
use Rattle.sessions.proofs.CarryPlans.{CommitsFirst, at_once, later as commits_later, plan_commits}
use Rattle.sessions.proofs.FencesAlike.{fences_alike, few_fences}
use Rattle.sessions.proofs.FencesRoom.{Fits, plan_fits}
use Rattle.sessions.proofs.FencesTakes.{TakesNext}
use Rattle.sessions.proofs.GivenLeast.{least_by}
use Rattle.sessions.proofs.GivenNext.{next_given}
use Rattle.sessions.proofs.WeavesOne.{WaitBeside}

-- ---- the inode that it gives

-- no node has it
abbrev UnusedBy : State → Option Running → Type 0
UnusedBy state None = Unit {0}
UnusedBy state (Some running) = node_at state.tree (given_inode running) ≡ None

module _ (volume : VolumeView) (device : DeviceView) (state : State) (others : Residue) (valid : IsVolumeState volume.size state) where
  no_zero : node_at state.tree 0 ≡ None
  no_zero = zero_unused volume.size state valid

  unused_by : (command : Command) (action : Action) → IsCallOf command action → IsReady volume device state command action others → UnusedBy state (begun action)
  unused_by _ _ (IsCallOf.makes path entry) ready =
      let stands = ready.prepared.stands in
      let holds : ReadsBeside volume.size device.words others state = record { coherent = stands.sound.coherent; beside = stands.beside; reads = stands.reads } in
      (free_inode_beside_law volume.size device.words others state holds).fresh entry.inode (for_entry volume device state path entry others ready).inode_is.free
  unused_by _ _ (IsCallOf.links from to link) ready = no_zero
  unused_by _ _ (IsCallOf.removes path removal) ready = no_zero
  unused_by _ _ (IsCallOf.moves from to moving) ready = no_zero
  unused_by _ _ (IsCallOf.keeps_names from to) ready = no_zero
  unused_by _ _ (IsCallOf.writes path writing bytes) ready = no_zero
  unused_by _ _ (IsCallOf.writes_nothing path offset) ready = no_zero
  unused_by _ _ (IsCallOf.resizes path resizing) ready = no_zero
  unused_by _ _ (IsCallOf.keeps_size path size) ready = no_zero
  unused_by _ _ (IsCallOf.reads command action stays none) ready = subst (UnusedBy state) (sym none) tt

-- ---- its entry

-- The history that its command leaves takes as many fences as its plan.
pub record PlansEntry (old : InterleaveView) (calls : Calls) (history : State) (action : Action) (call : Call) : Type 0 where
  pub entered : State
  pub enters : EntersHistory (supply_beside old.volume.size (left_of_all old.volume calls)) history entered call.command (given_inode call.running)
  pub fences : fences_of_accepted history call.command entered ≡ fences_of_plan action

module _ (old : InterleaveView) (before : DeviceView) (calls : Calls) (history : State) (session : ℕ) (action : Action) (call : Call)
    (planned : IsPlannedAmong old before calls history session call.command call.named action) (changing : is_changing call.command ≡ true)
    (plan_behind : call.behind ≡ behind_commit action) (starts : begun action ≡ Some call.running) where
  abbrev words : State
  words = planned.weaving.words

  abbrev others : Residue
  others = left_of_all old.volume calls

  abbrev supply : Supply
  supply = supply_beside old.volume.size others

  abbrev id : ℕ
  id = given_inode call.running

  wait : WaitBeside old.volume before words calls
  wait = planned_beside old before calls history session call.command call.named action planned changing

  ready : IsReadyAmong old.volume before words call.command action calls
  ready = planned_ready old before calls history session call.command call.named action planned changing

  valid : IsVolumeState old.volume.size words
  valid = volume_state old.volume before words no_residue calls wait.calls_wait

  unused : node_at words.tree id ≡ None
  unused = subst (UnusedBy words) starts (unused_by old.volume before words others valid call.command action
      (planned_call old.volume before words call.command action others ready.ready) ready.ready)

  -- what it leaves of the words
  abbrev later : State
  later = record { tree = tree_after id words.tree call.command; room = room_after id words.tree words.room call.command (gives_back action) }

  fits : Fits id words call.command (gives_back action)
  fits = plan_fits old.volume before words call.command action others id ready.ready changing

  after : IsAfter words later call.command id
  after = record { tree = refl; room = (gives_back action, refl, fits) }

  plan_fences : fences_of_plan action ≡ fences_of_accepted words call.command later
  plan_fences =
      let stands = ready.ready.prepared.stands in
      let names : NamesApart old.volume.size before.words others words.tree call.command = λ i named. (ready.ready.prepared.untouched.each i named).apart in
      plan_fences_beside_law before.words supply others words later call.command action id
      (record { coherent = stands.sound.coherent; beside = stands.beside; reads = stands.reads }) names ready.ready.planned
      (record { tree = refl; room = refl; fits = fits })

  pub plans_entry : PlansEntry old calls history action call
  plans_entry =
      let is = planned.weaving.history_is in
      let ranges = ranges_of_all calls in
      let accepted = ready.ready.planned.accepted in
      let free = apart old.volume before supply words history calls call.command call.named wait.calls_wait is planned.named_is planned.free accepted in
      let does = does_alike_law old.volume.size supply id ranges history.tree words.tree words.room call.command valid accepted unused free is.tree in
      let (entered, new, now) = enters supply ranges ranges history words later call.command id is accepted unused does after in
      record { entered = entered; enters = new; fences = sym (fences_alike ranges ranges history words entered later call.command is now) ∙ sym plan_fences }

  -- a node that it makes gets the least inode
  gives_least : inode_need call.command ≡ 1 → IsLeastGiven history.tree others id
  gives_least =
      least_by old.volume before words history others (ranges_of_all calls) call.command action call.running
      (planned_call old.volume before words call.command action others ready.ready) ready.ready planned.weaving.history_is starts

  -- ---- a change whose first step has a store takes a fence

  some_fence : (is_commit : Bool) (fences behind : ℕ) → CommitsFirst is_commit fences behind → 1 ≤ fences
  some_fence is_commit fences behind (at_once commit all) = omega (arith, all)
  some_fence is_commit fences behind (commits_later quiet more) = omega (arith, more)

  fences_some : (first_step old action call).stores ≡ true → (n : ℕ) → events_of action ≡ n → 1 ≤ fences_of_plan action
  fences_some stores zero none =
      absurd (true≢false (sym stores ∙ (plan_idle (keeping old.volume action) (bytes_of_command call.command) action call.running starts none).stores))
  fences_some stores (suc n) some =
      some_fence (commits call.running) (fences_of_plan action) (behind_commit action) (plan_commits action call.running starts (omega (arith, some)))

  pub fenced_change : (first_step old action call).stores ≡ true → IsFencedChange supply history (Ok call.command)
  fenced_change stores =
      let some = fences_some stores (events_of action) refl in
      let all = plans_entry.fences in
      (changing, id, plans_entry.entered, plans_entry.enters, omega (arith, some, all))

  -- ---- with its first step

  module _ (new : VolumeView) (fenced : DeviceView) where
    abbrev kept : VolumeView
    kept = keeping old.volume action

    abbrev bytes : List ℕ
    bytes = bytes_of_command call.command

    abbrev step : Step
    step = first_step old action call

    counted : (next : Next Running) → MadeStep kept new before fenced bytes call.running next → fenced.fences ≡ before.fences + step_fences step
    counted next made =
        let costs : MakesIntervals {T = Unit {0}} {E = Unit {0}} before fenced (step_events step) (step_fences step) (Ok tt) =
        step_intervals step before fenced (Ok tt) planned.may.stands.settled made.takes in
        costs.counted

    -- where it has an event, one
    takes_some : 0 < events_of action → (next : Next Running) → MadeStep kept new before fenced bytes call.running next → TakesNext old new before fenced calls history call next
    takes_some some (More running) made = record {
      entered = plans_entry.entered;
      enters = subst (EntersHistory supply history plans_entry.entered call.command) (sym (next_given call.running running made.next_is)) plans_entry.enters;
      fences = plans_entry.fences ∙ fences_are old before calls history session action call planned changing plan_behind starts some new fenced (More running) made;
      given = subst (λ (i : ℕ). inode_need call.command ≡ 1 → IsLeastGiven history.tree others i) (sym (next_given call.running running made.next_is)) gives_least;
    }
    takes_some some (HasEnded reply) made = λ left.
        let one = fences_are old before calls history session action call planned changing plan_behind starts some new fenced (HasEnded reply) made in
        let stores = (stores_first old before calls history session action call planned changing plan_behind starts some).stores in
        let last = few_fences history plans_entry.entered left call.command 1 (omega arith) (plans_entry.fences ∙ one) in
        let steps = counted (HasEnded reply) made ∙ ap (λ (b : Bool). before.fences + (if b then 1 else 0)) stores in
        omega (arith, last, steps)

    takes_nothing : events_of action ≡ 0 → (next : Next Running) → MadeStep kept new before fenced bytes call.running next → TakesNext old new before fenced calls history call next
    takes_nothing none (More running) made = absurd ((plan_idle kept bytes action call.running starts none).ends running made.next_is)
    takes_nothing none (HasEnded reply) made = λ left.
        let idle : IsIdle kept bytes call.running = plan_idle kept bytes action call.running starts none in
        let may = planned_may old before calls history session call.command call.named action planned changing in
        let plan = (plan_costs_law old.volume before bytes action call.running may starts).fences in
        let zero_left = idle.fences in
        let no_fence : fences_of_plan action ≡ 0 = plan ∙ zero_left in
        let last = few_fences history plans_entry.entered left call.command 0 (omega arith) (plans_entry.fences ∙ no_fence) in
        let steps = counted (HasEnded reply) made ∙ ap (λ (b : Bool). before.fences + (if b then 1 else 0)) idle.stores in
        omega (arith, last, steps)

    by_events : (n : ℕ) → events_of action ≡ n → (next : Next Running) → MadeStep kept new before fenced bytes call.running next → TakesNext old new before fenced calls history call next
    by_events zero is = takes_nothing is
    by_events (suc n) is = takes_some (omega (arith, is))

    -- The first step was made.
    pub takes_first : (next : Next Running) → MadeStep kept new before fenced bytes call.running next → TakesNext old new before fenced calls history call next
    takes_first = by_events (events_of action) refl
