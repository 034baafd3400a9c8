-- A rename that runs alone makes its next step.
use Rattle.std.proofs.Common.{◌≡◌, inl, inr, ℕ, ◌-◌, Bool, false, List, [], set, Option, None, Some, refl, sym, ap, subst, ◌∙◌, arith}
use Rattle.std.proofs.lemmas.Bool.{cases_eq}
use Rattle.pm_trait.specs.DeviceView.{DeviceView}
use Rattle.pm_trait.specs.Unfolds.{events_in}
use Rattle.tree_model.specs.Capacity.{Supply, untaken}
use Rattle.tree_model.specs.Run.{State}
use Rattle.tree_model.specs.declared.command.Command.TheVariants.{Rename}
use Rattle.mixing_laws.specs.Mixed.{Range}
use Rattle.mixing_laws.proofs.Ranges.{none_mixed_law}
use Rattle.image_counts.specs.Laws.{supply_beside}
use Rattle.image_laws.specs.Quiet.{IsMix}
use Rattle.volume.specs.Volume.{VolumeView}
use Rattle.volume.proofs.Moments.{IsSameBeside}
use Rattle.volume.specs.declared.next.Next.{Next}
use Rattle.volume.specs.declared.next.Next.TheVariants.{More, Ended}
use Rattle.volume.specs.declared.plan.Moving.{Moving}
use Rattle.removal_steps.specs.Steps.{gone_pages}
use Rattle.rename_ptr.specs.Stages as moves
use Rattle.rename_ptr.proofs.Known.{enters_beside}
use Rattle.rename_ptr.specs.declared.rename.Progress.TheVariants.{Begun}
use Rattle.rename_ptr.specs.declared.rename.Stage.{Stage}
use Rattle.rename_ptr.specs.declared.rename.Stage.TheVariants.{Nothing as NamesKept, Moving as MovesName}
use Rattle.running_calls.specs.declared.running.Running.{Running}
use Rattle.running_calls.specs.declared.running.Running.TheVariants.{Moves}
use Rattle.running_calls.specs.Stages.{StandsStage, EntersAt, IsNext, as_call, left_of, step_of}
use Rattle.waiting_laws.specs.Beside.{MakesStep}
use Rattle.running_laws.specs.Waits.{bytes_of_command}
use Rattle.running_laws.specs.Steps.{Means, commits, given_inode, range_of}
use Rattle.session_laws.specs.Calls.{Call, Calls, call_at, without, listed_range, ranges_of_all}
use Rattle.session_laws.specs.Going.{next_call}
use Rattle.session_laws.specs.Histories.{IsHistory, HistoryGoesOn, MayBeLeft}
use Rattle.session_laws.specs.Moving.{MoveWaits, MoveWaitsNext, MoveWentOn}
use Rattle.session_laws.proofs.Lists.{call_set, events_idle}
use Rattle.session_laws.proofs.MoveBegins.{move_stands_law}
use Rattle.session_laws.proofs.MoveCalls.{within_calls, none_runs, none_left}
use Rattle.session_laws.proofs.MoveCrashes.{move_enters_law, move_crash_law}
use Rattle.session_laws.proofs.MoveSteps.{move_goes_on_law}
use Rattle.sessions.specs.Advanced.{MadeStep}
use Rattle.sessions.specs.Interleave.{alone}
use Rattle.sessions.proofs.GoesFirst.{IsFirst, first_of_move}
use Rattle.sessions.proofs.GoesIds.{IsInRange, makes_none}
use Rattle.sessions.proofs.GoesKnown.{WaitsBehind, BehindNext, WentTo, StandsAt, supply_for}
use Rattle.sessions.proofs.CarryLists.{ranges_none, same_history}
use Rattle.sessions.proofs.GoesReplies.{IsLaterMove, later_move, tells_rename}

-- ---- histories without ranges

history_itself : (state : State) → IsHistory [] state state
history_itself state = record { tree = (none_mixed_law state.tree state.tree).1 refl; room = refl }

-- ---- calls that move a name

-- what it does
pub record MovesAName (call : Call) : Type 0 where
  pub stage : Stage
  pub running_is : call.running ≡ Moves stage

-- no range is theirs
moves_only : (calls : Calls) → ((r : ℕ) (call : Call) → call_at calls r ≡ Some call → MovesAName call) → ranges_of_all calls ≡ []
moves_only calls all =
    ranges_none calls (λ r call runs. let is = (all r call runs).running_is in ap (λ (running : Running). listed_range (range_of (bytes_of_command call.command) running)) is)

-- a rename behind a step is one still,
moves_on : (left : Next Stage) (running : Running) → More running ≡ as_call Moves left → (stage : Stage) × (running ≡ Moves stage)
moves_on (More stage) running same = (stage, (let whole : ◌≡◌ {A = Next Running} (More running) (More (Moves stage)) = same in cc))
moves_on (Ended reply) running same = absurd (let clash : ◌≡◌ {A = Next Running} (More running) (Ended reply) = same in cc)

-- and it isn't at its begin
not_at_begin : (left : Next Stage) (running : Running) (moving : Moving) → IsLaterMove left → More running ≡ as_call Moves left → running ≡ Moves (MovesName moving Begun) → ⊥
not_at_begin (More NamesKept) running moving later same at = later
not_at_begin (More (MovesName other progress)) running moving later same at =
    later (let whole : ◌≡◌ {A = Next Running} (More running) (More (Moves (MovesName other progress))) = same in cc)
not_at_begin (Ended reply) running moving later same at = let clash : ◌≡◌ {A = Next Running} (More running) (Ended reply) = same in cc

-- ---- the step

module _ (volume : VolumeView) (device : DeviceView) (words : State) (calls : Calls) (s : ℕ) (call : Call) (wait : MoveWaits volume device words calls s call) where
  abbrev pages : List ℕ
  pages = gone_pages volume wait.moving.replaced

  abbrev at : Running
  at = Moves (MovesName wait.moving wait.progress)

  no_bytes : bytes_of_command call.command ≡ []
  no_bytes = ap bytes_of_command wait.command_is

  stands : StandsStage volume device (bytes_of_command call.command) call.running
  stands = subst (λ (bytes : List ℕ). StandsStage volume device bytes call.running) (sym no_bytes) (move_stands_law volume device words calls s call wait)

  first : IsFirst (left_of volume (bytes_of_command call.command) call.running) (step_of volume (bytes_of_command call.command) call.running)
  first =
      subst (λ (running : Running). IsFirst (left_of volume (bytes_of_command call.command) running) (step_of volume (bytes_of_command call.command) running)) (sym wait.running_is)
      (first_of_move volume.size wait.moving pages wait.progress wait.waits.knows.losses.count wait.waits.at.store)

  -- none else runs
  others_idle : (r : ℕ) → call_at (without calls s) r ≡ None
  others_idle r = none_runs calls s r (within_calls calls s call wait.runs) wait.alone

  supply_is : untaken volume.size ≡ supply_for volume calls s
  supply_is = ap (supply_beside volume.size) (sym (none_left volume (without calls s) others_idle))

  id : IsInRange volume.size call.command (given_inode call.running)
  id = makes_none volume.size call.command (Rename wait.from wait.to) (given_inode call.running) wait.command_is refl

  given : 0 ≡ given_inode call.running
  given = sym (ap given_inode wait.running_is)

  -- no call has a range
  runs_other : {X : Type 0} (r : ℕ) (other : Call) → (s ≡ r → ⊥) → call_at calls r ≡ Some other → X
  runs_other r other differ runs = absurd (let none = wait.alone r differ in let clash : ◌≡◌ {A = Option Call} None (Some other) = sym none ∙ runs in cc)

  all_move : (r : ℕ) (other : Call) → call_at calls r ≡ Some other → MovesAName other
  all_move r other runs = elim (cases_eq s r) [
    | inl same ↦
        let here : ◌≡◌ {A = Option Call} (Some call) (Some other) = sym wait.runs ∙ ap (call_at calls) same ∙ runs in
        let equal : call ≡ other = cc in
        record { stage = MovesName wait.moving wait.progress; running_is = ap (λ (one : Call). one.running) (sym equal) ∙ wait.running_is }
    | inr differ ↦ runs_other r other differ runs
  ]

  no_ranges : ranges_of_all calls ≡ []
  no_ranges = moves_only calls all_move

  next_moves : (next : Next Running) → IsNext call.running next → (other : Call) → next_call call next ≡ Some other → MovesAName other
  next_moves (More running) is other there =
      let left : More running ≡ as_call Moves (moves.next_moving wait.moving wait.progress) = subst (λ (now : Running). IsNext now (More running)) wait.running_is is in
      let (stage, at) = moves_on (moves.next_moving wait.moving wait.progress) running left in
      let here : ◌≡◌ {A = Option Call} (Some (record call { running = running })) (Some other) = there in
      let equal : record call { running = running } ≡ other = cc in
      record { stage = stage; running_is = ap (λ (one : Call). one.running) (sym equal) ∙ at }
  next_moves (Ended reply) is other there = absurd (let clash : ◌≡◌ {A = Option Call} None (Some other) = there in cc)

  ranges_behind : (next : Next Running) → IsNext call.running next → ranges_of_all (set calls s (next_call call next)) ≡ []
  ranges_behind next is = moves_only (set calls s (next_call call next)) (λ r other there. elim (call_set calls s r (next_call call next) other there) [
    | inl here ↦ next_moves next is other here.1
    | inr kept ↦ runs_other r other kept.0 kept.1
  ])

  -- ---- behind the step

  module _ (new : VolumeView) (after : DeviceView) (next : Next Running) (made : MadeStep volume new device after (bytes_of_command call.command) call.running next) where
    made_so : MadeStep volume new device after [] call.running next
    made_so = subst (λ (bytes : List ℕ). MadeStep volume new device after bytes call.running next) no_bytes made

    makes : MakesStep (step_of volume [] call.running) (EntersAt call.running) volume new device after
    makes =
        let here = subst (λ (bytes : List ℕ). IsFirst (left_of volume bytes call.running) (step_of volume bytes call.running)) no_bytes first in
        let fits = here.fits in
        let kept = wait.kept in
        let same = ap (λ (bytes : List ℕ). events_in (left_of volume bytes call.running)) no_bytes in
        record { kept = omega (arith, fits, kept, same); takes = made_so.takes; enters = made_so.enters }

    went : MoveWentOn new after words calls s call next
    went = move_goes_on_law volume new device after words calls s call next wait makes made_so.next_is made_so.stands

    -- nothing else of the volume changes
    beside : IsSameBeside (record volume { kept = volume.kept - (step_of volume [] call.running).events }) new
    beside =
        enters_beside (record volume { kept = volume.kept - (step_of volume [] call.running).events }) new wait.moving wait.progress
        (subst (λ (running : Running). EntersAt running (record volume { kept = volume.kept - (step_of volume [] call.running).events }) new) wait.running_is made_so.enters)

    abbrev now : Calls
    now = set calls s (next_call call next)

    all_wait : (left : Next Running) → IsNext call.running left → MoveWaitsNext new after went.later calls s call left
        → WaitsBehind new after went.later (set calls s (next_call call left)) left
    all_wait (More running) is waits =
        let left : More running ≡ as_call Moves (moves.next_moving wait.moving wait.progress) = subst (λ (one : Running). IsNext one (More running)) wait.running_is is in
        alone s (record call { running = running }) waits
        (λ moving at. not_at_begin (moves.next_moving wait.moving wait.progress) running moving (later_move wait.moving wait.progress) left at)
    all_wait (Ended reply) is waits = (waits.0, waits.1 ∙ sym (events_idle new (without calls s) others_idle))

    behind_next : (left : Next Running) → MoveWaitsNext new after went.later calls s call left → BehindNext new call left
    behind_next (More running) waits = waits.behind
    behind_next (Ended reply) waits = tt

    still_going : (left : Next Running) → MoveWaitsNext new after went.later calls s call left → new.stopped ≡ false
    still_going (More running) waits = waits.waits.going
    still_going (Ended reply) waits = waits.0.beside.going

    history_on : HistoryGoesOn (untaken volume.size) (commits call.running) call.command 0 [] words went.later
    history_on = record {
      quiet = λ none.
          let same : went.later ≡ words = subst (λ (b : Bool). Means b words went.later call.command 0) none went.means in
          subst (λ (state : State). IsHistory [] words state) (sym same) (history_itself words);
      enters = λ commit. (went.later, move_enters_law volume device words went.later calls s call wait went.means commit, history_itself went.later);
    }

    history_so : (history : State) → history ≡ words
        → HistoryGoesOn (supply_for volume calls s) (commits call.running) call.command (given_inode call.running) (ranges_of_all now) history went.later
    history_so history same =
        subst (λ (state : State). HistoryGoesOn (supply_for volume calls s) (commits call.running) call.command (given_inode call.running) (ranges_of_all now) state went.later)
        (sym same)
        (subst (λ (ranges : List Range). HistoryGoesOn (supply_for volume calls s) (commits call.running) call.command (given_inode call.running) ranges words went.later)
        (sym (ranges_behind next made.next_is))
        (subst (λ (id : ℕ). HistoryGoesOn (supply_for volume calls s) (commits call.running) call.command id [] words went.later) given
        (subst (λ (supply : Supply). HistoryGoesOn supply (commits call.running) call.command 0 [] words went.later) supply_is history_on)))

    went_to : (history : State) → history ≡ words → WentTo volume new after calls history s call next
    went_to history same = record {
      words = went.later;
      waits = all_wait next made.next_is went.waits;
      goes = history_so history same;
      behind = behind_next next went.waits;
      going = still_going next went.waits;
      size = beside.size;
      marked = beside.marked;
    }

  -- ---- a crash

  crash_so : (history : State) → history ≡ words → (J M : List ℕ) → (step_of volume (bytes_of_command call.command) call.running).Makes device.words J → IsMix device.words J M
      → MayBeLeft volume.size (ranges_of_all calls) (supply_for volume calls s) (commits call.running) call.command (given_inode call.running) history M
  crash_so history same J M makes mix =
      let made = subst (λ (bytes : List ℕ). (step_of volume bytes call.running).Makes device.words J) no_bytes makes in
      subst (λ (state : State). MayBeLeft volume.size (ranges_of_all calls) (supply_for volume calls s) (commits call.running) call.command (given_inode call.running) state M)
      (sym same)
      (subst (λ (ranges : List Range). MayBeLeft volume.size ranges (supply_for volume calls s) (commits call.running) call.command (given_inode call.running) words M)
      (sym no_ranges)
      (subst (λ (id : ℕ). MayBeLeft volume.size [] (supply_for volume calls s) (commits call.running) call.command id words M) given
      (subst (λ (supply : Supply). MayBeLeft volume.size [] supply (commits call.running) call.command 0 words M) supply_is
      (move_crash_law volume device words calls s call J M wait made mix))))

  pub stands_alone : (history : State) → IsHistory (ranges_of_all calls) history words → StandsAt volume device calls history s call
  stands_alone history is_history =
      let same = sym (same_history (ranges_of_all calls) history words no_ranges is_history) in
      let all = wait.kept in
      let room = wait.waits.stands.room in
      record {
        stands = stands;
        first = first;
        behind = wait.behind;
        settled = wait.waits.stands.settled;
        whole = wait.waits.stands.knows.whole;
        kept = omega (arith, all);
        room = omega (arith, room);
        id = id;
        tells = λ next is. tells_rename wait.from wait.to call.command wait.moving wait.progress call.running next wait.command_is wait.running_is is;
        crash = crash_so history same;
        goes = λ new after next made. went_to new after next made history same;
      }
