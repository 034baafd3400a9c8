-- A rename with an event begins where no other call runs, and goes on alone: its first step doesn't commit.
use Rattle.std.proofs.Common.{◌≡◌, inl, inr, ℕ, ◌<◌, Bool, true, false, List, [], length, set, Option, None, Some, Ok, refl, sym, ap, subst, ◌∙◌, arith}
use Rattle.std.proofs.lemmas.Bool.{true≢false}
use Rattle.std.proofs.lemmas.List.{set-set}
use Rattle.pm_trait.specs.DeviceView.{DeviceView}
use Rattle.pm_trait.specs.Unfolds.{Step}
use Rattle.tree_model.specs.Capacity.{untaken}
use Rattle.tree_model.specs.PathText.{Route}
use Rattle.tree_model.specs.Run.{State, is_changing}
use Rattle.tree_model.specs.Tree.{Tree}
use Rattle.tree_model.specs.declared.command.Command.{Command}
use Rattle.tree_model.specs.declared.command.Command.TheVariants.{Rename}
use Rattle.naming_laws.specs.Naming.{names_all}
use Rattle.image_laws.specs.Quiet.{IsMix}
use Rattle.mixing_laws.specs.Mixed.{Range}
use Rattle.volume.specs.Costs.{events_of}
use Rattle.volume.specs.Named.{AreNamedBy}
use Rattle.volume.specs.Stages.{keeping}
use Rattle.volume.specs.Volume.{VolumeView}
use Rattle.volume.specs.declared.named.NamedNodes.{NamedNodes}
use Rattle.volume.specs.declared.named.NamedNodes.TheVariants.{All, These}
use Rattle.volume.specs.declared.next.Next.{Next}
use Rattle.volume.specs.declared.next.Next.TheVariants.{More, Ended as HasEnded}
use Rattle.volume.specs.declared.plan.Action.{Action}
use Rattle.volume.specs.declared.plan.Action.TheVariants.{Move}
use Rattle.volume.specs.declared.plan.Moving.{Moving}
use Rattle.rename_ptr.specs.Stages as moves
use Rattle.rename_ptr.specs.declared.rename.Progress.{Progress}
use Rattle.rename_ptr.specs.declared.rename.Progress.TheVariants.{Begun, Filled, Pointed}
use Rattle.rename_ptr.specs.declared.rename.Stage.TheVariants.{Moving as MovesName}
use Rattle.running_calls.specs.declared.running.Running.{Running}
use Rattle.running_calls.specs.declared.running.Running.TheVariants.{Moves}
use Rattle.running_calls.specs.Stages.{StandsNext, IsNext, EntersAt, as_call, begun, step_of}
use Rattle.waiting_laws.specs.Beside.{MakesStep}
use Rattle.running_laws.specs.Steps.{Means, commits, has_committed, has_committed_move}
use Rattle.running_laws.specs.Waits.{bytes_of_command}
use Rattle.session_laws.specs.Calls.{Call, Calls, call_at, range_of_call, ranges_of_all}
use Rattle.session_laws.specs.Going.{AreFree, IsReadyAmong, behind_commit}
use Rattle.session_laws.specs.Histories.{IsHistory, IsCrashOf, MayBeLeft as LeftAlone}
use Rattle.session_laws.specs.Moving.{MoveWaits, IsMoveOf, MoveWentOn}
use Rattle.session_laws.proofs.Lists.{call_set, events_idle}
use Rattle.session_laws.proofs.MoveBegins.{move_begins_law}
use Rattle.session_laws.proofs.MoveCrashes.{move_crash_law}
use Rattle.session_laws.proofs.MoveSteps.{move_goes_on_law}
use Rattle.sessions.specs.Advanced.{MadeStep}
use Rattle.sessions.specs.Interleave.{InterleaveView, alone}
use Rattle.sessions.specs.Laws.{HasName}
use Rattle.sessions.specs.Planned.{IsPlannedAmong}
use Rattle.sessions.specs.Steps.{MayBeLeft}
use Rattle.sessions.proofs.CarryBeside.{stores_first, fits, enters_is}
use Rattle.sessions.proofs.CarryFree.{planned_beside, planned_ready}
use Rattle.sessions.proofs.CarryLists.{ranges_none, ranges_idle, same_history}
use Rattle.sessions.proofs.CarryMade.{BeginsAt, IsFirstState, first_step}
use Rattle.sessions.proofs.CarrySteps.{Began}
use Rattle.sessions.proofs.WeavesOne.{WaitBeside}

-- ---- what it names, and that it writes no range

named_all : (T : Tree) (from to : Route) (command : Command) (named : NamedNodes) → command ≡ Rename from to → AreNamedBy T command named → named ≡ All
named_all T from to command All is names = refl
named_all T from to command (These inodes) is names = absurd (true≢false (sym (ap names_all is) ∙ names.0))

moves_range : (call : Call) (moving : Moving) (progress : Progress) → call.running ≡ Moves (MovesName moving progress) → range_of_call call ≡ []
moves_range call moving progress is = ap (λ (running : Running). range_of_call (record call { running = running })) is

-- ---- how it goes on

-- It isn't at its begin, and hasn't committed.
pub record GoesOnAs (moving : Moving) (next : Next Running) : Type 0 where
  pub progress : Progress
  pub is : next ≡ More (Moves (MovesName moving progress))
  pub later : progress ≡ Begun → ⊥
  pub uncommitted : has_committed_move progress ≡ false

first_goes : (moving : Moving) (page : Option ℕ) (next : Next Running) → next ≡ as_call Moves (moves.next_first moving page) → GoesOnAs moving next
first_goes moving None next is = record { progress = Pointed; is = is; later = λ begun. cc; uncommitted = refl }
first_goes moving (Some page) next is = record { progress = Filled; is = is; later = λ begun. cc; uncommitted = refl }

move_goes : (moving : Moving) (running : Running) (next : Next Running) → running ≡ Moves (MovesName moving Begun) → IsNext running next → GoesOnAs moving next
move_goes moving running next is behind = first_goes moving moving.new_page next (subst (λ (r : Running). IsNext r next) is behind)

same_call : (one other : Call) → ◌≡◌ {A = Option Call} (Some one) (Some other) → one ≡ other
same_call one other is = cc

same_running : (one other : Running) → ◌≡◌ {A = Option Running} (Some one) (Some other) → one ≡ other
same_running one other is = cc

same_more : (one other : Running) → ◌≡◌ {A = Next Running} (More one) (More other) → one ≡ other
same_more one other is = cc

same_progress : (moving other : Moving) (progress next : Progress) → ◌≡◌ {A = Running} (Moves (MovesName moving progress)) (Moves (MovesName other next)) → progress ≡ next
same_progress moving other progress next is = cc

-- ---- what is known where it begins

module _ (old : InterleaveView) (before : DeviceView) (calls : Calls) (history : State) (session : ℕ) (action : Action) (call : Call)
    (planned : IsPlannedAmong old before calls history session call.command call.named action) (changing : is_changing call.command ≡ true)
    (plan_behind : call.behind ≡ behind_commit action) (starts : begun action ≡ Some call.running) (some : 0 < events_of action)
    (within : session < length calls) (from to : Route) (moving : Moving) (command_is : call.command ≡ Rename from to) (action_is : action ≡ Move moving)
    (name : HasName action) where
  abbrev words : State
  words = planned.weaving.words

  abbrev bytes : List ℕ
  bytes = bytes_of_command call.command

  abbrev kept : VolumeView
  kept = keeping old.volume action

  abbrev step : Step
  step = first_step old action call

  abbrev with_call : Calls
  with_call = set calls session (Some call)

  wait : WaitBeside old.volume before words calls
  wait = planned_beside old before calls history session call.command call.named action planned changing

  named_is : call.named ≡ All
  named_is = named_all words.tree from to call.command call.named command_is planned.named_is

  none : (r : ℕ) → call_at calls r ≡ None
  none = subst (λ (named : NamedNodes). AreFree named calls) named_is planned.free

  running_is : call.running ≡ Moves (MovesName moving Begun)
  running_is = same_running call.running (Moves (MovesName moving Begun)) (sym starts ∙ ap begun action_is)

  quiet : commits call.running ≡ false
  quiet = ap commits running_is

  no_bytes : bytes ≡ []
  no_bytes = ap bytes_of_command command_is

  ready : IsReadyAmong old.volume before words (Rename from to) (Move moving) calls
  ready =
      subst (λ (c : Command). IsReadyAmong old.volume before words c (Move moving) calls) command_is
      (subst (λ (a : Action). IsReadyAmong old.volume before words call.command a calls) action_is
      (planned_ready old before calls history session call.command call.named action planned changing))

  is_move : IsMoveOf from to moving call
  is_move = record { command_is = command_is; named = named_is; behind = plan_behind ∙ ap behind_commit action_is; running = running_is; name = name moving action_is }

  moves_on : MoveWaits kept before words with_call session call
  moves_on =
      subst (λ (a : Action). MoveWaits (keeping old.volume a) before words with_call session call) (sym action_is)
      (move_begins_law old.volume before words calls session from to moving call wait.calls_wait none within (wait.kept ∙ events_idle old.volume calls none) ready is_move)

  none_written : ranges_of_all calls ≡ []
  none_written = ranges_idle calls none

  no_history : IsHistory [] history words
  no_history = subst (λ (ranges : List Range). IsHistory ranges history words) none_written planned.weaving.history_is

  same_state : words ≡ history
  same_state = same_history (ranges_of_all calls) history words none_written planned.weaving.history_is

  ranges_alone : (now : Call) → range_of_call now ≡ [] → ranges_of_all (set calls session (Some now)) ≡ []
  ranges_alone now own = ranges_none (set calls session (Some now)) (λ s other runs. elim (call_set calls session s (Some now) other runs) [
    | inl here ↦ ap range_of_call (sym (same_call now other here.1)) ∙ own
    | inr kept ↦ let idle = none s in let runs = kept.1 in cc
  ])

  -- ---- a crash

  crash_told : (M : List ℕ) → LeftAlone old.volume.size [] (untaken old.volume.size) (commits call.running) call.command 0 words M
      → MayBeLeft old.volume.size calls history (Ok call.command) (IsFirstState old calls history call) M
  crash_told M (inl crash) = record {
    state = history;
    state_is = inl refl;
    ranges = [];
    running = λ range (k, below, is). absurd (omega arith);
    crash = subst (IsCrashOf old.volume.size M []) same_state crash;
  }
  crash_told M (inr (commits_now, entered, enters, left)) = absurd (true≢false (sym commits_now ∙ quiet))

  crash : (J M : List ℕ) → step.Makes before.words J → IsMix before.words J M → MayBeLeft old.volume.size calls history (Ok call.command) (IsFirstState old calls history call) M
  crash J M makes mix =
      crash_told M (move_crash_law kept before words with_call session call J M moves_on
      (subst (λ (b : List ℕ). (step_of kept b call.running).Makes before.words J) no_bytes makes) mix)

  -- ---- behind the step

  module _ (new : VolumeView) (after : DeviceView) where
    went : (next : Next Running) → MadeStep kept new before after bytes call.running next → MoveWentOn new after words with_call session call next
    went next made =
        let makes : MakesStep step (EntersAt call.running) kept new before after = record {
          kept = fits old before calls history session action call planned changing plan_behind starts some;
          takes = made.takes;
          enters = made.enters;
        } in
        move_goes_on_law kept new before after words with_call session call next moves_on
        (subst (λ (b : List ℕ). MakesStep (step_of kept b call.running) (EntersAt call.running) kept new before after) no_bytes makes) made.next_is
        (subst (λ (b : List ℕ). StandsNext new after b next) no_bytes made.stands)

    same_later : (later : State) → Means (commits call.running) words later call.command 0 → later ≡ history
    same_later later means = subst (λ (b : Bool). Means b words later call.command 0) quiet means ∙ same_state

    began_at : (running : Running) (progress : Progress) → running ≡ Moves (MovesName moving progress) → (progress ≡ Begun → ⊥) → has_committed_move progress ≡ false
        → MadeStep kept new before after bytes call.running (More running) → Began old new after calls history session call (More running) false
    began_at running progress is later uncommitted made =
        let now = record call { running = running } in
        let goes = went (More running) made in
        let waits = subst (λ (c : Calls). MoveWaits new after goes.later c session now) (set-set calls session (Some call) (Some now)) goes.waits in
        let no_range = ranges_alone now (moves_range now moving progress is) in
        record {
          words = goes.later;
          later = history;
          waits = alone session now waits (λ other same. later (same_progress moving other progress Begun (sym is ∙ same)));
          going = waits.waits.going;
          history_is = subst (λ (state : State). IsHistory (ranges_of_all (set calls session (Some now))) history state)
              (same_state ∙ sym (same_later goes.later goes.means))
              (subst (λ (ranges : List Range). IsHistory ranges history words) (sym no_range) no_history);
          goes = refl;
          tree = λ commit. absurd (true≢false (sym commit ∙ quiet));
          entered = ap has_committed is ∙ uncommitted;
          told = λ entered. absurd (true≢false (sym entered));
        }

    began_by : (next : Next Running) → GoesOnAs moving next → MadeStep kept new before after bytes call.running next → Began old new after calls history session call next false
    began_by (More running) goes made =
        began_at running goes.progress (same_more running (Moves (MovesName moving goes.progress)) goes.is) goes.later goes.uncommitted made
    began_by (HasEnded reply) goes made = let is = goes.is in absurd (cc)

  pub begins_alone : BeginsAt old before calls history session action call false
  begins_alone = record {
    enters_is = enters_is old before calls history session action call planned changing plan_behind starts some ∙ quiet;
    settled = wait.calls_wait.beside.stands.settled;
    stores = λ running is. (stores_first old before calls history session action call planned changing plan_behind starts some).stores;
    crash = crash;
    commit = λ commit. absurd (true≢false (sym commit ∙ quiet));
    legal = λ state commit enters. absurd (true≢false (sym commit ∙ quiet));
    began = λ new after next made. began_by new after next (move_goes moving call.running next running_is made.next_is) made;
  }
