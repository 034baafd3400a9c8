-- A call among others goes on: behind its step the others wait still, and so does it, unless it has ended.
use Rattle.std.proofs.Common.{◌≡◌, ◌⊎◌, ℕ, ◌+◌, ◌-◌, ◌≤◌, ◌==◌, nat_le, Bool, true, false, List, length, None, Some, refl, sym, ap, subst, ◌∙◌, arith}
use Rattle.std.proofs.lemmas.Bool.{eqb-false, leb-true, leb-false, eq-eqb, ne_eqb, le-leb, lt-leb}
use Rattle.pm_trait.specs.DeviceView.{DeviceView}
use Rattle.pm_trait.specs.Unfolds.{Step}
use Rattle.tree_model.specs.Capacity.{Supply}
use Rattle.tree_model.specs.Step.{need, refusal_with}
use Rattle.tree_model.specs.Tree.{node_at}
use Rattle.tree_model.specs.Run.{State}
use Rattle.tree_model.specs.declared.reply.Reply.{Reply}
use Rattle.naming_laws.specs.Naming.{inode_need}
use Rattle.image_reading.specs.Counts.{IsIn}
use Rattle.image_reading.specs.Residue.{Residue, no_residue}
use Rattle.image_counts.specs.Laws.{supply_beside}
use Rattle.volume.specs.Volume.{VolumeView}
use Rattle.volume.specs.Named.{AreNamedBy}
use Rattle.volume.specs.declared.next.Next.{Next}
use Rattle.volume.specs.declared.next.Next.TheVariants.{More, Ended}
use Rattle.running_calls.specs.declared.running.Running.{Running}
use Rattle.running_calls.specs.Stages.{StandsNext, IsNext, EntersAt, step_of}
use Rattle.waiting_laws.specs.Beside.{MakesStep}
use Rattle.running_laws.specs.Numbers.{CostsStep, StepCostsLaw, events_left}
use Rattle.running_laws.specs.Steps.{LaterStepLaw, WentOnBeside, commits, has_committed}
use Rattle.running_laws.specs.Waits.{left_by, left_next, held_by, bytes_of_command, Waits, LeavesAlone, HoldsLaw, NextHoldsLaw, StandsBesideLaw, StandsLaw, StillWaitsLaw}
use Rattle.session_laws.specs.Calls.{Call, Calls, call_at, without, left_of_all, events_of_all, fences_of_call, IsNamed, IsApartFrom, IsToCome, HasBehind, CallWaits, CallsWait}
use Rattle.session_laws.specs.Going.{WentOnAmong, GoOnAmongLaw}
use Rattle.session_laws.specs.Order.{IsTakenOut, IsPutIn, TakeOutLaw, PutInLaw}
use Rattle.session_laws.specs.Others.{OthersWait, OthersWaitLaw}
use Rattle.session_laws.proofs.Lists.{call_gone}
use Rattle.session_laws.proofs.OrderAlone.{all_hold, alone_from_all}
use Rattle.session_laws.proofs.GoingCosts.{goes_costs}
use Rattle.session_laws.proofs.GoingLists.{below_others, put_again}
use Rattle.session_laws.proofs.GoingNext.{GoesOn, goes_on}
use Rattle.session_laws.proofs.GoingOthers.{call_holds, same_state, steps_beside}
use Rattle.session_laws.proofs.GoingStored.{enters_same, same_inodes}

-- ---- how many fences are left behind the step

-- One step further, which didn't commit: a call that has committed is behind its commit, and one that hasn't has its last step left.
module _ (all left behind : ℕ) (one : all ≡ 1 + left) (was_commit has_been : Bool) (commit : was_commit ≡ (all == behind + 1)) (committed : has_been ≡ nat_le all behind)
    (quiet : was_commit ≡ false) where
  behind_done : has_been ≡ true → left ≤ behind
  behind_done is = let most = leb-true all behind (sym committed ∙ is) in omega (arith, most, one)

  before_last : has_been ≡ false → left ≡ 1 → left ≡ behind + 1
  before_last none last =
      let more = leb-false all behind (sym committed ∙ none) in
      let other = eqb-false all (behind + 1) (sym commit ∙ quiet) in
      omega (arith, more, other, last, one)

  pub next_commit : (now now_been : Bool) → now_been ≡ has_been → (now_been ≡ true → now ≡ false) → (now_been ≡ false → now ≡ true)
      → (now_been ≡ false → left ≡ 1) → now ≡ (left == behind + 1)
  next_commit now true same done not_yet last =
      let few = behind_done (sym same) in done refl ∙ sym (ne_eqb left (behind + 1) (λ equal. omega (arith, few, equal)))
  next_commit now false same done not_yet last = not_yet refl ∙ sym (eq-eqb left (behind + 1) (before_last (sym same) (last refl)))

  pub next_committed : (now_been : Bool) → now_been ≡ has_been → (now_been ≡ false → left ≡ 1) → now_been ≡ nat_le left behind
  next_committed true same last = sym (le-leb left behind (behind_done (sym same)))
  next_committed false same last = let now = before_last (sym same) (last refl) in sym (lt-leb left behind (omega (arith, now)))

-- ---- what is known behind the step

-- The others wait still, the call waits on or has ended, and the volume keeps the events that all have left.
record IsBehindStep (old new : VolumeView) (before after : DeviceView) (words : State) (calls : Calls) (s : ℕ) (call : Call) (next : Next Running) : Type 0 where
  pub taken : IsTakenOut old before words calls s call
  pub went : WentOnBeside old new before after words call.command call.running next (left_of_all old (without calls s))
  pub others : OthersWait old new after went.later (left_next new next) (without calls s)
  pub costs : CostsStep old new (bytes_of_command call.command) call.running next
  pub kept : new.kept ≡ events_left new (bytes_of_command call.command) next + events_of_all new (without calls s)

module _ (take_out : TakeOutLaw) (put_in : PutInLaw) (others_wait : OthersWaitLaw) (still_waits : StillWaitsLaw) (later_step : LaterStepLaw) (holds_law : HoldsLaw)
    (stands_beside : StandsBesideLaw) (stands_law : StandsLaw) (next_holds : NextHoldsLaw) (step_costs : StepCostsLaw) where
  module _ (old new : VolumeView) (before after : DeviceView) (words : State) (calls : Calls) (s : ℕ) (call : Call) (next : Next Running)
      (wait : CallsWait old before words no_residue calls) (runs : call_at calls s ≡ Some call) (kept : old.kept ≡ events_of_all old calls)
      (makes : MakesStep (step_of old (bytes_of_command call.command) call.running) (EntersAt call.running) old new before after) (is : IsNext call.running next)
      (stands : StandsNext new after (bytes_of_command call.command) next) where
    abbrev bytes : List ℕ
    bytes = bytes_of_command call.command

    abbrev others : Calls
    others = without calls s

    abbrev step : Step
    step = step_of old bytes call.running

    abbrev between : VolumeView
    between = record old { kept = old.kept - step.events }

    taken : IsTakenOut old before words calls s call
    taken = take_out old before words calls s call wait runs

    went : WentOnBeside old new before after words call.command call.running next (left_of_all old others)
    went = later_step old new before after words call.command call.running next (left_of_all old others) taken.call_waits.waits makes is stands

    others_still : OthersWait old new after went.later (left_next new next) others
    others_still = others_wait old new before after words went.later (left_by old call.running) (left_next new next) (held_by old call.running) others taken.others
        (steps_beside holds_law next_holds old new before after words calls s call next taken is went)

    alone : LeavesAlone old.size before.words (held_by old call.running) (left_of_all old others)
    alone = alone_from_all old before.words others (all_hold holds_law old before words (left_by old call.running) others taken.others) (held_by old call.running)
        (λ i mine. ((call_holds holds_law next_holds old new before after words calls s call next taken is went).in_volume.of_inodes i mine).from_one)
        (λ i mine r other there. (taken.apart r other there).held i mine)

    costs : CostsStep old new bytes call.running next
    costs =
        let all = taken.events in
        goes_costs still_waits stands_beside stands_law step_costs old before words call.command call.running (left_of_all old others) taken.call_waits.waits alone
        taken.call_waits.few
        (omega (arith, all, kept)) between new after next refl refl makes.enters is stands

    kept_less : new.kept ≡ old.kept - step.events
    kept_less = (enters_same between new call.running makes.enters).kept

    kept_now : new.kept ≡ events_left new bytes next + events_of_all new others
    kept_now =
        let all = taken.events in
        let spent = costs.events in
        let same = others_still.events in
        omega (arith, kept_less, kept, all, spent, same)

    behind_step : IsBehindStep old new before after words calls s call next
    behind_step = record { taken = taken; went = went; others = others_still; costs = costs; kept = kept_now }

  -- ---- it has ended

  ended : (old new : VolumeView) (before after : DeviceView) (words : State) (calls : Calls) (s : ℕ) (call : Call) (reply : Reply)
      → IsBehindStep old new before after words calls s call (Ended reply) → WentOnAmong new after words calls s call (Ended reply)
  ended old new before after words calls s call reply behind =
      let kept = behind.kept in
      record { later = behind.went.later; means = behind.went.means; calls_wait = behind.others.calls_wait; kept = omega (arith, kept) }

  -- ---- it goes on

  module _ (old new : VolumeView) (before after : DeviceView) (words : State) (calls : Calls) (s : ℕ) (call : Call) (running : Running) (runs : call_at calls s ≡ Some call)
      (is : IsNext call.running (More running)) (behind : IsBehindStep old new before after words calls s call (More running)) where
    abbrev now : Call
    now = record call { running = running }

    abbrev rest : Calls
    rest = without calls s

    abbrev later : State
    later = behind.went.later

    was : CallWaits old before words call (left_of_all old rest)
    was = behind.taken.call_waits

    goes : GoesOn old new (bytes_of_command call.command) call.running running
    goes = goes_on old new (bytes_of_command call.command) before words call.command (left_of_all old rest) call.running running was.waits is

    same : later ≡ words
    same = same_state holds_law next_holds old new before after words calls s call (More running) behind.taken is behind.went goes.quiet

    size : new.size ≡ old.size
    size = behind.went.leaves.affects.size

    same_held : (held_by new running).inodes ≡ (held_by old call.running).inodes
    same_held = next_holds old new call.running running is

    holds : (i : ℕ) → IsIn i (held_by new running).inodes → IsNamed call.named i ⊎ (node_at later.tree i ≡ None)
    holds i among = subst (λ (state : State). IsNamed call.named i ⊎ (node_at state.tree i ≡ None)) (sym same) (was.holds i (subst (IsIn i) same_held among))

    to_come : has_committed running ≡ false → IsToCome new.size later now (left_by new running) (left_of_all new rest)
    to_come not_yet =
        let asked = was.to_come (sym goes.committed ∙ not_yet) in
        let left = goes.left not_yet in
        let supply : supply_beside new.size (left_of_all new rest) ≡ supply_beside old.size (left_of_all old rest) =
        ap (λ (P : ℕ). supply_beside P (left_of_all new rest)) size ∙ ap (supply_beside old.size) behind.others.left in
        record {
          named = subst (λ (state : State). AreNamedBy state.tree call.command call.named) (sym same) asked.named;
          accepted = subst (λ (state : State). refusal_with (supply_beside new.size (left_of_all new rest)) state.tree state.room call.command ≡ None) (sym same)
              (subst (λ (free : Supply). refusal_with free words.tree words.room call.command ≡ None) (sym supply) asked.accepted);
          inodes = subst (λ (own : Residue). inode_need call.command ≤ length own.inodes) (sym left) asked.inodes;
          pages = subst (λ (state : State). need state.tree state.room call.command ≤ length (left_by new running).pages) (sym same)
              (subst (λ (own : Residue). need words.tree words.room call.command ≤ length own.pages) (sym left) asked.pages);
        }

    has_behind : HasBehind new now
    has_behind =
        let all = fences_of_call old call in
        let left = fences_of_call new now in
        record {
          commit = next_commit all left call.behind behind.costs.fences (commits call.running) (has_committed call.running) was.behind.commit was.behind.committed goes.quiet
              (commits running) (has_committed running) goes.committed goes.done goes.commit goes.last;
          committed = next_committed all left call.behind behind.costs.fences (commits call.running) (has_committed call.running) was.behind.commit was.behind.committed goes.quiet
              (has_committed running) goes.committed goes.last;
        }

    now_waits : CallWaits new after later now (left_of_all new rest)
    now_waits =
        let few = was.few in
        let spent = behind.costs.events in
        record {
          waits = subst (λ (others : Residue). Waits new after later call.command running others) (sym behind.others.left) behind.went.waits;
          holds = holds;
          to_come = to_come;
          behind = has_behind;
          few = omega (arith, few, spent);
        }

    still_apart : IsApartFrom new now rest
    still_apart r other there =
        let apart = behind.taken.apart r other there in
        record {
          named = apart.named;
          held = λ i mine others. apart.held i (subst (IsIn i) same_held mine) (subst (IsIn i) (same_inodes new old other.running) others);
        }

    is_put : IsPutIn new after later rest s now
    is_put = put_in new after later rest s now behind.others.calls_wait (call_gone calls s) (below_others calls s call runs) now_waits still_apart

    went_on : WentOnAmong new after words calls s call (More running)
    went_on =
        let kept = behind.kept in
        let events = is_put.events in
        record {
          later = later;
          means = behind.went.means;
          calls_wait = subst (λ (all : Calls). CallsWait new after later no_residue all) (put_again calls s (Some now)) is_put.calls_wait;
          kept = subst (λ (all : Calls). new.kept ≡ events_of_all new all) (put_again calls s (Some now)) (omega (arith, kept, events));
        }

  by_next : (old new : VolumeView) (before after : DeviceView) (words : State) (calls : Calls) (s : ℕ) (call : Call) (next : Next Running) → call_at calls s ≡ Some call
      → IsNext call.running next → IsBehindStep old new before after words calls s call next → WentOnAmong new after words calls s call next
  by_next old new before after words calls s call (More running) runs is behind = went_on old new before after words calls s call running runs is behind
  by_next old new before after words calls s call (Ended reply) runs is behind = ended old new before after words calls s call reply behind

  pub go_on_among_law : GoOnAmongLaw
  go_on_among_law old new before after words calls s call next wait runs kept makes is stands =
      by_next old new before after words calls s call next runs is (behind_step old new before after words calls s call next wait runs kept makes is stands)
