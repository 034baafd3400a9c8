-- A call that has made its first step and goes on waits beside the others, and is apart from them.
use Rattle.std.proofs.Common.{◌≡◌, ◌⊎◌, inl, inr, ℕ, ◌+◌, ◌≤◌, ◌==◌, false, nat_le, length, None, sym, subst, ◌∙◌, arith}
use Rattle.pm_trait.specs.DeviceView.{DeviceView}
use Rattle.tree_model.specs.Tree.{node_at}
use Rattle.tree_model.specs.Step.{need, refusal_with}
use Rattle.tree_model.specs.Run.{State}
use Rattle.naming_laws.specs.Naming.{inode_need}
use Rattle.image_reading.specs.Counts.{IsIn}
use Rattle.image_reading.specs.Residue.{Residue, no_residue}
use Rattle.image_counts.specs.Laws.{supply_beside}
use Rattle.mixing_laws.specs.Mixed.{FindsAlike}
use Rattle.mixing_laws.proofs.Finds.{finds_alike_law}
use Rattle.volume.specs.Volume.{VolumeView}
use Rattle.volume.specs.Costs.{events_of, fences_of_plan}
use Rattle.volume.specs.declared.next.Next.{Next}
use Rattle.volume.specs.declared.next.Next.TheVariants.{More}
use Rattle.volume.specs.declared.plan.Action.{Action}
use Rattle.running_calls.specs.declared.running.Running.{Running}
use Rattle.running_calls.specs.Stages.{StandsNext, IsNext}
use Rattle.waiting_laws.specs.Begins.{held_of_plan}
use Rattle.running_laws.specs.Numbers.{events_left, fences_left}
use Rattle.running_laws.specs.Waits.{left_by, left_next, held_by, bytes_of_command, Waits, WaitsNext, HoldsLaw, NamesHeldLaw, BegunHoldsLaw, NextHoldsLaw}
use Rattle.running_laws.specs.Steps.{MeansFirst, MeansUncommitted, commits, has_committed, given_inode, range_of}
use Rattle.session_laws.specs.Calls.{Call, Calls, left_of_all, listed_range, IsNamed, IsApartFrom, IsToCome, HasBehind, CallWaits, CallsWait}
use Rattle.session_laws.specs.Going.{IsReadyAmong, IsCallOf, behind_commit}
use Rattle.session_laws.specs.Others.{OthersWait}
use Rattle.session_laws.proofs.Named.{named_still}
use Rattle.session_laws.proofs.BeginBeside.{free_of, next_inodes, names_its, apart_held, stays}
use Rattle.session_laws.proofs.BeginFirst.{IsBegun, first_goes}
use Rattle.session_laws.proofs.BeginMeans.{uncommitted_mixed, uncommitted_room}
use Rattle.session_laws.proofs.BeginNeeds.{left_of_plan, plan_enough}
use Rattle.session_laws.proofs.BeginOrder.{plan_in_volume}
use Rattle.session_laws.proofs.GoingStored.{same_inodes}

-- What the first step leaves of the call and of the others, and how many events and fences are left behind it.
pub record HasBegun (old new : VolumeView) (after : DeviceView) (words : State) (calls : Calls) (action : Action) (call : Call) (next : Next Running) : Type 0 where
  pub later : State
  pub means : MeansFirst (commits call.running) (range_of (bytes_of_command call.command) call.running) words later call.command (given_inode call.running)
  pub size : new.size ≡ old.size
  pub waits : WaitsNext new after later call.command next (left_of_all old calls)
  pub others : OthersWait old new after later (left_next new next) calls
  pub behind : IsNext call.running next
  pub stands : StandsNext new after (bytes_of_command call.command) next
  pub few : events_left new (bytes_of_command call.command) next ≤ events_of action
  pub kept : new.kept ≡ old.kept + events_left new (bytes_of_command call.command) next
  pub fences : fences_of_plan action ≡ 1 + fences_left new (bytes_of_command call.command) next

module _ (holds_law : HoldsLaw) (names_held : NamesHeldLaw) (begun_holds : BegunHoldsLaw) (next_holds : NextHoldsLaw) (old new : VolumeView) (before after : DeviceView)
    (words : State) (calls : Calls) (action : Action) (call : Call) (running : Running) (wait : CallsWait old before words no_residue calls)
    (ready : IsReadyAmong old before words call.command action calls) (of : IsCallOf words call.command action call calls)
    (first : HasBegun old new after words calls action call (More running)) where
  abbrev now : Call
  now = record call { running = running }

  abbrev before_all : Residue
  before_all = left_of_all old calls

  abbrev after_all : Residue
  after_all = left_of_all new calls

  begun_is : IsBegun new (left_of_plan action) (fences_of_plan action) (behind_commit action) call.running running
  begun_is = first_goes new after (bytes_of_command call.command) action call.running running of.running of.beside first.behind first.stands

  -- ---- what it holds

  planned_inode : (i : ℕ) → IsIn i (held_by new running).inodes → IsIn i (held_of_plan old action).inodes
  planned_inode i mine =
      subst (IsIn i)
      (next_inodes holds_law begun_holds next_holds old new after first.later call.command action call.running before_all of.running running first.behind) mine

  holds_named : (i : ℕ) → IsIn i (held_by new running).inodes → IsNamed call.named i ⊎ (node_at first.later.tree i ≡ None)
  holds_named i mine =
      let planned = planned_inode i mine in
      let least = ((plan_in_volume old before words call.command action before_all ready.ready).of_inodes i planned).from_one in
      elim (names_held old before words call.command action before_all ready.ready of.changing i planned) [
        | inl named ↦ inl (names_its holds_law old before words calls action call wait ready of i named)
        | inr none ↦ inr ((stays holds_law old before words calls action call wait ready of first.later first.means).unused i least none)
      ]

  -- ---- it is to come where the step didn't commit

  module _ (coming : has_committed running ≡ false) where
    uncommitted : MeansUncommitted (range_of (bytes_of_command call.command) call.running) words first.later
    uncommitted =
        let range = range_of (bytes_of_command call.command) call.running in
        subst (λ b. MeansFirst b range words first.later call.command (given_inode call.running)) (begun_is.quiet coming) first.means

    alike : FindsAlike (supply_beside old.size before_all) words.room call.command words.tree first.later.tree
    alike =
        let range = range_of (bytes_of_command call.command) call.running in
        finds_alike_law (supply_beside old.size before_all) words.room call.command (listed_range range) words.tree first.later.tree
        (uncommitted_mixed words first.later range uncommitted)

    same_room : first.later.room ≡ words.room
    same_room = uncommitted_room words first.later (range_of (bytes_of_command call.command) call.running) uncommitted

    to_come : IsToCome new.size first.later now (left_by new running) after_all
    to_come =
        let enough = plan_enough old before words call.command action call.running before_all ready.ready of.running of.beside of.some in
        let left = begun_is.left coming in
        record {
          named = named_still words.tree first.later.tree call.command call.named alike.named of.named;
          accepted = (λ k. refusal_with (supply_beside (first.size k) (first.others.left k)) first.later.tree (same_room k) call.command) ∙ alike.refusal
              ∙ ready.ready.planned.accepted;
          inodes = subst (λ (own : Residue). inode_need call.command ≤ length own.inodes) (sym left) enough.inodes;
          pages = subst (λ (own : Residue). need first.later.tree first.later.room call.command ≤ length own.pages) (sym left)
              (subst (λ n. n ≤ length (left_of_plan action).pages)
              (sym ((λ k. need first.later.tree (same_room k) call.command) ∙ alike.need)) enough.pages);
        }

  -- ---- it waits

  has_behind : HasBehind new now
  has_behind =
      let behind = begun_is.behind_it (fences_left new (bytes_of_command call.command) (More running)) first.fences in
      let planned = sym of.behind in
      record {
        commit = subst (λ (n : ℕ). commits running ≡ (fences_left new (bytes_of_command call.command) (More running) == n + 1)) planned behind.commit;
        committed = subst (λ (n : ℕ). has_committed running ≡ nat_le (fences_left new (bytes_of_command call.command) (More running)) n) planned behind.committed;
      }

  pub call_waits : CallWaits new after first.later now after_all
  call_waits = record {
    waits = subst (λ (left : Residue). Waits new after first.later call.command running left) (sym first.others.left) first.waits;
    holds = holds_named;
    to_come = to_come;
    behind = has_behind;
    few = (let few = ready.few in let fewer = first.few in omega (arith, few, fewer));
  }

  pub call_apart : IsApartFrom new now calls
  call_apart r other runs = record {
    named = free_of call.named calls of.free r other runs;
    held = λ i mine theirs.
        (apart_held holds_law old before words calls action call wait ready of r other runs).of_inodes i (planned_inode i mine)
        (subst (IsIn i) (same_inodes new old other.running) theirs);
  }
