-- The first step of a call among others: it touches only what the call holds, which is apart from what each of them holds, and leaves what they find.
use Rattle.std.proofs.Common.{◌≡◌, inl, inr, ℕ, ◌≤◌, true, false, Some, subst, ◌∙◌}
use Rattle.pm_trait.specs.DeviceView.{DeviceView}
use Rattle.tree_model.specs.Tree.{node_at}
use Rattle.tree_model.specs.Run.{State, IsVolumeState}
use Rattle.tree_model.specs.declared.command.Command.{Command}
use Rattle.naming_laws.specs.Naming.{names_inode}
use Rattle.naming_laws.proofs.Named.{present_named}
use Rattle.image_reading.specs.Counts.{IsIn}
use Rattle.image_reading.specs.Residue.{Residue, no_residue}
use Rattle.image_counts.specs.Laws.{supply_beside}
use Rattle.weave_laws.specs.Beside.{AreApart}
use Rattle.weave_laws.specs.Joined.{joined}
use Rattle.volume.specs.Volume.{VolumeView}
use Rattle.volume.specs.Beside.{IsUntouched}
use Rattle.volume.specs.declared.named.NamedNodes.{NamedNodes}
use Rattle.volume.specs.declared.named.NamedNodes.TheVariants.{All, These}
use Rattle.volume.specs.declared.next.Next.{Next}
use Rattle.volume.specs.declared.next.Next.TheVariants.{More, Ended}
use Rattle.volume.specs.declared.plan.Action.{Action}
use Rattle.running_calls.specs.declared.running.Running.{Running}
use Rattle.running_calls.specs.Stages.{IsNext, begun}
use Rattle.waiting_laws.specs.Beside.{Holds, NamesNothing, Leaves}
use Rattle.waiting_laws.specs.Begins.{held_of_plan}
use Rattle.waiting_laws.proofs.BeginsApart.{begins_apart_law}
use Rattle.running_laws.specs.Waits.{left_by, left_next, held_by, bytes_of_command, WaitsNext, HoldsLaw, BegunHoldsLaw, NextHoldsLaw}
use Rattle.running_laws.specs.Steps.{MeansFirst, commits, has_committed, given_inode, range_of}
use Rattle.session_laws.specs.Calls.{Call, Calls, call_at, without, left_of_all, IsNamed, CallsWait}
use Rattle.session_laws.specs.Going.{AreFree, IsReadyAmong, IsCallOf}
use Rattle.session_laws.specs.Others.{PassesCall, StepsBeside}
use Rattle.session_laws.proofs.BeginMeans.{StaysBeside, first_stays}
use Rattle.session_laws.proofs.BeginOrder.{ready_in_order, untouched_nothing, plan_in_volume}
use Rattle.session_laws.proofs.GoingEnters.{not_there}
use Rattle.session_laws.proofs.HistoryApart.{named_by, volume_state}
use Rattle.session_laws.proofs.HistoryBegins.{zero_unused}
use Rattle.session_laws.proofs.HistoryPlans.{planned_range, begun_given}
use Rattle.session_laws.proofs.Lists.{left_moved}

-- what a free call names, no other names
pub free_of : (named : NamedNodes) (calls : Calls) → AreFree named calls → (r : ℕ) (other : Call) → call_at calls r ≡ Some other → (i : ℕ)
    → IsNamed named i → ¬ IsNamed other.named i
free_of All calls free r other runs i mine = let none = free r in λ theirs. cc
free_of (These inodes) calls free r other runs i mine = free r other runs i mine

-- ---- what the call has left lies in what its plan holds

module _ (holds_law : HoldsLaw) (begun_holds : BegunHoldsLaw) (next_holds : NextHoldsLaw) (old new : VolumeView) (after : DeviceView) (later : State) (command : Command)
    (action : Action) (first : Running) (others : Residue) (begins : begun action ≡ Some first) where
  -- it holds the inodes of its plan
  pub next_inodes : (running : Running) → IsNext first (More running) → (held_by new running).inodes ≡ (held_of_plan old action).inodes
  next_inodes running behind = next_holds old new first running behind ∙ begun_holds old action first begins

  pub untouched_next : (next : Next Running) → IsNext first next → WaitsNext new after later command next others → (i : ℕ) → ¬ IsIn i (held_of_plan old action).inodes → 1 ≤ i
      → IsUntouched new after.words (left_next new next) i
  untouched_next (More running) behind waits i none least =
      (holds_law new after later command running others waits).untouched i (λ mine. none (subst (IsIn i) (next_inodes running behind) mine)) least
  untouched_next (Ended reply) behind waits i none least = untouched_nothing new after.words i

  pub bare_next : (next : Next Running) → WaitsNext new after later command next others → NamesNothing new.size after.words (left_next new next)
  bare_next (More running) waits = (holds_law new after later command running others waits).bare
  bare_next (Ended reply) waits = λ t among held. absurd among

-- ---- beside each of the others

module _ (holds_law : HoldsLaw) (old : VolumeView) (before : DeviceView) (words : State) (calls : Calls) (action : Action) (call : Call)
    (wait : CallsWait old before words no_residue calls) (ready : IsReadyAmong old before words call.command action calls)
    (of : IsCallOf words call.command action call calls) where
  pub valid : IsVolumeState old.size words
  valid = volume_state old before words no_residue calls wait

  -- the call names what its command names
  pub names_its : (i : ℕ) → names_inode words.tree call.command i ≡ true → IsNamed call.named i
  names_its i named = named_by old.size words call.command call.named valid of.named i named

  module _ (r : ℕ) (other : Call) (runs : call_at calls r ≡ Some other) where
    -- which no other call holds,
    pub not_theirs : (i : ℕ) → names_inode words.tree call.command i ≡ true → ¬ IsIn i (held_by old other.running).inodes
    not_theirs i named theirs = elim ((wait.each r other runs).holds i theirs) [
      | inl too ↦ free_of call.named calls of.free r other runs i (names_its i named) too
      | inr none ↦ not_there (node_at words.tree i) none (present_named words.tree valid.tree call.command i named)
    ]

    other_holds : Holds old before.words (left_by old other.running) (held_by old other.running)
    other_holds = holds_law old before words other.command other.running (left_of_all old (without calls r)) (wait.each r other runs).waits

    -- so it holds nothing of theirs.
    pub apart_held : AreApart (held_of_plan old action).slots (held_of_plan old action).pages (held_of_plan old action).inodes
        (held_by old other.running).slots (held_by old other.running).pages (held_by old other.running).inodes
    apart_held =
        let mine = left_by old other.running in
        let rest = left_of_all old (without calls r) in
        (begins_apart_law old before words call.command action mine rest (held_by old other.running)
        (ready_in_order old before words call.command action (left_of_all old calls) (joined mine rest) (left_moved old calls r other runs) ready.ready) other_holds not_theirs).1

    -- a command of theirs that is to come names nothing of its
    names_apart : has_committed other.running ≡ false → (i : ℕ) → names_inode words.tree other.command i ≡ true → ¬ (names_inode words.tree call.command i ≡ true)
    names_apart coming i theirs mine =
        free_of call.named calls of.free r other runs i (names_its i mine)
        (named_by old.size words other.command other.named valid ((wait.each r other runs).to_come coming).named i theirs)

  -- ---- what the step means for them

  module _ (later : State)
      (means : MeansFirst (commits call.running) (range_of (bytes_of_command call.command) call.running) words later call.command (given_inode call.running)) where
    pub stays : StaysBeside words later call.command
    stays =
        let planned = ready.ready.planned in
        let supply = supply_beside old.size (left_of_all old calls) in
        first_stays old.size supply words later call.command (commits call.running) (range_of (bytes_of_command call.command) call.running) (given_inode call.running) valid
        planned.accepted (zero_unused old.size words valid) (begun_given action call.running of.running)
        (λ range is. (planned_range old.size before.words words valid supply call.command action call.running range planned.accepted planned.plan_is of.running is).named) means

    pub passes : (r : ℕ) (other : Call) → call_at calls r ≡ Some other → PassesCall old words later (held_of_plan old action) other
    passes r other runs = record {
      apart = apart_held r other runs;
      keeps = stays.keeps (held_by old other.running).inodes (λ i theirs. ((other_holds r other runs).in_volume.of_inodes i theirs).from_one) (not_theirs r other runs);
    }

    -- ---- all together

    module _ (begun_holds : BegunHoldsLaw) (next_holds : NextHoldsLaw) (new : VolumeView) (after : DeviceView) (next : Next Running) (behind : IsNext call.running next)
        (leaves : Leaves old new before after later (left_next new next) (left_of_all old calls) (held_of_plan old action))
        (waits : WaitsNext new after later call.command next (left_of_all old calls)) where
      pub steps_beside : StepsBeside old new before after words later (left_next new next) (held_of_plan old action) calls
      steps_beside =
          let others = left_of_all old calls in
          record {
            leaves = leaves;
            in_volume = plan_in_volume old before words call.command action others ready.ready;
            passes = passes;
            untouched = untouched_next holds_law begun_holds next_holds old new after later call.command action call.running others of.running next behind waits;
            bare = bare_next holds_law begun_holds next_holds old new after later call.command action call.running others of.running next waits;
            finds = λ r other runs coming. stays.finds (supply_beside old.size (left_of_all old (without calls r))) other.command
                ((wait.each r other runs).to_come coming).accepted (names_apart r other runs coming);
          }
