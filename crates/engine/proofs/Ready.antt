-- A line whose plan was carried out after the mark was taken away, or in which a fence failed in that.
use Rattle.std.proofs.Common.{◌≡◌, ◌⊎◌, inl, inr, ℕ, ◌+◌, ◌<◌, Bool, true, false, List, refl, sym, ap, subst, ◌∙◌, arith}
use Rattle.std.proofs.lemmas.Bool.{cases_lt}
use Rattle.std.specs.Prelude.{Some, Result, Ok, Err, OnErr, IfOk, IsErr, IsTrue}
use Rattle.pm_trait.specs.Device.{Continues, HasRisen, LeavesOnly, MayLeave, StaysOnce, acks_from, moment_of}
use Rattle.pm_trait.specs.DeviceView.{DeviceView, IsSettledView, MakesIntervals}
use Rattle.pm_trait.specs.declared.event.PmFault.{PmFault}
use Rattle.pm_trait.proofs.ContinuesLaws.{acks_from-then}
use Rattle.pm_trait.proofs.DeviceLaws.{leaves_next, leaves_weaker, stays_then}
use Rattle.pm_trait.proofs.DeviceViewLaws.{intervals_none}
use Rattle.layout.specs.Superblock.{has_mark, open_mark}
use Rattle.tree_model.specs.Fences.{fences_of}
use Rattle.tree_model.specs.Places.{line_needs_places}
use Rattle.tree_model.specs.Run.{State, is_changing}
use Rattle.tree_model.specs.Tree.{Tree}
use Rattle.tree_model.specs.declared.command.Command.{Command}
use Rattle.tree_model.specs.declared.reply.Reply.{Reply}
use Rattle.image_reading.specs.Reading.{Reads}
use Rattle.image_reading.proofs.Readings.{one_tree}
use Rattle.image_reading.proofs.Tidied.{tidied}
use Rattle.volume.specs.Carried.{IsPlanFor}
use Rattle.volume.specs.Costs.{events_of, fences_of_plan, events_with_mark, fences_with_mark}
use Rattle.volume.specs.Crashes.{MayReadAs, MeansState}
use Rattle.volume.specs.Prepared.{IsChange}
use Rattle.volume.specs.LineEvents.{events_of_line}
use Rattle.volume.specs.Volume.{VolumeView}
use Rattle.volume.specs.declared.plan.Action.{Action}
use Rattle.volume.specs.declared.plan.Action.TheVariants.{Make, Name, Remove, Move, Write as WriteBytes, WriteNothing, Resize, KeepSize, KeepNames, Read as ReadBytes, Status, Names, Space}
use Rattle.volume.proofs.Plans.{change_is, fences_of_plan-le}
use Rattle.mark_ops.specs.Marking.{SetsMark}
use Rattle.engine.specs.Exec.{Executed, HasFailed, Does, LeavesMark, LeavesVolume, StaysAsAfter}
use Rattle.engine.specs.Ready.{MakesReady, Unmarks}
use Rattle.engine.specs.Replies.{IsChangeReply}
use Rattle.engine.specs.Run.{command_of, tree_after_line}
use Rattle.engine.specs.Session.{SessionView}
use Rattle.engine.proofs.Carried.{accepted_change}
use Rattle.engine.proofs.Marks.{events_unmarked, fences_unmarked, keeps_taken, keeps_taken_then}
use Rattle.engine.proofs.Might.{might_take}

-- a plan that makes a fence changes something
changes_something : (action : Action) → 0 < fences_of_plan action → IsChange action
changes_something (Make entry) some = refl
changes_something (Name link) some = refl
changes_something (Remove removal) some = refl
changes_something (Move moving) some = refl
changes_something (WriteBytes writing) some = refl
changes_something (Resize resizing) some = refl
changes_something WriteNothing some = absurd (omega (arith, some))
changes_something KeepSize some = absurd (omega (arith, some))
changes_something KeepNames some = absurd (omega (arith, some))
changes_something (ReadBytes reading) some = absurd (omega (arith, some))
changes_something (Status inode) some = absurd (omega (arith, some))
changes_something (Names inode) some = absurd (omega (arith, some))
changes_something Space some = absurd (omega (arith, some))

-- a plan that makes none, and has no event
pub none_made : {action other : Action} {device : DeviceView} {value : Reply} → action ≡ other → events_of other ≡ 0 → fences_of_plan other ≡ 0 → IsSettledView device
    → MakesIntervals {E = PmFault} device device (events_of action) (fences_of_plan action) (Ok value)
none_made {other = other} {device} {value} is no_event no_fence settled =
    subst (λ (a : Action). MakesIntervals {E = PmFault} device device (events_of a) (fences_of_plan a) (Ok value)) (sym is)
    (subst (λ (events : ℕ). MakesIntervals {E = PmFault} device device events (fences_of_plan other) (Ok value)) (sym no_event)
    (subst (λ (fences : ℕ). MakesIntervals {E = PmFault} device device 0 fences (Ok value)) (sym no_fence) (intervals_none device value settled)))

-- ---- the mark is given a value

-- the state before a command is one that a crash in it may leave
may_start : {P : ℕ} {state : State} {image : List ℕ} (c : Command) → MeansState P state image → MayReadAs P state (command_of (Some (Ok c))) image
may_start {state = state} c means = record { sound = means.sound; tree = state.tree; reads = means.reads.tree; allowed = inl refl }

-- Where all that a crash leaves reads as one tree at some moment of it, it does so at each.
stays_reading : {T E : Type 0} {P value : ℕ} {state : State} {before after : DeviceView} {result : Result T E} (tree : Tree) → Reads P before.words state.tree → SetsMark P value state before after result
    → StaysOnce before.trail after.trail (λ image. Reads P image tree)
stays_reading {P = P} {state = state} {before = before} {after = after} tree reads sets = record {
  continues = sets.any_moment.continues;
  each = λ first second from order upto all image may. elim (cases_lt first (moment_of after.trail)) [
    | inl earlier ↦
        let same = one_tree P before.words state.tree tree reads (all before.words (sets.takes.fenced.fenced.old_words first from earlier)) in
        subst (λ (t : Tree). Reads P image t) same (sets.any_moment.each second image (omega (arith, from, order)) upto may).1.reads.tree
    | inr last ↦ let same : second ≡ first = omega (arith, last, order, upto) in all image (subst (λ (k : ℕ). MayLeave after.trail k image) same may)
  ];
}

-- ---- a line

module _ (old mid : SessionView) (before between : DeviceView) (action : Action) (state : State) (c : Command) (plan_for : IsPlanFor old.volume before state c action) where
  marked_before : {result : Result (Unit {0}) PmFault} → Unmarks old.volume mid.volume before between action result → has_mark before.words ≡ true
  marked_before unmarks = sym plan_for.stands.mark ∙ unmarks.marked

  moments : {result : Result (Unit {0}) PmFault} → Unmarks old.volume mid.volume before between action result
      → LeavesOnly before.trail between.trail (λ acks image. (acks ≡ 0) × MayReadAs old.volume.size state (command_of (Some (Ok c))) image)
  moments unmarks = leaves_weaker (λ acks image (none, means). (none, may_start c means)) (unmarks.sets state plan_for.stands).any_moment

  taken : {result : Result (Unit {0}) PmFault} → Unmarks old.volume mid.volume before between action result → LeavesMark (fences_of_plan action) before between
  taken unmarks = keeps_taken before between (fences_of_plan action) (unmarks.sets state plan_for.stands).takes.makes (marked_before unmarks) unmarks.some

  stays_before : {result : Result (Unit {0}) PmFault} → Unmarks old.volume mid.volume before between action result → StaysAsAfter old.volume.size state (Ok c) before between
  stays_before unmarks = stays_reading (tree_after_line old.volume.size state (Ok c)) plan_for.stands.reads.tree (unmarks.sets state plan_for.stands)

  changes : {result : Result (Unit {0}) PmFault} → Unmarks old.volume mid.volume before between action result → is_changing c ≡ true
  changes unmarks = change_is old.volume.size before.words state c action plan_for.planned.plan_is ∙ changes_something action unmarks.some

  -- the fence failed that takes the mark away
  pub does_unmark_failed : {fault : PmFault} (result : Result Reply PmFault) → IsErr result → MakesReady old.volume mid.volume before between action (Err fault) → (new : SessionView) → Does old new before between state (Ok c) result
  does_unmark_failed (Ok replied) wrong made new = absurd (cc wrong)
  does_unmark_failed (Err f) wrong (inl (wrong_too, same, still)) new = absurd (cc wrong_too)
  does_unmark_failed (Err f) wrong (inr unmarks) new =
      let sets = unmarks.sets state plan_for.stands in
      let fence = sets.takes.fenced in
      record {
        executed = tt;
        failed = record {
          fails = record { accepted = accepted_change old.volume.size state c (changes unmarks) plan_for.planned.accepted; answered = refl };
          any_moment = moments unmarks;
          no_ack = fence.fenced.no_ack;
          last = fence.fenced.halts;
          action = action;
          planned = plan_for.planned;
          might = might_take old.volume.size before.words state c action (tidied plan_for.stands.tidy) plan_for.stands.reads plan_for.planned;
          least = fence.least_fences;
          fewer =
              let few = fence.fewer in
              let all = fences_unmarked (has_mark before.words) (fences_of_plan action) (marked_before unmarks) unmarks.some in
              omega (arith, few, all);
          events =
              let few = fence.grown in
              let all = events_unmarked (has_mark before.words) (fences_of_plan action) (events_of action) (marked_before unmarks) unmarks.some in
              omega (arith, few, all);
          mark = taken unmarks;
        };
        stays = stays_before unmarks;
      }

  pub leaves_unmark_failed : {fault : PmFault} (result : Result Reply PmFault) → IsErr result → MakesReady old.volume mid.volume before between action (Err fault) → LeavesVolume old.volume mid.volume before between result
  leaves_unmark_failed (Ok replied) wrong made = absurd (cc wrong)
  leaves_unmark_failed (Err f) wrong (inl (wrong_too, same, still)) = absurd (cc wrong_too)
  leaves_unmark_failed (Err f) wrong (inr unmarks) =
      let fence = (unmarks.sets state plan_for.stands).takes.fenced in
      record {
        quiet = tt;
        same = tt;
        size = ap (λ (v : VolumeView). v.size) unmarks.view;
        going = tt;
        stopped = ap (λ (v : VolumeView). v.stopped) unmarks.view;
        faults = fence.faults;
        no_fault = tt;
        cause = fence.cause;
        refused = let same = fence.refused in omega (arith, same);
        not_refused = tt;
        fault_not_refused = fence.refused;
        fences = let most = fence.most_fences in omega (arith, most);
        acks = fence.acks;
      }

  module _ (new : SessionView) (after : DeviceView) (done : Unit {0}) where
    of_size : (result : Result Reply PmFault) → mid.volume.size ≡ old.volume.size → Does mid new between after state (Ok c) result → Does old new between after state (Ok c) result
    of_size result size does = record {
      executed = subst (λ (p : ℕ). IfOk result (λ replied. Executed p state (Ok c) new replied between after)) size does.executed;
      failed = subst (λ (p : ℕ). OnErr result (HasFailed p state (Ok c) between after)) size does.failed;
      stays = subst (λ (p : ℕ). StaysAsAfter p state (Ok c) between after) size does.stays;
    }

    module _ (unmarks : Unmarks old.volume mid.volume before between action (Ok done)) where
      sets : SetsMark {T = Unit {0}} {E = PmFault} old.volume.size open_mark state before between (Ok done)
      sets = unmarks.sets state plan_for.stands

      unmarked : has_mark between.words ≡ false
      unmarked = sym (unmarks.stands state plan_for.stands).mark ∙ ap (λ (v : VolumeView). v.marked) unmarks.view

      none_acked : Continues between.trail after.trail → acks_from between.trail after.trail (moment_of after.trail) ≡ 0 → acks_from before.trail after.trail (moment_of after.trail) ≡ 0
      none_acked goes none = let early = sets.takes.fenced.fenced.no_ack in let joined = acks_from-then sets.any_moment.continues goes in omega (arith, early, joined, none)

      executed_unmarked : (result : Result Reply PmFault) → MakesIntervals between after (events_of action) (fences_of_plan action) result → IfOk result (λ replied. Executed old.volume.size state (Ok c) new replied between after)
          → IfOk result (λ replied. Executed old.volume.size state (Ok c) new replied before after)
      executed_unmarked (Ok replied) made does = record {
        answer = does.answer;
        new = does.new;
        replied = does.replied;
        step = does.step;
        stands = does.stands;
        any_moment = leaves_next sets.takes.fenced.fenced.no_ack (moments unmarks) does.any_moment;
        no_ack = none_acked does.any_moment.continues does.no_ack;
        fences =
            let first = sets.takes.fenced.counted in
            let all = fences_unmarked (has_mark before.words) fences (marked_before unmarks) some in
            omega (arith, first, took, all);
        events =
            let first = sets.takes.fenced.grown in
            let rest = does.events in
            let less = ap (λ (marked : Bool). events_with_mark marked fences (events_of_line state (Ok c) does.answer does.new)) unmarked in
            let all = events_unmarked (has_mark before.words) fences (events_of_line state (Ok c) does.answer does.new) (marked_before unmarks) some in
            omega (arith, first, rest, less, all);
        mark = keeps_taken_then (marked_before unmarks) unmarks.some some (taken unmarks) does.mark;
        quiet = λ none. absurd (omega (arith, none, some));
        no_memory = λ is. subst (λ (refused : ℕ). IsTrue (line_needs_places state (Ok c)) ⊎ HasRisen refused after.refused) sets.takes.fenced.refused (does.no_memory is);
      }
        where
          fences : ℕ
          fences = fences_of state (Ok c) does.answer does.new

          took : after.fences ≡ between.fences + fences
          took = let rest = does.fences in let less = ap (λ (marked : Bool). fences_with_mark marked fences) unmarked in omega (arith, rest, less)

          some : 0 < fences
          some = let made = made.counted in let planned = unmarks.some in omega (arith, took, made, planned)
      executed_unmarked (Err fault) made does = tt

      failed_unmarked : (result : Result Reply PmFault) → MakesIntervals between after (events_of action) (fences_of_plan action) result → OnErr result (HasFailed old.volume.size state (Ok c) between after)
          → OnErr result (HasFailed old.volume.size state (Ok c) before after)
      failed_unmarked (Ok replied) made does = tt
      failed_unmarked (Err fault) made does = record {
        fails = does.fails;
        any_moment = leaves_next sets.takes.fenced.fenced.no_ack (moments unmarks) does.any_moment;
        no_ack = none_acked does.any_moment.continues does.no_ack;
        last = does.last;
        action = action;
        planned = plan_for.planned;
        might = might_take old.volume.size before.words state c action (tidied plan_for.stands.tidy) plan_for.stands.reads plan_for.planned;
        least = let first = sets.takes.fenced.counted in let rest = made.least_fences in omega (arith, first, rest);
        fewer =
            let first = sets.takes.fenced.counted in
            let rest = made.fewer in
            let all = fences_unmarked (has_mark before.words) (fences_of_plan action) (marked_before unmarks) unmarks.some in
            omega (arith, first, rest, all);
        events =
            let first = sets.takes.fenced.grown in
            let rest = made.grown in
            let all = events_unmarked (has_mark before.words) (fences_of_plan action) (events_of action) (marked_before unmarks) unmarks.some in
            omega (arith, first, rest, all);
        mark = keeps_taken_then (marked_before unmarks) unmarks.some unmarks.some (taken unmarks) does.mark;
      }

    -- the plan was carried out after that, or a fence failed in it
    pub does_ready : (result : Result Reply PmFault) → MakesReady old.volume mid.volume before between action (Ok done) → MakesIntervals between after (events_of action) (fences_of_plan action) result
        → Does mid new between after state (Ok c) result → Does old new before after state (Ok c) result
    does_ready result (inl (ok, same, still)) made does =
        subst (λ (device : DeviceView). Does old new device after state (Ok c) result) still (of_size result (ap (λ (v : VolumeView). v.size) same) does)
    does_ready result (inr unmarks) made does =
        let inside = of_size result (ap (λ (v : VolumeView). v.size) unmarks.view) does in
        record {
          executed = executed_unmarked unmarks result made inside.executed;
          failed = failed_unmarked unmarks result made inside.failed;
          stays = stays_then (stays_before unmarks) inside.stays;
        }

    pub leaves_ready : (result : Result Reply PmFault) → MakesReady old.volume mid.volume before between action (Ok done) → MakesIntervals between after (events_of action) (fences_of_plan action) result
        → IfOk result (λ replied. ¬ IsChangeReply replied → ¬ IsChange action) → LeavesVolume mid.volume new.volume between after result → LeavesVolume old.volume new.volume before after result
    leaves_ready result (inl (ok, same, still)) made reads leaves =
        subst (λ (volume : VolumeView). LeavesVolume volume new.volume before after result) same
        (subst (λ (device : DeviceView). LeavesVolume mid.volume new.volume device after result) still leaves)
    leaves_ready (Ok replied) (inr unmarks) made reads leaves =
        let fence = (sets unmarks).takes.fenced in
        let few = fences_of_plan-le action in
        record {
          quiet = λ not. absurd (reads not (changes_something action unmarks.some));
          same = λ not not_memory. absurd (reads not (changes_something action unmarks.some));
          size = leaves.size ∙ ap (λ (v : VolumeView). v.size) unmarks.view;
          going = leaves.going;
          stopped = tt;
          faults = let first = fence.faults in let rest = leaves.faults in omega (arith, first, rest);
          no_fault = leaves.no_fault ∙ fence.no_fault;
          cause = tt;
          refused = let first = fence.refused in let rest = leaves.refused in omega (arith, first, rest);
          not_refused = λ not. leaves.not_refused not ∙ fence.refused;
          fault_not_refused = tt;
          fences = let first = fence.counted in let rest = made.most_fences in omega (arith, first, rest, few);
          acks = leaves.acks ∙ fence.acks;
        }
    leaves_ready (Err fault) (inr unmarks) made reads leaves =
        let fence = (sets unmarks).takes.fenced in
        let few = fences_of_plan-le action in
        record {
          quiet = tt;
          same = tt;
          size = leaves.size ∙ ap (λ (v : VolumeView). v.size) unmarks.view;
          going = tt;
          stopped = leaves.stopped;
          faults = let first = fence.faults in let rest = leaves.faults in omega (arith, first, rest);
          no_fault = tt;
          cause = subst (λ (n : ℕ). HasRisen n after.faults) fence.no_fault leaves.cause;
          refused = let first = fence.refused in let rest = leaves.refused in omega (arith, first, rest);
          not_refused = tt;
          fault_not_refused = leaves.fault_not_refused ∙ fence.refused;
          fences = let first = fence.counted in let rest = made.most_fences in omega (arith, first, rest, few);
          acks = leaves.acks ∙ fence.acks;
        }
