-- A rename makes a step: it waits on at its next stage, or it has ended and nothing is left.
use Rattle.std.proofs.Common.{◌≡◌, ◌⊎◌, inl, inr, ℕ, ◌-◌, ◌^◌, ◌<◌, Bool, true, false, nat_le, List, [], set, Some, None, refl, sym, ap, subst, ◌∙◌, arith}
use Rattle.std.proofs.lemmas.Bool.{leb-false, lt-leb}
use Rattle.pm_trait.specs.DeviceView.{DeviceView}
use Rattle.pm_trait.specs.Unfolds.{Step, events_in}
use Rattle.tree_model.specs.Capacity.{untaken}
use Rattle.tree_model.specs.Step.{refusal_with}
use Rattle.tree_model.specs.Run.{State}
use Rattle.tree_model.specs.declared.command.Command.{Command}
use Rattle.tree_model.specs.declared.command.Command.TheVariants.{Rename}
use Rattle.tree_model.specs.declared.reply.Reply.TheVariants.{Done}
use Rattle.volume.specs.Volume.{VolumeView}
use Rattle.volume.specs.declared.next.Next.{Next}
use Rattle.volume.specs.declared.next.Next.TheVariants.{More, Ended}
use Rattle.volume.specs.declared.plan.Moving.{Moving}
use Rattle.volume.proofs.Moments.{with_kept, IsSameBeside}
use Rattle.removal_steps.specs.Steps.{gone_pages}
use Rattle.rename_ptr.specs.Stages as moves
use Rattle.rename_ptr.specs.declared.rename.Progress.{Progress}
use Rattle.rename_ptr.specs.declared.rename.Progress.TheVariants.{Begun, Filled, Opened, Pointed, Moved, Left, Cleared, Disowned}
use Rattle.rename_ptr.specs.declared.rename.Stage.{Stage}
use Rattle.rename_ptr.specs.declared.rename.Stage.TheVariants.{Moving as MovesName}
use Rattle.rename_ptr.proofs.Ahead.{IsNextOf, rank, next_cases}
use Rattle.rename_ptr.proofs.Known.{enters_beside}
use Rattle.running_calls.specs.declared.running.Running.{Running}
use Rattle.running_calls.specs.declared.running.Running.TheVariants.{Moves}
use Rattle.running_calls.specs.Stages.{StandsStage, StandsNext, IsNext, EntersAt, as_call, step_of}
use Rattle.waiting_laws.specs.Beside.{MakesStep}
use Rattle.waiting_laws.specs.Costs.{Costs}
use Rattle.waiting_laws.specs.Moving.{WaitsToMove}
use Rattle.waiting_laws.proofs.CostsMoving.{moving_costs}
use Rattle.waiting_laws.proofs.MovingCommits.{moving_commits}
use Rattle.waiting_laws.proofs.MovingCourse.{same_next, no_next}
use Rattle.waiting_laws.proofs.MovingEnds.{moving_ends}
use Rattle.waiting_laws.proofs.MovingSteps.{moving_steps}
use Rattle.running_laws.specs.Steps.{Means, commits, has_committed, commits_move, has_committed_move}
use Rattle.session_laws.specs.Calls.{Call, Calls, call_at, events_of_call}
use Rattle.session_laws.specs.Moving.{MoveWaits, MoveWentOn, MoveGoesOnLaw}
use Rattle.session_laws.proofs.MoveBegins.{events_at, move_stands_law}
use Rattle.session_laws.proofs.MoveBehind.{has_behind}
use Rattle.session_laws.proofs.MoveCalls.{at_set, at_other, within_calls, none_runs, none_wait}

-- ---- stages

-- the commit, or a step that commits nothing
pub commit_or_quiet : (progress : Progress) → (progress ≡ Pointed) ⊎ ((progress ≡ Pointed → ⊥) × (commits_move progress ≡ false))
commit_or_quiet Begun = inr ((λ is. cc), refl)
commit_or_quiet Filled = inr ((λ is. cc), refl)
commit_or_quiet Opened = inr ((λ is. cc), refl)
commit_or_quiet Pointed = inl refl
commit_or_quiet Moved = inr ((λ is. cc), refl)
commit_or_quiet Left = inr ((λ is. cc), refl)
commit_or_quiet Cleared = inr ((λ is. cc), refl)
commit_or_quiet Disowned = inr ((λ is. cc), refl)

-- it has committed where at most four stages may follow
committed_by : (progress : Progress) → has_committed_move progress ≡ nat_le (rank progress) 4
committed_by Begun = refl
committed_by Filled = refl
committed_by Opened = refl
committed_by Pointed = refl
committed_by Moved = refl
committed_by Left = refl
committed_by Cleared = refl
committed_by Disowned = refl

-- what has not committed yet had not before
not_before : (progress next : Progress) → rank next < rank progress → has_committed_move next ≡ false → has_committed_move progress ≡ false
not_before progress next fewer none =
    let many = leb-false (rank next) 4 (sym (committed_by next) ∙ none) in
    committed_by progress ∙ lt-leb (rank progress) 4 (omega (arith, many, fewer))

module _ (old new : VolumeView) (before after : DeviceView) (words : State) (calls : Calls) (s : ℕ) (call : Call) (waits : MoveWaits old before words calls s call)
    (made : MakesStep (step_of old [] call.running) (EntersAt call.running) old new before after) where
  abbrev moving : Moving
  moving = waits.moving

  abbrev progress : Progress
  progress = waits.progress

  abbrev pages : List ℕ
  pages = gone_pages old moving.replaced

  abbrev step : Step
  step = moves.step_of old (MovesName moving progress)

  abbrev kept : VolumeView
  kept = with_kept (old.kept - step.events) old

  makes : MakesStep step (moves.EntersAt (MovesName moving progress)) old new before after
  makes = subst (λ (running : Running). MakesStep (step_of old [] running) (EntersAt running) old new before after) waits.running_is made

  beside : IsSameBeside kept new
  beside = enters_beside kept new moving progress makes.enters

  stands : moves.StandsStage old before (MovesName moving progress)
  stands = subst (λ (running : Running). StandsStage old before [] running) waits.running_is (move_stands_law old before words calls s call waits)

  -- the events that were kept are those that it had left
  kept_is : old.kept ≡ events_in (moves.left_of old (MovesName moving progress))
  kept_is = waits.kept ∙ events_at old call (Moves (MovesName moving progress)) waits.running_is

  means_quiet : commits_move progress ≡ false → Means (commits call.running) words words call.command 0
  means_quiet quiet = subst (λ (t : Bool). Means t words words call.command 0) (sym (ap commits waits.running_is ∙ quiet)) refl

  -- ---- it goes on

  module _ (next : Progress) (e : moves.next_moving moving progress ≡ More (MovesName moving next)) (after_it : IsNextOf old.size moving pages progress next)
      (there : moves.StandsStage new after (MovesName moving next)) where
    abbrev goes : Call
    goes = record call { running = Moves (MovesName moving next) }

    gone : gone_pages new moving.replaced ≡ pages
    gone = after_it.gone kept new makes.enters

    costs : Costs (moves.left_of old (MovesName moving progress)) step (moves.left_of old (MovesName moving next))
    costs = moving_costs.goes_on old before (MovesName moving progress) (MovesName moving next) stands e

    -- what is left costs the same by the volume behind the step
    left_same : events_in (moves.left_of old (MovesName moving next)) ≡ events_in (moves.left_of new (MovesName moving next))
    left_same =
        ap (λ (p : ℕ). events_in (moves.left_at p moving pages next)) (sym beside.size) ∙ ap (λ (l : List ℕ). events_in (moves.left_at new.size moving l next)) (sym gone)

    kept_next : new.kept ≡ events_of_call new goes
    kept_next = let here = beside.kept in let was = kept_is in let cost = costs.events in omega (arith, here, was, cost, left_same)

    few_next : events_of_call new goes < 2 ^ 41
    few_next = let few = waits.few in let kept = waits.kept in let here = beside.kept in let now = kept_next in omega (arith, few, kept, here, now)

    waits_on : (later : State) → WaitsToMove new after later waits.from waits.to moving next
        → (has_committed_move next ≡ false → refusal_with (untaken new.size) later.tree later.room (Rename waits.from waits.to) ≡ None)
        → MoveWaits new after later (set calls s (Some goes)) s goes
    waits_on later waiting accepted = record {
      runs = at_set calls s (Some goes) (within_calls calls s call waits.runs);
      alone = λ r other. at_other calls s r (Some goes) other ∙ waits.alone r other;
      from = waits.from;
      to = waits.to;
      moving = moving;
      progress = next;
      command_is = waits.command_is;
      running_is = refl;
      named = waits.named;
      waits = waiting;
      accepted = accepted;
      behind = has_behind new goes moving next waiting.knows.losses.count refl waits.of_plan;
      of_plan = waits.of_plan;
      kept = kept_next;
      few = few_next;
    }

    still_accepted : has_committed_move next ≡ false → refusal_with (untaken new.size) words.tree words.room (Rename waits.from waits.to) ≡ None
    still_accepted none =
        let before_it = not_before progress next after_it.fewer none in
        subst (λ (p : ℕ). refusal_with (untaken p) words.tree words.room (Rename waits.from waits.to) ≡ None) (sym beside.size)
        (waits.accepted (ap has_committed waits.running_is ∙ before_it))

    quietly : (progress ≡ Pointed → ⊥) → commits_move progress ≡ false → MoveWentOn new after words calls s call (More (Moves (MovesName moving next)))
    quietly other quiet = record {
      later = words;
      means = means_quiet quiet;
      waits = waits_on words (moving_steps old new before after words waits.from waits.to moving progress next waits.waits other makes e there) still_accepted;
    }

  -- ---- it commits

  module _ (is : progress ≡ Pointed) where
    abbrev named : Stage
    named = MovesName moving Pointed

    waits_pointed : WaitsToMove old before words waits.from waits.to moving Pointed
    waits_pointed = subst (WaitsToMove old before words waits.from waits.to moving) is waits.waits

    makes_pointed : MakesStep (moves.step_of old named) (moves.EntersAt named) old new before after
    makes_pointed = subst (λ (p : Progress). MakesStep (moves.step_of old (MovesName moving p)) (moves.EntersAt (MovesName moving p)) old new before after) is makes

    committing : (next : Progress) → (Moved ≡ next) → moves.next_moving moving progress ≡ More (MovesName moving next) → IsNextOf old.size moving pages progress next
        → moves.StandsStage new after (MovesName moving next)
        → MoveWentOn new after words calls s call (More (Moves (MovesName moving next)))
    committing next same e after_it there =
        let stood : moves.StandsStage new after (MovesName moving Moved) = subst (λ (p : Progress). moves.StandsStage new after (MovesName moving p)) (sym same) there in
        let (committed, waiting) = moving_commits old new before after words waits.from waits.to moving 0 waits_pointed makes_pointed stood in
        record {
          later = committed.stepped.new;
          means = subst (λ (t : Bool). Means t words committed.stepped.new call.command 0) (sym (ap commits waits.running_is ∙ ap commits_move is))
              (subst (λ (c : Command). Means true words committed.stepped.new c 0) (sym waits.command_is)
              (record { tree = committed.stepped.tree; room = committed.stepped.room }));
          waits = waits_on next e after_it there committed.stepped.new (subst (WaitsToMove new after committed.stepped.new waits.from waits.to moving) same waiting)
              (λ none. absurd (let done = ap has_committed_move same ∙ none in cc));
        }

  -- ---- it ends

  ended : moves.next_moving moving progress ≡ Ended Done → commits_move progress ≡ false → MoveWentOn new after words calls s call (Ended Done)
  ended e quiet =
      let within = within_calls calls s call waits.runs in
      let none : (r : ℕ) → call_at (set calls s None) r ≡ None = λ r. none_runs calls s r within waits.alone in
      record {
        later = words;
        means = means_quiet quiet;
        waits = (none_wait new after words (set calls s None) none (moving_ends old new before after words waits.from waits.to moving progress waits.waits makes e), nothing_kept);
      }
    where
      nothing_kept : new.kept ≡ 0
      nothing_kept =
          let costs = moving_costs.ends old before moving progress Done stands e in
          let cost = costs.events in let here = beside.kept in let was = kept_is in omega (arith, cost, here, was)

  -- ---- all of them

  by_more : (next : Progress) → IsNextOf old.size moving pages progress next → moves.next_moving moving progress ≡ More (MovesName moving next)
      → moves.StandsStage new after (MovesName moving next)
      → MoveWentOn new after words calls s call (More (Moves (MovesName moving next)))
  by_more next after_it e there = elim (commit_or_quiet progress) [
    | inl is ↦ committing is next (same_next moving Moved next (sym (ap (moves.next_moving moving) is) ∙ e)) e after_it there
    | inr quiet ↦ quietly next e after_it there quiet.0 quiet.1
  ]

  by_end : moves.next_moving moving progress ≡ Ended Done → MoveWentOn new after words calls s call (Ended Done)
  by_end e = elim (commit_or_quiet progress) [
    | inl is ↦ absurd (no_next moving Moved (sym e ∙ ap (moves.next_moving moving) is))
    | inr quiet ↦ ended e quiet.1
  ]

  abbrev GoesTo : Next Stage → Type 0
  GoesTo there = moves.next_moving moving progress ≡ there → StandsNext new after [] (as_call Moves there) → MoveWentOn new after words calls s call (as_call Moves there)

  goes_on : (next : Next Running) → IsNext call.running next → StandsNext new after [] next → MoveWentOn new after words calls s call next
  goes_on next is there =
      let here : next ≡ as_call Moves (moves.next_moving moving progress) = subst (λ (running : Running). IsNext running next) waits.running_is is in
      subst (MoveWentOn new after words calls s call) (sym here)
      (next_cases old.size moving pages GoesTo progress waits.waits.at.store waits.waits.knows.losses.count
      (λ later after_it e stood. by_more later after_it e stood) (λ last e stood. by_end e) refl (subst (StandsNext new after []) here there))

pub move_goes_on_law : MoveGoesOnLaw
move_goes_on_law old new before after words calls s call next waits made is there = goes_on old new before after words calls s call waits made next is there
