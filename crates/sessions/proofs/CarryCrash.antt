-- What a crash leaves around a step that was taken, whether its fence succeeded or not, and around an acknowledgement behind it; and how many of these come.
use Rattle.std.proofs.Common.{◌≡◌, inl, ℕ, Bool, true, false, List, Ok, refl, sym, subst}
use Rattle.std.specs.Prelude.{Result}
use Rattle.pm_trait.specs.declared.event.Event.TheVariants.{Ack}
use Rattle.pm_trait.specs.Device.{LeavesOnly, AcksSettled}
use Rattle.pm_trait.specs.DeviceView.{DeviceView, IsSettledView, Acknowledges}
use Rattle.pm_trait.specs.Unfolds.{Step, Takes, Fenced}
use Rattle.pm_trait.proofs.AckLaws.{leaves_ack, acks_none, acks_next, acks_ack}
use Rattle.pm_trait.proofs.ContinuesLaws.{continues_by}
use Rattle.pm_trait.proofs.DeviceLaws.{leaves_here, leaves_next, fenced_leaves}
use Rattle.pm_trait.proofs.Unfolding.{step_intervals}
use Rattle.tree_model.specs.Run.{State, Line}
use Rattle.image_laws.specs.Quiet.{IsMix}
use Rattle.image_laws.proofs.Free.{mix_itself}
use Rattle.entry_steps.proofs.Moments.{is_mix}
use Rattle.session_laws.specs.Calls.{Calls, without, ranges_of_all}
use Rattle.session_laws.specs.Histories.{IsCrashOf}
use Rattle.engine.proofs.After.{Acked, acked_then}
use Rattle.engine.proofs.Acknowledged.{ack_counts}
use Rattle.sessions.specs.Interleave.{InterleaveView, IsWeaving}
use Rattle.sessions.specs.Steps.{MayBeLeft, IsBeforeOrBehind}
use Rattle.sessions.proofs.AnswerCrash.{weaving_crash, weaving_behind}
use Rattle.sessions.proofs.StepCrash.{ranges_without}

-- of each mix of the words before the step and behind it this holds
abbrev pub HoldsOfMixes : (List ℕ → Type 0) → DeviceView → DeviceView → Type 0
HoldsOfMixes Q before after = (image : List ℕ) → IsMix before.words after.words image → Q image

pub step_leaves : {T E : Type 0} (Q : ℕ → List ℕ → Type 0) (step : Step) (before after : DeviceView) (result : Result T E) → IsSettledView before → Takes step before after result
    → HoldsOfMixes (Q 0) before after → LeavesOnly before.trail after.trail Q
step_leaves {T} {E} Q step before after result settled takes each = by_fence step.stores takes.fenced
  where
    by_fence : (stores : Bool) → Fenced {T = T} {E = E} stores step.events before after result → LeavesOnly before.trail after.trail Q
    by_fence true fenced = fenced_leaves fenced.fenced (λ image mix. each image (is_mix before.words after.words image mix))
    by_fence false fenced =
        subst (λ (device : DeviceView). LeavesOnly before.trail device.trail Q) (sym fenced.0)
        (leaves_here Q settled (each before.words (record { size = refl; words = λ a. inl refl })))

-- a step alone acknowledges nothing
pub step_settled : (Q : ℕ → List ℕ → Type 0) (step : Step) (before after : DeviceView) → IsSettledView before → Takes {T = Unit {0}} {E = Unit {0}} step before after (Ok tt)
    → AcksSettled before.trail after.trail Q
step_settled Q step before after settled takes =
    let made = step_intervals step before after (Ok tt) settled takes in
    acks_none Q made.continues made.no_ack

-- ---- its last step, behind which the call is acknowledged

module _ (step : Step) (before between after : DeviceView) (settled : IsSettledView before) (takes : Takes {T = Unit {0}} {E = Unit {0}} step before between (Ok tt))
    (acks : Acknowledges between after) where
  end_leaves : (Q : ℕ → List ℕ → Type 0) → HoldsOfMixes (Q 0) before between → Q 1 between.words → LeavesOnly before.trail after.trail Q
  end_leaves Q each behind =
      let made = step_intervals step before between (Ok tt) settled takes in
      leaves_next made.no_ack (step_leaves Q step before between (Ok tt) settled takes each)
      (leaves_ack Q made.settled acks.trail (each between.words (mix_itself before.words between.words made.long)) behind)

  pub end_acks : Acked before.trail after.trail 1
  end_acks =
      let made = step_intervals step before between (Ok tt) settled takes in
      acked_then 0 1 made.continues (continues_by Ack acks.trail) (λ told is. made.no_ack) (ack_counts between.trail acks.trail)

  -- behind it the calls wait without this one
  pub ends_waiting : (P : ℕ) (new : InterleaveView) (calls : Calls) (history later : State) (session : ℕ) (line : Line) → IsWeaving new after (without calls session) later
      → new.volume.size ≡ P → HoldsOfMixes (MayBeLeft P calls history line (IsBeforeOrBehind history later 0)) before between
      → LeavesOnly before.trail after.trail (λ acks image. MayBeLeft P calls history line (IsBeforeOrBehind history later acks) image)
  ends_waiting P new calls history later session line weaving size each =
      let waiting = weaving_behind new after (without calls session) later weaving calls history line 1 (λ range among. inl (ranges_without calls session range among)) in
      let left = subst (λ (pages : ℕ). MayBeLeft pages calls history line (IsBeforeOrBehind history later 1) after.words) size waiting in
      end_leaves (λ count image. MayBeLeft P calls history line (IsBeforeOrBehind history later count) image) each
      (subst (MayBeLeft P calls history line (IsBeforeOrBehind history later 1)) acks.words left)

  -- at it the device is settled
  end_settled : (Q : ℕ → List ℕ → Type 0) → Q 1 between.words → AcksSettled before.trail after.trail Q
  end_settled Q holds =
      let made = step_intervals step before between (Ok tt) settled takes in
      acks_next {Q = Q} made.no_ack (step_settled Q step before between settled takes) (acks_ack Q made.settled acks.trail holds)

  -- and the words read as the history that the calls wait in behind it
  pub ends_settled : (P : ℕ) (new : InterleaveView) (calls : Calls) (later : State) → IsWeaving new after calls later → new.volume.size ≡ P
      → AcksSettled before.trail after.trail (λ count words. IsCrashOf P words (ranges_of_all calls) later)
  ends_settled P new calls later weaving size =
      let there = subst (λ (pages : ℕ). IsCrashOf pages after.words (ranges_of_all calls) later) size (weaving_crash new after calls later weaving) in
      end_settled (λ count words. IsCrashOf P words (ranges_of_all calls) later)
      (subst (λ (words : List ℕ). IsCrashOf P words (ranges_of_all calls) later) acks.words there)
