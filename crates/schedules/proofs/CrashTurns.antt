-- What a crash leaves of one turn after another, with the acknowledgements so far, and what they leave of the superblock.
use Rattle.std.proofs.Common.{◌≡◌, inl, inr, ℕ, ◌+◌, ◌≤◌, true, false, List, [], ◌∷◌, refl, sym, ap, subst, ◌∙◌, arith}
use Rattle.std.specs.Prelude.{Option}
use Rattle.std.proofs.lemmas.Bool.{cases_Bool}
use Rattle.pm_trait.specs.Trail.{Trail}
use Rattle.pm_trait.specs.Device.{LeavesOnly, IsSettledAt, acks_from, moment_of}
use Rattle.pm_trait.specs.DeviceView.{DeviceView}
use Rattle.pm_trait.proofs.ContinuesLaws.{continues_here, acks_from-here}
use Rattle.pm_trait.proofs.DeviceLaws.{leaves_here, leaves_weaker, leaves_quiet}
use Rattle.pm_trait.specs.Unfolds.{KeepsWords}
use Rattle.layout.specs.Superblock.{IsSuperblockWord}
use Rattle.volume.specs.Volume.{VolumeView}
use Rattle.engine.proofs.After.{Acked, leaves_after, acked_then}
use Rattle.session_laws.specs.Calls.{ranges_of_all}
use Rattle.session_laws.specs.Histories.{IsCrashOf}
use Rattle.session_laws.proofs.CrashLeaves.{crash_before}
use Rattle.sessions.specs.Interleave.{AllWait, IsWeaving}
use Rattle.sessions.specs.Steps.{StepsOn, MayBeLeft, IsBeforeOrBehind}
use Rattle.schedules.specs.Turns.{Border, Turn, GoesOn, AreTurns, border_behind}
use Rattle.schedules.specs.Crashes.{IsLeftBy, acks_in, acks_of_turns}
use Rattle.schedules.specs.Laws.{LeavesTurns}
use Rattle.schedules.proofs.Acks.{acks_step}
use Rattle.schedules.proofs.Bounded.{leaves_within}

-- ---- where calls wait

-- The device is settled, and a crash leaves the history.
record IsThere (border : Border) : Type 0 where
  pub settled : IsSettledAt border.device.words border.device.trail
  pub crash : IsCrashOf border.weave.volume.size border.device.words (ranges_of_all border.calls) border.history

module _ (border : Border) (weaving : IsWeaving border.weave border.device border.calls border.history) where
  there : AllWait border.weave.volume border.device weaving.words border.calls → IsThere border
  there (AllWait.idle idle going none stands) = record {
    settled = stands.settled;
    crash = crash_before border.weave.volume.size border.device.words weaving.words (ranges_of_all border.calls) border.history stands.sound stands.reads weaving.history_is;
  }
  there (AllWait.beside wait kept) =
      let stands = wait.beside.stands in
      record {
        settled = stands.settled;
        crash = crash_before border.weave.volume.size border.device.words weaving.words (ranges_of_all border.calls) border.history stands.sound stands.reads weaving.history_is;
      }
  there (AllWait.alone s call wait begun) =
      let stands = wait.waits.stands in
      record {
        settled = stands.settled;
        crash = crash_before border.weave.volume.size border.device.words weaving.words (ranges_of_all border.calls) border.history stands.sound stands.reads weaving.history_is;
      }

  none_leaves : LeavesTurns border []
  none_leaves =
      let here = there weaving.waits in
      record {
        any_moment = leaves_here (IsLeftBy border []) here.settled (refl, here.crash);
        acked = λ told is. acks_from-here (continues_here border.device.trail);
        beside = λ a is. refl;
      }

-- ---- behind a fence that failed

still_device : (schedule : List ℕ) (count : ℕ) (now : Border) (turns : List Turn) → AreTurns schedule count now turns → now.weave.volume.stopped ≡ true
    → (border_behind now turns).device ≡ now.device
still_device schedule count now [] are stopped = refl
still_device schedule count now (turn ∷ turns) are stopped =
    let stays = are.0.still stopped in
    still_device schedule (count + 1) turn.behind turns are.1 (ap (λ (volume : VolumeView). volume.stopped) stays.still.volume ∙ stopped) ∙ stays.device

still_acks : (schedule : List ℕ) (count : ℕ) (now : Border) (turns : List Turn) → AreTurns schedule count now turns → now.weave.volume.stopped ≡ true
    → acks_of_turns turns ≡ 0
still_acks schedule count now [] are stopped = refl
still_acks schedule count now (turn ∷ turns) are stopped =
    let stays = are.0.still stopped in
    let here : acks_in turn.reply ≡ 0 = ap acks_in stays.still.told in
    let later = still_acks schedule (count + 1) turn.behind turns are.1 (ap (λ (volume : VolumeView). volume.stopped) stays.still.volume ∙ stopped) in
    omega (arith, here, later)

-- ---- the turn in which it fails, and those behind it

module _ (schedule : List ℕ) (count : ℕ) (now : Border) (turn : Turn) (turns : List Turn) (was : now.weave.volume.stopped ≡ false) (goes_on : GoesOn now turn) where
  failed_leaves : turn.behind.weave.volume.stopped ≡ true → AreTurns schedule count turn.behind turns → LeavesTurns now (turn ∷ turns)
  failed_leaves halted are =
      let fails = goes_on.steps.failed halted in
      let still = still_device schedule count turn.behind turns are halted in
      let same = ap (λ (device : DeviceView). device.trail) still in
      let here : acks_in turn.reply ≡ 0 = ap acks_in fails.told in
      let later = still_acks schedule count turn.behind turns are halted in
      record {
        any_moment = subst (λ (trail : Option Trail). LeavesOnly now.device.trail trail (IsLeftBy now (turn ∷ turns))) (sym same)
            (leaves_quiet {P = IsLeftBy now (turn ∷ turns)} fails.none_acked fails.any_moment (λ image may. inl (inr (was, halted, refl, may))));
        acked = λ told is.
            ap (λ (trail : Option Trail). acks_from now.device.trail trail (moment_of trail)) same ∙ fails.none_acked
            ∙ omega (arith, here, later);
        beside = subst (λ (device : DeviceView). KeepsWords IsSuperblockWord now.device.words device.words) (sym still) goes_on.steps.beside;
      }

  -- ---- a turn whose fence succeeds

  module _ (going : turn.behind.weave.volume.stopped ≡ false) where
    abbrev steps : StepsOn now.weave turn.behind.weave now.device turn.behind.device now.calls now.history turn.session turn.line turn.reply
    steps = goes_on.steps.going going

    weaving_behind : IsWeaving turn.behind.weave turn.behind.device turn.behind.calls turn.behind.history
    weaving_behind =
        subst (λ calls. IsWeaving turn.behind.weave turn.behind.device calls turn.behind.history) (sym (goes_on.calls going))
        (subst (λ history. IsWeaving turn.behind.weave turn.behind.device steps.later_calls history) (sym (goes_on.history going)) steps.weaving)

    acked_here : Acked now.device.trail turn.behind.device.trail (acks_in turn.reply)
    acked_here told is = steps.acked told is ∙ sym (acks_step turn.reply steps)

    left_here : (acks : ℕ) (image : List ℕ)
        → (acks ≤ acks_in turn.reply) × MayBeLeft now.weave.volume.size now.calls now.history turn.line (IsBeforeOrBehind now.history steps.later acks) image
        → IsLeftBy now (turn ∷ turns) acks image
    left_here acks image (few, may) =
        inl (inl (going, few, subst (λ later. MayBeLeft now.weave.volume.size now.calls now.history turn.line (IsBeforeOrBehind now.history later acks) image) (sym (goes_on.history going)) may))

    on_leaves : LeavesTurns turn.behind turns → LeavesTurns now (turn ∷ turns)
    on_leaves later = record {
      any_moment = leaves_after {P = IsLeftBy now (turn ∷ turns)} (acks_in turn.reply) acked_here
          (leaves_weaker left_here (leaves_within (acks_in turn.reply) acked_here steps.any_moment))
          (leaves_weaker (λ acks image left. inr (acks, refl, left)) later.any_moment);
      acked = acked_then (acks_in turn.reply) (acks_of_turns turns) steps.any_moment.continues later.any_moment.continues acked_here later.acked;
      beside = λ a is. later.beside a is ∙ goes_on.steps.beside a is;
    }

-- ---- all of them

pub turns_leave : (schedule : List ℕ) (count : ℕ) (now : Border) (turns : List Turn) → AreTurns schedule count now turns → now.weave.volume.stopped ≡ false
    → IsWeaving now.weave now.device now.calls now.history → LeavesTurns now turns
turns_leave schedule count now [] are going weaving = none_leaves now weaving
turns_leave schedule count now (turn ∷ turns) are going weaving =
    let goes_on = are.0.going going in
    elim (cases_Bool turn.behind.weave.volume.stopped) [
      | inl halted ↦ failed_leaves schedule (count + 1) now turn turns going goes_on halted are.1
      | inr on ↦ on_leaves schedule (count + 1) now turn turns going goes_on on
          (turns_leave schedule (count + 1) turn.behind turns are.1 on (weaving_behind schedule (count + 1) now turn turns going goes_on on))
    ]
