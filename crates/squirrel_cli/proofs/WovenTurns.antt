-- What is said of turns, over a mount before them and a close behind them.
use Rattle.std.proofs.Common.{◌≡◌, inl, inr, ℕ, ◌+◌, true, false, List, [], ◌∷◌, refl, sym, ap, subst, ◌∙◌, arith}
use Rattle.std.proofs.lemmas.Bool.{cases_Bool}
use Rattle.pm_trait.specs.Device.{EndsInFault}
use Rattle.pm_trait.specs.DeviceView.{DeviceView}
use Rattle.pm_trait.proofs.DeviceLaws.{leaves_next, leaves_weaker}
use Rattle.layout.specs.Superblock.{KeepsSuperblock}
use Rattle.tree_model.specs.Run.{State}
use Rattle.volume.specs.Crashes.{MeansState}
use Rattle.volume.specs.Volume.{VolumeView}
use Rattle.engine.proofs.After.{acked_then, leaves_after}
use Rattle.mount_scan.specs.Mounts.{KeepsState}
use Rattle.mixing_laws.specs.Mixed.{Range}
use Rattle.mixing_laws.proofs.Ranges.{none_mixed_law}
use Rattle.session_laws.specs.Calls.{AreIdle, Calls, ranges_of_all}
use Rattle.session_laws.specs.Histories.{IsCrashOf, IsHistory}
use Rattle.sessions.proofs.CarryLists.{ranges_idle}
use Rattle.schedules.specs.Crashes.{IsLeftBy, acks_of_turns}
use Rattle.schedules.specs.Turns.{Border, Turn, AreTurns, border_behind}
use Rattle.squirrel_cli.specs.Weaves.{KeepsTurns}
use Rattle.squirrel_cli.proofs.Closing.{ClosesQuietly}

-- ---- what a crash leaves before the first turn, and behind the last

module _ (state : State) (calls : Calls) (idle : AreIdle calls) where
  idle_history : IsHistory (ranges_of_all calls) state state
  idle_history = subst (λ (ranges : List Range). IsHistory ranges state state) (sym (ranges_idle calls idle)) (record { tree = (none_mixed_law state.tree state.tree).1 refl; room = refl })

  -- where no call runs, what means the state is left of it
  idle_crash : {P : ℕ} {image : List ℕ} → MeansState P state image → IsCrashOf P image (ranges_of_all calls) state
  idle_crash means = record { sound = means.sound; read = state; reads = means.reads; mixed = idle_history }

left_first : (start : Border) (turns : List Turn) (image : List ℕ) → start.weave.volume.stopped ≡ false → IsCrashOf start.weave.volume.size image (ranges_of_all start.calls) start.history → IsLeftBy start turns 0 image
left_first start [] image going crash = (refl, crash)
left_first start (turn ∷ turns) image going crash = elim (cases_Bool turn.behind.weave.volume.stopped) [
  | inl halted ↦ inl (inr (going, halted, refl, record { state = start.history; state_is = inl refl; ranges = ranges_of_all start.calls; running = λ range within. inl within; crash = crash }))
  | inr on ↦ inl (inl (on, omega arith, record { state = start.history; state_is = inl (refl, refl); ranges = ranges_of_all start.calls; running = λ range within. inl within; crash = crash }))
]

left_last : (start : Border) (turns : List Turn) (image : List ℕ) → IsCrashOf (border_behind start turns).weave.volume.size image (ranges_of_all (border_behind start turns).calls) (border_behind start turns).history
    → IsLeftBy start turns (acks_of_turns turns) image
left_last start [] image crash = (refl, crash)
left_last start (turn ∷ turns) image crash = inr (acks_of_turns turns, refl, left_last turn.behind turns image crash)

-- ---- what turns leave of the volume

pub turns_size : (schedule : List ℕ) (count : ℕ) (now : Border) (turns : List Turn) → AreTurns schedule count now turns → (border_behind now turns).weave.volume.size ≡ now.weave.volume.size
turns_size schedule count now [] are = refl
turns_size schedule count now (turn ∷ turns) are =
    turns_size schedule (count + 1) turn.behind turns are.1 ∙ elim (cases_Bool now.weave.volume.stopped) [
      | inl halted ↦ ap (λ (volume : VolumeView). volume.size) (are.0.still halted).still.volume
      | inr going ↦ (are.0.going going).steps.frame.size
    ]

-- behind a fence that failed the device is left
halted_device : (schedule : List ℕ) (count : ℕ) (now : Border) (turns : List Turn) → AreTurns schedule count now turns → now.weave.volume.stopped ≡ true → (border_behind now turns).device ≡ now.device
halted_device schedule count now [] are halted = refl
halted_device schedule count now (turn ∷ turns) are halted =
    let stays = are.0.still halted in
    halted_device schedule (count + 1) turn.behind turns are.1 (ap (λ (volume : VolumeView). volume.stopped) stays.still.volume ∙ halted) ∙ stays.device

-- and that fence was the last event
pub turns_halt : (schedule : List ℕ) (count : ℕ) (now : Border) (turns : List Turn) → AreTurns schedule count now turns → now.weave.volume.stopped ≡ false → (border_behind now turns).weave.volume.stopped ≡ true
    → EndsInFault (border_behind now turns).device.trail
turns_halt schedule count now [] are going halted = absurd (cc (going, halted))
turns_halt schedule count now (turn ∷ turns) are going halted = elim (cases_Bool turn.behind.weave.volume.stopped) [
  | inl failed ↦
      subst (λ (device : DeviceView). EndsInFault device.trail) (sym (halted_device schedule (count + 1) turn.behind turns are.1 failed)) ((are.0.going going).steps.failed failed).halts
  | inr on ↦ turns_halt schedule (count + 1) turn.behind turns are.1 on halted
]

-- ---- from the entry on

module _ (P : ℕ) (start : Border) (turns : List Turn) (size : start.weave.volume.size ≡ P) (going : start.weave.volume.stopped ≡ false) (idle : AreIdle start.calls) where
  -- what means the state that the turns begin with
  means_first : (acks : ℕ) (image : List ℕ) → (acks ≡ 0) × MeansState P start.history image → IsLeftBy start turns acks image
  means_first acks image (none, means) =
      subst (λ (k : ℕ). IsLeftBy start turns k image) (sym none)
      (left_first start turns image going (subst (λ (p : ℕ). IsCrashOf p image (ranges_of_all start.calls) start.history) (sym size) (idle_crash start.history start.calls idle means)))

  -- before the turns the state was kept
  pub keeps_before : {before middle ran : DeviceView} → KeepsState P start.history before middle → KeepsSuperblock before.words middle.words → KeepsTurns start turns middle ran → KeepsTurns start turns before ran
  keeps_before keeps same later = record {
    any_moment = leaves_next keeps.no_ack (leaves_weaker means_first keeps.any_moment) later.any_moment;
    acked = λ told is.
        let all = acked_then 0 (acks_of_turns turns) keeps.any_moment.continues later.any_moment.continues (λ t i. keeps.no_ack) later.acked told is in
        omega (arith, all);
    ack_count = let was = keeps.acks in let more = later.ack_count in omega (arith, was, more);
    beside = λ a is other. later.beside a is other ∙ same a is other;
  }

module _ (P : ℕ) (start : Border) (turns : List Turn) (size : (border_behind start turns).weave.volume.size ≡ P) (idle : AreIdle (border_behind start turns).calls) where
  means_last : (acks : ℕ) (image : List ℕ) → (acks ≡ 0) × MeansState P (border_behind start turns).history image → IsLeftBy start turns (acks_of_turns turns + acks) image
  means_last acks image (none, means) =
      let same : acks_of_turns turns ≡ acks_of_turns turns + acks = omega (arith, none) in
      subst (λ (k : ℕ). IsLeftBy start turns k image) same
      (left_last start turns image (subst (λ (p : ℕ). IsCrashOf p image (ranges_of_all (border_behind start turns).calls) (border_behind start turns).history) (sym size)
      (idle_crash (border_behind start turns).history (border_behind start turns).calls idle means)))

  -- behind them it is kept too
  pub keeps_behind : {before ran after : DeviceView} → KeepsTurns start turns before ran → ClosesQuietly P (border_behind start turns).history ran after → KeepsTurns start turns before after
  keeps_behind first closes = record {
    any_moment = leaves_after (acks_of_turns turns) first.acked first.any_moment (leaves_weaker means_last closes.any_moment);
    acked = λ told is.
        let all = acked_then (acks_of_turns turns) 0 first.any_moment.continues closes.any_moment.continues first.acked (λ t i. closes.no_ack) told is in
        omega (arith, all);
    ack_count = let was = first.ack_count in let none = closes.acks in omega (arith, was, none);
    beside = λ a is other. closes.beside a is other ∙ first.beside a is other;
  }
