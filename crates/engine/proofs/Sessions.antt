-- A line on a session: executed and acknowledged, or failed.
use Rattle.std.proofs.Common.{◌≡◌, inl, inr, ℕ, ◌+◌, Option, ap, true, false, refl, sym, subst, ◌∙◌, arith}
use Rattle.std.specs.Prelude.{Ok, Err}
use Rattle.pm_trait.specs.declared.event.Event.TheVariants.{Ack}
use Rattle.pm_trait.specs.declared.event.PmFault.{PmFault}
use Rattle.pm_trait.specs.Trail.{Trail}
use Rattle.pm_trait.specs.Device.{with_event}
use Rattle.pm_trait.specs.DeviceView.{DeviceView, Acknowledges}
use Rattle.pm_trait.proofs.DeviceLaws.{stays_then}
use Rattle.tree_model.specs.Run.{Line, State}
use Rattle.tree_model.specs.declared.reply.Reply.{Reply}
use Rattle.volume.specs.Stands.{IsStanding}
use Rattle.engine.specs.Session.{SessionView, Mounted, on}
use Rattle.engine.specs.Exec.{Does, LeavesVolume, KeepsBytes, ExecutesLine, LeavesSession}
use Rattle.engine.specs.Turns.{MovesOn}
use Rattle.engine.proofs.Acknowledged.{acknowledged}
use Rattle.engine.proofs.Causes.{GoesOn}
use Rattle.engine.proofs.Faults.{apart, cases_of}
use Rattle.engine.proofs.Stays.{stays_ack}

module _ {old new : SessionView} {before between after : DeviceView} {state : State} {line : Line} where
  pub executes_ok : (reply : Reply) → LeavesVolume old.volume new.volume before between (Ok reply) → Acknowledges between after
      → Does old new before between state line (Ok reply) → ExecutesLine old new before after state line reply
  executes_ok reply leaves acks does = record {
    answered = λ is. acknowledged before between after leaves.size does.executed acks;
    failed = λ is. absurd (apart is leaves.going);
    stays = stays_then does.stays (stays_ack _ does.executed.stands.settled acks.trail);
  }

module _ {old new : SessionView} {before after : DeviceView} {state : State} {line : Line} where
  -- a fence failed
  pub executes_err : {fault : PmFault} (reply : Reply) → LeavesVolume old.volume new.volume before after (Err fault) → Does old new before after state line (Err fault) → ExecutesLine old new before after state line reply
  executes_err reply leaves does = record {
    answered = λ is. absurd (apart leaves.stopped is);
    failed = λ is. does.failed;
    stays = does.stays;
  }

-- ---- what a line leaves of a session and its device

pub leaves_ok : (old new : SessionView) (before between after : DeviceView) (reply : Reply) → KeepsBytes old.bytes new.bytes (Ok reply) → GoesOn reply
    → LeavesVolume old.volume new.volume before between (Ok reply) → Acknowledges between after → LeavesSession old new before after reply
leaves_ok old new before between after reply bytes goes leaves acks = record {
  answered = λ is. record {
    no_fault_told = goes.0;
    not_stopped_told = goes.1;
    quiet = λ not.
        let left = leaves.quiet not in
        record { words = acks.words ∙ left.words; trail = acks.trail ∙ ap (λ (t : Option Trail). with_event t Ack) left.trail; kept = left.kept };
    same = λ not not_memory.
        let left = leaves.same not not_memory in (left.0, acks.room ∙ left.1);
    no_fault = acks.faults ∙ leaves.no_fault;
    one_ack = acks.acks ∙ ap (λ (n : ℕ). n + 1) leaves.acks;
  };
  failed = λ is. absurd (apart is leaves.going);
  size = leaves.size;
  bytes = bytes;
  faults = let one = leaves.faults in let two = acks.faults in omega (arith, one, two);
  refused = let one = leaves.refused in let two = acks.refused in omega (arith, one, two);
  not_refused = λ not. acks.refused ∙ leaves.not_refused not;
  fences = let one = leaves.fences in let two = acks.fences in omega (arith, one, two);
}

still_moves : (now : Mounted) → now.volume.stopped ≡ true → MovesOn now now
still_moves now was = record {
  stands = λ is. absurd (cc (is, was));
  size = refl;
  stays = λ is. is;
  cause = λ is. inl was;
  no_fault = λ is. refl;
  faults = omega arith;
  refused = omega arith;
  fences = omega arith;
  acks = omega arith;
}

pub moves_on : (old new : SessionView) (before after : DeviceView) (reply : Reply) → (old.volume.stopped ≡ true → (new ≡ old) × (after ≡ before))
    → (old.volume.stopped ≡ false → LeavesSession old new before after reply) → (new.volume.stopped ≡ false → IsStanding new.volume after)
    → MovesOn (on old before) (on new after)
moves_on old new before after reply still leaves stands = elim (cases_of old.volume.stopped) [
  | inl was ↦
      let same = still was in
      subst (λ (session : SessionView). MovesOn (on old before) (on session after)) (sym same.0)
      (subst (λ (device : DeviceView). MovesOn (on old before) (on old device)) (sym same.1) (still_moves (on old before) was))
  | inr was ↦
      let left = leaves was in
      record {
        stands = stands;
        size = left.size;
        stays = λ is. absurd (cc (is, was));
        cause = λ is. inr (left.failed is).cause;
        no_fault = λ is. (left.answered is).no_fault;
        faults = left.faults;
        refused = left.refused;
        fences = left.fences;
        acks = elim (cases_of new.volume.stopped) [
          | inl is ↦ let none = (left.failed is).no_ack in omega (arith, none)
          | inr is ↦ let one = (left.answered is).one_ack in omega (arith, one)
        ];
      }
]
