-- A step of a command from behind its preparing, which takes places and room alone, is one from before it.
use Rattle.std.proofs.Common.{None, Some, sym, ◌≡◌, ◌≢◌, ℕ, ◌+◌, ◌≤◌, Bool, true, false, not, ◌&&◌, length, List, Option, Err, ap, subst, ◌∙◌}
use Rattle.pm_trait.specs.Device.{LeavesOnly, AcksSettled, HasRisen, acks_from, moment_of}
use Rattle.pm_trait.specs.DeviceView.{DeviceView}
use Rattle.pm_trait.specs.Trail.{Trail}
use Rattle.tree_model.specs.Run.{State, Line}
use Rattle.pm_trait.specs.Unfolds.{KeepsWords}
use Rattle.layout.specs.Superblock.{IsSuperblockWord}
use Rattle.image_reading.specs.Residue.{Residue}
use Rattle.image_counts.specs.Laws.{supply_beside}
use Rattle.volume.specs.Volume.{VolumeView}
use Rattle.volume.specs.Prepared.{IsSameButRoom}
use Rattle.session_laws.specs.Calls.{Call, Calls, call_at, without, left_of_all, ranges_of_all, fences_of_call}
use Rattle.session_laws.specs.Histories.{IsCrashOf}
use Rattle.session_laws.proofs.Lists.{without_idle}
use Rattle.engine.proofs.After.{Acked}
use Rattle.sessions.specs.History.{IsLegal}
use Rattle.sessions.specs.Interleave.{InterleaveView}
use Rattle.sessions.specs.Steps.{IsFencedChange, Enters, HasFenced, TakesAll, HasReason, StepsOn, StepFails, MayBeLeft, IsBeforeOrBehind, IsBeforeOrEntered, Steps, acks_of, is_entered_before, is_entered_behind, GetsOn, IsQuietWhere}
use Rattle.sessions.specs.declared.entry.StepReply.{StepReply}
use Rattle.sessions.specs.declared.entry.StepReply.TheVariants.{Running as RunsOn, Ended}
use Rattle.sessions.proofs.FencesTakes.{takes_back}
use Rattle.sessions.proofs.ReplyReasons.{reason_back}
use Rattle.sessions.proofs.StepEvents.{room_then, interval_back, events_back}

module _ (old new : InterleaveView) (volume : VolumeView) (before between after : DeviceView) (calls : Calls) (history : State) (session : ℕ) (line : Line) (reply : StepReply)
    (idle : call_at calls session ≡ None) (size : volume.size ≡ old.volume.size) (marked : volume.marked ≡ old.volume.marked) (left : left_of_all volume (without calls session) ≡ left_of_all old.volume (without calls session))
    (room : IsSameButRoom before between)
    (fences : (s : ℕ) (other : Call) → s ≢ session → call_at calls s ≡ Some other → fences_of_call volume other ≡ fences_of_call old.volume other) where
  abbrev behind : InterleaveView
  behind = record old { volume = volume }

  enters_back : (enters : Bool) (later : State) → Enters enters behind new calls session line history later reply → Enters enters old new calls session line history later reply
  enters_back true later entered = record {
    entry = entered.entry;
    added = entered.added;
    session_is = entered.session_is;
    number_is = entered.number_is;
    held = record {
      inodes = entered.held.inodes ∙ ap (λ (left : Residue). length left.inodes) left;
      pages = entered.held.pages ∙ ap (λ (left : Residue). length left.pages) left;
    };
    legal = subst (λ (P : ℕ). IsLegal P entered.entry line history later) size entered.legal;
    given = λ ran runs. absurd (let clash : ◌≡◌ {A = Option Call} None (Some ran) = sym idle ∙ runs in cc);
    told = entered.told;
  }
  enters_back false later none = record { told = none.told; same = none.same; history_same = none.history_same }

  all_left : left_of_all volume calls ≡ left_of_all old.volume calls
  all_left = subst (λ (calls : Calls). left_of_all volume calls ≡ left_of_all old.volume calls) (without_idle calls session idle) left

  fenced_back : (ran : Option Call) → HasFenced between after reply ran → HasFenced before after reply ran
  fenced_back ran fenced = record {
    most = subst (λ (n : ℕ). after.fences ≤ n + 1) room.fences fenced.most;
    goes_on = λ call runs. fenced.goes_on call runs ∙ ap (λ (n : ℕ). n + 1) room.fences;
    left = λ number is. fenced.left number is ∙ ap (λ (n : ℕ). n + 1) room.fences;
  }

  quiet_back : (reply : StepReply) (ran : Option Call) → IsQuietWhere reply ran line between after → IsQuietWhere reply ran line before after
  quiet_back (RunsOn number) ran quiet = tt
  quiet_back (Ended number answer) (Some call) quiet = tt
  quiet_back (Ended number answer) None quiet = λ none. let was = quiet none in record { between = was.between; room = room_then before between was.between room was.room; acked = was.acked }

  on_back : StepsOn behind new between after calls history session line reply → StepsOn old new before after calls history session line reply
  on_back on = record {
    later_calls = on.later_calls;
    later = on.later;
    weaving = on.weaving;
    others = on.others;
    others_left = λ s other differ runs. on.others_left s other differ runs ∙ fences s other differ runs;
    begun = on.begun;
    left = on.left;
    enters = enters_back (not (is_entered_before (call_at calls session)) && is_entered_behind (call_at on.later_calls session)) on.later on.enters;
    call_is = on.call_is;
    gets_on = subst (λ (ran : Option Call). GetsOn old.volume new.volume ran (call_at on.later_calls session)) (sym idle) tt;
    takes_all = subst
        (λ (ran : Option Call). TakesAll old.volume.size (left_of_all old.volume calls) new.volume before after ran (call_at on.later_calls session) history line on.later reply)
        (sym idle)
        (takes_back volume.size old.volume.size (left_of_all volume calls) (left_of_all old.volume calls) new.volume before between after (call_at on.later_calls session)
        history line on.later reply size all_left room.fences
        (subst (λ (ran : Option Call). TakesAll volume.size (left_of_all volume calls) new.volume between after ran (call_at on.later_calls session) history line on.later reply)
        idle on.takes_all));
    busy = on.busy;
    reason = subst (λ (ran : Option Call). HasReason before after ran history line reply) (sym idle)
        (reason_back before between after history line reply room.refused
        (subst (λ (ran : Option Call). HasReason between after ran history line reply) idle on.reason));
    bytes = on.bytes;
    quiet = quiet_back reply (call_at calls session) on.quiet;
    events = events_back before between after reply room on.events;
    fences = fenced_back (call_at calls session) on.fences;
    acks = on.acks ∙ ap (λ (n : ℕ). n + acks_of reply) room.acks;
    acked = subst (λ (trail : Option Trail). Acked trail after.trail (acks_of reply)) room.trail on.acked;
    settled =
        subst (λ (trail : Option Trail). AcksSettled trail after.trail (λ acks words. IsCrashOf old.volume.size words (ranges_of_all on.later_calls) on.later)) room.trail
        (subst (λ (P : ℕ). AcksSettled between.trail after.trail (λ acks words. IsCrashOf P words (ranges_of_all on.later_calls) on.later)) size on.settled);
    faults = on.faults ∙ room.faults;
    any_moment =
        subst (λ (trail : Option Trail). LeavesOnly trail after.trail (λ acks image. MayBeLeft old.volume.size calls history line (IsBeforeOrBehind history on.later acks) image)) room.trail
        (subst (λ (P : ℕ). LeavesOnly between.trail after.trail (λ acks image. MayBeLeft P calls history line (IsBeforeOrBehind history on.later acks) image)) size on.any_moment);
  }

  abbrev LeftFailed : Option Trail → ℕ → Type 0
  LeftFailed trail P = LeavesOnly trail after.trail (λ acks image. MayBeLeft P calls history line (IsBeforeOrEntered P (call_at calls session) history line) image)

  fails_back : StepFails behind new between after calls history session line reply → StepFails old new before after calls history session line reply
  fails_back fails = record {
    told = fails.told;
    cause = subst (λ (n : ℕ). HasRisen n after.faults) room.faults fails.cause;
    busy = fails.busy;
    began = λ none.
        subst (λ (residue : Residue). IsFencedChange (supply_beside old.volume.size residue) history line) all_left
        (subst (λ (P : ℕ). IsFencedChange (supply_beside P (left_of_all volume calls)) history line) size (fails.began none));
    entries = fails.entries;
    tasks = fails.tasks;
    begun = fails.begun;
    bytes = fails.bytes;
    events = interval_back before between after (Err tt) room fails.events;
    fences = fails.fences ∙ room.fences;
    no_ack = fails.no_ack ∙ room.acks;
    none_acked = subst (λ (trail : Option Trail). acks_from trail after.trail (moment_of after.trail) ≡ 0) room.trail fails.none_acked;
    any_moment = subst (λ (trail : Option Trail). LeftFailed trail old.volume.size) room.trail (subst (LeftFailed between.trail) size fails.any_moment);
    halts = fails.halts;
  }

  pub steps_back : Steps behind new between after calls history session line reply → Steps old new before after calls history session line reply
  steps_back steps = record {
    frame = record { size = steps.frame.size ∙ size; marked = steps.frame.marked ∙ marked; sessions = steps.frame.sessions };
    beside = subst (λ (words : List ℕ). KeepsWords IsSuperblockWord words after.words) room.words steps.beside;
    going = λ goes. on_back (steps.going goes);
    failed = λ stopped. fails_back (steps.failed stopped);
  }
