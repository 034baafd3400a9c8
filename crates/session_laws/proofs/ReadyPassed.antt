-- What comes between steps, as the preparing of a command and an acknowledgement, passes by all the calls that wait.
use Rattle.std.proofs.Common.{◌≡◌, ℕ, List, [], Some, refl, sym, ap, subst, ◌∙◌}
use Rattle.pm_trait.specs.DeviceView.{DeviceView}
use Rattle.tree_model.specs.Run.{State}
use Rattle.image_reading.specs.Counts.{IsIn}
use Rattle.image_reading.specs.Residue.{Residue, no_residue}
use Rattle.image_counts.specs.Laws.{supply_beside}
use Rattle.volume.specs.Volume.{VolumeView}
use Rattle.volume.specs.Beside.{StandsBeside}
use Rattle.waiting_laws.specs.Beside.{Holding, StandsWith, PassesBy}
use Rattle.waiting_laws.proofs.Preparing.{prepared_passes, acknowledged}
use Rattle.running_laws.specs.Waits.{left_by, held_by, LeavesAlone, StillWaitsLaw, HoldsLaw}
use Rattle.session_laws.specs.Calls.{Call, Calls, call_at, without, left_of_all, AreApartCalls, CallWaits, CallsWait}
use Rattle.session_laws.specs.Going.{ArePrepared, PreparedLaw, AcknowledgedAmongLaw}
use Rattle.session_laws.proofs.Lists.{call_kept, left_stays, events_stay, left_moved}
use Rattle.session_laws.proofs.OrderAlone.{all_hold, others_alone, stands_same}
use Rattle.session_laws.proofs.OrderStill.{StaysCall, stays_call}

-- The words stay, and so do what each call knows and whether the volume goes on without a mark.
pub record PassesByAll (old new : VolumeView) (before after : DeviceView) (words : State) : Type 0 where
  pub passes : (held : Holding) → PassesBy old new before after words words held
  pub stopped : new.stopped ≡ old.stopped
  pub marked : new.marked ≡ old.marked
  pub image : after.words ≡ before.words

module _ (still_waits : StillWaitsLaw) (holds : HoldsLaw) where
  module _ (old new : VolumeView) (before after : DeviceView) (words : State) (calls : Calls) (wait : CallsWait old before words no_residue calls)
      (all : PassesByAll old new before after words)
      (stands : StandsBeside new after words (left_of_all old calls)) where
    beside : StandsWith new after words no_residue (left_of_all old calls)
    beside = record { stands = stands; going = all.stopped ∙ wait.beside.going; unmarked = all.marked ∙ wait.beside.unmarked; no_pointer = wait.beside.no_pointer }

    same_size : new.size ≡ old.size
    same_size = (all.passes (record { slots = []; pages = []; inodes = [] })).size

    alone : (s : ℕ) (call : Call) → call_at calls s ≡ Some call → LeavesAlone new.size after.words (held_by old call.running) (left_of_all old (without calls s))
    alone s call runs =
        subst (λ (I : List ℕ). LeavesAlone new.size I (held_by old call.running) (left_of_all old (without calls s))) (sym all.image)
        (subst (λ (P : ℕ). LeavesAlone P before.words (held_by old call.running) (left_of_all old (without calls s))) (sym same_size)
        (others_alone old before.words calls (all_hold holds old before words no_residue calls wait) wait.apart s call runs))

    stays : (s : ℕ) (call : Call) → call_at calls s ≡ Some call → StaysCall old new after words call (left_of_all old (without calls s))
    stays s call runs =
        let others = left_of_all old (without calls s) in
        stays_call still_waits old new before after words call others others (wait.each s call runs) (all.passes (held_by old call.running))
        (stands_same new after words no_residue (left_of_all old calls) (left_by old call.running) others (left_moved old calls s call runs) beside)
        (alone s call runs) (ap (λ (P : ℕ). supply_beside P others) same_size)

    each : (s : ℕ) (call : Call) → call_at calls s ≡ Some call → CallWaits new after words call (left_of_all new (without calls s))
    each s call runs =
        let same = left_stays old new (without calls s) (λ r other there. (stays r other (call_kept calls s r other there).1).left) in
        subst (CallWaits new after words call) (sym same) (stays s call runs).call_waits

    apart : (s r : ℕ) (call other : Call) → (s ≡ r → ⊥) → call_at calls s ≡ Some call → call_at calls r ≡ Some other → AreApartCalls new call other
    apart s r call other different runs there =
        let was = wait.apart s r call other different runs there in
        record {
          named = was.named;
          held = λ i one two.
              was.held i (subst (λ (held : Holding). IsIn i held.inodes) (stays s call runs).held one)
              (subst (λ (held : Holding). IsIn i held.inodes) (stays r other there).held two);
        }

    pub passed : ArePrepared old new after words calls
    passed = record {
      calls_wait = record {
        beside = subst (λ (left : Residue). StandsWith new after words no_residue left) (sym (left_stays old new calls (λ s call runs. (stays s call runs).left))) beside;
        each = each;
        apart = apart;
      };
      events = events_stay old new calls (λ s call runs. (stays s call runs).events);
    }

  pub prepared_law : PreparedLaw
  prepared_law old new before after words calls command result wait prepares stands = passed old new before after words calls wait (record {
    passes = λ held. prepared_passes old new before after words command result held prepares;
    stopped = prepares.view.same_state;
    marked = prepares.view.same_mark;
    image = prepares.device.words;
  }) stands

  pub acknowledged_among_law : AcknowledgedAmongLaw
  acknowledged_among_law volume before after words calls wait acks =
      let left = left_of_all volume calls in
      (passed volume volume before after words calls wait (record {
        passes = λ held. (acknowledged volume before after words left held wait.beside.stands acks).1;
        stopped = refl;
        marked = refl;
        image = acks.words;
      }) (acknowledged volume before after words left (record { slots = []; pages = []; inodes = [] }) wait.beside.stands acks).0).calls_wait
