-- A call waits still where what others do passes by it, and so where what they have left stands in another order.
use Rattle.std.proofs.Common.{◌≡◌, ℕ, ◌+◌, ◌^◌, ◌<◌, ◌≤◌, ◌==◌, false, nat_le, length, None, refl, sym, subst}
use Rattle.pm_trait.specs.Device.{with_event}
use Rattle.pm_trait.specs.DeviceView.{DeviceView}
use Rattle.pm_trait.specs.declared.event.Event.TheVariants.{Ack}
use Rattle.tree_model.specs.Capacity.{Supply}
use Rattle.tree_model.specs.Run.{State}
use Rattle.tree_model.specs.Step.{need, refusal_with}
use Rattle.naming_laws.specs.Naming.{inode_need}
use Rattle.image_reading.specs.Counts.{IsIn}
use Rattle.image_reading.specs.Residue.{Residue}
use Rattle.image_counts.specs.Laws.{supply_beside}
use Rattle.volume.specs.Volume.{VolumeView}
use Rattle.volume.specs.Beside.{StandsBeside}
use Rattle.weave_laws.specs.Joined.{joined}
use Rattle.waiting_laws.specs.Beside.{Holding, StandsWith, PassesBy}
use Rattle.waiting_laws.proofs.Preparing.{acknowledged}
use Rattle.running_laws.specs.Waits.{left_by, held_by, LeavesAlone, WaitsStill, StillWaitsLaw}
use Rattle.running_laws.specs.Steps.{commits, has_committed}
use Rattle.session_laws.specs.Calls.{Call, events_of_call, IsToCome, CallWaits}
use Rattle.session_laws.proofs.Lists.{HasSameLeft, same_supply}

-- The call waits, and all of it is as it was.
pub record StaysCall (old new : VolumeView) (after : DeviceView) (words : State) (call : Call) (now : Residue) : Type 0 where
  pub call_waits : CallWaits new after words call now
  pub left : left_by new call.running ≡ left_by old call.running
  pub held : held_by new call.running ≡ held_by old call.running
  pub events : events_of_call new call ≡ events_of_call old call

-- What comes between steps changes neither tree nor room.
module _ (still_waits : StillWaitsLaw) (old new : VolumeView) (before after : DeviceView) (words : State) (call : Call) (others now : Residue)
    (call_waits : CallWaits old before words call others)
    (passes : PassesBy old new before after words words (held_by old call.running)) (with : StandsWith new after words (left_by old call.running) now)
    (alone : LeavesAlone new.size after.words (held_by old call.running) now) (supply : supply_beside new.size now ≡ supply_beside old.size others) where
  still : WaitsStill old new after words call.command call.running now
  still = still_waits old new before after words words call.command call.running others now call_waits.waits passes with alone

  to_come : has_committed call.running ≡ false → IsToCome new.size words call (left_by new call.running) now
  to_come not_yet =
      let asked = call_waits.to_come not_yet in
      record {
        named = asked.named;
        accepted = subst (λ (free : Supply). refusal_with free words.tree words.room call.command ≡ None) (sym supply) asked.accepted;
        inodes = subst (λ (own : Residue). inode_need call.command ≤ length own.inodes) (sym still.left) asked.inodes;
        pages = subst (λ (own : Residue). need words.tree words.room call.command ≤ length own.pages) (sym still.left) asked.pages;
      }

  pub stays_call : StaysCall old new after words call now
  stays_call = record {
    call_waits = record {
      waits = still.waits;
      holds = λ i among. call_waits.holds i (subst (λ (held : Holding). IsIn i held.inodes) still.held among);
      to_come = to_come;
      behind = record {
        commit = subst (λ (n : ℕ). commits call.running ≡ (n == call.behind + 1)) (sym still.fences) call_waits.behind.commit;
        committed = subst (λ (n : ℕ). has_committed call.running ≡ nat_le n call.behind) (sym still.fences) call_waits.behind.committed;
      };
      few = subst (λ (n : ℕ). n < 2 ^ 41) (sym still.events) call_waits.few;
    };
    left = still.left;
    held = still.held;
    events = still.events;
  }

-- ---- where nothing is done

-- (an acknowledgement leaves what a volume knows, and the words)
pub passes_itself : (volume : VolumeView) (device : DeviceView) (words : State) (residue : Residue) (held : Holding) → StandsBeside volume device words residue
    → PassesBy volume volume device device words words held
passes_itself volume device words residue held stands =
    let after : DeviceView = record device { trail = with_event device.trail Ack; acks = device.acks + 1 } in
    let passes = (acknowledged volume device after words residue held stands
    (record { words = refl; trail = refl; room = refl; faults = refl; refused = refl; fences = refl; acks = refl })).1 in
    record { size = passes.size; words = passes.words; nodes = passes.nodes; index = passes.index; lists = passes.lists }

-- what others have left may stand in another order
pub reordered : StillWaitsLaw → (volume : VolumeView) (device : DeviceView) (words : State) (call : Call) (others now : Residue) → CallWaits volume device words call others
    → StandsWith volume device words (left_by volume call.running) now → LeavesAlone volume.size device.words (held_by volume call.running) now → HasSameLeft now others
    → CallWaits volume device words call now
reordered still_waits volume device words call others now call_waits with alone same =
    (stays_call still_waits volume volume device device words call others now call_waits
    (passes_itself volume device words (joined (left_by volume call.running) now) (held_by volume call.running) with.stands) with alone
    (same_supply volume.size now others same)).call_waits
