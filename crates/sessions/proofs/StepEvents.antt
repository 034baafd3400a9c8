-- The events of a step: an interval with its fence, or none, and at the end of its call an acknowledgement; and the words of the superblock.
use Rattle.std.proofs.Common.{◌≡◌, ℕ, false, List, Result, Ok, refl, ap, ◌∙◌, arith}
use Rattle.std.specs.Prelude.{slice_index}
use Rattle.pm_trait.specs.DeviceView.{DeviceView}
use Rattle.pm_trait.specs.Unfolds.{Step, Takes, KeepsWords}
use Rattle.layout.specs.Superblock.{IsSuperblockWord}
use Rattle.volume.specs.Prepared.{IsSameButRoom}
use Rattle.volume.specs.Volume.{VolumeView}
use Rattle.running_calls.specs.Stages.{step_of}
use Rattle.running_calls.specs.declared.running.Running.{Running}
use Rattle.running_laws.proofs.Superblock.{superblock_law}
use Rattle.sessions.specs.Steps.{ReservesAndFences, IsAckedAtEnd, HasEvents}
use Rattle.sessions.specs.declared.entry.StepReply.{StepReply}

-- ---- space for events

pub same_room : (device : DeviceView) → IsSameButRoom device device
same_room device = record { words = refl; trail = refl; room = omega arith; faults = refl; refused = omega arith; fences = refl; acks = refl }

pub room_then : (before between last : DeviceView) → IsSameButRoom before between → IsSameButRoom between last → IsSameButRoom before last
room_then before between last first more = record {
  words = more.words ∙ first.words;
  trail = more.trail ∙ first.trail;
  room = (let one = first.room in let other = more.room in omega (arith, one, other));
  faults = more.faults ∙ first.faults;
  refused = (let one = first.refused in let other = more.refused in omega (arith, one, other));
  fences = more.fences ∙ first.fences;
  acks = more.acks ∙ first.acks;
}

-- ---- events

-- of a step of a call
pub interval_made : {T E : Type 0} (step : Step) (before after : DeviceView) (result : Result T E) → Takes step before after result → ReservesAndFences before after result
interval_made step before after result takes = record { reserved = before; room = same_room before; has_store = step.stores; most = step.events; fenced = takes.fenced }

pub events_made : (step : Step) (before fenced after : DeviceView) (reply : StepReply) → Takes {T = Unit {0}} {E = Unit {0}} step before fenced (Ok tt) → IsAckedAtEnd reply fenced after
    → HasEvents before after reply
events_made step before fenced after reply takes acked = record { fenced = fenced; interval = interval_made step before fenced (Ok tt) takes; acked = acked }

-- of a call that is answered at once
pub no_interval : (before between : DeviceView) → IsSameButRoom before between → ReservesAndFences {T = Unit {0}} {E = Unit {0}} before between (Ok tt)
no_interval before between room = record { reserved = between; room = room; has_store = false; most = 0; fenced = (refl, refl) }

-- from before the space was taken
pub interval_back : {T E : Type 0} (before between after : DeviceView) (result : Result T E) → IsSameButRoom before between → ReservesAndFences between after result → ReservesAndFences before after result
interval_back before between after result room made = record {
  reserved = made.reserved;
  room = room_then before between made.reserved room made.room;
  has_store = made.has_store;
  most = made.most;
  fenced = made.fenced;
}

pub events_back : (before between after : DeviceView) (reply : StepReply) → IsSameButRoom before between → HasEvents between after reply → HasEvents before after reply
events_back before between after reply room events = record {
  fenced = events.fenced;
  interval = interval_back before between events.fenced (Ok tt) room events.interval;
  acked = events.acked;
}

-- ---- the superblock

pub beside_made : (volume : VolumeView) (bytes : List ℕ) (running : Running) (before fenced after : DeviceView) → (step_of volume bytes running).Makes before.words fenced.words
    → after.words ≡ fenced.words → KeepsWords IsSuperblockWord before.words after.words
beside_made volume bytes running before fenced after makes same =
    λ a is. ap (λ (words : List ℕ). slice_index words a) same ∙ superblock_law volume bytes before.words fenced.words running makes a is

pub beside_same : (before after : DeviceView) → after.words ≡ before.words → KeepsWords IsSuperblockWord before.words after.words
beside_same before after same = λ a is. ap (λ (words : List ℕ). slice_index words a) same
