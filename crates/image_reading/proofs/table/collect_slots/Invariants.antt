use Rattle.std.proofs.Common.{◌≡◌, ◌-◌, ◌≤◌, vec_len, vec_capacity}
use Rattle.layout.specs.Geometry.{slots_of}
use Rattle.image_reading.proofs.ReachedTable.{AreReachedBelow}
use Rattle.image_reading.proofs.table.collect_slots.Given as goal

abbrev pub invariant-loop-slot : goal.invariant-loop-slot
invariant-loop-slot l = record {
  within : l.slot ≤ slots_of l.walked.image.geometry.pages;
  table : AreReachedBelow l.walked.image.geometry.pages l.walked.image.words.now l.slot l.slots.items;
  len : vec_len l.slots ≤ l.slot;
  capacity : vec_capacity l.slots ≡ vec_capacity l.fn.slots;
}

abbrev pub decreases-loop-slot : goal.decreases-loop-slot
decreases-loop-slot l = slots_of l.walked.image.geometry.pages - l.slot
