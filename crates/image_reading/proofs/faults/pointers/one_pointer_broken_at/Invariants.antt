use Rattle.std.proofs.Common.{ℕ, ◌-◌, ◌<◌, ◌≤◌}
use Rattle.layout.specs.Geometry.{slots_of}
use Rattle.image_reading.specs.Soundness.{IsOnlyPointer}
use Rattle.image_reading.proofs.HeldPages.{IsPointerBelow}
use Rattle.image_reading.proofs.faults.pointers.one_pointer_broken_at.Given as goal

abbrev pub invariant-loop-slot : goal.invariant-loop-slot
invariant-loop-slot l = record {
  within : l.slot ≤ slots_of l.image.geometry.pages;
  kept : (x : ℕ) → x < l.slot → IsOnlyPointer l.image.geometry.pages l.image.words.now x;
  pointer : IsPointerBelow l.image.geometry.pages l.image.words.now l.slot l.found;
}

abbrev pub decreases-loop-slot : goal.decreases-loop-slot
decreases-loop-slot l = slots_of l.image.geometry.pages - l.slot
