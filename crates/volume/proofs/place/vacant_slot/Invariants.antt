use Rattle.std.proofs.Common.{◌≢◌, ℕ, ◌<◌, ◌≤◌}
use Rattle.layout.specs.Fields.{slot_inode}
use Rattle.volume.proofs.place.vacant_slot.Given as goal

abbrev pub invariant-loop-slot : goal.invariant-loop-slot
invariant-loop-slot l = (other : ℕ) → l.first ≤ other → other < l.slot → slot_inode l.geometry.pages l.words other ≢ 0
