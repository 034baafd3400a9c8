use Rattle.std.proofs.Common.{◌≡◌, ◌≢◌, ℕ, ◌<◌, ◌≤◌}
use Rattle.layout.specs.Fields.{slot_inode}
use Rattle.volume.proofs.prepare.removal.emptied_page.Given as goal

abbrev pub invariant-loop-other : goal.invariant-loop-other
invariant-loop-other l = (k : ℕ) → l.first ≤ k → k < l.other → k ≢ l.slot → slot_inode l.geometry.pages l.words k ≡ 0
