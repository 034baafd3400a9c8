use Rattle.std.proofs.Common.{◌≡◌, ◌⊎◌, ◌≤◌, ◌-◌}
use Rattle.pm_file.specs.Placed.{TakesZeros}
use Rattle.pm_file.proofs.lock.Locked.put_zeros.Given as goal

abbrev pub invariant-loop-place : goal.invariant-loop-place
invariant-loop-place g l = record {
  past : l.from ≤ l.place;
  ended : (l.place ≤ l.to) ⊎ (l.place ≡ l.from);
  lock : g.F.ImageFile.is_locked l.self.file ≡ g.F.ImageFile.is_locked l.fn.self.file;
  zeros : TakesZeros (g.F.ImageFile.bytes l.fn.self.file) (g.F.ImageFile.bytes l.self.file) l.from l.place;
}

abbrev pub decreases-loop-place : goal.decreases-loop-place
decreases-loop-place g l = l.to - l.place
