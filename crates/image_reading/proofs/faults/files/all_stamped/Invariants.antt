use Rattle.std.proofs.Common.{◌≡◌, ℕ, ◌<◌, get_or}
use Rattle.image_reading.proofs.faults.files.all_stamped.Given as goal

abbrev pub invariant-loop-k : goal.invariant-loop-k
invariant-loop-k l = (x : ℕ) → x < l.k → get_or l.stamps x 0 ≡ l.inode
