use Rattle.std.proofs.Common.{◌≡◌, ℕ, ◌<◌, get_or}
use Rattle.image_reading.proofs.faults.heads.head_broken_at.Given as goal

abbrev pub invariant-loop-k : goal.invariant-loop-k
invariant-loop-k l = (x : ℕ) → x < l.k → get_or l.image.words.now x 0 ≡ get_or l.head x 0
