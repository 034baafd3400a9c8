use Rattle.std.proofs.Common.{ℕ, ◌<◌, get_or}
use Rattle.image_reading.specs.Soundness.{HasName}
use Rattle.image_reading.proofs.faults.entries.names_broken_at.Given as goal

abbrev pub invariant-loop-k : goal.invariant-loop-k
invariant-loop-k l = (j : ℕ) → j < l.k → HasName l.image.geometry.pages l.image.words.now (get_or l.slots j 0)
