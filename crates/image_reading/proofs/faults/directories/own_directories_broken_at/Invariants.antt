use Rattle.std.proofs.Common.{ℕ, ◌<◌, get_or}
use Rattle.image_reading.specs.Soundness.{HasOwnDirectory}
use Rattle.image_reading.proofs.Named.{AreNamed}
use Rattle.image_reading.proofs.faults.directories.own_directories_broken_at.Given as goal

abbrev pub invariant-loop-k : goal.invariant-loop-k
invariant-loop-k l = record {
  kept : (j : ℕ) → j < l.k → HasOwnDirectory l.walked.image.geometry.pages l.walked.image.words.now (get_or l.slots j 0);
  marks : AreNamed l.walked.image.geometry.pages l.walked.image.words.now l.slots l.k l.named;
}
