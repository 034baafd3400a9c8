use Rattle.std.proofs.Common.{ℕ, ◌<◌}
use Rattle.image_reading.specs.Soundness.{HasOwnersKind}
use Rattle.image_reading.proofs.faults.inodes.page_kinds_broken_at.Given as goal

abbrev pub invariant-loop-page : goal.invariant-loop-page
invariant-loop-page l = (x : ℕ) → x < l.page → HasOwnersKind l.walked.image.geometry.pages l.walked.image.words.now x
