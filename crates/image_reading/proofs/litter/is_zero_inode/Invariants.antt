use Rattle.std.proofs.Common.{◌≡◌, ℕ, ◌<◌}
use Rattle.layout.specs.Geometry.{inode_word_of}
use Rattle.layout.specs.Fields.{word}
use Rattle.image_reading.proofs.litter.is_zero_inode.Given as goal

abbrev pub invariant-loop-field : goal.invariant-loop-field
invariant-loop-field l = (f : ℕ) → f < l.field → word l.image.words.now (inode_word_of l.inode f) ≡ 0
