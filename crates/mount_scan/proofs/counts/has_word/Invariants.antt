use Rattle.std.proofs.Common.{◌≡◌, ℕ, ◌<◌}
use Rattle.layout.specs.Geometry.{slot_word_of}
use Rattle.layout.specs.Fields.{word}
use Rattle.mount_scan.proofs.counts.has_word.Given as goal

abbrev pub invariant-loop-field : goal.invariant-loop-field
invariant-loop-field l = (f : ℕ) → f < l.field → word l.scanned.image.words.now (slot_word_of l.scanned.image.geometry.pages l.slot f) ≡ 0
