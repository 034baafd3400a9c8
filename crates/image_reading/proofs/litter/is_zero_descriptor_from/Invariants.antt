use Rattle.std.proofs.Common.{◌≡◌, ℕ, ◌<◌, ◌≤◌}
use Rattle.layout.specs.Geometry.{descriptor_word_of}
use Rattle.layout.specs.Fields.{word}
use Rattle.image_reading.proofs.litter.is_zero_descriptor_from.Given as goal

abbrev pub invariant-loop-field : goal.invariant-loop-field
invariant-loop-field l = (f : ℕ) → l.first ≤ f → f < l.field → word l.image.words.now (descriptor_word_of l.image.geometry.pages l.page f) ≡ 0
