use Rattle.std.proofs.Common.{ℕ, ◌<◌}
use Rattle.image_reading.specs.Litter.{IsTidyPage}
use Rattle.image_reading.proofs.tidy.has_tidy_pages.Given as goal

abbrev pub invariant-loop-page : goal.invariant-loop-page
invariant-loop-page l = (j : ℕ) → j < l.page → IsTidyPage l.scanned.image.geometry.pages l.scanned.image.words.now j
