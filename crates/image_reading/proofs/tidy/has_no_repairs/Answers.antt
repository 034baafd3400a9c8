use Rattle.std.proofs.lemmas.Bool.{false≢true, iff_false}
use Rattle.image_reading.proofs.Tidying.{no_pointer, some_pointer, tidy_whole, tidy_inodes, tidy_pages}
use Rattle.image_reading.proofs.tidy.has_no_repairs.Goals as goal

pub returns-then-scanned-ne0 : goal.returns-then-scanned-ne0
returns-then-scanned-ne0 c = (
  (λ t. absurd (false≢true t)),
  (λ tidy. absurd (some_pointer _ _ _ _ c.requires.known.pointer c.if-scanned-ne0.true tidy)),
)

pub returns-then-not-has_tidy_inodes : goal.returns-then-not-has_tidy_inodes
returns-then-not-has_tidy_inodes c = (
  (λ t. absurd (false≢true t)),
  (λ tidy. absurd (iff_false c.has_tidy_inodes.ensures c.if-not-has_tidy_inodes.true (tidy_inodes _ _ tidy))),
)

pub returns : goal.returns
returns c = (
  (λ t. tidy_whole _ _ c.requires.coherent (no_pointer _ _ _ _ c.requires.known.pointer c.if-scanned-ne0.false) (c.has_tidy_inodes.ensures.0 c.if-not-has_tidy_inodes.false) (c.has_tidy_pages.ensures.0 t)),
  (λ tidy. c.has_tidy_pages.ensures.1 (tidy_pages _ _ tidy)),
)
