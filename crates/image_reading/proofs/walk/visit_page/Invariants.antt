use Rattle.std.proofs.Common.{ℕ, ◌+◌, ◌*◌, ◌<◌}
use Rattle.image_reading.specs.Walk.{IsWalk, Extends, IsTaken}
use Rattle.image_reading.proofs.walk.visit_page.Given as goal

abbrev pub invariant-loop-entry : goal.invariant-loop-entry
invariant-loop-entry l = record {
  walk : IsWalk l.image.geometry.pages l.image.words.now l.reach;
  extends : Extends l.initial.reach l.reach;
  taken : (k : ℕ) → k < l.entry → IsTaken l.image.geometry.pages l.image.words.now l.reach (32 * l.page + k);
}
