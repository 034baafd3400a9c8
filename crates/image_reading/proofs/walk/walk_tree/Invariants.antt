use Rattle.std.proofs.Common.{ℕ, ◌⊎◌, ◌-◌, ◌≤◌, vec_len}
use Rattle.image_reading.specs.Walk.{IsWalk, IsFound, IsQueued, IsClosed}
use Rattle.image_reading.proofs.walk.walk_tree.Given as goal

abbrev pub invariant-loop-place : goal.invariant-loop-place
invariant-loop-place l = record {
  walk : IsWalk l.image.geometry.pages l.image.words.now l.reach;
  root : IsFound l.reach 1;
  before : l.place ≤ l.reach.seen;
  done : (i : ℕ) → IsFound l.reach i → IsClosed l.image.geometry.pages l.image.words.now l.reach i ⊎ IsQueued l.reach l.place i;
}

abbrev pub decreases-loop-place : goal.decreases-loop-place
decreases-loop-place l = vec_len l.reach.order - l.place
