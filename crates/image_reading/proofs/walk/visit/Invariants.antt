use Rattle.image_reading.specs.Walk.{IsWalk, Extends, IsPageTaken}
use Rattle.image_reading.proofs.Linked.{PagesDone, pages_left}
use Rattle.image_reading.proofs.walk.visit.Given as goal

abbrev pub invariant-loop-link : goal.invariant-loop-link
invariant-loop-link l = record {
  walk : IsWalk l.image.geometry.pages l.image.words.now l.reach;
  extends : Extends l.initial.reach l.reach;
  pages : PagesDone l.image.geometry.pages l.image.words.now l.inode (IsPageTaken l.image.geometry.pages l.image.words.now l.reach) l.link;
}

abbrev pub decreases-loop-link : goal.decreases-loop-link
decreases-loop-link l = pages_left l.image.geometry.data_pages l.link
