use Rattle.image_reading.proofs.Linked.{pages_left}
use Rattle.image_reading.proofs.Stamped.{FileWalk}
use Rattle.image_reading.proofs.faults.files.stamp_pages.Given as goal

abbrev pub invariant-loop-link : goal.invariant-loop-link
invariant-loop-link l = FileWalk l.walked.image.geometry.pages l.walked.image.words.now l.inode l.walked.image.geometry.data_pages (λ _. Unit {0}) l.stamps l.link

abbrev pub decreases-loop-link : goal.decreases-loop-link
decreases-loop-link l = pages_left l.walked.image.geometry.data_pages l.link
