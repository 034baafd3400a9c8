use Rattle.image_reading.proofs.Credits.{AreTallied}
use Rattle.image_reading.proofs.faults.links.count_links.Given as goal

abbrev pub invariant-loop-k : goal.invariant-loop-k
invariant-loop-k l = AreTallied l.walked.image.geometry.pages l.walked.image.words.now l.names l.k l.tally
