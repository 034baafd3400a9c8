use Rattle.image_reading.proofs.NameOrder.{IsLeastTwin}
use Rattle.image_reading.proofs.faults.names.own_names_broken_at.Given as goal

abbrev pub invariant-loop-k : goal.invariant-loop-k
invariant-loop-k l = IsLeastTwin l.image.geometry.pages l.image.words.now l.slots l.k l.least
