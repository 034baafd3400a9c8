use Rattle.pm_file.proofs.Rounds.{none_once}
use Rattle.pm_file.proofs.mirror.Mirror.none.Goals as goal

pub invariant_of-result-clause-once : goal.invariant_of-result-clause-once
invariant_of-result-clause-once g c = none_once _ c.new-3.ensures.items
