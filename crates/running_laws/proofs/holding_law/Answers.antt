use Rattle.running_laws.proofs.WaitHeld.{begun_holds_law, next_holds_law}
use Rattle.running_laws.proofs.WaitNames.{names_held_law}
use Rattle.running_laws.proofs.holding_law.Goals as goal

pub returns-clause-named : goal.returns-clause-named
returns-clause-named c = names_held_law

pub returns-clause-begun : goal.returns-clause-begun
returns-clause-begun c = begun_holds_law

pub returns-clause-next : goal.returns-clause-next
returns-clause-next c = next_holds_law
