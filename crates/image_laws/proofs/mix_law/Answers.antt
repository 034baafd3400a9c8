use Rattle.image_laws.proofs.mix_law.Goals as goal
use Rattle.image_laws.proofs.Quiet as lemmas
use Rattle.image_laws.proofs.Free.{free_law, stores_law}

pub returns-clause-quiet : goal.returns-clause-quiet
returns-clause-quiet c = lemmas.mix_law

pub returns-clause-write : goal.returns-clause-write
returns-clause-write c = lemmas.write_law

pub returns-clause-free : goal.returns-clause-free
returns-clause-free c = free_law

pub returns-clause-stored : goal.returns-clause-stored
returns-clause-stored c = stores_law
