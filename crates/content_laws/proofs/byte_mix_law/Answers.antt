use Rattle.content_laws.proofs.byte_mix_law.Goals as goal
use Rattle.content_laws.proofs.Quiet as lemmas

pub returns-clause-quiet : goal.returns-clause-quiet
returns-clause-quiet c = lemmas.content_quiet_law

pub returns-clause-mix : goal.returns-clause-mix
returns-clause-mix c = lemmas.byte_mix_law
