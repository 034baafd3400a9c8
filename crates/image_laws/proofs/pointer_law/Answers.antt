use Rattle.image_laws.proofs.pointer_law.Goals as goal
use Rattle.image_laws.proofs.Pointers as lemmas

pub returns-clause-pointer : goal.returns-clause-pointer
returns-clause-pointer c = lemmas.pointer_law

pub returns-clause-leave : goal.returns-clause-leave
returns-clause-leave c = lemmas.leave_law
