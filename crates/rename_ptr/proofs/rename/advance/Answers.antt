use Rattle.pm_trait.proofs.Unfolding.{done}
use Rattle.rename_ptr.proofs.Stepping.{failed_as}
use Rattle.rename_ptr.proofs.rename.advance.Goals as goal

pub returns-clause-takes : goal.returns-clause-takes
returns-clause-takes g c = done c.of.result c.in_ok-reply.ensures.takes

pub returns-in_err-reply-clause-takes : goal.returns-in_err-reply-clause-takes
returns-in_err-reply-clause-takes g c = failed_as c.from_residual.result c.from_residual.ensures.0 c.in_err-reply.ensures.takes
