use Rattle.moving_laws.proofs.OpenedPage.{page_filled_law, page_owned_law}
use Rattle.moving_laws.proofs.opened_law.Goals as goal

pub returns-clause-filled : goal.returns-clause-filled
returns-clause-filled c = page_filled_law

pub returns-clause-owned : goal.returns-clause-owned
returns-clause-owned c = page_owned_law
