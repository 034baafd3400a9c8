use Rattle.rename_ptr.proofs.open.own_page.Goals as goal

pub claim_page-requires-clause-ready : goal.claim_page-requires-clause-ready
claim_page-requires-clause-ready g c = (c.requires.ready c.in-Some.page c.in-Some.is).0
