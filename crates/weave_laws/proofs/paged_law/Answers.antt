use Rattle.weave_laws.proofs.PagedLink.{paged_link_written_law}
use Rattle.weave_laws.proofs.PagedNode.{paged_node_written_law}
use Rattle.weave_laws.proofs.PagedOwned.{page_owned_law}
use Rattle.weave_laws.proofs.paged_law.Goals as goal

pub returns-clause-node : goal.returns-clause-node
returns-clause-node c = paged_node_written_law

pub returns-clause-link : goal.returns-clause-link
returns-clause-link c = paged_link_written_law

pub returns-clause-owned : goal.returns-clause-owned
returns-clause-owned c = page_owned_law
