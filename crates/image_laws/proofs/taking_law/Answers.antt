use Rattle.image_laws.proofs.taking_law.Goals as goal
use Rattle.image_laws.proofs.Taking.{taking_law}
use Rattle.image_laws.proofs.Paged.{paged_node_law, paged_link_law}
use Rattle.image_laws.proofs.SameEnd.{same_end_law, same_link_end_law}

pub returns-clause-any : goal.returns-clause-any
returns-clause-any c = taking_law

pub returns-clause-node : goal.returns-clause-node
returns-clause-node c = paged_node_law

pub returns-clause-link : goal.returns-clause-link
returns-clause-link c = paged_link_law

pub returns-clause-node_end : goal.returns-clause-node_end
returns-clause-node_end c = same_end_law

pub returns-clause-link_end : goal.returns-clause-link_end
returns-clause-link_end c = same_link_end_law
