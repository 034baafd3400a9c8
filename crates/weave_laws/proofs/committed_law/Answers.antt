use Rattle.weave_laws.proofs.LinkCommitted.{link_committed_law}
use Rattle.weave_laws.proofs.NodeCommitted.{node_committed_law}
use Rattle.weave_laws.proofs.committed_law.Goals as goal

pub returns-clause-node : goal.returns-clause-node
returns-clause-node c = node_committed_law

pub returns-clause-link : goal.returns-clause-link
returns-clause-link c = link_committed_law
