use Rattle.weave_laws.proofs.LinkWritten.{link_written_law}
use Rattle.weave_laws.proofs.NodeWritten.{node_written_law}
use Rattle.weave_laws.proofs.written_law.Goals as goal

pub returns-clause-node : goal.returns-clause-node
returns-clause-node c = node_written_law

pub returns-clause-link : goal.returns-clause-link
returns-clause-link c = link_written_law
