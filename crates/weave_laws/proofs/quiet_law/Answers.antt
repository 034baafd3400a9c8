use Rattle.weave_laws.proofs.PagedQuiet.{paged_node_quiet_law, paged_link_quiet_law, owning_quiet_law}
use Rattle.weave_laws.proofs.quiet_law.Goals as goal

pub returns-clause-paged_node : goal.returns-clause-paged_node
returns-clause-paged_node c = paged_node_quiet_law

pub returns-clause-paged_link : goal.returns-clause-paged_link
returns-clause-paged_link c = paged_link_quiet_law

pub returns-clause-owned : goal.returns-clause-owned
returns-clause-owned c = owning_quiet_law
