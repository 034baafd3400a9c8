use Rattle.content_laws.proofs.torn_law.Goals as goal
use Rattle.content_laws.proofs.Torn as lemmas

pub returns-clause-torn : goal.returns-clause-torn
returns-clause-torn c = lemmas.torn_law

pub returns-clause-means : goal.returns-clause-means
returns-clause-means c = lemmas.torn_means_law

pub returns-clause-tree : goal.returns-clause-tree
returns-clause-tree c = lemmas.torn_tree_law

pub returns-clause-same : goal.returns-clause-same
returns-clause-same c = lemmas.same_torn_law
