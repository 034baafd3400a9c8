use Rattle.weave_laws.proofs.own_words_law.Goals as goal
use Rattle.weave_laws.proofs.OwnWords as words_of

pub returns-clause-node : goal.returns-clause-node
returns-clause-node c = words_of.node_words_law

pub returns-clause-link : goal.returns-clause-link
returns-clause-link c = words_of.link_words_law

pub returns-clause-paged_node : goal.returns-clause-paged_node
returns-clause-paged_node c = words_of.paged_node_words_law

pub returns-clause-paged_link : goal.returns-clause-paged_link
returns-clause-paged_link c = words_of.paged_link_words_law

pub returns-clause-owned : goal.returns-clause-owned
returns-clause-owned c = words_of.owned_words_law

pub returns-clause-committed : goal.returns-clause-committed
returns-clause-committed c = words_of.committed_words_law

pub returns-clause-dropped : goal.returns-clause-dropped
returns-clause-dropped c = words_of.dropped_words_law

pub returns-clause-cleared : goal.returns-clause-cleared
returns-clause-cleared c = words_of.cleared_words_law

pub returns-clause-given : goal.returns-clause-given
returns-clause-given c = words_of.given_words_law

pub returns-clause-freed : goal.returns-clause-freed
returns-clause-freed c = words_of.freed_words_law

pub returns-clause-inside : goal.returns-clause-inside
returns-clause-inside c = words_of.inside_words_law

pub returns-clause-filled : goal.returns-clause-filled
returns-clause-filled c = words_of.filled_words_law

pub returns-clause-taken : goal.returns-clause-taken
returns-clause-taken c = words_of.taken_words_law

pub returns-clause-sized : goal.returns-clause-sized
returns-clause-sized c = words_of.sized_words_law
