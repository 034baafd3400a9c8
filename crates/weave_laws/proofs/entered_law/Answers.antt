use Rattle.weave_laws.proofs.entered_law.Goals as goal
use Rattle.weave_laws.proofs.Entered as entered
use Rattle.weave_laws.proofs.Removed.{removed_entered_law, removed_room_law}
use Rattle.weave_laws.proofs.OneWord.{one_word_law}

pub returns-clause-node : goal.returns-clause-node
returns-clause-node c = entered.node_entered_law

pub returns-clause-new_node : goal.returns-clause-new_node
returns-clause-new_node c = entered.new_node_law

pub returns-clause-link : goal.returns-clause-link
returns-clause-link c = entered.link_entered_law

pub returns-clause-node_room : goal.returns-clause-node_room
returns-clause-node_room c = entered.node_room_law

pub returns-clause-link_room : goal.returns-clause-link_room
returns-clause-link_room c = entered.linked_room_law

pub returns-clause-removed : goal.returns-clause-removed
returns-clause-removed c = removed_entered_law

pub returns-clause-removed_room : goal.returns-clause-removed_room
returns-clause-removed_room c = removed_room_law

pub returns-clause-crash : goal.returns-clause-crash
returns-clause-crash c = one_word_law
