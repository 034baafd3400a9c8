use Rattle.weave_laws.proofs.waiting_law.Goals as goal
use Rattle.weave_laws.proofs.WaitingPlaces.{waiting_link_law, waiting_counted_law}
use Rattle.weave_laws.proofs.WaitingNames as names
use Rattle.weave_laws.proofs.WaitingPlans as plans
use Rattle.weave_laws.proofs.WaitingRemovals as removals
use Rattle.weave_laws.proofs.WaitingFiles as files
use Rattle.weave_laws.proofs.WaitingLosses.{waiting_loss_law}
use Rattle.weave_laws.proofs.WaitingApart.{waiting_apart_law}

pub returns-clause-links : goal.returns-clause-links
returns-clause-links c = waiting_link_law

pub returns-clause-node : goal.returns-clause-node
returns-clause-node c = names.waiting_node_law

pub returns-clause-file : goal.returns-clause-file
returns-clause-file c = names.waiting_file_law

pub returns-clause-removal : goal.returns-clause-removal
returns-clause-removal c = removals.waiting_removal_law

pub returns-clause-clearing : goal.returns-clause-clearing
returns-clause-clearing c = removals.waiting_clearing_law

pub returns-clause-giving : goal.returns-clause-giving
returns-clause-giving c = removals.waiting_giving_law

pub returns-clause-freeing : goal.returns-clause-freeing
returns-clause-freeing c = removals.waiting_freeing_law

pub returns-clause-writing : goal.returns-clause-writing
returns-clause-writing c = files.waiting_writing_law

pub returns-clause-filling : goal.returns-clause-filling
returns-clause-filling c = files.waiting_filling_law

pub returns-clause-owning : goal.returns-clause-owning
returns-clause-owning c = files.waiting_owning_law

pub returns-clause-raising : goal.returns-clause-raising
returns-clause-raising c = files.waiting_raising_law

pub returns-clause-lowering : goal.returns-clause-lowering
returns-clause-lowering c = files.waiting_lowering_law

pub returns-clause-trimming : goal.returns-clause-trimming
returns-clause-trimming c = files.waiting_trimming_law

pub returns-clause-place : goal.returns-clause-place
returns-clause-place c = plans.waiting_place_law

pub returns-clause-inode : goal.returns-clause-inode
returns-clause-inode c = plans.waiting_inode_law

pub returns-clause-claiming : goal.returns-clause-claiming
returns-clause-claiming c = plans.waiting_claiming_law

pub returns-clause-loss : goal.returns-clause-loss
returns-clause-loss c = waiting_loss_law

pub returns-clause-words : goal.returns-clause-words
returns-clause-words c = names.waiting_words_law

pub returns-clause-falling : goal.returns-clause-falling
returns-clause-falling c = removals.waiting_falling_law

pub returns-clause-counted : goal.returns-clause-counted
returns-clause-counted c = waiting_counted_law

pub returns-clause-apart : goal.returns-clause-apart
returns-clause-apart c = waiting_apart_law
