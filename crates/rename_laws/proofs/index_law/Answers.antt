use Rattle.rename_laws.proofs.MovedEntries.{moved_entry_law}
use Rattle.rename_laws.proofs.MovedIndex.{moved_index_law}
use Rattle.rename_laws.proofs.index_law.Goals as goal

pub returns-clause-entry : goal.returns-clause-entry
returns-clause-entry c = moved_entry_law

pub returns-clause-index : goal.returns-clause-index
returns-clause-index c = moved_index_law
