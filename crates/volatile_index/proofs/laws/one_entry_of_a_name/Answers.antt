use Rattle.volatile_index.proofs.EntryLaws.{one_of_a_name}
use Rattle.volatile_index.proofs.laws.one_entry_of_a_name.Goals as goal

pub returns : goal.returns
returns c = one_of_a_name
