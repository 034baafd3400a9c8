use Rattle.volatile_index.proofs.EntryLaws.{same_by_contents}
use Rattle.volatile_index.proofs.laws.same_entries.Goals as goal

pub returns : goal.returns
returns c first second one two same = same_by_contents first second one two (λ entry. (same entry).0) (λ entry. (same entry).1)
