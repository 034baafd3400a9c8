use Rattle.std.proofs.Common.{◌≡◌, length}
use Rattle.volatile_index.specs.Entries.{IsSorted}
use Rattle.volatile_index.proofs.Nodes.{stands, at_inode}
use Rattle.volatile_index.proofs.index.Index.count.Goals as goal

pub returns-clause-count : goal.returns-clause-count
returns-clause-count c = at_inode (stands c.self.view_is c.place_of.ensures.place c.requires.in_range c.index.ensures) (λ held. c.count.result ≡ length held.entries) c.count.ensures.count

pub returns-clause-sorted : goal.returns-clause-sorted
returns-clause-sorted c = at_inode (stands c.self.view_is c.place_of.ensures.place c.requires.in_range c.index.ensures) (λ held. IsSorted held.entries) c.count.ensures.sorted
