use Rattle.std.proofs.Common.{◌≡◌, ◌<◌, length, slice_get, Some}
use Rattle.volatile_index.specs.Entries.{IsSorted}
use Rattle.volatile_index.proofs.Nodes.{stands, at_inode, at_node}
use Rattle.volatile_index.proofs.index.Index.nth.Goals as goal

pub nth-requires : goal.nth-requires
nth-requires c = record { place = at_node (stands c.self.view_is c.place_of.ensures.place c.requires.in_range c.index.ensures) (λ held. c.args.k < length held.entries) c.requires.place }

pub returns-clause-entry : goal.returns-clause-entry
returns-clause-entry c = at_inode (stands c.self.view_is c.place_of.ensures.place c.requires.in_range c.index.ensures) (λ held. slice_get held.entries c.args.k ≡ Some c.nth.result.now) c.nth.ensures.entry

pub returns-clause-sorted : goal.returns-clause-sorted
returns-clause-sorted c = at_inode (stands c.self.view_is c.place_of.ensures.place c.requires.in_range c.index.ensures) (λ held. IsSorted held.entries) c.nth.ensures.sorted
