use Rattle.std.proofs.Common.{MatchOption, Contains, ◌+◌, ◌-◌, ◌*◌, ◌^◌, ◌≤◌, length}
use Rattle.volatile_index.specs.Entries.{IsSorted, IsAbsent}
use Rattle.volatile_index.proofs.Nodes.{stands, at_inode}
use Rattle.volatile_index.proofs.index.Index.find_counted.Goals as goal

pub returns-clause-slot : goal.returns-clause-slot
returns-clause-slot g c = at_inode (stands c.self.view_is c.place_of.ensures.place c.requires.in_range c.index.ensures) (λ held. MatchOption c.find_counted.result (IsAbsent held.entries c.args.name.now) (λ slot. Contains held.entries (record { name = c.args.name.now; slot = slot }))) c.find_counted.ensures.slot

pub returns-clause-sorted : goal.returns-clause-sorted
returns-clause-sorted g c = at_inode (stands c.self.view_is c.place_of.ensures.place c.requires.in_range c.index.ensures) (λ held. IsSorted held.entries) c.find_counted.ensures.sorted

pub returns-clause-cost : goal.returns-clause-cost
returns-clause-cost g c = at_inode (stands c.self.view_is c.place_of.ensures.place c.requires.in_range c.index.ensures) (λ held. 2 ^ (c.find_counted.new.steps - c.args.steps.now) ≤ 2 * length held.entries + 1) c.find_counted.ensures.cost
