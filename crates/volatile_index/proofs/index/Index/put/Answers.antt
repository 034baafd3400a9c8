use Rattle.std.proofs.Common.{IsTrue}
use Rattle.volatile_index.specs.Entries.{IsAbsent}
use Rattle.volatile_index.specs.Index.{PutsEntry}
use Rattle.volatile_index.proofs.Nodes.{stands, changes, at_node}
use Rattle.volatile_index.proofs.index.Index.put.Goals as goal

pub put-requires-clause-absent : goal.put-requires-clause-absent
put-requires-clause-absent c = at_node (stands c.self.view_is c.place_of.ensures.place c.requires.in_range c.index_mut.ensures.value) (λ node. IsAbsent node.entries c.args.name) c.requires.absent

pub put-requires-clause-room : goal.put-requires-clause-room
put-requires-clause-room c = at_node (stands c.self.view_is c.place_of.ensures.place c.requires.in_range c.index_mut.ensures.value) (λ node. IsTrue node.has_place) c.requires.room

pub returns : goal.returns
returns c = changes (stands c.self.view_is c.place_of.ensures.place c.requires.in_range c.index_mut.ensures.value) c.put.new.self (PutsEntry (record { name = c.args.name; slot = c.args.slot })) c.put.ensures
