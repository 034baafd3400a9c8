use Rattle.volatile_index.specs.Entries.{IsPresent}
use Rattle.volatile_index.specs.Index.{RemovesEntry}
use Rattle.volatile_index.proofs.Nodes.{stands, changes, at_node}
use Rattle.volatile_index.proofs.index.Index.remove.Goals as goal

pub remove-requires : goal.remove-requires
remove-requires c = record { present = at_node (stands c.self.view_is c.place_of.ensures.place c.requires.in_range c.index_mut.ensures.value) (λ node. IsPresent node.entries c.args.name.now) c.requires.present }

pub returns : goal.returns
returns c = changes (stands c.self.view_is c.place_of.ensures.place c.requires.in_range c.index_mut.ensures.value) c.remove.new.self (RemovesEntry c.args.name.now) c.remove.ensures
