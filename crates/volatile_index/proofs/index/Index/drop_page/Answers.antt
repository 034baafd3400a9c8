use Rattle.std.proofs.Common.{Contains}
use Rattle.volatile_index.specs.Index.{DropsPage}
use Rattle.volatile_index.proofs.Nodes.{stands, changes, at_node}
use Rattle.volatile_index.proofs.index.Index.drop_page.Goals as goal

pub drop_page-requires : goal.drop_page-requires
drop_page-requires c = record { there = at_node (stands c.self.view_is c.place_of.ensures.place c.requires.in_range c.index_mut.ensures.value) (λ node. Contains node.pages c.args.page) c.requires.there }

pub returns : goal.returns
returns c = changes (stands c.self.view_is c.place_of.ensures.place c.requires.in_range c.index_mut.ensures.value) c.drop_page.new.self (DropsPage c.args.page) c.drop_page.ensures
