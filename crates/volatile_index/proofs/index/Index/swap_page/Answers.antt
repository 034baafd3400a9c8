use Rattle.std.proofs.Common.{◌<◌, length}
use Rattle.std.specs.Prelude.{slice_set}
use Rattle.volatile_index.specs.Index.{IsWithPages}
use Rattle.volatile_index.proofs.Nodes.{stands, changes, at_node}
use Rattle.volatile_index.proofs.index.Index.swap_page.Goals as goal

pub swap_page-requires : goal.swap_page-requires
swap_page-requires c = record { place = at_node (stands c.self.view_is c.place_of.ensures.place c.requires.in_range c.index_mut.ensures.value) (λ node. c.args.place < length node.pages) c.requires.place }

pub returns : goal.returns
returns c = changes (stands c.self.view_is c.place_of.ensures.place c.requires.in_range c.index_mut.ensures.value) c.swap_page.new.self (λ old new. IsWithPages (slice_set old.pages c.args.place c.args.page) old new) c.swap_page.ensures
