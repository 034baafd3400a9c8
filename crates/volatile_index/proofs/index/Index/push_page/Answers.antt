use Rattle.std.proofs.Common.{◌<◌, [], ◌∷◌, ◌++◌, length}
use Rattle.volatile_index.specs.Index.{IsWithPages}
use Rattle.volatile_index.proofs.Nodes.{stands, changes, at_node}
use Rattle.volatile_index.proofs.index.Index.push_page.Goals as goal

pub push_page-requires : goal.push_page-requires
push_page-requires c = record { room = at_node (stands c.self.view_is c.place_of.ensures.place c.requires.in_range c.index_mut.ensures.value) (λ node. length node.pages < node.page_places) c.requires.room }

pub returns : goal.returns
returns c = changes (stands c.self.view_is c.place_of.ensures.place c.requires.in_range c.index_mut.ensures.value) c.push_page.new.self (λ old new. IsWithPages (old.pages ++ c.args.page ∷ []) old new) c.push_page.ensures
