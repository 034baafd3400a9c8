use Rattle.std.proofs.Common.{◌-◌, ◌≤◌, length, take}
use Rattle.volatile_index.specs.Index.{IsWithPages}
use Rattle.volatile_index.proofs.Nodes.{stands, changes, at_node}
use Rattle.volatile_index.proofs.index.Index.cut_pages.Goals as goal

pub cut_pages-requires : goal.cut_pages-requires
cut_pages-requires c = record { count = at_node (stands c.self.view_is c.place_of.ensures.place c.requires.in_range c.index_mut.ensures.value) (λ node. c.args.n ≤ length node.pages) c.requires.count }

pub returns : goal.returns
returns c = changes (stands c.self.view_is c.place_of.ensures.place c.requires.in_range c.index_mut.ensures.value) c.cut_pages.new.self (λ old new. IsWithPages (take (length old.pages - c.args.n) old.pages) old new) c.cut_pages.ensures
