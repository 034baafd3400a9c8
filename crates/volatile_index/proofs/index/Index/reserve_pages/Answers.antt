use Rattle.volatile_index.specs.Index.{ReservesPages}
use Rattle.volatile_index.proofs.Nodes.{stands, changes}
use Rattle.volatile_index.proofs.index.Index.reserve_pages.Goals as goal

pub returns : goal.returns
returns c = changes (stands c.self.view_is c.place_of.ensures.place c.requires.in_range c.index_mut.ensures.value) c.reserve_pages.new.self (ReservesPages c.args.n c.reserve_pages.result) c.reserve_pages.ensures
