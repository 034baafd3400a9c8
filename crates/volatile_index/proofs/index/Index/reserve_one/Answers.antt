use Rattle.volatile_index.specs.Index.{ReservesEntry}
use Rattle.volatile_index.proofs.Nodes.{stands, changes}
use Rattle.volatile_index.proofs.index.Index.reserve_one.Goals as goal

pub returns : goal.returns
returns c = changes (stands c.self.view_is c.place_of.ensures.place c.requires.in_range c.index_mut.ensures.value) c.reserve_one.new.self (ReservesEntry c.reserve_one.result) c.reserve_one.ensures
