use Rattle.std.proofs.Common.{◌≡◌}
use Rattle.volatile_index.proofs.Nodes.{stands, at_inode}
use Rattle.volatile_index.proofs.index.Index.pages.Goals as goal

pub returns : goal.returns
returns c = record { pages = at_inode (stands c.self.view_is c.place_of.ensures.place c.requires.in_range c.index.ensures) (λ held. c.pages.result.now ≡ held.pages) c.pages.ensures }
