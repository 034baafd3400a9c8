use Rattle.std.proofs.Common.{ℕ, MatchOption}
use Rattle.volatile_index.specs.Entries.{IsSorted, IsOpen, IsLeastOpen}
use Rattle.volatile_index.proofs.Nodes.{stands, at_inode}
use Rattle.volatile_index.proofs.index.Index.page_with_room.Goals as goal

pub returns-clause-page : goal.returns-clause-page
returns-clause-page c =
    at_inode (stands c.self.view_is c.place_of.ensures.place c.requires.in_range c.index.ensures)
    (λ held. MatchOption c.page_with_room.result ((page : ℕ) → ¬ IsOpen held.entries page) (λ page. IsLeastOpen held.entries page)) c.page_with_room.ensures.page

pub returns-clause-sorted : goal.returns-clause-sorted
returns-clause-sorted c = at_inode (stands c.self.view_is c.place_of.ensures.place c.requires.in_range c.index.ensures) (λ held. IsSorted held.entries) c.page_with_room.ensures.sorted
