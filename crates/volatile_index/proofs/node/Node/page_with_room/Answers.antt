use Rattle.std.proofs.Common.{ℕ, MatchOption, ap, subst}
use Rattle.volatile_index.specs.Entries.{IsOpen, IsLeastOpen}
use Rattle.volatile_index.specs.Index.{NodeView}
use Rattle.volatile_index.proofs.FillCounts.{least_with_room}
use Rattle.volatile_index.proofs.node.Node.page_with_room.Goals as goal

pub returns-clause-page : goal.returns-clause-page
returns-clause-page c =
    let same = ap (λ (held : NodeView). held.entries) c.self.view_is in
    subst (λ entries. MatchOption c.least_open.result ((page : ℕ) → ¬ IsOpen entries page) (λ page. IsLeastOpen entries page)) same
    (least_with_room c.self.inside.entries.items c.self.inside.fills.fills c.least_open.result c.self.invariant c.least_open.ensures)
