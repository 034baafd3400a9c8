use Rattle.std.proofs.Common.{ap, subst}
use Rattle.volatile_index.specs.Entries.{IsAbsent}
use Rattle.volatile_index.specs.Index.{NodeView}
use Rattle.volatile_index.proofs.Places.{gap_absent}
use Rattle.volatile_index.proofs.node.Node.find_counted.Goals as goal

pub returns-in-Err-clause-slot : goal.returns-in-Err-clause-slot
returns-in-Err-clause-slot g c =
    let same = ap (λ (held : NodeView). held.entries) c.self.view_is in
    subst (λ entries. IsAbsent entries c.args.name.now) same (gap_absent _ _ _ c.in-Err.ensures.gap)
