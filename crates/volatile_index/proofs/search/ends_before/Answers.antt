use Rattle.std.proofs.Common.{sym, ◌∙◌}
use Rattle.volatile_index.proofs.Halving.{is_lt_less, behind_all}
use Rattle.volatile_index.proofs.search.ends_before.Goals as goal

pub returns-in-Some-clause-less : goal.returns-in-Some-clause-less
returns-in-Some-clause-less g c = λ less.
    behind_all c.args.name.now c.args.entries.now.items c.in-Some.last.now c.requires c.in-Some.ensures (sym c.compared.ensures.order ∙ is_lt_less c.compared.result (sym c.is_lt.ensures ∙ less))
