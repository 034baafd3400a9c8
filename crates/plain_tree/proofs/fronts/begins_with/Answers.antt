use Rattle.std.proofs.Common.{◌∙◌, sym}
use Rattle.plain_tree.proofs.RouteLaws.{next_name, next_other, same_names, other_names}
use Rattle.plain_tree.proofs.fronts.begins_with.Goals as goal

pub returns-in_default : goal.returns-in_default
returns-in_default c = sym (c.loop-name.invariant
    ∙ next_other c.loop-name.name-index c.args.route.now c.loop-name.names c.next.new.self c.in-Some.next c.name-item.result
    c.loop-name-test.true c.in-Some.ensures.steps c.name-item.is (other_names _ _ (sym c.if-eq.false ∙ c.eq.ensures)))

pub loop-name-preserved : goal.loop-name-preserved
loop-name-preserved c = c.loop-name.invariant
    ∙ next_name c.loop-name.name-index c.args.route.now c.loop-name.names c.next.new.self c.in-Some.next c.name-item.result
    c.loop-name-test.true c.in-Some.ensures.steps c.name-item.is (same_names _ _ (sym c.if-eq.true ∙ c.eq.ensures))
