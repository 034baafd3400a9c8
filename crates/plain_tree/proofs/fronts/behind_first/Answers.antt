use Rattle.std.proofs.Common.{◌≤◌, ◌∙◌, sym, ap, length, take, subst}
use Rattle.tree_model.specs.PathText.{Route}
use Rattle.tree_model.specs.Tree.{parent}
use Rattle.plain_tree.proofs.FrontLaws.{behind, behind-within, behind-is}
use Rattle.plain_tree.proofs.fronts.behind_first.Goals as goal

pub returns-clause-count : goal.returns-clause-count
returns-clause-count c = behind c.next.result c.names-names.result c.next.new.self c.next.ensures.steps ∙ ap (λ names. length (parent names)) c.names-names.ensures

pub returns-clause-within : goal.returns-clause-within
returns-clause-within c = subst (λ (names : Route). length c.next.new.self ≤ length names) c.names-names.ensures
    (behind-within c.next.result c.names-names.result c.next.new.self c.next.ensures.steps)

pub returns-clause-is : goal.returns-clause-is
returns-clause-is c = ap (take (length c.next.new.self)) (sym c.names-names.ensures)
    ∙ behind-is c.next.result c.names-names.result c.next.new.self c.next.ensures.steps ∙ ap parent c.names-names.ensures
