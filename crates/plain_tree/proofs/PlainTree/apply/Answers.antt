use Rattle.std.proofs.Common.{◌∙◌, sym, subst}
use Rattle.tree_model.specs.Run.{State}
use Rattle.plain_tree.specs.Plain.{Plain, Answers}
use Rattle.plain_tree.proofs.AnswerLaws.{answers_changed, state_changed}
use Rattle.plain_tree.proofs.PlainTree.apply.Goals as goal

pub invariant_of-self : goal.invariant_of-self
invariant_of-self c =
    let pages = c.self.inside.geometry.pages in
    let old : State = record { tree = c.self.inside.tree; room = c.self.inside.room } in
    let new : State = record { tree = c.in-Ok.tree; room = c.in-Ok.room } in
    state_changed pages old new c.args.command.now (sym c.is_changing.ensures ∙ c.if-is_changing.true) (sym c.refusal_for.ensures ∙ c.in_default.is)
    (c.in-Ok.ensures pages) c.self.invariant

pub returns-in-Ok-clause-answered : goal.returns-in-Ok-clause-answered
returns-in-Ok-clause-answered c =
    let pages = c.self.inside.geometry.pages in
    let old : State = record { tree = c.self.inside.tree; room = c.self.inside.room } in
    let new : State = record { tree = c.in-Ok.tree; room = c.in-Ok.room } in
    subst (λ (plain : Plain). Answers plain.pages plain.state c.args.command.now c.answer-reply.result new) c.self.view_is
    (answers_changed pages old new c.args.command.now (sym c.is_changing.ensures ∙ c.if-is_changing.true) (sym c.refusal_for.ensures ∙ c.in_default.is)
    (c.in-Ok.ensures pages) c.answer-reply.result c.answer-reply.ensures)
