use Rattle.std.proofs.Common.{sym, ◌∙◌}
use Rattle.pm_memory.proofs.Walked.{next_before, next_behind, nothing_left}
use Rattle.pm_memory.proofs.walk.WalkIterator.next.Goals as goal

pub returns-then-self-clause-steps : goal.returns-then-self-clause-steps
returns-then-self-clause-steps c =
    let none = sym c.self.view_is ∙ nothing_left c.self.inside.entries.now c.self.inside.acks_since c.self.inside.passed c.in_default.ensures.cases c.if-self.true in
    (none, none)

pub returns-in_default-clause-steps : goal.returns-in_default-clause-steps
returns-in_default-clause-steps c =
    sym c.self.view_is ∙ next_behind c.self.inside.entries.now c.self.inside.acks_since c.self.inside.passed c.in_default.ensures.cases c.self.invariant c.if-self.false

pub returns-then-self-entry-clause-steps : goal.returns-then-self-entry-clause-steps
returns-then-self-entry-clause-steps c =
    sym c.self.view_is
    ∙ next_before c.in-Some.entry.now c.in-Some.later.now c.self.inside.acks_since c.self.inside.passed c.in-Some.ensures.cases.0 c.if-self-entry.true
