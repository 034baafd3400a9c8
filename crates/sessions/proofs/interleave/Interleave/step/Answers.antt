use Rattle.std.proofs.Common.{sym, ◌∙◌}
use Rattle.sessions.proofs.AnswerTasks.{emptied, emptied_same, filled_same, few_begun, asked_same, steps_same, stops_same}
use Rattle.sessions.proofs.interleave.Interleave.step.Goals as goal

pub begin-requires-clause-empty : goal.begin-requires-clause-empty
begin-requires-clause-empty g c =
    emptied _ _ c.self.view_is c.args.session _ c.replace.new.dest c.requires.session c.index_mut.ensures.value c.replace.ensures.after

pub begin-requires-clause-calls : goal.begin-requires-clause-calls
begin-requires-clause-calls g c =
    few_begun _ _ c.self.view_is c.args.session _ c.replace.new.dest c.requires.session c.index_mut.ensures.value c.replace.ensures.after _
    (sym c.replace.ensures.value ∙ c.in-None.is) c.requires.calls

pub begin-requires-clause-stands : goal.begin-requires-clause-stands
begin-requires-clause-stands g c =
    let same =
    emptied_same _ _ c.self.view_is c.args.session _ c.replace.new.dest c.requires.session c.index_mut.ensures.value c.replace.ensures.after
    (sym c.replace.ensures.value ∙ c.in-None.is) in
    asked_same _ _ same c.args.session _ _ c.requires.stands

pub go_on-requires-clause-empty : goal.go_on-requires-clause-empty
go_on-requires-clause-empty g c =
    emptied _ _ c.self.view_is c.args.session _ c.replace.new.dest c.requires.session c.index_mut.ensures.value c.replace.ensures.after

pub go_on-requires-clause-stands : goal.go_on-requires-clause-stands
go_on-requires-clause-stands g c =
    let same =
    filled_same _ _ c.self.view_is c.args.session _ c.replace.new.dest c.requires.session c.index_mut.ensures.value c.replace.ensures.after c.in-Some.task
    (sym c.replace.ensures.value ∙ c.in-Some.is) in
    asked_same _ _ same c.args.session _ _ c.requires.stands

pub returns-in-None-clause-stopped : goal.returns-in-None-clause-stopped
returns-in-None-clause-stopped g c =
    let same =
    emptied_same _ _ c.self.view_is c.args.session _ c.replace.new.dest c.requires.session c.index_mut.ensures.value c.replace.ensures.after
    (sym c.replace.ensures.value ∙ c.in-None.is) in
    stops_same _ _ same c.args.session _ _ _ c.begin.ensures.stopped

pub returns-in-None-clause-steps : goal.returns-in-None-clause-steps
returns-in-None-clause-steps g c =
    let same =
    emptied_same _ _ c.self.view_is c.args.session _ c.replace.new.dest c.requires.session c.index_mut.ensures.value c.replace.ensures.after
    (sym c.replace.ensures.value ∙ c.in-None.is) in
    steps_same _ _ same c.args.session _ _ _ _ _ c.begin.ensures.steps

pub returns-in-Some-clause-stopped : goal.returns-in-Some-clause-stopped
returns-in-Some-clause-stopped g c =
    let same =
    filled_same _ _ c.self.view_is c.args.session _ c.replace.new.dest c.requires.session c.index_mut.ensures.value c.replace.ensures.after c.in-Some.task
    (sym c.replace.ensures.value ∙ c.in-Some.is) in
    stops_same _ _ same c.args.session _ _ _ c.go_on.ensures.stopped

pub returns-in-Some-clause-steps : goal.returns-in-Some-clause-steps
returns-in-Some-clause-steps g c =
    let same =
    filled_same _ _ c.self.view_is c.args.session _ c.replace.new.dest c.requires.session c.index_mut.ensures.value c.replace.ensures.after c.in-Some.task
    (sym c.replace.ensures.value ∙ c.in-Some.is) in
    steps_same _ _ same c.args.session _ _ _ _ _ c.go_on.ensures.steps
