use Rattle.std.proofs.Common.{◌≡◌, length, set, Option, None, Some, refl, ap, sym, subst, ◌∙◌, arith}
use Rattle.pm_trait.specs.declared.event.PmFault.{PmFault}
use Rattle.tree_model.specs.declared.reply.Reply.{Reply}
use Rattle.tree_model.specs.declared.reply.Reply.TheVariants.{Done}
use Rattle.sessions.specs.Advanced.{enters_now, fences_of_task, told_by}
use Rattle.sessions.specs.Interleave.{InterleaveView}
use Rattle.sessions.specs.contracts.interleave.Interleave.{the_view}
use Rattle.sessions.proofs.TaskSteps.{stepped, IsMade, step_fails, step_ends, step_goes_on, stepped_entered, stepped_same, enters_at_none, enters_at}
use Rattle.sessions.proofs.interleave.Interleave.advance.Given.{Over}
use Rattle.sessions.proofs.interleave.Interleave.advance.Goals as goal
use Rattle.sessions.proofs.interleave.Interleave.advance.Goals.{In-Ok, then-fences-eq0, else-fences-eq0, then-enters, else-enters}

-- the code asks whether the entry comes now
asks : (g : Over) (c : In-Ok g) → c.if-fences-eq0.enters ≡ enters_now (fences_of_task c.args.self.now.volume c.args.bytes.now c.args.task) c.args.task.behind
asks g c =
    let fences = c.fences_left-fences.result in
    let behind = c.args.task.behind in
    let is = c.fences_left-fences.ensures c.args.self.now.volume (g.P.Pm.view c.args.pm.now) c.args.bytes.now c.requires.stands in
    elim c.if-fences-eq0.branch [
      | then-fences-eq0 w ↦ w.enters-is ∙ enters_at_none fences behind w.if-fences-eq0.true ∙ ap (λ n. enters_now n behind) is
      | else-fences-eq0 w ↦ w.enters-is ∙ enters_at fences behind w.if-fences-eq0.false ∙ ap (λ n. enters_now n behind) is
    ]

-- the step was made
made : (g : Over) (c : In-Ok g) (told : Option Reply) → c.in-Ok.reply ≡ told
    → IsMade PmFault c.self.inside.volume c.step.new.volume (g.P.Pm.view c.args.pm.now) (g.P.Pm.view c.step.new.pm) c.args.bytes.now c.args.task.running told c.step.new.self
made g c told is =
    let made = c.in-Ok.ensures in
    let before = g.P.Pm.view c.args.pm.now in
    let after = g.P.Pm.view c.step.new.pm in
    subst (λ (told : Option Reply). IsMade PmFault c.self.inside.volume c.step.new.volume before after c.args.bytes.now c.args.task.running told c.step.new.self) is
    (record { takes = made.takes; next = made.next; volume = made.volume; stage = made.stage })

pub returns-in_default : goal.returns-in_default
returns-in_default g c =
    let args = c.args in
    let failed = c.in_default.ensures in
    step_fails PmFault args.self.now (the_view c.self.inside) _ c.self.view_is c.step.new.volume (g.P.Pm.view args.pm.now) (g.P.Pm.view c.step.new.pm) args.session args.task
    args.bytes.now c.in_default.field-0 c.plain.result failed.takes failed.volume.failed refl c.plain.ensures

pub enter-requires-clause-room : goal.enter-requires-clause-room
enter-requires-clause-room g c =
    let asked = asks g (goal.at.enter-requires-clause-room g c).In-Ok in
    let room = c.requires.room (sym asked ∙ c.if-enters.true) in
    let same = ap (λ (weave : InterleaveView). length weave.entries) c.self.view_is in
    omega (arith, room, same)

pub returns-in-None : goal.returns-in-None
returns-in-None g c =
    let args = c.args in
    let seen = the_view c.self.inside in
    let volume = c.step.new.volume in
    let asked = asks g (goal.at.returns-in-None g c).In-Ok in
    let is_made = made g (goal.at.returns-in-None g c).In-Ok None c.in-None.is in
    let entered : c.if-enters.self ≡ stepped args.self.now volume args.session args.bytes.now args.task Done = elim c.if-enters.branch [
      | then-enters w ↦
          stepped_entered args.self.now seen c.self.view_is volume args.session args.bytes.now args.task c.if-enters.self w.enter.new.self Done w.told.result
          (sym asked ∙ w.if-enters.true) (w.told.ensures ∙ ap told_by c.in-None.is) w.self-is w.enter.ensures
      | else-enters w ↦
          stepped_same args.self.now seen c.self.view_is volume args.session args.bytes.now args.task c.if-enters.self Done (sym asked ∙ w.if-enters.false) w.self-is
    ] in
    let now : the_view c.self-2.inside ≡ stepped args.self.now volume args.session args.bytes.now args.task Done = c.self-2.view_is ∙ entered in
    step_goes_on PmFault args.self.now seen _ c.self.view_is volume (g.P.Pm.view args.pm.now) (g.P.Pm.view c.step.new.pm) args.session args.task args.bytes.now
    c.step.new.self is_made (ap (λ (weave : InterleaveView). record weave { tasks = set weave.tasks args.session (Some (record args.task { running = c.step.new.self })) }) now)

pub returns-in-Some : goal.returns-in-Some
returns-in-Some g c =
    let args = c.args in
    let seen = the_view c.self.inside in
    let volume = c.step.new.volume in
    let told = c.in-Some.reply in
    let asked = asks g (goal.at.returns-in-Some g c).In-Ok in
    let is_made = made g (goal.at.returns-in-Some g c).In-Ok (Some told) c.in-Some.is in
    let entered : c.if-enters.self ≡ stepped args.self.now volume args.session args.bytes.now args.task told = elim c.if-enters.branch [
      | then-enters w ↦
          stepped_entered args.self.now seen c.self.view_is volume args.session args.bytes.now args.task c.if-enters.self w.enter.new.self told w.told.result
          (sym asked ∙ w.if-enters.true) (w.told.ensures ∙ ap told_by c.in-Some.is) w.self-is w.enter.ensures
      | else-enters w ↦
          stepped_same args.self.now seen c.self.view_is volume args.session args.bytes.now args.task c.if-enters.self told (sym asked ∙ w.if-enters.false) w.self-is
    ] in
    step_ends PmFault args.self.now seen _ c.self.view_is volume (g.P.Pm.view args.pm.now) (g.P.Pm.view c.step.new.pm) args.session args.task args.bytes.now
    (g.P.Pm.view c.ack.new.self) told c.step.new.self c.plain-in-Some.result is_made c.ack.ensures entered c.plain-in-Some.ensures
