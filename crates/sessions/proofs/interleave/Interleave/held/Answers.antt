use Rattle.std.proofs.Common.{◌≡◌, ◌+◌, ◌<◌, length, ap, sym, subst, ◌∙◌, arith}
use Rattle.sessions.specs.Interleave.{InterleaveView}
use Rattle.sessions.specs.Tasks.{add_held}
use Rattle.sessions.proofs.TaskLists.{IsCountedTo, task_read, counted_none, counted_one, counted_few, counted_all}
use Rattle.sessions.proofs.interleave.Interleave.held.Goals as goal
use Rattle.sessions.proofs.interleave.Interleave.held.Goals.{in-Some, in_default}

pub overflow_add-held : goal.overflow_add-held
overflow_add-held c =
    let same = ap (λ (weave : InterleaveView). weave.tasks) c.self.view_is in
    let within : c.loop-k.k < length c.self.inside.tasks.items = omega (arith, c.self.inside.tasks.ok.0) in
    let runs = task_read same within c.index.ensures c.in-Some.is in
    let few = counted_few c.args.self.now.tasks c.loop-k.k c.loop-k.held _ c.in-Some.task c.loop-k.invariant c.requires.few runs c.held-more.ensures in
    omega (arith, few)

pub overflow_add-held-in-Some : goal.overflow_add-held-in-Some
overflow_add-held-in-Some c =
    let same = ap (λ (weave : InterleaveView). weave.tasks) c.self.view_is in
    let within : c.loop-k.k < length c.self.inside.tasks.items = omega (arith, c.self.inside.tasks.ok.0) in
    let runs = task_read same within c.index.ensures c.in-Some.is in
    let few = counted_few c.args.self.now.tasks c.loop-k.k c.loop-k.held _ c.in-Some.task c.loop-k.invariant c.requires.few runs c.held-more.ensures in
    omega (arith, few)

pub loop-k-preserved : goal.loop-k-preserved
loop-k-preserved c =
    let tasks = c.args.self.now.tasks in
    let same = ap (λ (weave : InterleaveView). weave.tasks) c.self.view_is in
    let within : c.loop-k.k < length c.self.inside.tasks.items = omega (arith, c.self.inside.tasks.ok.0) in
    elim c.match-index.branch [
      | in-Some w ↦
          let runs = task_read same within c.index.ensures w.in-Some.is in
          let held = w.held-is ∙ ap (add_held c.loop-k.held) w.held-more.ensures in
          subst (IsCountedTo tasks (c.loop-k.k + 1)) (sym held) (counted_one tasks c.loop-k.k c.loop-k.held w.in-Some.task c.loop-k.invariant runs)
      | in_default w ↦
          let runs = task_read same within c.index.ensures w.in_default.is in
          subst (IsCountedTo tasks (c.loop-k.k + 1)) (sym w.held-is) (counted_none tasks c.loop-k.k c.loop-k.held c.loop-k.invariant runs)
    ]

pub returns : goal.returns
returns c =
    let tasks = c.args.self.now.tasks in
    let same : length c.self.inside.tasks.items ≡ length tasks = ap (λ (weave : InterleaveView). length weave.tasks) c.self.view_is in
    counted_all tasks c.loop-k.k c.loop-k.held c.loop-k.invariant (omega (arith, c.self.inside.tasks.ok.0, same))
