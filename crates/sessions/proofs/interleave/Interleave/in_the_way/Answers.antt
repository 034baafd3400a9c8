use Rattle.std.proofs.Common.{◌≡◌, ◌+◌, ◌<◌, length, ap, sym, subst, ◌∙◌, arith}
use Rattle.sessions.specs.Interleave.{InterleaveView}
use Rattle.sessions.proofs.TaskLists.{task_read}
use Rattle.sessions.proofs.TaskWays.{IsFoundBelow, found_of_all, found_idle, found_nearer}
use Rattle.sessions.proofs.interleave.Interleave.in_the_way.Goals as goal
use Rattle.sessions.proofs.interleave.Interleave.in_the_way.Goals.{in-Some, in_default}

pub loop-k-preserved : goal.loop-k-preserved
loop-k-preserved c =
    let tasks = c.args.self.now.tasks in
    let named = c.args.named.now in
    let same = ap (λ (weave : InterleaveView). weave.tasks) c.self.view_is in
    let within : c.loop-k.k < length c.self.inside.tasks.items = omega (arith, c.self.inside.tasks.ok.0) in
    elim c.match-index.branch [
      | in-Some w ↦
          let task = w.in-Some.task in
          let runs = task_read same within c.index.ensures w.in-Some.is in
          let least = w.least-is ∙ w.nearer-least.ensures in
          subst (IsFoundBelow tasks named (c.loop-k.k + 1)) (sym least)
          (found_nearer tasks named c.loop-k.k task runs c.loop-k.least w.least_of_both.result c.loop-k.invariant w.least_of_both.ensures)
      | in_default w ↦
          let idle = task_read same within c.index.ensures w.in_default.is in
          subst (IsFoundBelow tasks named (c.loop-k.k + 1)) (sym w.least-is) (found_idle tasks named c.loop-k.k c.loop-k.least c.loop-k.invariant idle)
    ]

pub returns : goal.returns
returns c =
    let tasks = c.args.self.now.tasks in
    let same : length c.self.inside.tasks.items ≡ length tasks = ap (λ (weave : InterleaveView). length weave.tasks) c.self.view_is in
    found_of_all tasks c.args.named.now c.loop-k.k c.loop-k.least (omega (arith, c.self.inside.tasks.ok.0, same)) c.loop-k.invariant
