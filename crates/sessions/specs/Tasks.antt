-- The running calls as the code has them, and what they hold.
use Rattle.std.specs.Prelude.{ℕ, zero, suc, ◌+◌, ◌^◌, ◌<◌, List, [], ◌∷◌, Option, None, Some}
use Rattle.volume.specs.declared.next.Held.{Held}
use Rattle.running_calls.specs.Stages.{held_of}
use Rattle.sessions.specs.declared.task.Task.{Task}

-- what a session runs
abbrev pub task_in : List (Option Task) → ℕ → Option Task
task_in [] s = None
task_in (task ∷ tasks) zero = task
task_in (task ∷ tasks) (suc s) = task_in tasks s

abbrev pub add_held : Held → Held → Held
add_held one other = record { inodes = one.inodes + other.inodes; pages = one.pages + other.pages }

-- what all of them hold
abbrev pub held_by_all : List (Option Task) → Held
held_by_all [] = record { inodes = 0; pages = 0 }
held_by_all (None ∷ tasks) = held_by_all tasks
held_by_all (Some task ∷ tasks) = add_held (held_of task.running) (held_by_all tasks)

-- that can be counted
pub record HoldFew (tasks : List (Option Task)) : Type 0 where
  pub inodes : (held_by_all tasks).inodes < 2 ^ 62
  pub pages : (held_by_all tasks).pages < 2 ^ 62
