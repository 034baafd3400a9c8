-- What each session runs, as a task of the code and as a call; and where none runs a call and the volume has no mark, calls wait beside one another.
use Rattle.std.proofs.Common.{◌≡◌, ℕ, zero, suc, ◌<◌, false, List, [], ◌∷◌, length, set, Option, None, Some, refl, sym, ap, subst, ◌∙◌, arith}
use Rattle.pm_trait.specs.DeviceView.{DeviceView}
use Rattle.tree_model.specs.Run.{State}
use Rattle.image_reading.specs.Residue.{no_residue}
use Rattle.volume.specs.Volume.{VolumeView}
use Rattle.volume.specs.Beside.{StandsBeside}
use Rattle.session_laws.specs.Calls.{AreIdle, Call, Calls, call_at, without, events_of_all, CallsWait}
use Rattle.session_laws.proofs.Lists.{events_idle}
use Rattle.session_laws.proofs.MoveCalls.{none_wait}
use Rattle.sessions.specs.Interleave.{task_of, tasks_of}
use Rattle.sessions.specs.Tasks.{task_in}
use Rattle.sessions.specs.declared.task.Task.{Task}

-- ---- where none runs

-- the calls wait beside one another, and what is kept are their events
pub record WaitBeside (volume : VolumeView) (device : DeviceView) (words : State) (calls : Calls) : Type 0 where
  pub calls_wait : CallsWait volume device words no_residue calls
  pub kept : volume.kept ≡ events_of_all volume calls

pub weaves_beside : (volume : VolumeView) (device : DeviceView) (words : State) (calls : Calls) → AreIdle calls → volume.stopped ≡ false → volume.kept ≡ 0
    → StandsBeside volume device words no_residue → volume.marked ≡ false → WaitBeside volume device words calls
weaves_beside volume device words calls idle going none stands unmarked = record {
  calls_wait = none_wait volume device words calls idle (record { stands = stands; going = going; unmarked = unmarked; no_pointer = refl });
  kept = none ∙ sym (events_idle volume calls idle);
}

-- ---- what a session runs

-- a call, or none
pub data Runs (calls : Calls) (s : ℕ) : Type 0 where
  runs_call : (call : Call) → call_at calls s ≡ Some call → Runs calls s
  runs_none : call_at calls s ≡ None → Runs calls s

pub session_runs : (calls : Calls) (s : ℕ) → Runs calls s
session_runs calls s = elim (call_at calls s) as (λ ran. call_at calls s ≡ ran → Runs calls s) [
  | None ↦ λ none. runs_none none
  | Some call ↦ λ is. runs_call call is
] refl

abbrev pub task_of_option : Option Call → Option Task
task_of_option None = None
task_of_option (Some call) = Some (task_of call)

pub task_at : (calls : Calls) (s : ℕ) → task_in (tasks_of calls) s ≡ task_of_option (call_at calls s)
task_at [] s = refl
task_at (None ∷ calls) zero = refl
task_at (None ∷ calls) (suc s) = task_at calls s
task_at (Some call ∷ calls) zero = refl
task_at (Some call ∷ calls) (suc s) = task_at calls s

-- a task is that of a call, and where there is none there is no call
abbrev pub IsTaskAt : Calls → ℕ → Option Task → Type 0
IsTaskAt calls s None = call_at calls s ≡ None
IsTaskAt calls s (Some task) = (call : Call) × (call_at calls s ≡ Some call) × (task_of call ≡ task)

by_option : (calls : Calls) (s : ℕ) (ran : Option Call) → call_at calls s ≡ ran → IsTaskAt calls s (task_of_option ran)
by_option calls s None is = is
by_option calls s (Some call) is = (call, is, refl)

module _ (tasks : List (Option Task)) (calls : Calls) (tasks_are : tasks ≡ tasks_of calls) (s : ℕ) where
  in_tasks : task_in tasks s ≡ task_of_option (call_at calls s)
  in_tasks = ap (λ (tasks : List (Option Task)). task_in tasks s) tasks_are ∙ task_at calls s

  task_is : IsTaskAt calls s (task_in tasks s)
  task_is = subst (IsTaskAt calls s) (sym in_tasks) (by_option calls s (call_at calls s) refl)

  pub task_at_call : (task : Task) → task_in tasks s ≡ Some task → IsTaskAt calls s (Some task)
  task_at_call task is = subst (IsTaskAt calls s) is task_is

  pub no_task_at_call : task_in tasks s ≡ None → call_at calls s ≡ None
  no_task_at_call is = subst (IsTaskAt calls s) is task_is

  pub call_at_task : (call : Call) → call_at calls s ≡ Some call → task_in tasks s ≡ Some (task_of call)
  call_at_task call runs = in_tasks ∙ ap task_of_option runs

  pub no_call_at_task : call_at calls s ≡ None → task_in tasks s ≡ None
  no_call_at_task none = in_tasks ∙ ap task_of_option none

-- ---- the list of tasks

pub tasks_long : (calls : Calls) → length (tasks_of calls) ≡ length calls
tasks_long [] = refl
tasks_long (None ∷ calls) = ap suc (tasks_long calls)
tasks_long (Some call ∷ calls) = ap suc (tasks_long calls)

-- what one session runs now is set in both
pub tasks_set : (calls : Calls) (s : ℕ) (now : Option Call) → tasks_of (set calls s now) ≡ set (tasks_of calls) s (task_of_option now)
tasks_set [] s now = refl
tasks_set (None ∷ calls) zero None = refl
tasks_set (None ∷ calls) zero (Some call) = refl
tasks_set (None ∷ calls) (suc s) now = ap (λ (rest : List (Option Task)). None ∷ rest) (tasks_set calls s now)
tasks_set (Some first ∷ calls) zero None = refl
tasks_set (Some first ∷ calls) zero (Some call) = refl
tasks_set (Some first ∷ calls) (suc s) now = ap (λ (rest : List (Option Task)). Some (task_of first) ∷ rest) (tasks_set calls s now)

-- Where a session's place is empty meanwhile, the tasks are those of the other sessions' calls.
task_unset : (tasks : List (Option Task)) (s : ℕ) (task : Option Task) → task_in tasks s ≡ None → set (set tasks s task) s None ≡ tasks
task_unset [] s task none = refl
task_unset (first ∷ tasks) zero task none = ap (λ (now : Option Task). now ∷ tasks) (sym none)
task_unset (first ∷ tasks) (suc s) task none = ap (λ (rest : List (Option Task)). first ∷ rest) (task_unset tasks s task none)

pub tasks_without : (tasks : List (Option Task)) (calls : Calls) (s : ℕ) (task : Task) → set tasks s (Some task) ≡ tasks_of calls → task_in tasks s ≡ None
    → tasks ≡ tasks_of (without calls s)
tasks_without tasks calls s task are none =
    sym (task_unset tasks s (Some task) none) ∙ ap (λ (tasks : List (Option Task)). set tasks s None) are ∙ sym (tasks_set calls s None)

-- a task that is put in a place is there
pub task_put : (tasks : List (Option Task)) (s : ℕ) (task : Option Task) → s < length tasks → task_in (set tasks s task) s ≡ task
task_put [] s task within = absurd (omega (arith, within))
task_put (first ∷ tasks) zero task within = refl
task_put (first ∷ tasks) (suc s) task within = task_put tasks s task (omega (arith, within))
