-- Turns that calls which run may still take, where one session runs another call than before.
use Rattle.std.proofs.Common.{◌≡◌, inl, inr, ℕ, zero, suc, ◌+◌, ◌≤◌, [], ◌∷◌, set, Option, None, Some, is_some, refl, sym, ap, ◌∙◌, arith}
use Rattle.std.proofs.lemmas.Bool.{cases_eq}
use Rattle.volume.specs.Volume.{VolumeView}
use Rattle.session_laws.specs.Calls.{Call, Calls, call_at, without, fences_of_call}
use Rattle.session_laws.proofs.Lists.{call_gone, call_other}
use Rattle.sessions.specs.Interleave.{task_of, tasks_of}
use Rattle.sessions.specs.Tasks.{task_in}
use Rattle.sessions.specs.declared.task.Task.{Task}
use Rattle.schedules.specs.Borders.{turns_of_calls, turns_of_tasks}
use Rattle.schedules.proofs.Begins.{Tasks}

-- ---- of one session

abbrev pub turns_of_one : VolumeView → Option Call → ℕ
turns_of_one volume None = 0
turns_of_one volume (Some call) = 1 + fences_of_call volume call

abbrev pub turns_of_task : Option Task → ℕ
turns_of_task None = 0
turns_of_task (Some task) = 1

-- ---- the calls

turns_apart : (volume : VolumeView) (calls : Calls) (s : ℕ) → turns_of_calls volume calls ≡ turns_of_one volume (call_at calls s) + turns_of_calls volume (without calls s)
turns_apart volume [] s = refl
turns_apart volume (None ∷ calls) zero = omega arith
turns_apart volume (None ∷ calls) (suc s) = turns_apart volume calls s
turns_apart volume (Some call ∷ calls) zero = refl
turns_apart volume (Some call ∷ calls) (suc s) = let apart = turns_apart volume calls s in omega (arith, apart)

turns_first : (volume : VolumeView) (call : Option Call) (calls : Calls) → turns_of_calls volume (call ∷ calls) ≡ turns_of_one volume call + turns_of_calls volume calls
turns_first volume None calls = omega arith
turns_first volume (Some call) calls = refl

turns_same : (old new : VolumeView) (calls others : Calls) → ((s : ℕ) → turns_of_one old (call_at calls s) ≡ turns_of_one new (call_at others s))
    → turns_of_calls old calls ≡ turns_of_calls new others
turns_same old new [] [] each = refl
turns_same old new [] (other ∷ others) each =
    let here = each 0 in
    let rest = turns_same old new [] others (λ s. each (suc s)) in
    let all = turns_first new other others in
    omega (arith, here, rest, all)
turns_same old new (call ∷ calls) [] each =
    let here = each 0 in
    let rest = turns_same old new calls [] (λ s. each (suc s)) in
    let all = turns_first old call calls in
    omega (arith, here, rest, all)
turns_same old new (call ∷ calls) (other ∷ others) each =
    let here = each 0 in
    let rest = turns_same old new calls others (λ s. each (suc s)) in
    let one = turns_first old call calls in
    let all = turns_first new other others in
    omega (arith, here, rest, one, all)

-- the other sessions run the same calls, which have as many fences left
pub turns_other : (old new : VolumeView) (calls later : Calls) (session : ℕ) → ((s : ℕ) → (s ≡ session → ⊥) → call_at later s ≡ call_at calls s)
    → ((s : ℕ) (other : Call) → (s ≡ session → ⊥) → call_at calls s ≡ Some other → fences_of_call new other ≡ fences_of_call old other)
    → turns_of_calls new later + turns_of_one old (call_at calls session) ≡ turns_of_calls old calls + turns_of_one new (call_at later session)
turns_other old new calls later session others fences =
    let one = turns_apart old calls session in
    let other = turns_apart new later session in
    let same = turns_same old new (without calls session) (without later session) each in
    omega (arith, one, other, same)
  where
    stay : (s : ℕ) (ran : Option Call) → (s ≡ session → ⊥) → call_at calls s ≡ ran → turns_of_one old ran ≡ turns_of_one new ran
    stay s None apart is = refl
    stay s (Some call) apart is = ap (λ (n : ℕ). 1 + n) (sym (fences s call apart is))

    each : (s : ℕ) → turns_of_one old (call_at (without calls session) s) ≡ turns_of_one new (call_at (without later session) s)
    each s = elim (cases_eq s session) [
      | inl here ↦
          ap (λ (r : ℕ). turns_of_one old (call_at (without calls session) r)) here ∙ ap (turns_of_one old) (call_gone calls session)
          ∙ sym (ap (turns_of_one new) (call_gone later session)) ∙ sym (ap (λ (r : ℕ). turns_of_one new (call_at (without later session) r)) here)
      | inr apart ↦
          let there : session ≡ s → ⊥ = λ same. apart (sym same) in
          ap (turns_of_one old) (call_other calls session s None there) ∙ stay s (call_at calls s) apart refl
          ∙ ap (turns_of_one new) (sym (others s apart)) ∙ sym (ap (turns_of_one new) (call_other later session s None there))
    ]

-- none has a turn where none may come
pub no_turns : (volume : VolumeView) (calls : Calls) (s : ℕ) → turns_of_calls volume calls ≡ 0 → call_at calls s ≡ None
no_turns volume [] s none = refl
no_turns volume (None ∷ calls) zero none = refl
no_turns volume (None ∷ calls) (suc s) none = no_turns volume calls s none
no_turns volume (Some call ∷ calls) s none = absurd (omega (arith, none))

pub idle_turns : (volume : VolumeView) (calls : Calls) → ((s : ℕ) → call_at calls s ≡ None) → turns_of_calls volume calls ≡ 0
idle_turns volume [] idle = refl
idle_turns volume (None ∷ calls) idle = idle_turns volume calls (λ s. idle (suc s))
idle_turns volume (Some call ∷ calls) idle = let some = idle 0 in cc

-- ---- the same of what the code has

pub tasks_apart : (tasks : Tasks) (s : ℕ) → turns_of_tasks tasks ≡ turns_of_task (task_in tasks s) + turns_of_tasks (set tasks s None)
tasks_apart [] s = refl
tasks_apart (None ∷ tasks) zero = omega arith
tasks_apart (None ∷ tasks) (suc s) = tasks_apart tasks s
tasks_apart (Some task ∷ tasks) zero = refl
tasks_apart (Some task ∷ tasks) (suc s) = let apart = tasks_apart tasks s in omega (arith, apart)

pub no_tasks : (tasks : Tasks) (s : ℕ) → turns_of_tasks tasks ≡ 0 → task_in tasks s ≡ None
no_tasks [] s none = refl
no_tasks (None ∷ tasks) zero none = refl
no_tasks (None ∷ tasks) (suc s) none = no_tasks tasks s none
no_tasks (Some task ∷ tasks) s none = absurd (omega (arith, none))

-- each call has one at least
pub tasks_fewer : (volume : VolumeView) (calls : Calls) → turns_of_tasks (tasks_of calls) ≤ turns_of_calls volume calls
tasks_fewer volume [] = omega arith
tasks_fewer volume (None ∷ calls) = tasks_fewer volume calls
tasks_fewer volume (Some call ∷ calls) = let rest = tasks_fewer volume calls in omega (arith, rest)

-- ---- which task is whose

-- what the code has of what a session runs
abbrev pub as_task : Option Call → Option Task
as_task None = None
as_task (Some call) = Some (task_of call)

pub task_at : (calls : Calls) (s : ℕ) → task_in (tasks_of calls) s ≡ as_task (call_at calls s)
task_at [] s = refl
task_at (None ∷ calls) zero = refl
task_at (Some call ∷ calls) zero = refl
task_at (None ∷ calls) (suc s) = task_at calls s
task_at (Some call ∷ calls) (suc s) = task_at calls s

pub runs_task : (call : Option Call) → is_some (as_task call) ≡ is_some call
runs_task None = refl
runs_task (Some call) = refl

-- a session that has a task runs a call
pub task_runs : (call : Option Call) (task : Task) → as_task call ≡ Some task → (one : Call) × (call ≡ Some one)
task_runs None task is = cc
task_runs (Some call) task is = (call, refl)
