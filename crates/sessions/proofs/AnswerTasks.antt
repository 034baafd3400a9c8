-- What a session runs in the list of tasks: its place read, emptied, and filled again.
use Rattle.std.proofs.Common.{◌≡◌, ℕ, zero, suc, ◌<◌, true, false, List, [], ◌∷◌, length, set, get_or, Option, Some, None, refl, sym, ap, subst, ◌∙◌, arith}
use Rattle.pm_trait.specs.DeviceView.{DeviceView}
use Rattle.tree_model.specs.Run.{State, Line}
use Rattle.session_laws.specs.Calls.{Calls, call_at}
use Rattle.sessions.specs.Interleave.{InterleaveView, tasks_of, with_task}
use Rattle.sessions.specs.Steps.{IsAsked, MayStep, Steps, IsStopped}
use Rattle.sessions.specs.Tasks.{task_in}
use Rattle.sessions.specs.declared.entry.StepReply.{StepReply}
use Rattle.sessions.specs.declared.task.Task.{Task}

-- where no task is, no call runs
pub idle_call : (calls : Calls) (s : ℕ) → task_in (tasks_of calls) s ≡ None → call_at calls s ≡ None
idle_call [] s idle = refl
idle_call (None ∷ calls) zero idle = refl
idle_call (Some call ∷ calls) zero idle = cc
idle_call (None ∷ calls) (suc s) idle = idle_call calls s idle
idle_call (Some call ∷ calls) (suc s) idle = idle_call calls s idle

pub task_read : (tasks : List (Option Task)) (s : ℕ) (found : Option Task) → s < length tasks → found ≡ get_or tasks s found → task_in tasks s ≡ found
task_read [] s found within is = absurd (omega (arith, within))
task_read (task ∷ tasks) zero found within is = sym is
task_read (task ∷ tasks) (suc s) found within is = task_read tasks s found (omega (arith, within)) is

pub task_gone : (tasks : List (Option Task)) (s : ℕ) → task_in (set tasks s None) s ≡ None
task_gone [] s = refl
task_gone (task ∷ tasks) zero = refl
task_gone (task ∷ tasks) (suc s) = task_gone tasks s

pub task_stays : (tasks : List (Option Task)) (s : ℕ) → task_in tasks s ≡ None → set tasks s None ≡ tasks
task_stays [] s none = refl
task_stays (task ∷ tasks) zero none = ap (λ (t : Option Task). t ∷ tasks) (sym none)
task_stays (task ∷ tasks) (suc s) none = ap (λ (rest : List (Option Task)). task ∷ rest) (task_stays tasks s none)

pub task_again : (tasks : List (Option Task)) (s : ℕ) (meanwhile : Option Task) (task : Task) → task_in tasks s ≡ Some task → set (set tasks s meanwhile) s (Some task) ≡ tasks
task_again [] s meanwhile task runs = cc
task_again (first ∷ tasks) zero meanwhile task runs = ap (λ (t : Option Task). t ∷ tasks) (sym runs)
task_again (first ∷ tasks) (suc s) meanwhile task runs = ap (λ (rest : List (Option Task)). first ∷ rest) (task_again tasks s meanwhile task runs)

-- ---- the same of sessions, whose place was found so and emptied

module _ (weave now : InterleaveView) (same : weave ≡ now) (s : ℕ) (found meanwhile : Option Task) (within : s < length now.tasks) (read : found ≡ get_or weave.tasks s found)
    (empty : meanwhile ≡ None) where
  pub found_task : task_in weave.tasks s ≡ found
  found_task = let long = ap (λ (w : InterleaveView). length w.tasks) same in task_read weave.tasks s found (omega (arith, within, long)) read

  pub emptied : task_in (set weave.tasks s meanwhile) s ≡ None
  emptied = ap (λ (t : Option Task). task_in (set weave.tasks s t) s) empty ∙ task_gone weave.tasks s

  pub emptied_same : found ≡ None → (record weave { tasks = set weave.tasks s meanwhile }) ≡ now
  emptied_same none =
      ap (λ (t : Option Task). record weave { tasks = set weave.tasks s t }) empty
      ∙ ap (λ (tasks : List (Option Task)). record weave { tasks = tasks }) (task_stays weave.tasks s (found_task ∙ none)) ∙ same

  pub filled_same : (task : Task) → found ≡ Some task → with_task (record weave { tasks = set weave.tasks s meanwhile }) s task ≡ now
  filled_same task some = ap (λ (tasks : List (Option Task)). record weave { tasks = tasks }) (task_again weave.tasks s meanwhile task (found_task ∙ some)) ∙ same

  pub found_now : task_in now.tasks s ≡ found
  found_now = ap (λ (w : InterleaveView). task_in w.tasks s) (sym same) ∙ found_task

  pub few_begun : (most : ℕ) → found ≡ None → (task_in now.tasks s ≡ None → now.begun < most) → weave.begun < most
  few_begun most none few = let begun = few (found_now ∙ none) in let is = ap (λ (w : InterleaveView). w.begun) same in omega (arith, begun, is)

-- ---- and so what its step is asked and does

pub stops_same : (one now : InterleaveView) → one ≡ now → (session : ℕ) (new : InterleaveView) (reply : StepReply) (more : Type 0)
    → (one.volume.stopped ≡ true → IsStopped one new session reply × more) → now.volume.stopped ≡ true → IsStopped now new session reply × more
stops_same one now same session new reply more stops = subst (λ (w : InterleaveView). w.volume.stopped ≡ true → IsStopped w new session reply × more) same stops

module _ (one now : InterleaveView) (same : one ≡ now) (session : ℕ) (line : Line) where
  pub asked_same : (device : DeviceView) → (now.volume.stopped ≡ false → IsAsked now device session line) → one.volume.stopped ≡ false → IsAsked one device session line
  asked_same device asked = subst (λ (w : InterleaveView). w.volume.stopped ≡ false → IsAsked w device session line) (sym same) asked

  pub steps_same : (new : InterleaveView) (before after : DeviceView) (reply : StepReply)
      → ((calls : Calls) (history : State) → one.volume.stopped ≡ false → MayStep one before calls history session line → Steps one new before after calls history session line reply)
      → (calls : Calls) (history : State) → now.volume.stopped ≡ false → MayStep now before calls history session line
      → Steps now new before after calls history session line reply
  steps_same new before after reply steps = subst
      (λ (w : InterleaveView). (calls : Calls) (history : State) → w.volume.stopped ≡ false → MayStep w before calls history session line
      → Steps w new before after calls history session line reply)
      same steps
