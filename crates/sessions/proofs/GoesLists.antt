-- The call of a session among those that run: its task, its number, and whether it is to come.
use Rattle.std.proofs.Common.{◌≡◌, inl, inr, ℕ, zero, suc, ◌+◌, ◌<◌, Bool, if◌then◌else◌, List, [], ◌∷◌, length, set, Option, None, Some}
use Rattle.std.proofs.Common.{refl, sym, ap, ◌∙◌, arith}
use Rattle.running_laws.specs.Steps.{has_committed}
use Rattle.session_laws.specs.Calls.{Call, Calls, call_at, without}
use Rattle.session_laws.proofs.Lists.{call_set}
use Rattle.sessions.specs.Interleave.{task_of, tasks_of, to_come, AreNumbered}
use Rattle.sessions.specs.Steps.{is_entered_behind}
use Rattle.sessions.specs.Tasks.{task_in}
use Rattle.sessions.specs.declared.task.Task.{Task}
use Rattle.sessions.proofs.WeavesOne.{task_at_call}

-- ---- its task

-- The task that a session has is that of the call which it runs.
pub record IsRun (calls : Calls) (s : ℕ) (task : Task) : Type 0 where
  pub call : Call
  pub runs : call_at calls s ≡ Some call
  pub task_is : task ≡ task_of call

pub run_by : (tasks : List (Option Task)) (calls : Calls) (s : ℕ) (task : Task) → tasks ≡ tasks_of calls → task_in tasks s ≡ Some task → IsRun calls s task
run_by tasks calls s task same is =
    let (call, runs, of) = task_at_call tasks calls same s task is in
    record { call = call; runs = runs; task_is = sym of }

-- ---- whether it is to come

-- one that has no entry yet
abbrev pub to_enter : Bool → ℕ
to_enter entered = if entered then 0 else 1

pub to_come_put : (calls : Calls) (s : ℕ) (call : Option Call) → s < length calls → to_come (set calls s call) ≡ to_enter (is_entered_behind call) + to_come (without calls s)
to_come_put [] s call within = absurd (omega (arith, within))
to_come_put (first ∷ calls) zero None within = omega arith
to_come_put (first ∷ calls) zero (Some call) within = refl
to_come_put (None ∷ calls) (suc s) call within = to_come_put calls s call (omega (arith, within))
to_come_put (Some first ∷ calls) (suc s) call within =
    let rest = to_come_put calls s call (omega (arith, within)) in
    omega (arith, rest)

pub to_come_at : (calls : Calls) (s : ℕ) (call : Call) → call_at calls s ≡ Some call → to_come calls ≡ to_enter (has_committed call.running) + to_come (without calls s)
to_come_at [] s call runs = absurd (let clash : ◌≡◌ {A = Option Call} None (Some call) = runs in cc)
to_come_at (None ∷ calls) zero call runs = absurd (let clash : ◌≡◌ {A = Option Call} None (Some call) = runs in cc)
to_come_at (Some first ∷ calls) zero call runs =
    let same : first ≡ call = (let is : ◌≡◌ {A = Option Call} (Some first) (Some call) = runs in cc) in
    ap (λ (one : Call). to_enter (has_committed one.running) + to_come calls) same
to_come_at (None ∷ calls) (suc s) call runs = to_come_at calls s call runs
to_come_at (Some first ∷ calls) (suc s) call runs = let rest = to_come_at calls s call runs in omega (arith, rest)

-- ---- its number

-- the call of a session before the step, with the same number
record WasThere (calls : Calls) (r : ℕ) (other : Call) : Type 0 where
  pub call : Call
  pub runs : call_at calls r ≡ Some call
  pub number : other.number ≡ call.number

-- It has the same number behind the step.
pub numbered_put : (begun : ℕ) (calls : Calls) (s : ℕ) (call : Call) (now : Option Call) → AreNumbered begun calls → call_at calls s ≡ Some call
    → ((left : Call) → now ≡ Some left → left.number ≡ call.number) → AreNumbered begun (set calls s now)
numbered_put begun calls s call now numbered runs same = record {
  least = λ r other there. let was = was_there r other there in let one = numbered.least r was.call was.runs in let equal = was.number in omega (arith, one, equal);
  most = λ r other there. let was = was_there r other there in let most = numbered.most r was.call was.runs in let equal = was.number in omega (arith, most, equal);
  own = λ r t one other here there equal.
      let was = was_there r one here in
      let too = was_there t other there in
      numbered.own r t was.call too.call was.runs too.runs (sym was.number ∙ equal ∙ too.number);
}
  where
    was_there : (r : ℕ) (other : Call) → call_at (set calls s now) r ≡ Some other → WasThere calls r other
    was_there r other there = elim (call_set calls s r now other there) [
      | inl here ↦ record { call = call; runs = ap (call_at calls) (sym here.0) ∙ runs; number = same other here.1 }
      | inr kept ↦ record { call = other; runs = kept.1; number = refl }
    ]
