-- The running calls as a list by sessions: what a session runs is what the code reads there, and what all hold is counted one by one.
use Rattle.std.proofs.Common.{◌≡◌, ℕ, zero, suc, ◌+◌, ◌^◌, ◌<◌, ◌≤◌, List, [], ◌∷◌, length, get_or, take, Option, None, Some, refl, sym, ap, subst, ◌∙◌, arith, add-one}
use Rattle.std.proofs.lemmas.List.{take_all}
use Rattle.volume.specs.declared.next.Held.{Held}
use Rattle.running_calls.specs.Stages.{held_of}
use Rattle.sessions.specs.Tasks.{task_in, add_held, held_by_all, HoldFew}
use Rattle.sessions.specs.declared.task.Task.{Task}

-- ---- what a session runs

pub task_at : (tasks : List (Option Task)) (s : ℕ) (default : Option Task) → s < length tasks → task_in tasks s ≡ get_or tasks s default
task_at [] s default below = absurd (omega (arith, below))
task_at (task ∷ tasks) zero default below = refl
task_at (task ∷ tasks) (suc s) default below = task_at tasks s default (omega (arith, below))

-- by the code, which has read it from such a list
pub task_read : {tasks read : List (Option Task)} {s : ℕ} {item task : Option Task} → read ≡ tasks → s < length read → item ≡ get_or read s item → item ≡ task
    → task_in tasks s ≡ task
task_read {read = read} {s = s} {item = item} same below at is = ap (λ (list : List (Option Task)). task_in list s) (sym same) ∙ task_at read s item below ∙ sym at ∙ is

-- a session that runs a call is one of them
pub task_below : (tasks : List (Option Task)) (s : ℕ) (task : Task) → task_in tasks s ≡ Some task → s < length tasks
task_below [] s task runs = absurd (let no : None ≡ Some task = runs in cc)
task_below (first ∷ tasks) zero task runs = omega arith
task_below (first ∷ tasks) (suc s) task runs = let below = task_below tasks s task runs in omega (arith, below)

-- ---- what they hold

abbrev pub held_by_one : Option Task → Held
held_by_one None = record { inodes = 0; pages = 0 }
held_by_one (Some task) = held_of task.running

-- the one and the others
pub record AddUp (before one all : Held) : Type 0 where
  pub inodes : all.inodes ≡ before.inodes + one.inodes
  pub pages : all.pages ≡ before.pages + one.pages

held_first : (task : Option Task) (tasks : List (Option Task)) → AddUp (held_by_one task) (held_by_all tasks) (held_by_all (task ∷ tasks))
held_first None tasks = record { inodes = omega arith; pages = omega arith }
held_first (Some task) tasks = record { inodes = refl; pages = refl }

held_more : (tasks : List (Option Task)) (s : ℕ) → AddUp (held_by_all (take s tasks)) (held_by_one (task_in tasks s)) (held_by_all (take (suc s) tasks))
held_more [] zero = record { inodes = refl; pages = refl }
held_more [] (suc s) = record { inodes = refl; pages = refl }
held_more (task ∷ tasks) zero = let first = held_first task [] in record { inodes = omega (arith, first); pages = omega (arith, first) }
held_more (task ∷ tasks) (suc s) =
    let later = held_more tasks s in
    let before = held_first task (take s tasks) in
    let all = held_first task (take (suc s) tasks) in
    record { inodes = omega (arith, later, before, all); pages = omega (arith, later, before, all) }

-- the first ones hold no more than all
pub record IsWithin (some all : Held) : Type 0 where
  pub inodes : some.inodes ≤ all.inodes
  pub pages : some.pages ≤ all.pages

held_within : (tasks : List (Option Task)) (s : ℕ) → IsWithin (held_by_all (take s tasks)) (held_by_all tasks)
held_within [] zero = record { inodes = omega arith; pages = omega arith }
held_within [] (suc s) = record { inodes = omega arith; pages = omega arith }
held_within (task ∷ tasks) zero = record { inodes = omega arith; pages = omega arith }
held_within (task ∷ tasks) (suc s) =
    let later = held_within tasks s in
    let before = held_first task (take s tasks) in
    let all = held_first task tasks in
    record { inodes = omega (arith, later, before, all); pages = omega (arith, later, before, all) }

-- ---- counted one by one

-- so much is held by the first ones
pub record IsCountedTo (tasks : List (Option Task)) (s : ℕ) (held : Held) : Type 0 where
  pub inodes : held.inodes ≡ (held_by_all (take s tasks)).inodes
  pub pages : held.pages ≡ (held_by_all (take s tasks)).pages

pub counted_none : (tasks : List (Option Task)) (s : ℕ) (held : Held) → IsCountedTo tasks s held → task_in tasks s ≡ None → IsCountedTo tasks (s + 1) held
counted_none tasks s held before none =
    let more = subst (λ (task : Option Task). AddUp (held_by_all (take s tasks)) (held_by_one task) (held_by_all (take (suc s) tasks))) none (held_more tasks s) in
    rw add-one (record { inodes = omega (arith, before, more); pages = omega (arith, before, more) })

pub counted_one : (tasks : List (Option Task)) (s : ℕ) (held : Held) (task : Task) → IsCountedTo tasks s held → task_in tasks s ≡ Some task
    → IsCountedTo tasks (s + 1) (add_held held (held_of task.running))
counted_one tasks s held task before runs =
    let more = subst (λ (task : Option Task). AddUp (held_by_all (take s tasks)) (held_by_one task) (held_by_all (take (suc s) tasks))) runs (held_more tasks s) in
    rw add-one (record { inodes = omega (arith, before, more); pages = omega (arith, before, more) })

-- with one more they are few still
pub counted_few : (tasks : List (Option Task)) (s : ℕ) (held more : Held) (task : Task) → IsCountedTo tasks s held → HoldFew tasks → task_in tasks s ≡ Some task
    → more ≡ held_of task.running → (held.inodes + more.inodes < 2 ^ 62) × (held.pages + more.pages < 2 ^ 62)
counted_few tasks s held more task before few runs is =
    let counted = subst (λ (more : Held). IsCountedTo tasks (s + 1) (add_held held more)) (sym is) (counted_one tasks s held task before runs) in
    let within = held_within tasks (s + 1) in
    (omega (arith, counted, few, within), omega (arith, counted, few, within))

pub counted_all : (tasks : List (Option Task)) (s : ℕ) (held : Held) → IsCountedTo tasks s held → length tasks ≤ s → held ≡ held_by_all tasks
counted_all tasks s held counted end =
    let all = ap held_by_all (take_all s tasks end) in
    let inodes = counted.inodes ∙ ap (λ (held : Held). held.inodes) all in
    let pages = counted.pages ∙ ap (λ (held : Held). held.pages) all in
    ap (λ (n : ℕ). record { inodes = n; pages = held.pages }) inodes ∙ ap (λ (n : ℕ). record { inodes = (held_by_all tasks).inodes; pages = n }) pages
