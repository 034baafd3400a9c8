-- Lines that have not begun: which of them a step of a session leaves.
use Rattle.std.proofs.Common.{◌≡◌, ℕ, zero, suc, ◌+◌, ◌==◌, ◌≤◌, Bool, true, false, if◌then◌else◌, List, [], ◌∷◌, set, length, Option, None, Some, is_some, inl, inr, refl, sym, ap, ◌∙◌, arith}
use Rattle.std.proofs.lemmas.Bool.{eqb-true, eqb-false, cases_eq}
use Rattle.tree_model.specs.Run.{Line}
use Rattle.session_lines.specs.Turns.{LeftView, next_line, without_next}
use Rattle.sessions.specs.Tasks.{task_in}
use Rattle.sessions.specs.declared.task.Task.{Task}
use Rattle.sessions.specs.declared.entry.StepReply.{StepReply}
use Rattle.sessions.specs.declared.entry.StepReply.TheVariants.{Running, Ended}
use Rattle.schedules.specs.Borders.{to_begin}
use Rattle.schedules.specs.Turns.{left_behind}

abbrev pub Tasks : Type 0
Tasks = List (Option Task)

-- ---- what a session runs

pub task_other : (tasks : Tasks) (s r : ℕ) (now : Option Task) → (s ≡ r → ⊥) → task_in (set tasks s now) r ≡ task_in tasks r
task_other [] s r now other = refl
task_other (first ∷ tasks) zero zero now other = absurd (other refl)
task_other (first ∷ tasks) zero (suc r) now other = refl
task_other (first ∷ tasks) (suc s) zero now other = refl
task_other (first ∷ tasks) (suc s) (suc r) now other = task_other tasks s r now (λ same. other (ap suc same))

pub task_gone : (tasks : Tasks) (s : ℕ) → task_in (set tasks s None) s ≡ None
task_gone [] s = refl
task_gone (first ∷ tasks) zero = refl
task_gone (first ∷ tasks) (suc s) = task_gone tasks s

both_gone : (tasks : Tasks) (s r : ℕ) → set (set tasks s None) r None ≡ set (set tasks r None) s None
both_gone [] s r = refl
both_gone (first ∷ tasks) zero zero = refl
both_gone (first ∷ tasks) zero (suc r) = refl
both_gone (first ∷ tasks) (suc s) zero = refl
both_gone (first ∷ tasks) (suc s) (suc r) = ap (λ (rest : Tasks). first ∷ rest) (both_gone tasks s r)

-- the same sessions run a call
abbrev pub RunSame : Tasks → Tasks → Type 0
RunSame one other = (s : ℕ) → is_some (task_in one s) ≡ is_some (task_in other s)

-- and so they do where one has ended
pub gone_same : (one other : Tasks) (s : ℕ) → ((r : ℕ) → (s ≡ r → ⊥) → is_some (task_in one r) ≡ is_some (task_in other r)) → RunSame (set one s None) (set other s None)
gone_same one other s same r = elim (cases_eq s r) [
  | inl is ↦ ap (λ (x : ℕ). is_some (task_in (set one s None) x)) (sym is) ∙ ap is_some (task_gone one s) ∙ sym (ap is_some (task_gone other s)) ∙ ap (λ (x : ℕ). is_some (task_in (set other s None) x)) is
  | inr apart ↦ ap is_some (task_other one s r None apart) ∙ same r apart ∙ sym (ap is_some (task_other other s r None apart))
]

-- one that ran none runs none
pub gone_none : (tasks : Tasks) (s : ℕ) → is_some (task_in tasks s) ≡ false → RunSame (set tasks s None) tasks
gone_none tasks s none r = elim (cases_eq s r) [
  | inl is ↦ ap (λ (x : ℕ). is_some (task_in (set tasks s None) x)) (sym is) ∙ ap is_some (task_gone tasks s) ∙ sym none ∙ ap (λ (x : ℕ). is_some (task_in tasks x)) is
  | inr apart ↦ ap is_some (task_other tasks s r None apart)
]

-- ---- of lines with the next one of a session

by_test : (t u : Bool) (x y v w : ℕ) → t ≡ u → x ≡ v → y ≡ w → (if t then x else 1 + y) ≡ (if u then v else 1 + w)
by_test t u x y v w test there here = cc

pub begins_same : (one other : Tasks) (lines : List (ℕ × Line)) → RunSame one other → to_begin one lines ≡ to_begin other lines
begins_same one other [] same = refl
begins_same one other (line ∷ lines) same =
    by_test (is_some (task_in one line.0)) (is_some (task_in other line.0)) _ _ _ _ (same line.0)
    (begins_same (set one line.0 None) (set other line.0 None) lines (gone_same one other line.0 (λ r apart. same r)))
    (begins_same one other lines same)

-- that of the session is the first,
ends_first : (tasks : Tasks) (line : ℕ × Line) (lines : List (ℕ × Line)) (s : ℕ) → line.0 ≡ s → is_some (task_in tasks s) ≡ true
    → to_begin tasks (line ∷ lines) ≡ to_begin (set tasks s None) lines
ends_first tasks line lines s is runs =
    ap (λ (t : Bool). if t then to_begin (set tasks line.0 None) lines else 1 + to_begin tasks lines) (ap (λ (r : ℕ). is_some (task_in tasks r)) is ∙ runs)
    ∙ ap (λ (r : ℕ). to_begin (set tasks r None) lines) is

-- or another
ends_later : (tasks : Tasks) (line : ℕ × Line) (lines later : List (ℕ × Line)) (s : ℕ) → (line.0 ≡ s → ⊥)
    → to_begin (set tasks line.0 None) lines ≡ to_begin (set (set tasks line.0 None) s None) later
    → to_begin tasks lines ≡ to_begin (set tasks s None) later
    → to_begin tasks (line ∷ lines) ≡ to_begin (set tasks s None) (line ∷ later)
ends_later tasks line lines later s apart there here =
    by_test (is_some (task_in tasks line.0)) (is_some (task_in (set tasks s None) line.0)) _ _ _ _
    (ap is_some (sym (task_other tasks s line.0 None (λ same. apart (sym same)))))
    (there ∙ ap (λ (rest : Tasks). to_begin rest later) (both_gone tasks line.0 s)) here

-- The line of a call that has ended had begun.
pub ends_line : (tasks : Tasks) (lines : List (ℕ × Line)) (s : ℕ) (line : Line) → next_line lines s ≡ Some line → is_some (task_in tasks s) ≡ true
    → to_begin tasks lines ≡ to_begin (set tasks s None) (without_next lines s)
ends_line tasks [] s line next runs = cc
ends_line tasks (first ∷ lines) s line next runs =
    elim (first.0 == s) as (λ (t : Bool). (first.0 == s) ≡ t → (if t then Some first.1 else next_line lines s) ≡ Some line
    → to_begin tasks (first ∷ lines) ≡ to_begin (set tasks s None) (if t then lines else first ∷ without_next lines s)) [
      | true ↦ λ is found. ends_first tasks first lines s (eqb-true first.0 s is) runs
      | false ↦ λ is found.
          let apart = eqb-false first.0 s is in
          ends_later tasks first lines (without_next lines s) s apart
          (ends_line (set tasks first.0 None) lines s line found (ap is_some (task_other tasks first.0 s None apart) ∙ runs))
          (ends_line tasks lines s line found runs)
    ] refl next

-- one line fewer on either side
less_by_test : (t : Bool) (x y v w : ℕ) → x ≡ 1 + v → y ≡ 1 + w → (if t then x else 1 + y) ≡ 1 + (if t then v else 1 + w)
less_by_test true x y v w there here = there
less_by_test false x y v w there here = ap (λ (n : ℕ). 1 + n) here

begins_first : (tasks : Tasks) (line : ℕ × Line) (lines : List (ℕ × Line)) (s : ℕ) → line.0 ≡ s → is_some (task_in tasks s) ≡ false
    → to_begin tasks (line ∷ lines) ≡ 1 + to_begin tasks lines
begins_first tasks line lines s is none =
    ap (λ (t : Bool). if t then to_begin (set tasks line.0 None) lines else 1 + to_begin tasks lines) (ap (λ (r : ℕ). is_some (task_in tasks r)) is ∙ none)

-- That of a session which runs no call had not.
pub begins_line : (tasks : Tasks) (lines : List (ℕ × Line)) (s : ℕ) (line : Line) → next_line lines s ≡ Some line → is_some (task_in tasks s) ≡ false
    → to_begin tasks lines ≡ 1 + to_begin tasks (without_next lines s)
begins_line tasks [] s line next none = cc
begins_line tasks (first ∷ lines) s line next none =
    elim (first.0 == s) as (λ (t : Bool). (first.0 == s) ≡ t → (if t then Some first.1 else next_line lines s) ≡ Some line
    → to_begin tasks (first ∷ lines) ≡ 1 + to_begin tasks (if t then lines else first ∷ without_next lines s)) [
      | true ↦ λ is found. begins_first tasks first lines s (eqb-true first.0 s is) none
      | false ↦ λ is found.
          let apart = eqb-false first.0 s is in
          less_by_test (is_some (task_in tasks first.0)) _ _ _ _
          (begins_line (set tasks first.0 None) lines s line found (ap is_some (task_other tasks first.0 s None apart) ∙ none))
          (begins_line tasks lines s line found none)
    ] refl next

-- ---- few and none

pub begins_few : (tasks : Tasks) (lines : List (ℕ × Line)) → to_begin tasks lines ≤ length lines
begins_few tasks [] = omega arith
begins_few tasks (line ∷ lines) =
    let there = begins_few (set tasks line.0 None) lines in
    let here = begins_few tasks lines in
    elim (is_some (task_in tasks line.0)) as (λ (t : Bool). (if t then to_begin (set tasks line.0 None) lines else 1 + to_begin tasks lines) ≤ length (line ∷ lines)) [
      | true ↦ omega (arith, there)
      | false ↦ omega (arith, here)
    ]

-- where no session runs a call, each line is to begin
pub begins_none : (tasks : Tasks) (lines : List (ℕ × Line)) → ((s : ℕ) → task_in tasks s ≡ None) → to_begin tasks lines ≡ 0 → lines ≡ []
begins_none tasks [] idle none = refl
begins_none tasks (line ∷ lines) idle none =
    let one : 1 + to_begin tasks lines ≡ 0 = ap (λ (t : Option Task). if is_some t then to_begin (set tasks line.0 None) lines else 1 + to_begin tasks lines) (sym (idle line.0)) ∙ none in
    absurd (omega (arith, one))

-- ---- what a turn leaves

-- the call goes on
abbrev pub runs_on : StepReply → Bool
runs_on (Running number) = true
runs_on (Ended number reply) = false

-- where none ran one begins
abbrev pub begins_of : Bool → ℕ
begins_of true = 0
begins_of false = 1

module _ (old new : Tasks) (left : LeftView) (s : ℕ) (line : Line) (next : next_line left.lines s ≡ Some line)
    (others : (r : ℕ) → (s ≡ r → ⊥) → is_some (task_in new r) ≡ is_some (task_in old r)) where
  same_at : is_some (task_in new s) ≡ is_some (task_in old s) → RunSame new old
  same_at here r = elim (cases_eq s r) [
    | inl is ↦ ap (λ (x : ℕ). is_some (task_in new x)) (sym is) ∙ here ∙ ap (λ (x : ℕ). is_some (task_in old x)) is
    | inr apart ↦ others r apart
  ]

  ended_at : is_some (task_in new s) ≡ false → RunSame new (set old s None)
  ended_at ended r = elim (cases_eq s r) [
    | inl is ↦ ap (λ (x : ℕ). is_some (task_in new x)) (sym is) ∙ ended ∙ sym (ap is_some (task_gone old s)) ∙ ap (λ (x : ℕ). is_some (task_in (set old s None) x)) is
    | inr apart ↦ others r apart ∙ sym (ap is_some (task_other old s r None apart))
  ]

  -- Where a call begins, its line is to begin no more.
  pub begins_behind : (ran : Bool) (reply : StepReply) → is_some (task_in old s) ≡ ran → is_some (task_in new s) ≡ runs_on reply
      → to_begin old left.lines ≡ begins_of ran + to_begin new (left_behind left s reply).lines
  begins_behind true (Running number) ran runs =
      let same = begins_same new old left.lines (same_at (runs ∙ sym ran)) in
      omega (arith, same)
  begins_behind true (Ended number reply) ran ended =
      let less = ends_line old left.lines s line next ran in
      let same = begins_same new (set old s None) (without_next left.lines s) (ended_at ended) in
      omega (arith, less, same)
  begins_behind false (Running number) none runs =
      let less = begins_line old left.lines s line next none in
      let more = ends_line new left.lines s line next runs in
      let same = begins_same (set new s None) old (without_next left.lines s) (λ r. gone_same new old s others r ∙ gone_none old s none r) in
      omega (arith, less, more, same)
  begins_behind false (Ended number reply) none ended =
      let less = begins_line old left.lines s line next none in
      let same = begins_same new old (without_next left.lines s) (same_at (ended ∙ sym none)) in
      omega (arith, less, same)
