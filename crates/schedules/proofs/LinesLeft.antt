-- The lines that sessions have left behind a turn.
use Rattle.std.proofs.Common.{◌≡◌, ℕ, ◌==◌, Bool, true, false, if◌then◌else◌, List, [], ◌∷◌, Option, Some, inl, inr, refl, sym, ap, ◌∙◌}
use Rattle.std.proofs.lemmas.Bool.{eqb-true, ne_eqb, or_cases, or_left, or_right}
use Rattle.tree_model.specs.Run.{Line}
use Rattle.sessions.specs.declared.entry.StepReply.{StepReply}
use Rattle.sessions.specs.declared.entry.StepReply.TheVariants.{Running, Ended}
use Rattle.schedules.specs.Turns.{left_behind}
use Rattle.session_lines.specs.Turns.{LeftView, next_line, without_next, is_change, has_change}

-- another session has the same next line
pub other_next : (lines : List (ℕ × Line)) (s r : ℕ) → (s ≡ r → ⊥) → next_line (without_next lines s) r ≡ next_line lines r
other_next [] s r apart = refl
other_next (line ∷ lines) s r apart =
    elim (line.0 == s) as (λ (t : Bool). (line.0 == s) ≡ t → next_line (if t then lines else line ∷ without_next lines s) r ≡ next_line (line ∷ lines) r) [
      | true ↦ λ is.
          let passed : (line.0 == r) ≡ false = ne_eqb line.0 r (λ same. apart (sym (eqb-true line.0 s is) ∙ same)) in
          sym (ap (λ (t : Bool). if t then Some line.1 else next_line lines r) passed)
      | false ↦ λ is. ap (λ (rest : Option Line). if line.0 == r then Some line.1 else rest) (other_next lines s r apart)
    ] refl

-- what changes among fewer lines did so before
pub change_less : (lines : List (ℕ × Line)) (s : ℕ) → has_change (without_next lines s) ≡ true → has_change lines ≡ true
change_less [] s change = change
change_less (line ∷ lines) s change =
    elim (line.0 == s) as (λ (t : Bool). has_change (if t then lines else line ∷ without_next lines s) ≡ true → has_change (line ∷ lines) ≡ true) [
      | true ↦ λ rest. or_right (is_change line.1) (has_change lines) rest
      | false ↦ λ either. elim (or_cases (is_change line.1) (has_change (without_next lines s)) either) [
        | inl first ↦ or_left (is_change line.1) (has_change lines) first
        | inr rest ↦ or_right (is_change line.1) (has_change lines) (change_less lines s rest)
      ]
    ] change

-- a session's next line is one of them
pub next_change : (lines : List (ℕ × Line)) (s : ℕ) (line : Line) → next_line lines s ≡ Some line → is_change line ≡ true → has_change lines ≡ true
next_change [] s line next change = cc
next_change (first ∷ lines) s line next change =
    elim (first.0 == s) as (λ (t : Bool). (if t then Some first.1 else next_line lines s) ≡ Some line → has_change (first ∷ lines) ≡ true) [
      | true ↦ λ found. let same : first.1 ≡ line = cc in or_left (is_change first.1) (has_change lines) (ap is_change same ∙ change)
      | false ↦ λ found. or_right (is_change first.1) (has_change lines) (next_change lines s line found change)
    ] next

-- ---- behind a turn

pub sessions_behind : (left : LeftView) (session : ℕ) (reply : StepReply) → (left_behind left session reply).sessions ≡ left.sessions
sessions_behind left session (Running number) = refl
sessions_behind left session (Ended number reply) = refl

pub next_behind : (left : LeftView) (session s : ℕ) (reply : StepReply) → (session ≡ s → ⊥) → next_line (left_behind left session reply).lines s ≡ next_line left.lines s
next_behind left session s (Running number) apart = refl
next_behind left session s (Ended number reply) apart = other_next left.lines session s apart

pub change_behind : (left : LeftView) (session : ℕ) (reply : StepReply) → has_change (left_behind left session reply).lines ≡ true → has_change left.lines ≡ true
change_behind left session (Running number) change = change
change_behind left session (Ended number reply) change = change_less left.lines session change
