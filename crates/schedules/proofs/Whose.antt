-- Whose turn it is: that of a session with a line, unless none is left.
use Rattle.std.proofs.Common.{◌≡◌, ℕ, zero, suc, ◌+◌, ◌-◌, ◌*◌, ◌/◌, ◌%◌, ◌==◌, ◌<◌, Bool, true, false, if◌then◌else◌, List, [], ◌∷◌, Option, None, Some, is_some, inl, inr, refl, sym, ap, subst, ◌∙◌, arith}
use Rattle.std.proofs.lemmas.Bool.{eq-eqb, cases_lt}
use Rattle.std.proofs.lemmas.Nat.{div-add-mod', mod-mul-add, mod_below}
use Rattle.tree_model.specs.Run.{Line}
use Rattle.session_lines.specs.Turns.{LeftView, next_line, without_next, has_line, first_with_line, turn_from}
use Rattle.sessions.specs.declared.entry.StepReply.{StepReply}
use Rattle.sessions.specs.declared.entry.StepReply.TheVariants.{Running, Ended}
use Rattle.schedules.specs.Borders.{AreOfSessions}
use Rattle.schedules.specs.Turns.{left_behind}

-- It has a line, and is one of them.
pub record HasTurn (left : LeftView) (session : ℕ) : Type 0 where
  pub below : session < left.sessions
  pub some : has_line left.lines session ≡ true

first_has : (left : LeftView) (more start session : ℕ) → 0 < left.sessions → first_with_line left more start ≡ Some session → HasTurn left session
first_has left zero start session some first = cc
first_has left (suc more) start session some first =
    elim (has_line left.lines (start % left.sessions)) as (λ (t : Bool). has_line left.lines (start % left.sessions) ≡ t
    → (if t then Some (start % left.sessions) else first_with_line left more (start + 1)) ≡ Some session → HasTurn left session) [
      | true ↦ λ is found.
          let same : start % left.sessions ≡ session = cc in
          subst (HasTurn left) same (record { below = mod_below start left.sessions some; some = is })
      | false ↦ λ is found. first_has left more (start + 1) session some found
    ] refl first

turn_has : (left : LeftView) (start session : ℕ) → 0 < left.sessions → turn_from left start ≡ Some session → HasTurn left session
turn_has left start session some turn = first_has left left.sessions start session some turn

-- ---- none is left

first_none : (left : LeftView) (more start k : ℕ) → first_with_line left more start ≡ None → k < more → has_line left.lines ((start + k) % left.sessions) ≡ false
first_none left zero start k none below = absurd (omega (arith, below))
first_none left (suc more) start zero none below =
    let here : has_line left.lines (start % left.sessions) ≡ false =
    elim (has_line left.lines (start % left.sessions)) as (λ (t : Bool). (if t then Some (start % left.sessions) else first_with_line left more (start + 1)) ≡ None → t ≡ false) [
      | true ↦ λ found. cc
      | false ↦ λ found. refl
    ] none in
    let same : start ≡ start + 0 = omega arith in
    subst (λ (n : ℕ). has_line left.lines (n % left.sessions) ≡ false) same here
first_none left (suc more) start (suc k) none below =
    let later : first_with_line left more (start + 1) ≡ None =
    elim (has_line left.lines (start % left.sessions)) as (λ (t : Bool). (if t then Some (start % left.sessions) else first_with_line left more (start + 1)) ≡ None
    → first_with_line left more (start + 1) ≡ None) [ true ↦ λ found. cc | false ↦ λ found. found ] none in
    let same : start + 1 + k ≡ start + suc k = omega arith in
    subst (λ (n : ℕ). has_line left.lines (n % left.sessions) ≡ false) same (first_none left more (start + 1) k later (omega (arith, below)))

-- each session comes round from each number
pub record ComesRound (sessions start session : ℕ) : Type 0 where
  pub after : ℕ
  pub below : after < sessions
  pub there : (start + after) % sessions ≡ session

reaches : (sessions start session : ℕ) → session < sessions → ComesRound sessions start session
reaches sessions start session few =
    let round = div-add-mod' start sessions in
    let own = mod_below start sessions (omega (arith, few)) in
    elim (cases_lt session (start % sessions)) [
      | inl before ↦
          let same : (start / sessions + 1) * sessions + session ≡ start + (sessions - start % sessions + session) = omega (arith, round, own, before) in
          record {
            after = sessions - start % sessions + session;
            below = omega (arith, own, before);
            there = ap (λ (n : ℕ). n % sessions) (sym same) ∙ mod-mul-add (start / sessions + 1) sessions session few;
          }
      | inr behind ↦
          let same : start / sessions * sessions + session ≡ start + (session - start % sessions) = omega (arith, round, own, behind) in
          record {
            after = session - start % sessions;
            below = omega (arith, own, behind, few);
            there = ap (λ (n : ℕ). n % sessions) (sym same) ∙ mod-mul-add (start / sessions) sessions session few;
          }
    ]

first_line : (line : ℕ × Line) (lines : List (ℕ × Line)) → has_line (line ∷ lines) line.0 ≡ true
first_line line lines = ap (λ (t : Bool). is_some (if t then Some line.1 else next_line lines line.0)) (eq-eqb line.0 line.0 refl)

none_of : (left : LeftView) (lines : List (ℕ × Line)) (start : ℕ) → left.lines ≡ lines → AreOfSessions left.sessions lines → turn_from left start ≡ None → lines ≡ []
none_of left [] start is of none = refl
none_of left (line ∷ lines) start is of none =
    let there = reaches left.sessions start line.0 of.0 in
    let no = first_none left left.sessions start there.after none there.below in
    let here : has_line left.lines line.0 ≡ false = ap (has_line left.lines) (sym there.there) ∙ no in
    let one : has_line left.lines line.0 ≡ true = ap (λ (all : List (ℕ × Line)). has_line all line.0) is ∙ first_line line lines in
    cc

turn_none : (left : LeftView) (start : ℕ) → AreOfSessions left.sessions left.lines → turn_from left start ≡ None → left.lines ≡ []
turn_none left start of none = none_of left left.lines start refl of none

-- ---- of what the code found

module _ (left : LeftView) (start : ℕ) (found : Option ℕ) (is : found ≡ turn_from left start) where
  pub found_has : (session : ℕ) → 0 < left.sessions → found ≡ Some session → HasTurn left session
  found_has session some here = turn_has left start session some (sym is ∙ here)

  pub found_none : AreOfSessions left.sessions left.lines → found ≡ None → left.lines ≡ []
  found_none of none = turn_none left start of (sym is ∙ none)

  pub found_turn : (session : ℕ) → found ≡ Some session → turn_from left start ≡ Some session
  found_turn session here = sym is ∙ here

-- ---- fewer lines

pub without_of : (sessions : ℕ) (lines : List (ℕ × Line)) (s : ℕ) → AreOfSessions sessions lines → AreOfSessions sessions (without_next lines s)
without_of sessions [] s of = tt
without_of sessions (line ∷ lines) s of =
    elim (line.0 == s) as (λ (t : Bool). AreOfSessions sessions (if t then lines else line ∷ without_next lines s)) [
      | true ↦ of.1
      | false ↦ (of.0, without_of sessions lines s of.1)
    ]

pub behind_of : (left : LeftView) (session : ℕ) (reply : StepReply) → AreOfSessions left.sessions left.lines
    → AreOfSessions (left_behind left session reply).sessions (left_behind left session reply).lines
behind_of left session (Running number) of = of
behind_of left session (Ended number reply) of = without_of left.sessions left.lines session of
