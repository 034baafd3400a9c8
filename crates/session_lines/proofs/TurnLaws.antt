-- Whose turn it is, as a loop over the sessions comes to it.
use Rattle.std.proofs.Common.{◌≡◌, ℕ, zero, suc, ◌+◌, ◌-◌, ◌%◌, ◌<◌, ◌≤◌, Bool, true, false, cond, List, length, get_or, Some, nat_lt, refl, sym, ap, ◌∙◌, subst, arith}
use Rattle.std.proofs.lemmas.Bool.{lt-ltb, le-ltb}
use Rattle.script.specs.declared.session_line.SessionLine.{SessionLine}
use Rattle.session_lines.specs.Places.{left_from, AreLeft}
use Rattle.session_lines.specs.Turns.{LeftView, has_line, first_with_line, turn_from}
use Rattle.session_lines.proofs.LeftLaws.{has_line-at}

-- one session on
first_with_line-more : (left : LeftView) (count step session : ℕ) (some : Bool) → step < count → has_line left.lines (session % left.sessions) ≡ some
    → first_with_line left (count - step) session ≡ cond some (Some (session % left.sessions)) (first_with_line left (count - (step + 1)) (session + 1))
first_with_line-more left count step session some inside is =
    let more : count - step ≡ suc (count - (step + 1)) = omega (arith, inside) in
    ap (λ n. first_with_line left n session) more
    ∙ ap (λ t. cond t (Some (session % left.sessions)) (first_with_line left (count - (step + 1)) (session + 1))) is

abbrev pub left_of : ℕ → List ℕ → List SessionLine → LeftView
left_of sessions next lines = record { sessions = sessions; lines = left_from next 0 lines }

has : (lines : List SessionLine) (next : List ℕ) (sessions number place : ℕ) → AreLeft lines next → sessions ≡ length next → 0 < sessions → place ≡ get_or next (number % sessions) place
    → has_line (left_from next 0 lines) (number % sessions) ≡ nat_lt place (length lines)
has lines next sessions number place known long some is = has_line-at lines next (number % sessions) place known (omega (arith, long, some)) is

-- this session has a line left
pub turn_here : (lines : List SessionLine) (next : List ℕ) (sessions byte step place : ℕ) → AreLeft lines next → sessions ≡ length next → step < sessions
    → place ≡ get_or next ((byte + step) % sessions) place → place < length lines → (left : LeftView) → left_of sessions next lines ≡ left
    → first_with_line left (left.sessions - step) (byte + step) ≡ turn_from left byte → Some ((byte + step) % sessions) ≡ turn_from left byte
turn_here lines next sessions byte step place known long low is inside left view so_far =
    let some = has lines next sessions (byte + step) place known long (omega (arith, low)) is ∙ lt-ltb place (length lines) inside in
    let there = first_with_line-more (left_of sessions next lines) sessions step (byte + step) true low some in
    subst (λ (v : LeftView). Some ((byte + step) % sessions) ≡ first_with_line v (v.sessions - step) (byte + step)) view (sym there) ∙ so_far

-- it has none, so the next one is asked
pub turn_passed : (lines : List SessionLine) (next : List ℕ) (sessions byte step place : ℕ) → AreLeft lines next → sessions ≡ length next → step < sessions
    → place ≡ get_or next ((byte + step) % sessions) place → length lines ≤ place → (left : LeftView) → left_of sessions next lines ≡ left
    → first_with_line left (left.sessions - step) (byte + step) ≡ turn_from left byte → first_with_line left (left.sessions - (step + 1)) (byte + (step + 1)) ≡ turn_from left byte
turn_passed lines next sessions byte step place known long low is behind left view so_far =
    let none = has lines next sessions (byte + step) place known long (omega (arith, low)) is ∙ le-ltb place (length lines) behind in
    let there = first_with_line-more (left_of sessions next lines) sessions step (byte + step) false low none in
    let on : byte + (step + 1) ≡ byte + step + 1 = omega arith in
    ap (λ n. first_with_line left (left.sessions - (step + 1)) n) on
    ∙ subst (λ (v : LeftView). first_with_line v (v.sessions - (step + 1)) (byte + step + 1) ≡ first_with_line v (v.sessions - step) (byte + step)) view (sym there)
    ∙ so_far

-- the session whose turn it is has a line left
first_has : (left : LeftView) (more number session : ℕ) → first_with_line left more number ≡ Some session → has_line left.lines session ≡ true
first_has left zero number session is = cc
first_has left (suc more) number session is =
    elim (has_line left.lines (number % left.sessions)) as (λ t. has_line left.lines (number % left.sessions) ≡ t
    → cond t (Some (number % left.sessions)) (first_with_line left more (number + 1)) ≡ Some session → has_line left.lines session ≡ true) [
      | true ↦ λ has same. let own : number % left.sessions ≡ session = cc in ap (has_line left.lines) (sym own) ∙ has
      | false ↦ λ _ same. first_has left more (number + 1) session same
    ] refl is

pub turn_has : (left : LeftView) (byte session : ℕ) → turn_from left byte ≡ Some session → has_line left.lines session ≡ true
turn_has left byte session is = first_has left left.sessions byte session is
