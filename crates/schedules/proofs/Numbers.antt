-- The numbers of calls that made steps, and their lines.
use Rattle.std.proofs.Common.{◌≡◌, ℕ, ◌<◌, ◌≤◌, List, [], ◌∷◌, ◌++◌, ap, ◌∙◌, arith}
use Rattle.std.specs.Prelude.{Bool, if◌then◌else◌}
use Rattle.std.proofs.lemmas.Bool.{eq-eqb, ne_eqb}
use Rattle.schedules.specs.Turns.{Turn}
use Rattle.schedules.specs.Entries.{number_of, line_of}

-- each is below this
abbrev pub AreBelow : ℕ → List Turn → Type 0
AreBelow number [] = Unit {0}
AreBelow number (turn ∷ turns) = (number_of turn.reply < number) × AreBelow number turns

pub below_more : (old new : ℕ) (turns : List Turn) (turn : Turn) → AreBelow old turns → old ≤ new → number_of turn.reply < new → AreBelow new (turns ++ turn ∷ [])
below_more old new [] turn below grown last = (last, tt)
below_more old new (first ∷ turns) turn below grown last =
    let (here, rest) = below in
    (omega (arith, here, grown), below_more old new turns turn rest grown last)

-- a number that none had before has the line of this turn
pub line_new : (turns : List Turn) (turn : Turn) (rest : List Turn) (number : ℕ) → AreBelow number turns → number_of turn.reply ≡ number
    → line_of (turns ++ turn ∷ rest) number ≡ turn.line
line_new [] turn rest number below is = ap (λ (b : Bool). if b then turn.line else line_of rest number) (eq-eqb (number_of turn.reply) number is)
line_new (first ∷ turns) turn rest number below is =
    let (here, later) = below in
    ap (λ (b : Bool). if b then first.line else line_of (turns ++ turn ∷ rest) number) (ne_eqb (number_of first.reply) number (λ same. omega (arith, same, here)))
    ∙ line_new turns turn rest number later is
