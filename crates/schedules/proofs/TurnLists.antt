-- Turns with one more at their end.
use Rattle.std.proofs.Common.{◌≡◌, ℕ, ◌+◌, List, [], ◌∷◌, ◌++◌, length, append-nil, append_assoc, refl, sym, ap, subst, ◌∙◌, arith}
use Rattle.schedules.specs.Schedules.{text_of, texts_of}
use Rattle.schedules.specs.Turns.{Border, Turn, IsTurn, AreTurns, border_behind}

pub turns_more : (schedule : List ℕ) (count : ℕ) (old : Border) (turns : List Turn) (turn : Turn) → AreTurns schedule count old turns
    → IsTurn schedule (count + length turns) (border_behind old turns) turn → AreTurns schedule count old (turns ++ turn ∷ [])
turns_more schedule count old [] turn are is = let none : count + 0 ≡ count = omega arith in (subst (λ (n : ℕ). IsTurn schedule n old turn) none is, tt)
turns_more schedule count old (first ∷ turns) turn are is =
    let same : count + length (first ∷ turns) ≡ count + 1 + length turns = omega arith in
    (are.0, turns_more schedule (count + 1) first.behind turns turn are.1 (subst (λ (n : ℕ). IsTurn schedule n (border_behind first.behind turns) turn) same is))

pub behind_more : (old : Border) (turns : List Turn) (turn : Turn) → border_behind old (turns ++ turn ∷ []) ≡ turn.behind
behind_more old [] turn = refl
behind_more old (first ∷ turns) turn = behind_more first.behind turns turn

pub texts_more : (old : Border) (turns : List Turn) (turn : Turn) → texts_of old (turns ++ turn ∷ []) ≡ texts_of old turns ++ text_of (border_behind old turns) turn
texts_more old [] turn = append-nil (text_of old turn)
texts_more old (first ∷ turns) turn = ap (λ (text : List ℕ). text_of old first ++ text) (texts_more first.behind turns turn) ∙ sym (append_assoc (text_of old first) (texts_of first.behind turns) (text_of (border_behind first.behind turns) turn))

pub one_more : (turns : List Turn) (turn : Turn) → length (turns ++ turn ∷ []) ≡ length turns + 1
one_more [] turn = refl
one_more (first ∷ turns) turn = let rest = one_more turns turn in omega (arith, rest)
