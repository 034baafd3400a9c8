-- Rows that are read in two parts.
use Rattle.std.proofs.Common.{◌≡◌, ℕ, ◌+◌, ◌-◌, true, false, List, [], ◌∷◌, ◌++◌, Option, Some, None, is_some, refl, arith}
use Rattle.tree_model.specs.Step.{first}
use Rattle.tree_model.specs.declared.reply.Refusal.{Refusal}

-- a fault of the first part is that of the whole
pub first-fault : (front rest : List (Option Refusal)) → is_some (first front) ≡ true → first front ≡ first (front ++ rest)
first-fault [] rest there = cc
first-fault (None ∷ front) rest there = first-fault front rest there
first-fault (Some fault ∷ front) rest there = refl

-- and without one it is that of the rest
pub first-rest : (front rest : List (Option Refusal)) → is_some (first front) ≡ false → first rest ≡ first (front ++ rest)
first-rest [] rest none = refl
first-rest (None ∷ front) rest none = first-rest front rest none
first-rest (Some fault ∷ front) rest none = cc

pub less-twice : (a b c : ℕ) → a - b - c ≡ a - (b + c + 0)
less-twice a b c = omega arith
