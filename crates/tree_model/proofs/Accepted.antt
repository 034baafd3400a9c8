-- Rows without a fault.
use Rattle.std.proofs.Common.{◌≡◌, ℕ, Bool, true, false, List, ◌∷◌, Option, Some, None, is_some, Result, Ok, Err, refl}
use Rattle.tree_model.specs.Walk.{Place}
use Rattle.tree_model.specs.Step.{first, at, fault_of}
use Rattle.tree_model.specs.declared.reply.Refusal.{Refusal}

-- a row without a fault has none at its front, and none behind
pub first-none : (x : Option Refusal) (rest : List (Option Refusal)) → first (x ∷ rest) ≡ None → (x ≡ None) × (first rest ≡ None)
first-none None rest e = (refl, e)
first-none (Some refusal) rest e = cc

pub at-none : (refusal : Refusal) (b : Bool) → at refusal b ≡ None → b ≡ false
at-none refusal true e = cc
at-none refusal false e = refl

pub fault_of-none : (r : Result Place Refusal) → fault_of r ≡ None → (here : Place) × (r ≡ Ok here)
fault_of-none (Ok here) e = (here, refl)
fault_of-none (Err fault) e = cc

pub not_there : (o : Option ℕ) → is_some o ≡ false → o ≡ None
not_there None e = refl
not_there (Some i) e = cc
