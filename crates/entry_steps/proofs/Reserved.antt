-- What was reserved for a call is enough for its steps.
use Rattle.std.proofs.Common.{◌≡◌, ℕ, ◌+◌, ◌≤◌, true, false, nat_lt, refl, arith}
use Rattle.std.proofs.lemmas.Bool.{ltb-false}
use Rattle.volume.specs.Costs.{where_true}

pub enough : (n kept s : ℕ) → where_true (nat_lt 0 n) (n + kept) ≤ s → n ≤ s
enough n kept s =
    elim (nat_lt 0 n) as (λ t. nat_lt 0 n ≡ t → where_true t (n + kept) ≤ s → n ≤ s) [
      | true ↦ λ is room. omega (arith, room)
      | false ↦ λ is room. (let none = ltb-false 0 n is in omega (arith, none))
    ] refl
