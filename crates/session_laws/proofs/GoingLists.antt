-- Where a call that runs is put in place of itself.
use Rattle.std.proofs.Common.{◌≡◌, ℕ, zero, suc, ◌<◌, [], ◌∷◌, length, length-set, set, Option, Some, refl, ap}
use Rattle.session_laws.specs.Calls.{Call, Calls, call_at, without}
use Rattle.session_laws.proofs.MoveCalls.{within_calls}

pub below_others : (calls : Calls) (s : ℕ) (call : Call) → call_at calls s ≡ Some call → s < length (without calls s)
below_others calls s call runs = rw length-set (within_calls calls s call runs)

pub put_again : (calls : Calls) (s : ℕ) (call : Option Call) → set (without calls s) s call ≡ set calls s call
put_again [] s call = refl
put_again (first ∷ calls) zero call = refl
put_again (first ∷ calls) (suc s) call = ap (λ (rest : Calls). first ∷ rest) (put_again calls s call)
