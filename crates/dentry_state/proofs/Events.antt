-- Stores of values to words that follow one another.
use Rattle.std.proofs.Common.{◌≡◌, ℕ, zero, suc, ◌+◌, ◌<◌, List, [], ◌∷◌, ◌++◌, length, take, get_or, sym, ◌∙◌, ap, subst, arith, add-zero, add-one}
use Rattle.pm_trait.specs.declared.event.Event.{Event}
use Rattle.pm_trait.specs.declared.event.Event.TheVariants.{Store}
use Rattle.pm_trait.specs.DeviceView.{DeviceView, Performs}
use Rattle.pm_trait.proofs.DeviceViewLaws.{performs_then}
use Rattle.dentry_state.specs.Dentry.{stores_from}

stores_suc : (first k : ℕ) (values : List ℕ) → k < length values → stores_from first (take (suc k) values) ≡ stores_from first (take k values) ++ Store (first + k) (get_or values k 0) ∷ []
stores_suc first k [] below = absurd (omega (arith, below))
stores_suc first zero (value ∷ values) below = ap (λ (word : ℕ). Store word value ∷ []) (sym (add-zero first))
stores_suc first (suc k) (value ∷ values) below =
    let next : first + 1 + k ≡ first + suc k = omega arith in
    ap (λ (events : List Event). Store first value ∷ events) (stores_suc (first + 1) k values (omega (arith, below)))
    ∙ ap (λ (word : ℕ). Store first value ∷ (stores_from (first + 1) (take k values) ++ Store word (get_or values k 0) ∷ [])) next

-- one more value is stored
pub stored_more : {a b c : DeviceView} (first k word : ℕ) (values : List ℕ) → k < length values → word ≡ first + k → Performs a b (stores_from first (take k values)) → Performs b c (Store word (get_or values k 0) ∷ []) → Performs a c (stores_from first (take (k + 1) values))
stored_more {a} {c = c} first k word values below at so_far last =
    let told : stores_from first (take k values) ++ Store word (get_or values k 0) ∷ [] ≡ stores_from first (take (k + 1) values) =
    ap (λ (w : ℕ). stores_from first (take k values) ++ Store w (get_or values k 0) ∷ []) at
    ∙ sym (stores_suc first k values below)
    ∙ ap (λ (n : ℕ). stores_from first (take n values)) (sym (add-one k)) in
    subst (λ (events : List Event). Performs a c events) told (performs_then so_far last)
