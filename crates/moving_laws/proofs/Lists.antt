-- Lists of none and of one.
use Rattle.std.proofs.Common.{◌≡◌, inl, inr, ℕ, [], ◌∷◌, Some, sym, subst}
use Rattle.image_reading.specs.Counts.{IsListOf}

pub list_none : (Q : ℕ → Type 0) → ((x : ℕ) → ¬ Q x) → IsListOf Q []
list_none Q none = record { distinct = tt; each = λ x. ((λ among. absurd among), (λ q. absurd (none x q))) }

pub list_one : (Q : ℕ → Type 0) (s : ℕ) → Q s → ((x : ℕ) → Q x → x ≡ s) → IsListOf Q (s ∷ [])
list_one Q s is only = record {
  distinct = ((λ none. none), tt);
  each = λ x. (
    (λ among. elim among [ inl e ↦ subst Q (sym e) is | inr none ↦ absurd none ]),
    (λ q. inl (only x q)),
  );
}

pub same_some : (d t : ℕ) → Some d ≡ Some t → d ≡ t
same_some d t e = cc
