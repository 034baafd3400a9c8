-- A list of the numbers that have a property, after a step in which some get it and others lose it.
use Rattle.std.proofs.Common.{◌≢◌, ◌↔◌, ◌⊎◌, inl, inr, ℕ, List, [], ◌∷◌, ◌++◌, sym, subst}
use Rattle.std.proofs.lemmas.Bool.{cases_eq}
use Rattle.image_reading.specs.Counts.{IsIn, IsDistinct, IsListOf}
use Rattle.image_counts.proofs.Distinct.{in_front, in_back, in_either, distinct_both}

pub distinct_rest : (xs ys : List ℕ) → IsDistinct (xs ++ ys) → IsDistinct ys
distinct_rest [] ys d = d
distinct_rest (x ∷ xs) ys d = distinct_rest xs ys d.1

pub distinct_apart : (xs ys : List ℕ) → IsDistinct (xs ++ ys) → (x : ℕ) → IsIn x xs → ¬ IsIn x ys
distinct_apart [] ys d x mine other = absurd mine
distinct_apart (y ∷ xs) ys d x mine other = elim mine [
  | inl e ↦ d.0 (subst (λ z. IsIn z (xs ++ ys)) e (in_back x xs ys other))
  | inr later ↦ distinct_apart xs ys d.1 x later other
]

module _ (Q R : ℕ → Type 0) where
  -- Those of `mine` lose the property, those of `now` have it, and each other number has it where it had it.
  pub listed_after : (mine now rest : List ℕ) → IsDistinct now → ((x : ℕ) → IsIn x now → ¬ IsIn x rest) → ((x : ℕ) → R x ↔ (IsIn x now ⊎ (Q x × ¬ IsIn x mine)))
      → IsListOf Q (mine ++ rest) → IsListOf R (now ++ rest)
  listed_after mine now rest distinct apart is listed = record {
    distinct = distinct_both now rest distinct (distinct_rest mine rest listed.distinct) apart;
    each = λ x. (
      (λ among. elim (in_either x now rest among) [
        | inl here ↦ (is x).1 (inl here)
        | inr other ↦ (is x).1 (inr ((listed.each x).0 (in_back x mine rest other), λ before. distinct_apart mine rest listed.distinct x before other))
      ]),
      (λ has. elim ((is x).0 has) [
        | inl here ↦ in_front x now rest here
        | inr had ↦ elim (in_either x mine rest ((listed.each x).1 had.0)) [ inl before ↦ absurd (had.1 before) | inr among ↦ in_back x now rest among ]
      ]),
    );
  }

  pub listed_same : (rest : List ℕ) → ((x : ℕ) → Q x ↔ R x) → IsListOf Q rest → IsListOf R rest
  listed_same rest same = listed_after [] [] rest tt (λ x none. absurd none) (λ x. (
    (λ has. inr ((same x).1 has, λ none. none)),
    (λ either. elim either [ inl none ↦ absurd none | inr had ↦ (same x).0 had.0 ]),
  ))

  -- s alone gets it,
  pub listed_more : (s : ℕ) (rest : List ℕ) → ¬ Q s → R s → ((x : ℕ) → x ≢ s → Q x ↔ R x) → IsListOf Q rest → IsListOf R (s ∷ rest)
  listed_more s rest was is same listed = listed_after [] (s ∷ []) rest ((λ none. none), tt)
      (λ x here other. elim here [ inl e ↦ was (subst Q e ((listed.each x).0 other)) | inr none ↦ none ])
      (λ x. (
        (λ has. elim (cases_eq x s) [ inl e ↦ inl (inl e) | inr ne ↦ inr ((same x ne).1 has, λ none. none) ]),
        (λ either. elim either [
          | inl here ↦ elim here [ inl e ↦ subst R (sym e) is | inr none ↦ absurd none ]
          | inr had ↦ (same x (λ e. was (subst Q e had.0))).0 had.0
        ]),
      )) listed

  -- or loses it
  pub listed_less : (s : ℕ) (rest : List ℕ) → ¬ R s → ((x : ℕ) → x ≢ s → Q x ↔ R x) → IsListOf Q (s ∷ rest) → IsListOf R rest
  listed_less s rest is same = listed_after (s ∷ []) [] rest tt (λ x none. absurd none) (λ x. (
    (λ has.
        let ne : x ≢ s = λ e. is (subst R e has) in
        inr ((same x ne).1 has, λ before. elim before [ inl e ↦ ne e | inr none ↦ none ])),
    (λ either. elim either [ inl none ↦ absurd none | inr had ↦ (same x (λ e. had.1 (inl e))).0 had.0 ]),
  ))
