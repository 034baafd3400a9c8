-- The words of a name aren't all zero.
use Rattle.std.proofs.Common.{◌≡◌, ◌≢◌, inl, inr, ℕ, ◌+◌, ◌<◌, List, [], refl, sym, subst, ◌∙◌, arith}
use Rattle.std.proofs.lemmas.Bool.{cases_eq, cases_lt}
use Rattle.layout.specs.Fields.{word, words_from, slot_words}
use Rattle.layout.specs.Geometry.{slot_word_of}
use Rattle.layout.specs.Name.{IsName, IsNameWords, name_in_words, bytes_of_word}
use Rattle.image_counts.proofs.Decided.{IsDecided, any_below}
use Rattle.image_laws.proofs.Words.{slot_words-same}

record IsNonzero (P : ℕ) (I : List ℕ) (s k : ℕ) : Type 0 where
  below : k < 14
  nonzero : word I (slot_word_of P s (2 + k)) ≢ 0

nonzero_or_not : (P : ℕ) (I : List ℕ) (s k : ℕ) → IsDecided (IsNonzero P I s k)
nonzero_or_not P I s k = elim (cases_lt k 14) [
  | inr past ↦ inr (λ h. let lt = h.below in omega (arith, lt, past))
  | inl lt ↦ elim (cases_eq (word I (slot_word_of P s (2 + k))) 0) [
    | inl is ↦ inr (λ h. h.nonzero is)
    | inr nonzero ↦ inl (record { below = lt; nonzero = nonzero })
  ]
]

no_word : (a : ℕ) → word [] a ≡ 0
unfolding word
no_word a = refl

no_name : (P s : ℕ) → IsName (name_in_words (slot_words P [] s)) → ⊥
unfolding word words_from slot_words name_in_words bytes_of_word
no_name P s h = cc

all_zero : (P : ℕ) (I : List ℕ) (s : ℕ) → ((k : ℕ) → k < 14 → ¬ IsNonzero P I s k) → (f : ℕ) → f < 14 → word I (slot_word_of P s (2 + f)) ≡ word [] (slot_word_of P s (2 + f))
all_zero P I s none f lt = elim (cases_eq (word I (slot_word_of P s (2 + f))) 0) [
  | inl is ↦ is ∙ sym (no_word (slot_word_of P s (2 + f)))
  | inr nonzero ↦ absurd (none f lt (record { below = lt; nonzero = nonzero }))
]

pub name_nonzero : (P : ℕ) (I : List ℕ) (s : ℕ) → IsNameWords (slot_words P I s) → (f : ℕ) × (f < 16) × (word I (slot_word_of P s f) ≢ 0)
name_nonzero P I s name = elim (any_below (IsNonzero P I s) 14 (nonzero_or_not P I s)) [
  | inl (k, h) ↦ (2 + k, (let lt = h.below in omega (arith, lt)), h.nonzero)
  | inr none ↦ absurd (no_name P s (subst (λ words. IsName (name_in_words words)) (slot_words-same P [] I s (all_zero P I s none)) name.is_name))
]
