-- A list in which words have become what they become can be made, where each word can be told.
use Rattle.std.proofs.Common.{◌≡◌, ◌⊎◌, inl, inr, ℕ, zero, suc, ◌+◌, ◌<◌, ◌≤◌, List, [], ◌∷◌, length, get_or, refl, sym, ap, subst, ◌∙◌, arith}
use Rattle.std.proofs.lemmas.Bool.{cases_lt}
use Rattle.std.proofs.lemmas.List.{get_or_past}
use Rattle.layout.specs.Fields.{word}
use Rattle.image_counts.proofs.Decided.{IsDecided}
use Rattle.repair_laws.specs.Mended.{IsAfter}

-- ---- a list from a function

listed : (ℕ → ℕ) → ℕ → ℕ → List ℕ
listed f a zero = []
listed f a (suc n) = f a ∷ listed f (a + 1) n

length-listed : (f : ℕ → ℕ) (a n : ℕ) → length (listed f a n) ≡ n
unfolding listed
length-listed f a zero = refl
length-listed f a (suc n) = ap suc (length-listed f (a + 1) n)

get_or-listed : (f : ℕ → ℕ) (a n k : ℕ) → k < n → ◌≡◌ {A = ℕ} (get_or (listed f a n) k 0) (f (a + k))
unfolding listed
get_or-listed f a zero k lt = absurd (omega (arith, lt))
get_or-listed f a (suc n) zero lt = let e : a ≡ a + 0 = omega arith in ap f e
get_or-listed f a (suc n) (suc k) lt = let e : a + 1 + k ≡ a + suc k = omega arith in get_or-listed f (a + 1) n k (omega (arith, lt)) ∙ ap f e

-- ---- what each word becomes

module _ (becomes : ℕ → ℕ → Type 0) where
  -- whether word a becomes anything
  abbrev pub IsTold : ℕ → Type 0
  IsTold a = IsDecided ((v : ℕ) × becomes a v)

  becoming : (a old : ℕ) → IsTold a → ℕ
  becoming a old (inl has) = has.0
  becoming a old (inr none) = old

  becoming_new : (a old v : ℕ) (told : IsTold a) → ((w : ℕ) → becomes a w → w ≡ v) → becomes a v → becoming a old told ≡ v
  unfolding becoming
  becoming_new a old v (inl has) one new = one has.0 has.1
  becoming_new a old v (inr none) one new = absurd (none (v, new))

  becoming_either : (a old : ℕ) (told : IsTold a) → (becoming a old told ≡ old) ⊎ ((v : ℕ) × becomes a v)
  unfolding becoming
  becoming_either a old (inl has) = inr has
  becoming_either a old (inr none) = inl refl

  module _ (I : List ℕ) (told : (a : ℕ) → IsTold a) where
    next : ℕ → ℕ
    next a = becoming a (word I a) (told a)

    made : List ℕ
    made = listed next 0 (length I)

    word_made : (a : ℕ) → a < length I → word made a ≡ next a
    unfolding word made
    word_made a lt = let e : 0 + a ≡ a = omega arith in get_or-listed next 0 (length I) a lt ∙ ap next e

    past : (a : ℕ) → length I ≤ a → word made a ≡ word I a
    unfolding word made
    past a le = get_or_past made a 0 (subst (λ n. n ≤ a) (sym (length-listed next 0 (length I))) le) ∙ sym (get_or_past I a 0 le)

    either : (a : ℕ) → (word made a ≡ word I a) ⊎ ((v : ℕ) × becomes a v)
    unfolding next
    either a = elim (cases_lt a (length I)) [
      | inr le ↦ inl (past a le)
      | inl lt ↦ elim (becoming_either a (word I a) (told a)) [ inl same ↦ inl (word_made a lt ∙ same) | inr has ↦ inr has ]
    ]

    pub make : ((a v w : ℕ) → becomes a v → becomes a w → w ≡ v) → ((a v : ℕ) → becomes a v → a < length I) → (J : List ℕ) × IsAfter becomes I J
    unfolding next made
    make one within = (
      made,
      record {
        size = length-listed next 0 (length I);
        new = λ a v new. word_made a (within a v new) ∙ becoming_new a (word I a) v (told a) (λ w other. one a v w new other) new;
        words = either;
      },
    )
