-- Lists of words before and after a step.
use Rattle.std.proofs.Common.{◌≡◌, ◌≢◌, inl, inr, ℕ, ◌<◌, List, length, set, get_or, sym, ap, ◌∙◌, length-set}
use Rattle.std.proofs.lemmas.Bool.{cases_eq}
use Rattle.std.proofs.lemmas.List.{get_or-set_same, get_or-set_other, ext_get_or}
use Rattle.layout.specs.Fields.{word}
use Rattle.image_laws.specs.Quiet.{IsMix}
use Rattle.repair_laws.specs.Mended.{IsAfter}

-- lists of one length with the same words are the same
pub same_list : (I J : List ℕ) → length J ≡ length I → ((a : ℕ) → word J a ≡ word I a) → J ≡ I
unfolding word
same_list I J size same = ext_get_or 0 J I size (λ a lt. same a)

pub mix_same : (I J M : List ℕ) → J ≡ I → IsMix I J M → M ≡ I
mix_same I J M same mix = same_list I M mix.size (λ a. elim (mix.words a) [ inl e ↦ e | inr e ↦ e ∙ ap (λ x. word x a) same ])

module _ (becomes : ℕ → ℕ → Type 0) (I J : List ℕ) (after : IsAfter becomes I J) where
  -- a word that becomes nothing else stays
  pub stays : (a : ℕ) → ((v : ℕ) → becomes a v → ⊥) → word J a ≡ word I a
  stays a none = elim (after.words a) [ inl e ↦ e | inr has ↦ absurd (none has.0 has.1) ]

  -- nothing changes where each word is already what it becomes
  pub unchanged : ((a v : ℕ) → becomes a v → word I a ≡ v) → J ≡ I
  unchanged old = same_list I J after.size (λ a. elim (after.words a) [ inl e ↦ e | inr has ↦ after.new a has.0 has.1 ∙ sym (old a has.0 has.1) ])

  -- and one word where that is so of all others
  pub one_word : (x v : ℕ) → x < length I → becomes x v → ((a w : ℕ) → becomes a w → a ≢ x → word I a ≡ w) → J ≡ set I x v
  unfolding word
  one_word x v lt new old = same_list (set I x v) J (after.size ∙ sym (length-set I x v)) (λ a. elim (cases_eq a x) [
    | inl e ↦ ap (word J) e ∙ after.new x v new ∙ sym (get_or-set_same I x v 0 lt) ∙ ap (λ z. get_or (set I x v) z 0) (sym e)
    | inr ne ↦ elim (after.words a) [
      | inl e ↦ e ∙ sym (get_or-set_other I x a v 0 ne)
      | inr has ↦ after.new a has.0 has.1 ∙ sym (old a has.0 has.1 ne) ∙ sym (get_or-set_other I x a v 0 ne)
    ]
  ])
