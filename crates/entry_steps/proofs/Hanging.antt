-- On which word the reading of a make that crashed hangs.
use Rattle.std.proofs.Common.{◌≡◌, ◌≢◌, inl, inr, ℕ, List, slice_index, set, sym, subst, ◌∙◌, get_or-set_other}
use Rattle.std.specs.Prelude.{Option, Result}
use Rattle.std.proofs.lemmas.Bool.{cases_eq}
use Rattle.std.proofs.lemmas.Grind.{same_number_lists}
use Rattle.pm_trait.specs.Trail.{Trail}
use Rattle.pm_trait.specs.Device.{Mix, IsFenced}
use Rattle.layout.specs.Fields.{word}
use Rattle.image_reading.specs.Reading.{Reads}
use Rattle.volume.specs.Commit.{HangsOn}

-- two mixes of words that differ at one place are one where they agree there
same_mix : (a b : List ℕ) (commit value : ℕ) (image other : List ℕ) → b ≡ set a commit value → Mix a b image → Mix a b other → word other commit ≡ word image commit → image ≡ other
unfolding word
same_mix a b commit value image other is one two same =
    same_number_lists image other (one.long ∙ sym two.long)
    (λ x inside. elim (cases_eq x commit) [
      | inl here ↦ subst (λ (w : ℕ). slice_index image w ≡ slice_index other w) (sym here) (sym same)
      | inr away ↦ as_before image one x away ∙ sym (as_before other two x away)
    ])
  where
    as_before : (mixed : List ℕ) → Mix a b mixed → (x : ℕ) → x ≢ commit → slice_index mixed x ≡ slice_index a x
    as_before mixed mix x away = elim (mix.each x) [
      | inl old ↦ old
      | inr new ↦ new ∙ subst (λ (l : List ℕ). slice_index l x ≡ slice_index a x) (sym is) (get_or-set_other a commit x value 0 away)
    ]

-- so the interval of one store hangs on its word
pub hangs_commit : {T E : Type 0} {a b : List ℕ} {ta tb : Option Trail} {result : Result T E} (P commit value : ℕ) → IsFenced a ta b tb result → b ≡ set a commit value → HangsOn P ta tb commit
hangs_commit {a = a} {b = b} P commit value fenced is = record {
  continues = fenced.leaves.continues;
  each = λ moment image other tree from upto may also same reads.
      subst (λ (l : List ℕ). Reads P l tree)
      (same_mix a b commit value image other is (fenced.leaves.each moment image from upto may) (fenced.leaves.each moment other from upto also) same) reads;
}
