-- Each step of a plan's leaves what means the same, and all of them make what recovery makes.
use Rattle.std.proofs.Common.{◌≡◌, inl, inr, ℕ, ◌*◌, List, length, refl, sym, ◌∙◌, subst}
use Rattle.layout.specs.Fields.{word}
use Rattle.pm_trait.specs.Device.{Mix}
use Rattle.image_reading.specs.Soundness.{IsCoherent, Rule}
use Rattle.image_laws.specs.Frame.{SameMeaning}
use Rattle.image_laws.specs.Quiet.{IsMix}
use Rattle.repair_laws.specs.Mended.{GivesUp, Unpoints, Clears, Frees, IsAfter, IsMended}
use Rattle.repair_laws.proofs.After.{same_list}
use Rattle.repair_laws.proofs.Freeing.{repair_law}
use Rattle.repair_laws.proofs.Ends.{end_law}
use Rattle.repair_laws.proofs.Mended.{some_law}

-- one list of words is after a step
one_after : {becomes : ℕ → ℕ → Type 0} {I J L : List ℕ} → IsAfter becomes I J → IsAfter becomes I L → J ≡ L
one_after {becomes} {I} {J} {L} one two = same_list L J (one.size ∙ sym two.size) (λ a. elim (one.words a) [
  | inr has ↦ one.new a has.0 has.1 ∙ sym (two.new a has.0 has.1)
  | inl same ↦ elim (two.words a) [ inr has ↦ one.new a has.0 has.1 ∙ sym (two.new a has.0 has.1) | inl other ↦ same ∙ sym other ]
])

mixed : {I J M : List ℕ} → Mix I J M → IsMix I J M
unfolding word
mixed mix = record { size = mix.long; words = mix.each }

pub whole : (P : ℕ) (W : List ℕ) → IsCoherent P W → length W ≡ 512 * P
whole P W coherent = (coherent Rule.head 0).whole refl

module _ (P : ℕ) (W : List ℕ) (coherent : IsCoherent P W) where
  pub first_leaves : {A : List ℕ} → IsAfter (GivesUp P W) W A → (M : List ℕ) → Mix W A M → SameMeaning P W M
  first_leaves first M mix =
      let (X, Y, Z, K, chain) = some_law P W coherent in
      (repair_law P W X Y Z K coherent chain).first M (subst (λ (z : List ℕ). IsMix W z M) (one_after first chain.first) (mixed mix))

  pub second_leaves : {A B : List ℕ} → IsAfter (GivesUp P W) W A → IsAfter (Unpoints P W) A B → (M : List ℕ) → Mix A B M → SameMeaning P W M
  second_leaves {A} {B} first second M mix =
      let (X, Y, Z, K, chain) = some_law P W coherent in
      let x = one_after first chain.first in
      let y = one_after (subst (λ (z : List ℕ). IsAfter (Unpoints P W) z B) x second) chain.second in
      (repair_law P W X Y Z K coherent chain).second M (subst (λ (z : List ℕ). IsMix X z M) y (subst (λ (z : List ℕ). IsMix z B M) x (mixed mix)))

  pub third_leaves : {A B C : List ℕ} → IsAfter (GivesUp P W) W A → IsAfter (Unpoints P W) A B → IsAfter (Clears P W) B C → (M : List ℕ) → Mix B C M → SameMeaning P W M
  third_leaves {A} {B} {C} first second third M mix =
      let (X, Y, Z, K, chain) = some_law P W coherent in
      let x = one_after first chain.first in
      let y = one_after (subst (λ (z : List ℕ). IsAfter (Unpoints P W) z B) x second) chain.second in
      let z = one_after (subst (λ (z : List ℕ). IsAfter (Clears P W) z C) y third) chain.third in
      (repair_law P W X Y Z K coherent chain).third M (subst (λ (l : List ℕ). IsMix Y l M) z (subst (λ (l : List ℕ). IsMix l C M) y (mixed mix)))

  pub fourth_leaves : {A B C K : List ℕ} → IsAfter (GivesUp P W) W A → IsAfter (Unpoints P W) A B → IsAfter (Clears P W) B C → IsAfter (Frees P W) C K → (M : List ℕ) → Mix C K M → SameMeaning P W M
  fourth_leaves {A} {B} {C} {K} first second third fourth M mix =
      (repair_law P W A B C K coherent (record { first = first; second = second; third = third; fourth = fourth })).fourth M (mixed mix)

  pub all_mended : {A B C K : List ℕ} → IsAfter (GivesUp P W) W A → IsAfter (Unpoints P W) A B → IsAfter (Clears P W) B C → IsAfter (Frees P W) C K → IsMended P W K
  all_mended {A} {B} {C} {K} first second third fourth = end_law P W A B C K coherent (record { first = first; second = second; third = third; fourth = fourth })
