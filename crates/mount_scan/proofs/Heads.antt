-- Whether words are a volume's: by their number and their first five.
use Rattle.std.proofs.Common.{◌≡◌, ℕ, suc, ◌*◌, ◌<◌, ◌≤◌, true, List, [], ◌∷◌, ◌++◌, length, drop, get_or, refl, sym, ap, subst, ◌∙◌, arith}
use Rattle.std.proofs.lemmas.Bool.Decides.{Decides-eqb}
use Rattle.std.proofs.lemmas.List.{get_or_append_left}
use Rattle.std.proofs.lemmas.Slice.Eq.{starts_is}
use Rattle.std.proofs.Common.{nat_eq}
use Rattle.std.specs.List.{starts_with}
use Rattle.layout.specs.Geometry.{IsVolumeSize}
use Rattle.layout.specs.Superblock.{head_of}
use Rattle.layout.specs.Fields.{word}
use Rattle.image_reading.specs.Soundness.{Rule, IsFirstFault, KeepsRule1, pages_in_image}
use Rattle.image_reading.proofs.Chained.{keeps_none, pages_are}
use Rattle.image_reading.proofs.Places.{head_there, head_not}

-- words that agree with a list up to its end begin with it
same_front : (words front : List ℕ) → length front ≤ length words → ((x : ℕ) → x < length front → get_or words x 0 ≡ get_or front x 0) → words ≡ front ++ drop (length front) words
same_front words [] le same = refl
same_front [] (c ∷ front) le same = absurd (omega arith)
same_front (w ∷ words) (c ∷ front) le same =
    ap (λ x. x ∷ words) (same 0 (omega arith)) ∙ ap (λ rest. c ∷ rest) (same_front words front (omega arith) (λ x lt. same (suc x) (omega arith)))

module _ (P : ℕ) (I : List ℕ) where
  pub keeps_rule1 : IsVolumeSize P → length I ≡ 512 * P → starts_with nat_eq I (head_of P) ≡ true → KeepsRule1 P I
  unfolding word
  keeps_rule1 size whole head place = record {
    size = λ _. size;
    whole = λ _. whole;
    head = λ lt. ap (λ words. get_or words place 0) begins ∙ get_or_append_left (head_of P) (drop 5 I) 0 place lt;
  }
    where
      begins : I ≡ head_of P ++ drop 5 I
      begins = (starts_is Decides-eqb I (head_of P) (starts_with nat_eq I (head_of P)) refl).0 head

  module _ (h : KeepsRule1 P I) where
    pub volume_size : IsVolumeSize P
    volume_size = (h 0).size refl

    pub whole : length I ≡ 512 * P
    whole = (h 0).whole refl

    pub begins_with_head : starts_with nat_eq I (head_of P) ≡ true
    unfolding word
    begins_with_head =
        let size = volume_size in
        let long = whole in
        (starts_is Decides-eqb I (head_of P) (starts_with nat_eq I (head_of P)) refl).1 (drop 5 I) (same_front I (head_of P) (omega arith) (λ x lt. (h x).head lt))

-- ---- the first word that isn't a volume's

module _ (P : ℕ) (I : List ℕ) (size : IsVolumeSize P) (long : length I ≡ 512 * P) where
  pub head_kept : ((x : ℕ) → x < 5 → get_or I x 0 ≡ get_or (head_of P) x 0) → KeepsRule1 P I
  head_kept same place = head_there P I place size long (same place)

  pub head_broken : (place : ℕ) → place < 5 → ((x : ℕ) → x < place → get_or I x 0 ≡ get_or (head_of P) x 0) → (get_or I place 0 ≡ get_or (head_of P) place 0 → ⊥)
      → IsFirstFault (pages_in_image I) I Rule.head place
  head_broken place within before other = subst (λ (n : ℕ). IsFirstFault n I Rule.head place) (sym (pages_are P I long)) (record {
    earlier_rules = keeps_none P I;
    earlier_places = λ x lt. head_there P I x size long (λ _. before x lt);
    broken = head_not P I place size long within other;
  })
