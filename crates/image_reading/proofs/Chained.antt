-- The rules hold one after another, up to the first that is broken.
use Rattle.std.proofs.Common.{◌≡◌, ◌↔◌, inl, inr, ℕ, ◌+◌, ◌*◌, ◌<◌, List, length, Option, Some, None, IfSome, MatchOption, refl, sym, subst, arith}
use Rattle.std.proofs.lemmas.Bool.{cases_lt}
use Rattle.image_reading.specs.Soundness.{Rule, number, Obeys, IsCoherent, Sound, IsFirstFault, BreaksMark, IsFirstViolation, pages_in_image}
use Rattle.image_reading.specs.Scan.{KeepsBelow, IsFault}
use Rattle.image_reading.specs.declared.Violation.{Violation}
use Rattle.image_reading.proofs.Violations.{same_rule, no_violation, sound_unbroken}

module _ (P : ℕ) (I : List ℕ) where
  pub keeps_none : KeepsBelow P I 1
  keeps_none Rule.head x lt = absurd (omega (arith, lt))
  keeps_none Rule.root x lt = absurd (omega (arith, lt))
  keeps_none Rule.pointers x lt = absurd (omega (arith, lt))
  keeps_none Rule.one_pointer x lt = absurd (omega (arith, lt))
  keeps_none Rule.inodes x lt = absurd (omega (arith, lt))
  keeps_none Rule.names x lt = absurd (omega (arith, lt))
  keeps_none Rule.kinds x lt = absurd (omega (arith, lt))
  keeps_none Rule.own_names x lt = absurd (omega (arith, lt))
  keeps_none Rule.own_directories x lt = absurd (omega (arith, lt))
  keeps_none Rule.page_kinds x lt = absurd (omega (arith, lt))
  keeps_none Rule.sizes x lt = absurd (omega (arith, lt))
  keeps_none Rule.all_pages x lt = absurd (omega (arith, lt))
  keeps_none Rule.own_offsets x lt = absurd (omega (arith, lt))
  keeps_none Rule.links x lt = absurd (omega (arith, lt))

  -- one rule more
  pub keeps_more : (rule : Rule) → KeepsBelow P I (number rule) → ((x : ℕ) → Obeys P I rule x) → KeepsBelow P I (number rule + 1)
  keeps_more rule before here other x lt = elim (cases_lt (number other) (number rule)) [
    | inl less ↦ before other x less
    | inr le ↦ subst (λ r. Obeys P I r x) (sym (same_rule other rule (omega (arith, le, lt)))) (here x)
  ]

  pub all_rules : KeepsBelow P I 15 → IsCoherent P I
  all_rules keeps Rule.head x = keeps Rule.head x (omega arith)
  all_rules keeps Rule.root x = keeps Rule.root x (omega arith)
  all_rules keeps Rule.pointers x = keeps Rule.pointers x (omega arith)
  all_rules keeps Rule.one_pointer x = keeps Rule.one_pointer x (omega arith)
  all_rules keeps Rule.inodes x = keeps Rule.inodes x (omega arith)
  all_rules keeps Rule.names x = keeps Rule.names x (omega arith)
  all_rules keeps Rule.kinds x = keeps Rule.kinds x (omega arith)
  all_rules keeps Rule.own_names x = keeps Rule.own_names x (omega arith)
  all_rules keeps Rule.own_directories x = keeps Rule.own_directories x (omega arith)
  all_rules keeps Rule.page_kinds x = keeps Rule.page_kinds x (omega arith)
  all_rules keeps Rule.sizes x = keeps Rule.sizes x (omega arith)
  all_rules keeps Rule.all_pages x = keeps Rule.all_pages x (omega arith)
  all_rules keeps Rule.own_offsets x = keeps Rule.own_offsets x (omega arith)
  all_rules keeps Rule.links x = keeps Rule.links x (omega arith)

  -- or the first violation
  pub fault_at : (rule : Rule) (violation : Violation) → number rule ≡ violation.rule → KeepsBelow P I (number rule)
      → ((x : ℕ) → x < violation.place → Obeys P I rule x) × ¬ Obeys P I rule violation.place → IsFault P I violation
  fault_at rule violation numbered before finds = record {
    rule = rule;
    numbered = numbered;
    first = record { earlier_rules = before; earlier_places = finds.0; broken = finds.1 };
  }

-- the same of the image, which has as many pages as its length says
pub pages_are : (P : ℕ) (I : List ℕ) → length I ≡ 512 * P → pages_in_image I ≡ P
pages_are P I whole = omega arith

pub image_fault : (P : ℕ) (I : List ℕ) (violation : Violation) → length I ≡ 512 * P → IsFault P I violation → IsFirstViolation I violation
image_fault P I violation whole fault = inl (record {
  rule = fault.rule;
  numbered = fault.numbered;
  first = subst (λ p. IsFirstFault p I fault.rule violation.place) (sym (pages_are P I whole)) fault.first;
})

pub image_coherent : (P : ℕ) (I : List ℕ) → length I ≡ 512 * P → KeepsBelow P I 15 → IsCoherent (pages_in_image I) I
image_coherent P I whole keeps = subst (λ p. IsCoherent p I) (sym (pages_are P I whole)) (all_rules P I keeps)

pub none_not_at_some : (P : ℕ) (I : List ℕ) (violation : Violation) → length I ≡ 512 * P → IsFault P I violation → (Some violation ≡ None) ↔ Sound (pages_in_image I) I
none_not_at_some P I violation whole fault = (
  (λ e. let no : ⊥ = cc in absurd no),
  (λ sound. absurd (no_violation I violation sound (image_fault P I violation whole fault))),
)

-- ---- the mark, which is asked for last

pub none_exactly : (I : List ℕ) (found : Option Violation) → MatchOption found (Sound (pages_in_image I) I) (BreaksMark I) → (found ≡ None) ↔ Sound (pages_in_image I) I
none_exactly I None sound = ((λ e. sound), (λ sound. refl))
none_exactly I (Some violation) broken = ((λ e. let no : ⊥ = cc in absurd no), (λ sound. absurd (sound_unbroken I violation sound broken)))

pub first_at_some : (I : List ℕ) (found : Option Violation) → MatchOption found (Sound (pages_in_image I) I) (BreaksMark I) → IfSome found (IsFirstViolation I)
first_at_some I None sound = tt
first_at_some I (Some violation) broken = inr broken
