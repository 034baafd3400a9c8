-- Rule 1 as facts about the image, and that the first violation is one.
use Rattle.std.proofs.Common.{◌≡◌, ℕ, ◌-◌, ◌*◌, ◌<◌, List, [], ◌∷◌, length, get_or, refl, sym, ap, subst, ◌∙◌, ◌⊎◌, inl, inr, arith}
use Rattle.image_reading.specs.Soundness.{Rule, number, IsCoherent, Sound, IsFirstFault, BreaksRule, BreaksMark, pages_in_image}
use Rattle.image_reading.specs.Laws.{HeadLaw, PagesLaw, OneViolation, NoViolation}
use Rattle.image_reading.specs.declared.Violation.{Violation}

pub head_law : HeadLaw
head_law P I = (
  (λ keeps. record { size = (keeps 0).size refl; whole = (keeps 0).whole refl; head = λ a lt. (keeps a).head lt }),
  (λ volume x. record { size = λ _. volume.size; whole = λ _. volume.whole; head = volume.head x }),
)

pub pages_law : PagesLaw
pages_law P I keeps = let whole : length I ≡ 512 * P = (keeps 0).whole refl in omega arith

-- the rules in the order of their numbers
rules : List Rule
rules = Rule.head ∷ Rule.root ∷ Rule.pointers ∷ Rule.one_pointer ∷ Rule.inodes ∷ Rule.names ∷ Rule.kinds ∷ Rule.own_names ∷ Rule.own_directories
    ∷ Rule.page_kinds ∷ Rule.sizes ∷ Rule.all_pages ∷ Rule.own_offsets ∷ Rule.links ∷ []

of_number : (r : Rule) → get_or rules (number r - 1) Rule.head ≡ r
unfolding rules
of_number Rule.head = refl
of_number Rule.root = refl
of_number Rule.pointers = refl
of_number Rule.one_pointer = refl
of_number Rule.inodes = refl
of_number Rule.names = refl
of_number Rule.kinds = refl
of_number Rule.own_names = refl
of_number Rule.own_directories = refl
of_number Rule.page_kinds = refl
of_number Rule.sizes = refl
of_number Rule.all_pages = refl
of_number Rule.own_offsets = refl
of_number Rule.links = refl

-- a number is one rule's
pub same_rule : (r s : Rule) → number r ≡ number s → r ≡ s
same_rule r s e = sym (of_number r) ∙ ap (λ n. get_or rules (n - 1) Rule.head) e ∙ of_number s

three_cases : (a b : ℕ) → (a ≡ b) ⊎ ((a < b) ⊎ (b < a))
three_cases a b = grind arith

one_place : (P : ℕ) (I : List ℕ) (r : Rule) (x y : ℕ) → IsFirstFault P I r x → IsFirstFault P I r y → x ≡ y
one_place P I r x y a b = elim (three_cases x y) [
  | inl e ↦ e
  | inr h ↦ elim h [ inl lt ↦ absurd (a.broken (b.earlier_places x lt)) | inr lt ↦ absurd (b.broken (a.earlier_places y lt)) ]
]

pub one_fault : (P : ℕ) (I : List ℕ) (r s : Rule) (x y : ℕ) → IsFirstFault P I r x → IsFirstFault P I s y → (r ≡ s) × (x ≡ y)
one_fault P I r s x y a b = elim (three_cases (number r) (number s)) [
  | inl e ↦ let same = same_rule r s e in (same, one_place P I s x y (subst (λ q. IsFirstFault P I q x) same a) b)
  | inr h ↦ elim h [ inl lt ↦ absurd (a.broken (b.earlier_rules r x lt)) | inr lt ↦ absurd (b.broken (a.earlier_rules s y lt)) ]
]

pub no_fault : (P : ℕ) (I : List ℕ) (r : Rule) (x : ℕ) → IsCoherent P I → IsFirstFault P I r x → ⊥
no_fault P I r x coherent a = a.broken (coherent r x)

-- ---- violations

same_violation : (one other : Violation) → one.rule ≡ other.rule → one.place ≡ other.place → one ≡ other
same_violation one other rule place =
    ap (λ (n : ℕ). let v : Violation = record { rule = n; place = one.place } in v) rule
    ∙ ap (λ (x : ℕ). let v : Violation = record { rule = other.rule; place = x } in v) place

module _ (I : List ℕ) (one other : Violation) where
  same_rules : BreaksRule I one → BreaksRule I other → one ≡ other
  same_rules a b =
      let (rule, place) = one_fault (pages_in_image I) I a.rule b.rule one.place other.place a.first b.first in
      same_violation one other (sym a.numbered ∙ ap number rule ∙ b.numbered) place

  same_marks : BreaksMark I one → BreaksMark I other → one ≡ other
  same_marks a b = same_violation one other (a.numbered ∙ sym b.numbered) (a.place_is ∙ sym b.place_is)

  -- a rule is broken, or the mark, where the rules aren't
  pub not_both : BreaksRule I one → BreaksMark I other → ⊥
  not_both a b = no_fault (pages_in_image I) I a.rule one.place b.coherent a.first

pub one_violation : OneViolation
one_violation I one other a b = elim a [
  | inl rule ↦ elim b [ inl same ↦ same_rules I one other rule same | inr mark ↦ absurd (not_both I one other rule mark) ]
  | inr mark ↦ elim b [ inl rule ↦ absurd (not_both I other one rule mark) | inr same ↦ same_marks I one other mark same ]
]

pub sound_unbroken : (I : List ℕ) (violation : Violation) → Sound (pages_in_image I) I → BreaksMark I violation → ⊥
sound_unbroken I violation sound mark = mark.unrepaired (sound.mark mark.marked)

pub no_violation : NoViolation
no_violation I violation sound first = elim first [
  | inl rule ↦ no_fault (pages_in_image I) I rule.rule violation.place sound.coherent rule.first
  | inr mark ↦ sound_unbroken I violation sound mark
]
