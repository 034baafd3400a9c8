-- What is tidied is tidy beside nothing, and a residue has as many places as there are repairs.
use Rattle.std.proofs.Common.{◌≡◌, inl, inr, ℕ, List, [], ◌∷◌, length, Option, Some, None, refl, sym, subst}
use Rattle.image_reading.specs.Counts.{IsListOf, Count}
use Rattle.image_reading.specs.Laws.{ResidueLaw, TidiedLaw}
use Rattle.image_reading.specs.Repairs.{IsPointer}
use Rattle.image_reading.specs.Residue.{no_residue, one_of, IsTidyBeside}
use Rattle.image_reading.specs.Soundness.{IsCoherent}
use Rattle.image_reading.specs.Tidy.{IsTidied}
use Rattle.image_reading.proofs.Counts.{count_none, none_counted}

none_listed : (Q : ℕ → Type 0) → Count Q 0 → IsListOf Q []
none_listed Q count = record { distinct = tt; each = λ x. ((λ none. absurd none), (λ q. absurd (none_counted Q count x q))) }

pub counted : (Q : ℕ → Type 0) (xs : List ℕ) → IsListOf Q xs → Count Q (length xs)
counted Q xs list = (xs, list.distinct, list.each, refl)

same_place : (s d : ℕ) → Some d ≡ Some s → s ≡ d
same_place s d same = cc

pointer_counted : (Q : ℕ → Type 0) (pointer : Option ℕ) → ((s : ℕ) → (pointer ≡ Some s) × Unit {0} → Q s) → ((s : ℕ) → Q s → pointer ≡ Some s) → Count Q (one_of pointer)
pointer_counted Q None to from = count_none Q (λ s q. let none : None ≡ Some s = from s q in let never : ⊥ = cc in never)
pointer_counted Q (Some d) to from = (
  d ∷ [],
  ((λ none. none), tt),
  (λ s. (
    (λ among. elim among [ inl same ↦ subst Q (sym same) (to d (refl, tt)) | inr none ↦ absurd none ]),
    (λ q. inl (same_place s d (from s q))),
  )),
  refl,
)

pub tidied_beside : {P : ℕ} {I : List ℕ} → IsTidied P I → IsTidyBeside P I no_residue
tidied_beside {P} {I} tidied = record {
  of_pointer = λ s. ((λ some. let never : ⊥ = cc in absurd never), (λ pointer. absurd (none_counted (IsPointer P I) tidied.repaired.of_pointers s pointer)));
  of_slots = none_listed _ tidied.repaired.of_slots;
  of_pages = none_listed _ tidied.repaired.of_pages;
  of_inodes = none_listed _ tidied.repaired.of_inodes;
  of_counts = none_listed _ tidied.repaired.of_counts;
  kinds = λ i none. absurd none;
  marks = λ j none. absurd none;
}

pub residue_law : ResidueLaw
residue_law P I residue beside = record {
  of_pointers = pointer_counted (IsPointer P I) residue.pointer (λ s some. (beside.of_pointer s).0 some.0) (λ s pointer. (beside.of_pointer s).1 pointer);
  of_slots = counted _ residue.slots beside.of_slots;
  of_pages = counted _ residue.pages beside.of_pages;
  of_inodes = counted _ residue.inodes beside.of_inodes;
  of_counts = counted _ residue.counts beside.of_counts;
}

pub beside_tidied : {P : ℕ} {I : List ℕ} → IsCoherent P I → IsTidyBeside P I no_residue → IsTidied P I
beside_tidied {P} {I} coherent beside = record { coherent = coherent; repaired = residue_law P I no_residue beside }

pub tidied_law : TidiedLaw
tidied_law P I = ((λ tidied. (tidied.coherent, tidied_beside tidied)), (λ both. beside_tidied both.0 both.1))
