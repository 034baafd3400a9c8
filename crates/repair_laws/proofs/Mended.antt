-- Recovery makes one list of words, and changes nothing of what is tidy.
use Rattle.std.proofs.Common.{◌≡◌, inl, inr, ℕ, List, refl, sym, subst, ◌∙◌, arith}
use Rattle.std.proofs.lemmas.Bool.{cases_eq}
use Rattle.layout.specs.Fields.{word, inode_links, slot_pointer}
use Rattle.layout.specs.Geometry.{inode_word_of, descriptor_word_of, slot_word_of}
use Rattle.layout.proofs.Widths.{descriptor_field_read}
use Rattle.image_reading.specs.Repairs.{IsPointer, IsLitterSlot, IsLitterPage, IsLitterInode, IsLitterCount}
use Rattle.image_reading.specs.Soundness.{IsCoherent}
use Rattle.image_reading.specs.Tidy.{IsTidied}
use Rattle.image_reading.proofs.Counts.{none_counted}
use Rattle.image_counts.proofs.Links.{only_links}
use Rattle.image_laws.specs.Frame.{SameMeaning}
use Rattle.image_laws.proofs.Trees.{tree_law}
use Rattle.repair_laws.specs.Mended.{GivesUp, Unpoints, Clears, Frees, Mends, IsAfter, IsMended, IsRepair}
use Rattle.repair_laws.specs.Laws.{SomeRepair, OneMended, MendedLaw, TidyLaw, HasIndexOf, IndexLaw}
use Rattle.repair_laws.proofs.After.{same_list, unchanged}
use Rattle.repair_laws.proofs.Ends.{tidy, mended}
use Rattle.repair_laws.proofs.Freeing.{fourth_means}
use Rattle.repair_laws.proofs.Indexed.{has_index}
use Rattle.repair_laws.proofs.Telling.{some_repair}

pub one_mended : OneMended
one_mended P W K L a b = same_list L K (a.size ∙ sym b.size) (λ x. elim (b.words x) [
  | inr has ↦ a.new x has.0 has.1 ∙ sym (b.new x has.0 has.1)
  | inl other ↦ elim (a.words x) [ inr has ↦ a.new x has.0 has.1 ∙ sym (b.new x has.0 has.1) | inl same ↦ same ∙ sym other ]
])

-- ---- what is tidy has the words that recovery would store

module _ (P : ℕ) (W : List ℕ) (clean : IsTidied P W) where
  gives : {a v : ℕ} → GivesUp P W a v → word W a ≡ v
  gives (GivesUp.number s d left) =
      let points = left.points in
      absurd (none_counted (IsPointer P W) clean.repaired.of_pointers d (record { held = left.held; nonzero = λ none. omega (arith, points, none) }))

  unpoints : {a v : ℕ} → Unpoints P W a v → word W a ≡ v
  unfolding slot_pointer
  unpoints (Unpoints.pointer d held) = elim (cases_eq (slot_pointer P W d) 0) [
    | inl none ↦ none
    | inr some ↦ absurd (none_counted (IsPointer P W) clean.repaired.of_pointers d (record { held = held; nonzero = some }))
  ]

  clears : {a v : ℕ} → Clears P W a v → word W a ≡ v
  unfolding inode_links
  clears (Clears.owner j unkept) = elim (cases_eq (word W (descriptor_word_of P j 0)) 0) [
    | inl none ↦ none
    | inr some ↦ absurd (none_counted (IsLitterPage P W) clean.repaired.of_pages j (record { in_range = unkept.in_range; free = unkept.free; nonzero = (0, descriptor_field_read W 0 (omega arith), some) }))
  ]
  clears (Clears.slot s f dead low small) = elim (cases_eq (word W (slot_word_of P s f)) 0) [
    | inl none ↦ none
    | inr some ↦ absurd (none_counted (IsLitterSlot P W) clean.repaired.of_slots s (record { page = dead.page; dead = dead.dead; nonzero = (f, small, some) }))
  ]
  clears (Clears.links i n reached count) =
      let (T, reads, form) = tree_law P W clean.coherent in
      let counted = only_links P W T clean.coherent reads i n reached count in
      elim (cases_eq (inode_links W i) n) [
        | inl same ↦ same
        | inr other ↦ absurd (none_counted (IsLitterCount P W) clean.repaired.of_counts i (record {
          reached = reached;
          other = λ links. other (sym (only_links P W T clean.coherent reads i (inode_links W i) reached links) ∙ counted);
        }))
      ]

  frees : {a v : ℕ} → Frees P W a v → word W a ≡ v
  frees (Frees.descriptor j f unkept low small) = elim (cases_eq (word W (descriptor_word_of P j f)) 0) [
    | inl none ↦ none
    | inr some ↦ absurd (none_counted (IsLitterPage P W) clean.repaired.of_pages j (record { in_range = unkept.in_range; free = unkept.free; nonzero = (f, small, some) }))
  ]
  frees (Frees.inode i f unreached small) = elim (cases_eq (word W (inode_word_of i f)) 0) [
    | inl none ↦ none
    | inr some ↦ absurd (none_counted (IsLitterInode P W) clean.repaired.of_inodes i (record { least = unreached.least; most = unreached.most; unreached = unreached.unreached; nonzero = (f, small, some) }))
  ]

  as_they_are : {a v : ℕ} → Mends P W a v → word W a ≡ v
  as_they_are (Mends.gives_up h) = gives h
  as_they_are (Mends.unpoints h) = unpoints h
  as_they_are (Mends.clears h) = clears h
  as_they_are (Mends.frees h) = frees h

-- a step that stores what is there
still : (becomes : ℕ → ℕ → Type 0) (W : List ℕ) → ((a v : ℕ) → becomes a v → word W a ≡ v) → IsAfter becomes W W
still becomes W same = record { size = refl; new = same; words = λ a. inl refl }

no_step : (P : ℕ) (W : List ℕ) → IsMended P W W → IsRepair P W W W W W
no_step P W after = record {
  first = still (GivesUp P W) W (λ a v h. after.new a v (Mends.gives_up h));
  second = still (Unpoints P W) W (λ a v h. after.new a v (Mends.unpoints h));
  third = still (Clears P W) W (λ a v h. after.new a v (Mends.clears h));
  fourth = still (Frees P W) W (λ a v h. after.new a v (Mends.frees h));
}

pub tidy_law : TidyLaw
tidy_law P W K coherent after = (
  λ clean. unchanged (Mends P W) W K after (λ a v h. as_they_are P W clean h),
  λ same. tidy P W W W W W coherent (no_step P W (subst (IsMended P W) same after)),
)

-- ---- what holds of the end of a chain holds of the one list

of_mended : (Q : List ℕ → Type 0) (P : ℕ) (W K : List ℕ) → IsCoherent P W → ((A B C L : List ℕ) → IsRepair P W A B C L → Q L) → IsMended P W K → Q K
of_mended Q P W K coherent holds after =
    let (A, B, C, L, repair) = some_repair P W coherent in
    subst Q (one_mended P W L K (mended P W A B C L coherent repair) after) (holds A B C L repair)

pub mended_law : MendedLaw
mended_law P W K coherent after =
    of_mended (λ X. SameMeaning P W X × IsTidied P X) P W K coherent (λ A B C L repair. (fourth_means P W A B C L coherent repair, tidy P W A B C L coherent repair)) after

pub index_law : IndexLaw
index_law P W K coherent after = of_mended (HasIndexOf P W) P W K coherent (λ A B C L repair. has_index P W A B C L coherent repair) after

pub some_law : SomeRepair
some_law P W coherent = some_repair P W coherent
