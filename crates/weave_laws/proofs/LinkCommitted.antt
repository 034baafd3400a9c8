-- The slot of a link takes the file's number: nothing of the call is to be repaired any more.
use Rattle.std.proofs.Common.{inl, inr, ℕ, List, Option, Some, None, refl, sym, subst, ◌∙◌, arith}
use Rattle.tree_model.specs.PathText.{Route}
use Rattle.image_reading.specs.Counts.{Count, IsListOf}
use Rattle.image_reading.specs.Reading.{IsNameOf}
use Rattle.image_reading.specs.Repairs.{IsLitterSlot, IsLitterPage, IsLitterCount}
use Rattle.image_counts.proofs.Distinct.{in_back}
use Rattle.image_laws.specs.Add.{IsOldFile, CanAdd}
use Rattle.image_laws.specs.Create.{committed}
use Rattle.image_reading.specs.Residue.{Residue, IsTidyBeside}
use Rattle.weave_laws.specs.Joined.{joined}
use Rattle.weave_laws.specs.Naming.{LinkCommittedLaw, HasSpareLink, pages_left, link_left}
use Rattle.weave_laws.proofs.Committed as after
use Rattle.weave_laws.proofs.Committed.{TakesNumber, number_taken}
use Rattle.weave_laws.proofs.Listed.{listed_less}

module _ (P : ℕ) (I : List ℕ) (p : Route) (d s : ℕ) (new_page : Option ℕ) (i : ℕ) (others : Residue) (can : CanAdd P I p d s i) (written : HasSpareLink P I i)
    (tidy : IsTidyBeside P I (joined (link_left s new_page i) others)) where
  takes : TakesNumber P I (committed P I s i) s i
  takes = number_taken P I p d s i can

  -- what is linked is reached, so it is no new node
  file : IsOldFile P I i
  file = elim can.node [ inl new ↦ absurd (new.unreached ((tidy.of_counts.each i).0 (inl refl)).reached) | inr old ↦ old ]

  no_count : ¬ IsLitterCount P (committed P I s i) i
  no_count l =
      let (n, counted, links) = written in
      l.other (record {
        file = λ one. subst (Count (IsNameOf P (committed P I s i) i)) (sym (takes.only.links i can.most ∙ links)) (after.names_more can takes n (counted.file file.file));
        directory = λ two. (let kind = takes.only.node_kind i can.most in let one = file.file in absurd (omega (arith, kind, one, two)));
      })

  counts_after : IsListOf (IsLitterCount P (committed P I s i)) others.counts
  counts_after = listed_less (IsLitterCount P I) (IsLitterCount P (committed P I s i)) i others.counts no_count
      (λ x ne. after.count_same can takes x ne (λ c. let two = (after.child_only can takes x c).1 in let one = file.file in omega (arith, one, two))) tidy.of_counts

  tidy_after : IsListOf (IsLitterSlot P (committed P I s i)) others.slots → IsListOf (IsLitterPage P (committed P I s i)) others.pages → IsTidyBeside P (committed P I s i) others
  tidy_after slots pages = record {
    of_pointer = λ t. ((λ e. (after.pointer_same can takes t).0 ((tidy.of_pointer t).0 e)), (λ l. (tidy.of_pointer t).1 ((after.pointer_same can takes t).1 l)));
    of_slots = slots;
    of_pages = pages;
    of_inodes = after.inodes_same can takes file.reached others.inodes tidy.of_inodes;
    of_counts = counts_after;
    kinds = λ x among. after.kind_kept can takes x ((tidy.of_inodes.each x).0 among) (tidy.kinds x among);
    marks = λ j among.
        let before = in_back j (pages_left new_page) others.pages among in
        after.mark_kept can takes j ((tidy.of_pages.each j).0 before).in_range (tidy.marks j before);
  }

pub link_committed_law : LinkCommittedLaw
link_committed_law P I p d s None i others can written place tidy =
    let takes = number_taken P I p d s i can in
    let there = after.slot_room can takes ((tidy.of_slots.each s).0 (inl refl)) in
    tidy_after P I p d s None i others can written tidy
    (after.slots_less can takes there others.slots tidy.of_slots)
    (after.pages_same can takes there others.pages tidy.of_pages)
link_committed_law P I p d s (Some page) i others can written (at, zeros) tidy =
    let takes = number_taken P I p d s i can in
    tidy_after P I p d s (Some page) i others can written tidy
    (after.slots_same can takes page at zeros ((tidy.of_pages.each page).0 (inl refl)).free others.slots tidy.of_slots)
    (after.pages_less can takes page at zeros others.pages tidy.of_pages)
