-- The slot of a new node takes its number: nothing of the call is to be repaired any more.
use Rattle.std.proofs.Common.{◌≡◌, ◌↔◌, inl, inr, ℕ, ◌+◌, List, ◌++◌, slice_index, Option, Some, None, refl, sym, subst, ◌∙◌, arith}
use Rattle.std.proofs.lemmas.Bool.{cases_eq}
use Rattle.layout.specs.Fields.{inode_kind, inode_links}
use Rattle.layout.specs.declared.kinds.NodeKind.{NodeKind}
use Rattle.layout.specs.declared.kinds.NodeKind.TheVariants.{File, Directory}
use Rattle.tree_model.specs.PathText.{Route}
use Rattle.image_reading.specs.Counts.{Count, IsListOf}
use Rattle.image_reading.specs.Reading.{IsDirectory, Reached, IsNameOf, IsChildOf, IsLinkCount}
use Rattle.image_reading.specs.Repairs.{IsLitterSlot, IsLitterPage, IsLitterCount}
use Rattle.image_reading.specs.Residue.{Residue, IsTidyBeside}
use Rattle.image_reading.specs.Soundness.{Rule}
use Rattle.image_reading.proofs.Counts.{count_none}
use Rattle.image_counts.proofs.Distinct.{in_back}
use Rattle.image_laws.specs.Add.{CanAdd}
use Rattle.image_laws.specs.Create.{node_words, committed}
use Rattle.image_laws.proofs.Paths.{reach, reached-le}
use Rattle.weave_laws.specs.Joined.{joined}
use Rattle.weave_laws.specs.Naming.{NodeCommittedLaw, HasSpareLink, IsWrittenParent, IsWrittenNode, counts_left, pages_left, node_left}
use Rattle.weave_laws.proofs.Committed as after
use Rattle.weave_laws.proofs.Committed.{TakesNumber, number_taken}
use Rattle.weave_laws.proofs.Listed.{listed_same, listed_less}

module _ {P : ℕ} {I J : List ℕ} {p : Route} {kind : NodeKind} {d s i : ℕ} (can : CanAdd P I p d s i) (unreached : ¬ Reached P I i) (written : IsWrittenNode P I kind d i) (takes : TakesNumber P I J s i) where
  made_kind : inode_kind I i ≡ slice_index (node_words kind i) 0
  unfolding inode_kind
  made_kind = written.words 0 (omega arith)

  made_links : inode_links I i ≡ slice_index (node_words kind i) 1
  unfolding inode_links
  made_links = written.words 1 (omega arith)

  -- ---- the new node has its links

  no_name : (t : ℕ) → ¬ IsNameOf P I i t
  no_name t n = unreached (subst (Reached P I) n.inode (reach P I t n.slot ((can.coherent Rule.inodes t).most n.slot)))

  no_child : (t : ℕ) → ¬ IsChildOf P J i t
  no_child t n = elim (cases_eq t s) [
    | inl e ↦ unreached (subst (Reached P I) (sym (after.child_only can takes i (subst (IsChildOf P J i) e n)).0) (after.d_reached can takes))
    | inr ne ↦ (let was = after.child_before can takes i t ne n in unreached (subst (Reached P I) was.owner was.slot.owner))
  ]

  new_count : (kind : NodeKind) → inode_kind J i ≡ slice_index (node_words kind i) 0 → inode_links J i ≡ slice_index (node_words kind i) 1 → IsLinkCount P J i (inode_links J i)
  new_count Directory is links = record {
    file = λ one. absurd (omega (arith, one, is));
    directory = λ two. (0, count_none (IsChildOf P J i) no_child, links);
  }
  new_count File is links = record {
    file = λ one. subst (Count (IsNameOf P J i)) (sym links) (after.names_more can takes 0 (count_none (IsNameOf P I i) no_name));
    directory = λ two. absurd (omega (arith, two, is));
  }

  no_new_count : ¬ IsLitterCount P J i
  no_new_count l = l.other (new_count kind (takes.only.node_kind i can.most ∙ made_kind) (takes.only.links i can.most ∙ made_links))

  count_same : (x : ℕ) → ¬ IsChildOf P J x s → IsLitterCount P I x ↔ IsLitterCount P J x
  count_same x none = elim (cases_eq x i) [
    | inl e ↦ ((λ l. absurd (unreached (subst (Reached P I) e l.reached))), (λ l. absurd (no_new_count (subst (IsLitterCount P J) e l))))
    | inr ne ↦ after.count_same can takes x ne none
  ]

  -- ---- its parent has a directory more, where it is one

  d_links : inode_links J d ≡ inode_links I d
  d_links = takes.only.links d (reached-le P I can.coherent d (after.d_reached can takes))

  no_parent_count : IsDirectory I i → HasSpareLink P I d → ¬ IsLitterCount P J d
  no_parent_count two (n, counted, links) l = l.other (record {
    file = λ one. (let kind = after.kind_same can takes d (after.d_reached can takes) in let directory = can.slot.directory in absurd (omega (arith, one, kind, directory)));
    directory = λ here.
        let (m, children, is) = counted.directory can.slot.directory in
        (m + 1, after.children_more can takes two m children, omega (arith, d_links, links, is));
  })

  pub counts_after : (kind : NodeKind) → inode_kind I i ≡ slice_index (node_words kind i) 0 → IsWrittenParent P I kind d → (rest : List ℕ)
      → IsListOf (IsLitterCount P I) (counts_left kind d ++ rest) → IsListOf (IsLitterCount P J) rest
  counts_after Directory is links rest = listed_less (IsLitterCount P I) (IsLitterCount P J) d rest (no_parent_count is links)
      (λ x ne. count_same x (λ c. ne (after.child_only can takes x c).0))
  counts_after File is links rest = listed_same (IsLitterCount P I) (IsLitterCount P J) rest
      (λ x. count_same x (λ c. let two = (after.child_only can takes x c).1 in omega (arith, two, is)))

module _ (P : ℕ) (I : List ℕ) (p : Route) (kind : NodeKind) (d s : ℕ) (new_page : Option ℕ) (i : ℕ) (others : Residue) (can : CanAdd P I p d s i) (written : IsWrittenNode P I kind d i)
    (tidy : IsTidyBeside P I (joined (node_left kind d s new_page i) others)) where
  takes : TakesNumber P I (committed P I s i) s i
  takes = number_taken P I p d s i can

  unreached : ¬ Reached P I i
  unreached = ((tidy.of_inodes.each i).0 (inl refl)).unreached

  tidy_after : IsListOf (IsLitterSlot P (committed P I s i)) others.slots → IsListOf (IsLitterPage P (committed P I s i)) others.pages → IsTidyBeside P (committed P I s i) others
  tidy_after slots pages = record {
    of_pointer = λ t. ((λ e. (after.pointer_same can takes t).0 ((tidy.of_pointer t).0 e)), (λ l. (tidy.of_pointer t).1 ((after.pointer_same can takes t).1 l)));
    of_slots = slots;
    of_pages = pages;
    of_inodes = after.inodes_less can takes others.inodes tidy.of_inodes;
    of_counts = counts_after can unreached written takes kind (made_kind can unreached written takes) written.parent others.counts tidy.of_counts;
    kinds = λ x among. after.kind_kept can takes x ((tidy.of_inodes.each x).0 (inr among)) (tidy.kinds x (inr among));
    marks = λ j among.
        let before = in_back j (pages_left new_page) others.pages among in
        after.mark_kept can takes j ((tidy.of_pages.each j).0 before).in_range (tidy.marks j before);
  }

pub node_committed_law : NodeCommittedLaw
node_committed_law P I p kind d s None i others can written place tidy =
    let takes = number_taken P I p d s i can in
    let there = after.slot_room can takes ((tidy.of_slots.each s).0 (inl refl)) in
    tidy_after P I p kind d s None i others can written tidy
    (after.slots_less can takes there others.slots tidy.of_slots)
    (after.pages_same can takes there others.pages tidy.of_pages)
node_committed_law P I p kind d s (Some page) i others can written (at, zeros) tidy =
    let takes = number_taken P I p d s i can in
    tidy_after P I p kind d s (Some page) i others can written tidy
    (after.slots_same can takes page at zeros ((tidy.of_pages.each page).0 (inl refl)).free others.slots tidy.of_slots)
    (after.pages_less can takes page at zeros others.pages tidy.of_pages)
