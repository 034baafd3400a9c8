-- A link is written: the slot and the file's link word are to be repaired then.
use Rattle.std.proofs.Common.{inl, inr, ℕ, List, sym, subst}
use Rattle.std.proofs.lemmas.Bool.{cases_eq}
use Rattle.tree_model.specs.PathText.{Route}
use Rattle.image_reading.specs.Reading.{Reached}
use Rattle.image_reading.specs.Repairs.{IsLitterInode}
use Rattle.image_laws.specs.Add.{IsOldFile}
use Rattle.image_laws.specs.Link.{MakesLink}
use Rattle.image_laws.specs.Stages.{IsReadySlot}
use Rattle.image_laws.proofs.AddTidy.{IsWritten}
use Rattle.image_laws.proofs.Linking as linking
use Rattle.weave_laws.specs.Naming.{LinkWrittenLaw}
use Rattle.weave_laws.proofs.Listed.{listed_same}
use Rattle.weave_laws.proofs.Written as after

written : (P : ℕ) (I J : List ℕ) (p : Route) (d s i : ℕ) (name : List ℕ) → IsReadySlot P I p d s name → IsOldFile P I i → MakesLink P I J s i name → IsWritten P I J s i i name
written P I J p d s i name place file makes = record {
  named = linking.named P I J p d s i name place file makes;
  linked = file.reached;
  inodes = λ x f some most lt old links. linking.inode_same P I J p d s i name place file makes x f some most lt links;
}

pub link_written_law : LinkWrittenLaw
link_written_law P I J p d s i name others place blank file counted makes tidy =
    let written = written P I J p d s i name place file makes in
    record {
      of_pointer = λ t. ((λ e. (after.pointer_same place written t).0 ((tidy.of_pointer t).0 e)), (λ l. (tidy.of_pointer t).1 ((after.pointer_same place written t).1 l)));
      of_slots = after.slots_after place written blank others.slots tidy.of_slots;
      of_pages = after.pages_after place written others.pages tidy.of_pages;
      of_inodes = listed_same (IsLitterInode P I) (IsLitterInode P J) others.inodes
          (λ x. after.inode_same place written x (elim (cases_eq x i) [ inl e ↦ inl (subst (Reached P I) (sym e) file.reached) | inr ne ↦ inr ne ])) tidy.of_inodes;
      of_counts = after.counts_more place written makes.links counted others.counts tidy.of_counts;
      kinds = λ x among.
          let litter = (tidy.of_inodes.each x).0 among in
          after.kind_kept place written x (λ e. litter.unreached (subst (Reached P I) (sym e) file.reached)) litter (tidy.kinds x among);
      marks = λ j among. after.mark_kept place written j ((tidy.of_pages.each j).0 among).in_range (tidy.marks j among);
    }
