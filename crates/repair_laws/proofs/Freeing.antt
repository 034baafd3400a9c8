-- The fourth step stores to words of free descriptors and inodes alone.
use Rattle.std.proofs.Common.{◌≡◌, inl, inr, ℕ, ◌<◌, List, refl, sym, subst, arith}
use Rattle.layout.specs.Fields.{word, inode_links, page_owner}
use Rattle.layout.specs.Geometry.{data_pages_of, inode_word_of, descriptor_word_of}
use Rattle.layout.proofs.Widths.{in_inode, in_descriptor}
use Rattle.image_reading.specs.Reading.{Reached}
use Rattle.image_reading.specs.Soundness.{Rule, IsCoherent, HasLinks}
use Rattle.image_counts.proofs.Paths.{in_range}
use Rattle.image_laws.specs.Frame.{SameMeaning}
use Rattle.image_laws.specs.Free.{IsFree, Stores}
use Rattle.image_laws.specs.Quiet.{IsMix}
use Rattle.image_laws.proofs.Free.{stores_law}
use Rattle.image_laws.proofs.Meaning.{same_chained}
use Rattle.repair_laws.specs.Mended.{Frees, IsRepair}
use Rattle.repair_laws.specs.Laws.{RepairLaw}
use Rattle.repair_laws.proofs.After.{stays}
use Rattle.repair_laws.proofs.Apart.{frees_descriptor, frees_inode}
use Rattle.repair_laws.proofs.Clearing.{third_free, third_means, third_mix}
use Rattle.repair_laws.proofs.Pointing as pointing
use Rattle.repair_laws.proofs.Uses.{reached_before}

module _ (P : ℕ) (W A B C K : List ℕ) (coherent : IsCoherent P W) (repair : IsRepair P W A B C K) where
  means : SameMeaning P W C
  means = third_means P W A B C K coherent repair

  pub fourth_owner : (j : ℕ) → j < data_pages_of P → page_owner P K j ≡ page_owner P C j
  unfolding page_owner
  fourth_owner j lt = stays (Frees P W) C K repair.fourth (descriptor_word_of P j 0) (λ v frees.
      let (some, free) = frees_descriptor P W j 0 lt (omega arith) frees refl in omega (arith, some))

  -- the words of a reached inode stay
  pub fourth_inode : (i f : ℕ) → Reached P W i → f < 16 → word K (inode_word_of i f) ≡ word C (inode_word_of i f)
  fourth_inode i f reached small =
      let (least, most) = in_range P W coherent i reached in
      stays (Frees P W) C K repair.fourth (inode_word_of i f) (λ v frees. frees_inode P W i f least most small frees refl reached)

  free_word : {a v : ℕ} → Frees P W a v → IsFree P C a
  free_word (Frees.descriptor j f unkept low small) = IsFree.descriptor j f unkept.in_range (in_descriptor W f small) (third_free P W A B C K coherent repair j unkept)
  free_word (Frees.inode i f unreached small) = IsFree.inode i f unreached.least unreached.most (in_inode W f small) (λ reached. unreached.unreached (reached_before P W C means i reached))

  links : (i : ℕ) → Reached P C i → HasLinks P C i (inode_links K i)
  unfolding inode_links
  links i reached = subst (HasLinks P C i) (sym (fourth_inode i 1 (reached_before P W C means i reached) (omega arith))) (means.coherent Rule.links i reached)

  stores : Stores P C K
  stores = record {
    size = repair.fourth.size;
    words = λ a. elim (repair.fourth.words a) [ inl same ↦ inl same | inr has ↦ inr (free_word has.1) ];
    owners = λ j lt. inl (fourth_owner j lt);
    links = links;
  }

  pub fourth_mix : (M : List ℕ) → IsMix C K M → SameMeaning P W M
  fourth_mix M mix = same_chained P W C M means (stores_law P C K M means.coherent stores mix)

  pub fourth_means : SameMeaning P W K
  fourth_means = fourth_mix K (record { size = repair.fourth.size; words = λ a. inr refl })

pub repair_law : RepairLaw
repair_law P W A B C K coherent repair = record {
  first = (pointing.first_means P W coherent A repair.first).1;
  second = (pointing.second_means P W coherent A repair.first B repair.second).1;
  third = third_mix P W A B C K coherent repair;
  fourth = fourth_mix P W A B C K coherent repair;
}
