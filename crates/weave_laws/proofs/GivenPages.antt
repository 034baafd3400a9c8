-- Pages that are left to be repaired, and keep their kind, lose their owner: the same is left.
use Rattle.std.proofs.Common.{◌≡◌, ◌≢◌, ◌↔◌, ◌⊎◌, inl, inr, ℕ, List, refl, sym, ◌∙◌, arith}
use Rattle.std.specs.Prelude.{Contains}
use Rattle.layout.specs.Fields.{word, inode_kind, page_owner, page_kind}
use Rattle.layout.specs.Geometry.{page_of_slot}
use Rattle.layout.proofs.Widths.{in_inode, in_descriptor, descriptor_field_read}
use Rattle.image_reading.specs.Counts.{IsIn}
use Rattle.image_reading.specs.Repairs.{IsLitterSlot, IsLitterPage, IsLitterInode, IsLitterCount}
use Rattle.image_laws.specs.Drop.{GivesPages}
use Rattle.image_laws.specs.Frame.{SameMeaning}
use Rattle.image_laws.proofs.Addresses.{head-ne_descriptor}
use Rattle.image_laws.proofs.Given.{give_descriptor, give_inode, give_slot}
use Rattle.image_reading.specs.Residue.{Residue, IsTidyBeside}
use Rattle.weave_laws.specs.Removing.{GivenLaw, IsLeftPage}
use Rattle.weave_laws.proofs.Contained.{contained_or_not}
use Rattle.weave_laws.proofs.Listed.{listed_same}
use Rattle.weave_laws.proofs.Lost as lost
use Rattle.weave_laws.proofs.Lost.{LosesPages}
use Rattle.weave_laws.proofs.Same as same

module _ (P : ℕ) (I J pages : List ℕ) (residue : Residue) (meaning : SameMeaning P I J) (gives : GivesPages P I J (Contains pages)) (are : (j : ℕ) → Contains pages j → IsLeftPage P I residue j)
    (tidy : IsTidyBeside P I residue) where
  litter : (j : ℕ) → Contains pages j → IsLitterPage P I j
  litter j is = (tidy.of_pages.each j).0 (are j is).left

  version : word J 1 ≡ word I 1
  version = gives.others 1 (λ j is. head-ne_descriptor P j 0 1 (omega arith))

  loses : LosesPages P I J (Contains pages)
  loses = record {
    meaning = meaning;
    version = version;
    decided = contained_or_not pages;
    left = litter;
    pointers = λ t is held. (are (page_of_slot t) is).pointers t refl held;
    unowned = gives.owners;
    descriptors = λ j f lt read other. give_descriptor P I J (Contains pages) gives j f (in_descriptor I f read) (inr other);
    slots = give_slot P I J (Contains pages) gives (λ j is. (litter j is).in_range);
    inodes = λ x f r some most lt. give_inode P I J (Contains pages) gives x f some most (in_inode I f lt);
  }

  -- ---- pages

  kind_same : (j : ℕ) → page_kind P J j ≡ page_kind P I j
  unfolding page_kind
  kind_same j = give_descriptor P I J (Contains pages) gives j 1 (omega arith) (inl (λ e. omega (arith, e)))

  kind_after : (j : ℕ) → Contains pages j → page_kind P J j ≢ 0
  kind_after j is z = (are j is).kind (sym (kind_same j) ∙ z)

  litter_after : (j : ℕ) → Contains pages j → IsLitterPage P J j
  unfolding page_kind
  litter_after j is = record {
    in_range = (litter j is).in_range;
    free = λ kept. elim kept [ inl file ↦ lost.unreached loses j is file.owner | inr room ↦ lost.unreached loses j is room.reached ];
    nonzero = (1, descriptor_field_read J 1 (omega arith), kind_after j is);
  }

  page_same : (j : ℕ) → IsLitterPage P I j ↔ IsLitterPage P J j
  page_same j = elim (contained_or_not pages j) [
    | inl is ↦ ((λ l. litter_after j is), (λ l. litter j is))
    | inr other ↦ lost.page_same loses j other
  ]

  mark_after : (j : ℕ) → IsIn j residue.pages → (page_owner P J j ≢ 0) ⊎ (page_kind P J j ≢ 0)
  mark_after j among = elim (contained_or_not pages j) [
    | inl is ↦ inr (kind_after j is)
    | inr other ↦ lost.mark_kept loses j other ((tidy.of_pages.each j).0 among).in_range (tidy.marks j among)
  ]

  -- ---- inodes

  inode_same : (x : ℕ) → IsLitterInode P I x ↔ IsLitterInode P J x
  inode_same x = same.inode_same P I J x version (lost.reached loses x) (λ f least most lt unreached. give_inode P I J (Contains pages) gives x f least most (in_inode I f lt))

  node_kind_after : (x : ℕ) → IsIn x residue.inodes → inode_kind J x ≢ 0
  unfolding inode_kind
  node_kind_after x among z =
      let l = (tidy.of_inodes.each x).0 among in
      tidy.kinds x among (sym (give_inode P I J (Contains pages) gives x 0 l.least l.most (omega arith)) ∙ z)

pub given_law : GivenLaw
given_law P I J pages residue meaning gives are tidy =
    let loses = loses P I J pages residue meaning gives are tidy in
    record {
      of_pointer = λ t. ((λ e. (lost.pointer_same loses t).0 ((tidy.of_pointer t).0 e)), (λ l. (tidy.of_pointer t).1 ((lost.pointer_same loses t).1 l)));
      of_slots = listed_same (IsLitterSlot P I) (IsLitterSlot P J) residue.slots (lost.slot_same loses) tidy.of_slots;
      of_pages = listed_same (IsLitterPage P I) (IsLitterPage P J) residue.pages (page_same P I J pages residue meaning gives are tidy) tidy.of_pages;
      of_inodes = listed_same (IsLitterInode P I) (IsLitterInode P J) residue.inodes (inode_same P I J pages residue meaning gives are tidy) tidy.of_inodes;
      of_counts = listed_same (IsLitterCount P I) (IsLitterCount P J) residue.counts (lost.count_same loses) tidy.of_counts;
      kinds = node_kind_after P I J pages residue meaning gives are tidy;
      marks = mark_after P I J pages residue meaning gives are tidy;
    }
