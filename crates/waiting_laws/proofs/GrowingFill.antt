-- The words behind the fill of new pages: what it leaves of the tables, of the file and of the new pages.
use Rattle.std.proofs.Common.{◌≡◌, inr, ℕ, ◌+◌, ◌<◌, ◌≤◌, List, ◌++◌, length, sym, subst, ◌∙◌, arith, refl}
use Rattle.std.specs.Prelude.{Contains}
use Rattle.layout.specs.Fields.{inode_size, page_owner, page_kind}
use Rattle.layout.specs.Geometry.{data_pages_of, page_of_slot, descriptor_word_of}
use Rattle.layout.proofs.Widths.{in_inode, in_descriptor}
use Rattle.image_reading.specs.Counts.{IsIn}
use Rattle.image_reading.specs.Reading.{pages_of_size}
use Rattle.image_reading.specs.Residue.{Residue}
use Rattle.image_counts.specs.Entries.{IsPageIn, IsUnusedPage}
use Rattle.image_counts.proofs.Distinct.{in_front, in_back}
use Rattle.image_laws.specs.Frame.{SameShape}
use Rattle.image_laws.proofs.Addresses.{descriptor-ne_page, descriptor_word-one}
use Rattle.content_laws.specs.Growth.{IsFillWord, FillsFile}
use Rattle.content_laws.specs.Mix.{StoresContent}
use Rattle.content_laws.proofs.Lists.{contains_at, place_of}
use Rattle.content_laws.proofs.Quiet as quiet
use Rattle.weave_laws.specs.Bytes.{MayFill}
use Rattle.weave_laws.specs.Waiting.{AreInOrder, HasNoPageOf}
use Rattle.weave_laws.proofs.BytesFilled as filling
use Rattle.weave_laws.proofs.Contained.{in_contained}
use Rattle.weave_laws.proofs.Sized as after
use Rattle.weave_laws.proofs.Sized.{ChangesFile}

module _ (P : ℕ) (I J : List ℕ) (i offset : ℕ) (bytes pages : List ℕ) (others : Residue) (may : MayFill P I i pages) (fills : FillsFile P I J i offset bytes pages) where
  -- ---- what changes

  kind_is : (j : ℕ) → Contains pages j → page_kind P J j ≡ 1
  kind_is j is = let (k, low, at) = place_of pages j is in fills.kinds k j at

  not_filled : (j f : ℕ) → j < data_pages_of P → f < 8 → ¬ Contains pages j → {a : ℕ} → IsFillWord P I i pages a → a ≡ descriptor_word_of P j f → ⊥
  not_filled j f lt l8 none (IsFillWord.old k h w page l) e = descriptor-ne_page P j f h w lt l8 (sym e)
  not_filled j f lt l8 none (IsFillWord.new h w is l) e = descriptor-ne_page P j f h w lt l8 (sym e)
  not_filled j f lt l8 none (IsFillWord.descriptor h g is which) e = none (subst (Contains pages) (descriptor_word-one P h g j f (omega (arith, which)) l8 e).0 is)

  shape : SameShape P I J
  shape = filling.shape P I J i offset bytes pages may fills

  stores : StoresContent P I J
  stores = filling.stores P I J i offset bytes pages may fills

  pub change : ChangesFile P I J i (Contains pages)
  change = record {
    before = may.coherent;
    after = shape.coherent;
    file = may.reached;
    names = shape.names;
    version = quiet.head_same P I J stores 1 (omega arith);
    descriptors = λ j f lt l3 none. fills.others (descriptor_word_of P j f) (λ is. not_filled j f lt (in_descriptor I f l3) none is refl);
    unheld = λ t is held. (let zero = (may.unused (page_of_slot t) is).1.1 in let two = held.kind in omega (arith, zero, two));
    unheld_after = λ t is held. (let one = kind_is (page_of_slot t) is in let two = held.kind in omega (arith, one, two));
    slots = λ t f held lt. quiet.slot_same P I J stores t f lt held;
    inodes = λ x f some most lt why. quiet.inode_same P I J stores x f some most (in_inode I f lt);
  }

  -- ---- the new pages are left, and in use

  pub left : (j : ℕ) → ¬ IsIn j (pages ++ others.pages) → ¬ IsIn j others.pages × ¬ IsIn j pages
  left j none = ((λ theirs. none (in_back j pages others.pages theirs)), (λ mine. none (in_front j pages others.pages mine)))

  pub used : (j : ℕ) → IsIn j pages → ¬ IsUnusedPage P J j
  used j among unused = let one = kind_is j (in_contained j pages among) in let zero = unused.1 in omega (arith, one, zero)

  -- ---- the file

  pub size_same : inode_size J i ≡ inode_size I i
  size_same = (shape.inodes i may.reached).size

  -- no page gets another owner
  pub owner_same : (j : ℕ) → j < data_pages_of P → page_owner P J j ≡ page_owner P I j
  unfolding page_owner
  owner_same j low = quiet.descriptor_same P I J stores j 0 low (omega arith) (inr refl)

  module _ (old : List ℕ) (least : 1 ≤ i) (of_file : (j : ℕ) → Contains old j → IsPageIn P I i j) where
    pub old_pages : (j : ℕ) → Contains old j → IsPageIn P J i j
    old_pages j there = let page = of_file j there in record { in_range = page.in_range; owner = owner_same j page.in_range ∙ page.owner }

    old_not_new : (j : ℕ) → Contains old j → ¬ Contains pages j
    old_not_new j there new = let owner = (of_file j there).owner in let none = (may.unused j new).1.0 in omega (arith, owner, none, least)

    pub old_order : (to : ℕ) → AreInOrder P I old 0 to → AreInOrder P J old 0 to
    old_order to order = record {
      offsets = λ k j at.
          let there = contains_at old k j at in
          (after.paged change).offset j (of_file j there).in_range (old_not_new j there) ∙ order.offsets k j at;
      count = order.count;
    }

  -- ---- the new pages

  pub new_order : (to : ℕ) → length pages + pages_of_size (inode_size I i) ≡ pages_of_size to → AreInOrder P J pages (inode_size I i) to
  new_order to count = record { offsets = fills.offsets; count = count }

  -- they are filled, and no one's
  pub new_pages : (j : ℕ) → Contains pages j → (page_owner P J j ≡ 0) × (page_kind P J j ≡ 1)
  new_pages j is = (let unused = may.unused j is in (owner_same j unused.0 ∙ unused.1.0, kind_is j is))

  -- what the others have left is still not the file's
  pub still_alone : ((j : ℕ) → IsIn j others.pages → j < data_pages_of P) → HasNoPageOf P I others i → HasNoPageOf P J others i
  still_alone within alone j among owner = alone j among (sym (owner_same j (within j among)) ∙ owner)
