-- Bytes of a file below its size are written: nothing is left that wasn't, and nothing goes.
use Rattle.std.proofs.Common.{◌↔◌, ℕ, List, arith}
use Rattle.layout.specs.Geometry.{descriptor_word_of}
use Rattle.layout.proofs.Widths.{in_inode, in_descriptor}
use Rattle.image_reading.specs.Repairs.{IsLitterPage}
use Rattle.image_reading.specs.Residue.{Residue, IsTidyBeside}
use Rattle.image_laws.specs.Frame.{SameShape}
use Rattle.image_laws.proofs.Addresses.{descriptor-ne_page}
use Rattle.content_laws.specs.Inside.{WritesInside}
use Rattle.content_laws.specs.Mix.{StoresContent}
use Rattle.content_laws.proofs.Quiet as quiet
use Rattle.weave_laws.specs.Bytes.{MayWrite}
use Rattle.weave_laws.specs.Sizing.{WrittenInsideLaw}
use Rattle.weave_laws.proofs.BytesInside as inside
use Rattle.weave_laws.proofs.Listed.{listed_same}
use Rattle.weave_laws.proofs.Sized as after
use Rattle.weave_laws.proofs.Sized.{ChangesFile}

module _ (P : ℕ) (I J : List ℕ) (i offset : ℕ) (bytes : List ℕ) (may : MayWrite P I i offset bytes) (writes : WritesInside P I J i offset bytes) where
  shape : SameShape P I J
  shape = inside.shape P I J i offset bytes may writes

  stores : StoresContent P I J
  stores = inside.stores P I J i offset bytes may writes

  abbrev change : ChangesFile P I J i (λ j. ⊥)
  change = record {
    before = may.coherent;
    after = shape.coherent;
    file = may.reached;
    names = shape.names;
    version = quiet.head_same P I J stores 1 (omega arith);
    descriptors = λ j f lt read none. writes.others (descriptor_word_of P j f) (λ k h w page l e. descriptor-ne_page P j f h w lt (in_descriptor I f read) e);
    unheld = λ t none held. none;
    unheld_after = λ t none held. none;
    slots = λ t f held lt. quiet.slot_same P I J stores t f lt held;
    inodes = λ x f some most lt why. quiet.inode_same P I J stores x f some most (in_inode I f lt);
  }

  page_same : (j : ℕ) → IsLitterPage P I j ↔ IsLitterPage P J j
  page_same j = after.page_same change (λ x r. (shape.inodes x r).size) j (λ none. none)

  pub left_as_it_was : (residue : Residue) → IsTidyBeside P I residue → IsTidyBeside P J residue
  left_as_it_was residue tidy = after.tidy_after change residue.pages residue.pages residue tidy
      (listed_same (IsLitterPage P I) (IsLitterPage P J) residue.pages page_same tidy.of_pages)
      (λ j among. after.mark_kept change j (λ none. none) ((tidy.of_pages.each j).0 among).in_range (tidy.marks j among))

pub written_inside_law : WrittenInsideLaw
written_inside_law P I J i offset bytes residue may writes tidy = left_as_it_was P I J i offset bytes may writes residue tidy
