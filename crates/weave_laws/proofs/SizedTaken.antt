-- Pages that are filled become a file's, behind its end: the same is left.
use Rattle.std.proofs.Common.{◌≡◌, ◌≢◌, ◌↔◌, ◌⊎◌, inl, inr, ℕ, List, sym, ap, ◌∙◌, arith}
use Rattle.std.specs.Prelude.{Contains}
use Rattle.layout.specs.Fields.{inode_kind, inode_size, page_owner, page_kind}
use Rattle.layout.specs.Geometry.{page_of_slot, inode_word_of, slot_word_of}
use Rattle.layout.proofs.Widths.{in_inode, in_descriptor, descriptor_field_read}
use Rattle.image_reading.specs.Counts.{IsIn}
use Rattle.image_reading.specs.Reading.{HasBytes, IsRoomOf, pages_of_size}
use Rattle.image_reading.specs.Repairs.{IsKeptFilePage, IsLitterPage}
use Rattle.image_reading.specs.Residue.{Residue, IsTidyBeside}
use Rattle.image_laws.specs.Frame.{SameShape}
use Rattle.image_laws.proofs.Addresses.{head-ne_descriptor, descriptor-ne_inode, descriptor-ne_slot}
use Rattle.image_laws.proofs.Paths.{reached_pos}
use Rattle.content_laws.specs.Growth.{TakesPages}
use Rattle.weave_laws.specs.Bytes.{MayOwn}
use Rattle.weave_laws.specs.Sizing.{TakenLaw}
use Rattle.weave_laws.proofs.Contained.{contained_or_not}
use Rattle.weave_laws.proofs.Listed.{listed_same}
use Rattle.weave_laws.proofs.PagesTaken as taken
use Rattle.weave_laws.proofs.Sized as after
use Rattle.weave_laws.proofs.Sized.{ChangesFile}

module _ (P : ℕ) (I J : List ℕ) (i : ℕ) (pages : List ℕ) (residue : Residue) (may : MayOwn P I i pages) (takes : TakesPages P I J i pages) (tidy : IsTidyBeside P I residue) where
  shape : SameShape P I J
  shape = taken.shape P I J i pages may takes

  kind_after : (j : ℕ) → Contains pages j → page_kind P J j ≡ 1
  kind_after j is = taken.kind_same P I J i pages may takes j ∙ (may.filled j is).kind

  abbrev change : ChangesFile P I J i (Contains pages)
  change = record {
    before = may.coherent;
    after = shape.coherent;
    file = may.reached;
    names = shape.names;
    version = takes.others 1 (λ j is. head-ne_descriptor P j 0 1 (omega arith));
    descriptors = λ j f lt read none. taken.descriptor_same P I J i pages may takes j f (in_descriptor I f read) (inr none);
    unheld = λ t is held. (let one = (may.filled (page_of_slot t) is).kind in let two = held.kind in omega (arith, one, two));
    unheld_after = λ t is held. (let one = kind_after (page_of_slot t) is in let two = held.kind in omega (arith, one, two));
    slots = λ t f held lt. takes.others (slot_word_of P t f) (λ j is e. descriptor-ne_slot P j 0 t f (may.filled j is).free.0 (omega arith) (sym e));
    inodes = λ x f some most lt why. takes.others (inode_word_of x f) (λ j is e. descriptor-ne_inode P j 0 x f some most (in_inode I f lt) (sym e));
  }

  -- ---- pages

  not_file : (j : ℕ) → Contains pages j → ¬ IsKeptFilePage P J j
  not_file j is kept =
      let owner = ap (λ x. pages_of_size (inode_size J x)) (takes.owners j is) in
      let size = ap pages_of_size (shape.inodes i may.reached).size in
      let same = taken.offset_same P I J i pages may takes j in
      let behind = (may.filled j is).behind in
      let below = kept.below in
      omega (arith, owner, size, same, behind, below)

  not_room : (j : ℕ) → Contains pages j → ¬ IsRoomOf P J (page_owner P J j) j
  not_room j is room =
      let two = room.directory in
      let one : HasBytes J (page_owner P J j) = ap (inode_kind J) (takes.owners j is) ∙ (shape.inodes i may.reached).kind ∙ may.file in
      omega (arith, one, two)

  some_kind : (j : ℕ) → Contains pages j → page_kind P J j ≢ 0
  some_kind j is z = let one = kind_after j is in omega (arith, one, z)

  litter_after : (j : ℕ) → Contains pages j → IsLitterPage P J j
  unfolding page_kind
  litter_after j is = record {
    in_range = (may.filled j is).free.0;
    free = λ kept. elim kept [ inl file ↦ not_file j is file | inr room ↦ not_room j is room ];
    nonzero = (1, descriptor_field_read J 1 (omega arith), some_kind j is);
  }

  litter_before : (j : ℕ) → Contains pages j → IsLitterPage P I j
  unfolding page_kind
  litter_before j is =
      let page = may.filled j is in
      let one = page.kind in
      record {
        in_range = page.free.0;
        free = λ kept. elim kept [ inl file ↦ reached_pos P I (page_owner P I j) file.owner page.free.1 | inr room ↦ reached_pos P I (page_owner P I j) room.reached page.free.1 ];
        nonzero = (1, descriptor_field_read I 1 (omega arith), λ z. omega (arith, one, z));
      }

  page_same : (j : ℕ) → IsLitterPage P I j ↔ IsLitterPage P J j
  page_same j = elim (contained_or_not pages j) [
    | inl is ↦ ((λ l. litter_after j is), (λ l. litter_before j is))
    | inr none ↦ after.page_same change (λ x r. (shape.inodes x r).size) j none
  ]

  mark_after : (j : ℕ) → IsIn j residue.pages → (page_owner P J j ≢ 0) ⊎ (page_kind P J j ≢ 0)
  mark_after j among = elim (contained_or_not pages j) [
    | inl is ↦ inr (some_kind j is)
    | inr none ↦ after.mark_kept change j none ((tidy.of_pages.each j).0 among).in_range (tidy.marks j among)
  ]

pub taken_law : TakenLaw
taken_law P I J i pages residue may takes tidy =
    after.tidy_after (change P I J i pages residue may takes tidy) residue.pages residue.pages residue tidy
    (listed_same (IsLitterPage P I) (IsLitterPage P J) residue.pages (page_same P I J i pages residue may takes tidy) tidy.of_pages)
    (mark_after P I J i pages residue may takes tidy)
