-- The words behind the step that makes filled pages a file's: what it leaves of the tables, of the file and of these pages.
use Rattle.std.proofs.Common.{◌≡◌, inl, inr, ℕ, ◌<◌, List, [], sym, ◌∙◌, arith}
use Rattle.std.specs.Prelude.{Contains}
use Rattle.layout.specs.Fields.{inode_size, page_owner, page_kind}
use Rattle.layout.specs.Geometry.{data_pages_of, page_of_slot, inode_word_of, slot_word_of}
use Rattle.layout.proofs.Widths.{in_inode, in_descriptor}
use Rattle.image_reading.specs.Counts.{IsIn}
use Rattle.image_reading.specs.Residue.{Residue}
use Rattle.image_counts.specs.Entries.{IsPageIn, IsUnusedPage}
use Rattle.image_laws.specs.Frame.{SameShape}
use Rattle.image_laws.proofs.Addresses.{head-ne_descriptor, descriptor-ne_inode, descriptor-ne_slot}
use Rattle.content_laws.specs.Growth.{TakesPages}
use Rattle.weave_laws.specs.Bytes.{MayOwn}
use Rattle.weave_laws.specs.Waiting.{AreInOrder, HasNoPageOf}
use Rattle.weave_laws.proofs.Contained.{contained_in, contained_or_not}
use Rattle.weave_laws.proofs.PagesTaken as taken
use Rattle.weave_laws.proofs.Sized as after
use Rattle.weave_laws.proofs.Sized.{ChangesFile}
use Rattle.knowing_laws.specs.Knowing.{KeepsEntries, KeepsPagesBut, ChangesNumbers}
use Rattle.waiting_laws.proofs.FileEntries.{keeps_entries}
use Rattle.waiting_laws.proofs.FileKnown.{unused_as, same_numbers}

module _ (P : ℕ) (I J : List ℕ) (i : ℕ) (pages : List ℕ) (may : MayOwn P I i pages) (takes : TakesPages P I J i pages) where
  shape : SameShape P I J
  shape = taken.shape P I J i pages may takes

  kind_after : (j : ℕ) → Contains pages j → page_kind P J j ≡ 1
  kind_after j is = taken.kind_same P I J i pages may takes j ∙ (may.filled j is).kind

  abbrev change : ChangesFile P I J i (Contains pages)
  change = record {
    before = may.coherent;
    after = shape.coherent;
    file = may.reached;
    names = shape.names;
    version = takes.others 1 (λ j is. head-ne_descriptor P j 0 1 (omega arith));
    descriptors = λ j f lt l3 none. taken.descriptor_same P I J i pages may takes j f (in_descriptor I f l3) (inr none);
    unheld = λ t is held. (let one = (may.filled (page_of_slot t) is).kind in let two = held.kind in omega (arith, one, two));
    unheld_after = λ t is held. (let one = kind_after (page_of_slot t) is in let two = held.kind in omega (arith, one, two));
    slots = λ t f held lt. takes.others (slot_word_of P t f) (λ j is e. descriptor-ne_slot P j 0 t f (may.filled j is).free.0 (omega arith) (sym e));
    inodes = λ x f some most lt why. takes.others (inode_word_of x f) (λ j is e. descriptor-ne_inode P j 0 x f some most (in_inode I f lt) (sym e));
  }

  -- ---- the tables

  unused_same : (j : ℕ) → j < data_pages_of P → (IsUnusedPage P I j → IsUnusedPage P J j) × (IsUnusedPage P J j → IsUnusedPage P I j)
  unused_same j low = elim (contained_or_not pages j) [
    | inl is ↦ (
      (λ unused. (let one = (may.filled j is).kind in let zero = unused.1 in absurd (omega (arith, one, zero)))),
      (λ unused. (let one = kind_after j is in let zero = unused.1 in absurd (omega (arith, one, zero)))),
    )
    | inr none ↦ unused_as P I J j ((after.paged change).owner j low none) (taken.kind_same P I J i pages may takes j)
  ]

  pub entries : KeepsEntries P I J
  entries = keeps_entries change

  pub numbers : ChangesNumbers P I J [] []
  numbers = same_numbers P I J (after.kind_same change) unused_same

  -- the pages are left before and behind it
  pub keeps_pages : (residue : Residue) → ((j : ℕ) → Contains pages j → IsIn j residue.pages) → KeepsPagesBut P I J residue residue []
  unfolding page_owner
  keeps_pages residue left = record {
    left = λ j kept none. kept;
    owners = λ j low kept none. taken.descriptor_same P I J i pages may takes j 0 (omega arith) (inr (λ is. kept (left j is)));
    offsets = λ j low kept none. taken.offset_same P I J i pages may takes j;
  }

  -- ---- the file and its pages

  pub size_same : inode_size J i ≡ inode_size I i
  size_same = (shape.inodes i may.reached).size

  pub still_in : (j : ℕ) → IsPageIn P I i j → IsPageIn P J i j
  still_in j page = elim (contained_or_not pages j) [
    | inl is ↦ record { in_range = page.in_range; owner = takes.owners j is }
    | inr none ↦ record { in_range = page.in_range; owner = (after.paged change).owner j page.in_range none ∙ page.owner }
  ]

  pub new_in : (j : ℕ) → Contains pages j → IsPageIn P J i j
  new_in j is = record { in_range = (may.filled j is).free.0; owner = takes.owners j is }

  pub still_order : (own : List ℕ) (from to : ℕ) → AreInOrder P I own from to → AreInOrder P J own from to
  still_order own from to order = record { offsets = λ k j at. taken.offset_same P I J i pages may takes j ∙ order.offsets k j at; count = order.count }

  -- what the others have left is none of them, and still not the file's
  pub still_alone : (others : Residue) → ((j : ℕ) → IsIn j others.pages → (j < data_pages_of P) × (¬ IsIn j pages)) → HasNoPageOf P I others i → HasNoPageOf P J others i
  still_alone others apart alone j among owner =
      let (low, other) = apart j among in
      alone j among (sym ((after.paged change).owner j low (λ is. other (contained_in j pages is))) ∙ owner)
