-- A new page with the new name is to be repaired, without and with its owner, and nothing else is.
use Rattle.std.proofs.Common.{◌≡◌, ◌≢◌, ◌⊎◌, inl, inr, ℕ, ◌<◌, ◌≤◌, List, [], refl, sym, subst, ◌∙◌, arith}
use Rattle.layout.specs.Geometry.{inodes_of, data_pages_of, inode_word_of, descriptor_word_of}
use Rattle.layout.specs.Fields.{word, inode_words, descriptor_words, inode_kind, inode_links, page_owner}
use Rattle.layout.proofs.Widths.{in_inode, in_descriptor, inode_field_read, descriptor_field_read}
use Rattle.tree_model.specs.PathText.{Route}
use Rattle.image_reading.specs.Reading.{IsDirectory, Names}
use Rattle.image_reading.specs.Repairs.{IsLitterPage, IsLitterInode}
use Rattle.image_reading.proofs.Counts.{none_counted}
use Rattle.image_reading.proofs.Residues.{tidied_beside}
use Rattle.image_counts.specs.Entries.{IsFreePage}
use Rattle.image_counts.proofs.Paths.{in_range}
use Rattle.image_laws.specs.Create.{MakesNamedPage}
use Rattle.image_laws.specs.Frame.{SameMeaning}
use Rattle.image_laws.specs.Taking.{IsNamedPage}
use Rattle.image_laws.proofs.Free.{mix_itself}
use Rattle.image_laws.proofs.NewPage.{made_descriptor, made_inode, made_slot}
use Rattle.image_laws.proofs.PageQuiet.{page_quiet_law}
use Rattle.rename_laws.specs.Target.{Opened, CanRename}
use Rattle.image_reading.specs.Soundness.{Rule, HasLinks}
use Rattle.image_laws.specs.Stages.{IsEmptyPage}
use Rattle.image_laws.proofs.Paths.{reached_pos}
use Rattle.weave_laws.proofs.Listed.{listed_same}
use Rattle.weave_laws.proofs.PagedBeside as after
use Rattle.weave_laws.proofs.PagedBeside.{ChangesPage}
use Rattle.weave_laws.proofs.PagedOwned as owned_page
use Rattle.weave_laws.proofs.PagedWritten as written
use Rattle.weave_laws.proofs.PagedWritten.{descriptor_apart}
use Rattle.moving_laws.specs.Moving.{opened_left, PageFilledLaw, PageOwnedLaw}

module _ (P : ℕ) (W A : List ℕ) (pa pb : Route) (s x d j : ℕ) (name : List ℕ) (can : CanRename P W pa pb s x d (Opened j name)) (makes : MakesNamedPage P W A j d name) where
  free : IsFreePage P W j
  free = can.target_slot.1

  x_range : (1 ≤ x) × (x ≤ inodes_of P)
  x_range = in_range P W can.tidy.coherent x (pb, can.target_path)

  meaning : SameMeaning P W A
  meaning = (page_quiet_law P W A pb x j can.tidy.coherent can.target_path can.target_directory free makes.empty).making A (mix_itself W A makes.size)

  named : IsNamedPage P A j d name
  named = record { kind = makes.kind; offset = makes.offset; numbers = makes.numbers; pointers = makes.pointers; name_is = makes.name_is; zeros = makes.zeros }

  -- ---- which words stay

  descriptor_same : (k f : ℕ) → k < data_pages_of P → f < descriptor_words W → (k ≢ j) ⊎ (f ≡ 0) → word A (descriptor_word_of P k f) ≡ word W (descriptor_word_of P k f)
  descriptor_same k f lt read other = made_descriptor P W A j can.tidy.coherent free makes.empty k f lt (in_descriptor W f read) other

  inode_same : (y f : ℕ) → 1 ≤ y → y ≤ inodes_of P → f < inode_words W → word A (inode_word_of y f) ≡ word W (inode_word_of y f)
  inode_same y f some most read = made_inode P W A j can.tidy.coherent free makes.empty y f some most (in_inode W f read)

  links_same : inode_links A x ≡ inode_links W x
  unfolding inode_links
  links_same = inode_same x 1 x_range.0 x_range.1 (inode_field_read W 1 (omega arith))

  -- inode 0 stands for none
  change : ChangesPage P W A j 0 x
  change = written.change {P = P} {I = W} {J = A} {j = j} {s = d} {i = 0} {y = x} {name = name} (record {
    before = can.tidy.coherent;
    free = free;
    size = makes.size;
    page = named;
    words = λ a other. inl (makes.others a other);
    linked = (pb, can.target_path);
    links = subst (HasLinks P W x) (sym links_same) (can.tidy.coherent Rule.links x (pb, can.target_path));
    descriptors = descriptor_same;
    slots = made_slot P W A j can.tidy.coherent free makes.empty;
    inodes = λ y f some most read old links. inode_same y f some most read;
  })

  no_page : ¬ IsLitterPage P W j
  no_page = none_counted (IsLitterPage P W) can.tidy.repaired.of_pages j

  inode_kept : (y : ℕ) → IsLitterInode P W y → IsLitterInode P A y
  inode_kept y l = (after.inode_same change y (inr (λ e. (let some = l.least in omega (arith, some, e))))).0 l

  inode_was : (y : ℕ) → IsLitterInode P A y → IsLitterInode P W y
  inode_was y l = (after.inode_same change y (inr (λ e. (let some = l.least in omega (arith, some, e))))).1 l

  -- ---- then it gets its owner

  path : Names P A pb x
  path = (meaning.names pb x).0 can.target_path

  directory : IsDirectory A x
  unfolding inode_kind
  directory = inode_same x 0 x_range.0 x_range.1 (inode_field_read W 0 (omega arith)) ∙ can.target_directory

  free_then : IsFreePage P A j
  unfolding page_owner
  free_then = (free.0, descriptor_same j 0 free.0 (descriptor_field_read W 0 (omega arith)) (inr refl) ∙ free.1)

  empty : IsEmptyPage P A j
  empty = record { kind = makes.kind; directory = λ r. absurd (reached_pos P A (page_owner P A j) r free_then.1); numbers = makes.numbers; pointers = makes.pointers }

pub page_filled_law : PageFilledLaw
page_filled_law P W A pa pb s x d j name can makes =
    let tidy = tidied_beside can.tidy in
    let change = change P W A pa pb s x d j name can makes in
    record {
      of_pointer = λ t. ((λ e. (after.pointer_same change t).0 ((tidy.of_pointer t).0 e)), (λ l. (tidy.of_pointer t).1 ((after.pointer_same change t).1 l)));
      of_slots = after.slots_after change [] tidy.of_slots;
      of_pages = after.pages_more change (no_page P W A pa pb s x d j name can makes) [] tidy.of_pages;
      of_inodes = listed_same (IsLitterInode P W) (IsLitterInode P A) [] (λ y. (inode_kept P W A pa pb s x d j name can makes y, inode_was P W A pa pb s x d j name can makes y)) tidy.of_inodes;
      of_counts = after.counts_same change (links_same P W A pa pb s x d j name can makes) [] tidy.of_counts;
      kinds = λ y none. absurd none;
      marks = after.marks_more change [] tidy.of_pages tidy.marks;
    }

pub page_owned_law : PageOwnedLaw
page_owned_law P W A pa pb s x d j name can makes =
    owned_page.page_owned_law P A x j (opened_left j) (meaning P W A pa pb s x d j name can makes).coherent (pb, path P W A pa pb s x d j name can makes) (directory P W A pa pb s x d j name can makes)
    (free_then P W A pa pb s x d j name can makes) (empty P W A pa pb s x d j name can makes) (page_filled_law P W A pa pb s x d j name can makes)
