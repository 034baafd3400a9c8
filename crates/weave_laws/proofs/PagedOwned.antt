-- A page in which nothing is named yet gets its owner: what is to be repaired is the same.
use Rattle.std.proofs.Common.{◌≡◌, ◌≢◌, ◌⊎◌, inl, inr, ℕ, ◌<◌, ◌≤◌, List, sym, ap, ◌∙◌, arith}
use Rattle.layout.specs.Fields.{word, inode_words, inode_kind, inode_links, page_owner, page_kind, slot_pointer}
use Rattle.layout.specs.Geometry.{inodes_of, inode_word_of, descriptor_word_of, slot_word_of}
use Rattle.layout.proofs.Widths.{in_inode, in_descriptor, inode_field_read, descriptor_field_read}
use Rattle.image_reading.specs.Reading.{IsDirectory, HasBytes, Reached}
use Rattle.image_reading.specs.Repairs.{IsKeptFilePage, IsLitterPage, IsLitterInode}
use Rattle.image_reading.specs.Soundness.{IsCoherent}
use Rattle.image_counts.specs.Entries.{IsFreePage}
use Rattle.image_counts.proofs.Paths.{in_range}
use Rattle.image_laws.specs.Create.{owned}
use Rattle.image_laws.specs.Stages.{IsEmptyPage}
use Rattle.image_laws.proofs.Free.{entries_stores}
use Rattle.image_laws.proofs.NewPage.{owned_owner, owned_descriptor, owned_inode, owned_slot, owned_stores}
use Rattle.image_laws.proofs.Paths.{reached_pos}
use Rattle.weave_laws.specs.Paging.{PageOwnedLaw}
use Rattle.weave_laws.proofs.Listed.{listed_same}
use Rattle.weave_laws.proofs.PagedBeside as after
use Rattle.weave_laws.proofs.PagedBeside.{ChangesPage}

module _ (P : ℕ) (I : List ℕ) (d j : ℕ) (coherent : IsCoherent P I) (reached : Reached P I d) (directory : IsDirectory I d) (free : IsFreePage P I j) (empty : IsEmptyPage P I j) where
  abbrev K : List ℕ
  K = owned P I j d

  owner : page_owner P K j ≡ d
  owner = owned_owner P I j d coherent reached directory free.0 free.1 empty.kind empty.numbers empty.pointers

  inode_same : (x f : ℕ) → 1 ≤ x → x ≤ inodes_of P → f < inode_words I → word K (inode_word_of x f) ≡ word I (inode_word_of x f)
  inode_same x f some most lt = owned_inode P I j d coherent reached directory free.0 free.1 empty.kind empty.numbers empty.pointers x f some most (in_inode I f lt)

  slot_same : (t f : ℕ) → word K (slot_word_of P t f) ≡ word I (slot_word_of P t f)
  slot_same = owned_slot P I j d coherent reached directory free.0 free.1 empty.kind empty.numbers empty.pointers

  descriptor_same : (x f : ℕ) → f < 8 → (x ≢ j) ⊎ (1 ≤ f) → word K (descriptor_word_of P x f) ≡ word I (descriptor_word_of P x f)
  descriptor_same = owned_descriptor P I j d coherent reached directory free.0 free.1 empty.kind empty.numbers empty.pointers

  kind_same : page_kind P K j ≡ page_kind P I j
  unfolding page_kind
  kind_same = descriptor_same j 1 (omega arith) (inr (omega arith))

  pointer_same : (t : ℕ) → slot_pointer P K t ≡ slot_pointer P I t
  unfolding slot_pointer
  pointer_same t = slot_same t 1

  d_range : (1 ≤ d) × (d ≤ inodes_of P)
  d_range = in_range P I coherent d reached

  d_kind : inode_kind K d ≡ inode_kind I d
  unfolding inode_kind
  d_kind = inode_same d 0 d_range.0 d_range.1 (inode_field_read I 0 (omega arith))

  links_same : inode_links K d ≡ inode_links I d
  unfolding inode_links
  links_same = inode_same d 1 d_range.0 d_range.1 (inode_field_read I 1 (omega arith))

  -- a directory has no bytes
  no_file : ¬ IsKeptFilePage P K j
  no_file kept =
      let one : HasBytes K d = ap (inode_kind K) (sym owner) ∙ kept.file in
      let two : IsDirectory K d = d_kind ∙ directory in
      omega (arith, one, two)

  -- inode 0 stands for none
  change : ChangesPage P I K j 0 d
  change = record {
    before = coherent;
    free = free;
    entries = entries_stores P I K coherent (owned_stores P I j d coherent reached directory free.0 free.1 empty.kind empty.numbers empty.pointers);
    descriptors = λ x f lt read ne. descriptor_same x f (in_descriptor I f read) (inl ne);
    slots = λ t f lt beside. slot_same t f;
    inodes = λ x f some most lt old links. inode_same x f some most lt;
    linked = reached;
    kind = kind_same ∙ empty.kind;
    pointers = λ t at. pointer_same t ∙ empty.pointers t at;
    no_file = no_file;
  }

  -- it is to be repaired before too
  left : IsLitterPage P I j
  unfolding page_kind
  left = record {
    in_range = free.0;
    free = λ is_kept. elim is_kept [ inl file ↦ reached_pos P I (page_owner P I j) file.owner free.1 | inr room ↦ reached_pos P I (page_owner P I j) room.reached free.1 ];
    nonzero = (1, descriptor_field_read I 1 (omega arith), λ none. (let two = empty.kind in omega (arith, two, none)));
  }

pub page_owned_law : PageOwnedLaw
page_owned_law P I d j residue coherent reached directory free empty tidy =
    let change = change P I d j coherent reached directory free empty in
    let apart : (x : ℕ) → IsLitterInode P I x → x ≢ 0 = λ x l e. (let some = l.least in omega (arith, some, e)) in
    record {
      of_pointer = λ t. ((λ e. (after.pointer_same change t).0 ((tidy.of_pointer t).0 e)), (λ l. (tidy.of_pointer t).1 ((after.pointer_same change t).1 l)));
      of_slots = after.slots_after change residue.slots tidy.of_slots;
      of_pages = after.pages_same change (left P I d j coherent reached directory free empty) residue.pages tidy.of_pages;
      of_inodes = listed_same (IsLitterInode P I) (IsLitterInode P (owned P I j d)) residue.inodes (λ x. (
        (λ l. (after.inode_same change x (inr (apart x l))).0 l),
        (λ l. (after.inode_same change x (inr (λ e. (let some = l.least in omega (arith, some, e))))).1 l),
      )) tidy.of_inodes;
      of_counts = after.counts_same change (links_same P I d j coherent reached directory free empty) residue.counts tidy.of_counts;
      kinds = λ x listed.
          let litter = (tidy.of_inodes.each x).0 listed in
          after.kind_kept change x (apart x litter) litter (tidy.kinds x listed);
      marks = λ x listed. after.mark_kept change x ((tidy.of_pages.each x).0 listed).in_range (tidy.marks x listed);
    }
