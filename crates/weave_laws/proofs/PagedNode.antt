-- A new node is written with its name in a new page: the page, the inode and the link word of a directory's parent are to be repaired then.
use Rattle.std.proofs.Common.{◌≡◌, ◌≢◌, ◌⊎◌, inl, inr, ℕ, ◌+◌, ◌<◌, ◌≤◌, List, ◌∷◌, ◌++◌, Some, sym, ap, subst, ◌∙◌, arith}
use Rattle.layout.specs.Fields.{word, IsKindOrOffset, inode_words, descriptor_words, inode_kind, inode_links}
use Rattle.layout.specs.Geometry.{inodes_of, data_pages_of, page_of_slot, inode_word_of, descriptor_word_of, slot_word_of, page_word_of}
use Rattle.layout.specs.declared.kinds.NodeKind.{NodeKind}
use Rattle.layout.specs.declared.kinds.NodeKind.TheVariants.{File, Directory}
use Rattle.layout.proofs.Widths.{in_inode, in_descriptor, inode_field_read}
use Rattle.image_reading.specs.Counts.{IsIn, IsListOf}
use Rattle.image_reading.specs.Litter.{IsInode}
use Rattle.image_reading.specs.Reading.{Reached}
use Rattle.image_reading.specs.Repairs.{IsLitterInode, IsLitterCount}
use Rattle.image_reading.specs.Residue.{Residue, IsTidyBeside}
use Rattle.image_reading.specs.Soundness.{Rule, IsCoherent, HasLinks}
use Rattle.image_counts.specs.Entries.{IsFreePage, IsUnusedPage}
use Rattle.image_counts.proofs.Paths.{in_range}
use Rattle.image_laws.specs.Create.{parent_links, IsMadeWord, IsPageMadeWord}
use Rattle.image_laws.specs.Free.{IsFree}
use Rattle.image_laws.specs.Taking.{MakesPagedNode}
use Rattle.image_laws.proofs.Addresses.{descriptor-ne_inode, descriptor-ne_page, descriptor-ne_slot, inode-ne_inode, inode-ne_field, inode-ne_slot, page-ne_inode, page-ne_slot, slot-ne_slot}
use Rattle.image_laws.proofs.Making.{links_for, node_says}
use Rattle.image_laws.proofs.NewPage.{not_page_made}
use Rattle.image_laws.proofs.Ready.{dec_made, made_cases, not_made}
use Rattle.weave_laws.specs.Joined.{joined}
use Rattle.weave_laws.specs.Naming.{IsCountedParent, counts_left, node_left}
use Rattle.weave_laws.specs.Paging.{PagedNodeWrittenLaw}
use Rattle.weave_laws.proofs.FreeBeside.{kindless_unreached, kindless_tidy, unused_tidy}
use Rattle.weave_laws.proofs.Listed.{listed_more}
use Rattle.weave_laws.proofs.NodeWritten.{some_code}
use Rattle.weave_laws.proofs.PagedBeside as after
use Rattle.weave_laws.proofs.PagedBeside.{ChangesPage}
use Rattle.weave_laws.proofs.PagedWritten as written
use Rattle.weave_laws.proofs.PagedWritten.{WritesPage, descriptor_apart, name_in_page}

module _ (P : ℕ) (I J : List ℕ) (kind : NodeKind) (d j s i : ℕ) (name : List ℕ) (coherent : IsCoherent P I) (reached : Reached P I d) (page : IsFreePage P I j) (at : page_of_slot s ≡ j)
    (inode : IsInode P i) (unreached : ¬ Reached P I i) (makes : MakesPagedNode P I J kind d j s i name) where
  d_range : (1 ≤ d) × (d ≤ inodes_of P)
  d_range = in_range P I coherent d reached

  same_word : (a : ℕ) → ((w : ℕ) → w < 512 → a ≢ page_word_of P j w) → ((f : ℕ) → IsKindOrOffset f → a ≢ descriptor_word_of P j f) → ((f : ℕ) → f < inode_words I → a ≢ inode_word_of i f)
      → ((k : ℕ) → k < 14 → a ≢ slot_word_of P s (2 + k)) → a ≢ inode_word_of d 1 → word J a ≡ word I a
  same_word a page descriptor inode slot parent = makes.others a (not_page_made P j a page descriptor) (not_made P I kind d s i a inode slot parent)

  descriptor_same : (x f : ℕ) → x < data_pages_of P → f < descriptor_words I → (x ≢ j) ⊎ (f ≡ 0) → word J (descriptor_word_of P x f) ≡ word I (descriptor_word_of P x f)
  descriptor_same x f lt read other = same_word (descriptor_word_of P x f)
      (λ w l. descriptor-ne_page P x f j w lt (in_descriptor I f read))
      (descriptor_apart P j x f (in_descriptor I f read) other)
      (λ g l. descriptor-ne_inode P x f i g inode.from_one inode.in_range (in_inode I g l))
      (λ k l. descriptor-ne_slot P x f s (2 + k) lt (in_descriptor I f read))
      (descriptor-ne_inode P x f d 1 d_range.0 d_range.1 (omega arith))

  slot_same : (t f : ℕ) → f < 16 → page_of_slot t ≢ j → word J (slot_word_of P t f) ≡ word I (slot_word_of P t f)
  slot_same t f lt beside = same_word (slot_word_of P t f)
      (λ w l e. page-ne_slot P j w t f l lt (λ z. beside (sym z)) (sym e))
      (λ g which e. descriptor-ne_slot P j g t f page.0 (omega (arith, which)) (sym e))
      (λ g l e. inode-ne_slot P i g t f inode.from_one inode.in_range (in_inode I g l) (sym e))
      (λ k l. slot-ne_slot P t f s (2 + k) lt (omega arith) (λ e. beside (ap page_of_slot e ∙ at)))
      (λ e. inode-ne_slot P d 1 t f d_range.0 d_range.1 (omega arith) (sym e))

  inode_same : (x f : ℕ) → 1 ≤ x → x ≤ inodes_of P → f < inode_words I → Reached P I x ⊎ (x ≢ i) → (f ≢ 1) ⊎ (x ≢ d) → word J (inode_word_of x f) ≡ word I (inode_word_of x f)
  inode_same x f some most lt old parent =
      let other : x ≢ i = elim old [ inl r ↦ (λ e. unreached (subst (Reached P I) e r)) | inr ne ↦ ne ] in
      let own = in_inode I f lt in
      same_word (inode_word_of x f)
      (λ w l e. page-ne_inode P j w x f some most own (sym e))
      (λ g which e. descriptor-ne_inode P j g x f some most own (sym e))
      (λ g l. inode-ne_inode x f i g some inode.from_one other own (in_inode I g l))
      (λ k l. inode-ne_slot P x f s (2 + k) some most own)
      (elim parent [
        | inl field ↦ inode-ne_field x f d 1 own (omega arith) field
        | inr ne ↦ inode-ne_inode x f d 1 some d_range.0 ne own (omega arith)
      ])

  free_made : (a : ℕ) → (IsPageMadeWord P j a → ⊥) → IsMadeWord P I kind d s i a → IsFree P I a
  free_made a other m = elim (made_cases P I kind d s i a m) [
    | inl (f, lt, e) ↦ subst (IsFree P I) (sym e) (IsFree.inode i f inode.from_one inode.in_range (in_inode I f lt) unreached)
    | inr n ↦ elim n [
      | inl named ↦ absurd (other (name_in_page P j s a at named))
      | inr e ↦ subst (IsFree P I) (sym e) (IsFree.link d d_range.0 d_range.1)
    ]
  ]

  pub writes : WritesPage P I J j s i d name
  writes = record {
    before = coherent;
    free = page;
    size = makes.size;
    page = makes.page;
    words = λ a other. elim (dec_made P I kind d s i a) [ yes m ↦ inr (free_made a other m) | no n ↦ inl (makes.others a other n) ];
    linked = reached;
    links = subst (HasLinks P I d) (sym makes.parent) (links_for kind P I d (inode_links I d) (coherent Rule.links d reached));
    descriptors = descriptor_same;
    slots = slot_same;
    inodes = inode_same;
  }

  change : ChangesPage P I J j i d
  change = written.change writes

  new_kind : inode_kind J i ≢ 0
  unfolding inode_kind
  new_kind z = some_code kind (sym (node_says kind i).0 ∙ sym (makes.inode 0 (inode_field_read I 0 (omega arith))) ∙ z)

  new_inode : IsLitterInode P J i
  unfolding inode_kind
  new_inode = record {
    least = inode.from_one;
    most = inode.in_range;
    unreached = λ r. unreached ((after.reached change i).1 r);
    nonzero = (0, inode_field_read J 0 (omega arith), new_kind);
  }

  module _ (others : Residue) (none : inode_kind I i ≡ 0) (unused : IsUnusedPage P I j) (counted : IsCountedParent P I kind d) (tidy : IsTidyBeside P I others) where
    no_inode : ¬ IsLitterInode P I i
    no_inode = kindless_tidy P I i others tidy none

    counts_after : (kind : NodeKind) → inode_links J d ≡ parent_links kind (inode_links I d) → IsCountedParent P I kind d → IsListOf (IsLitterCount P J) (counts_left kind d ++ others.counts)
    counts_after Directory links counted = after.counts_more change links counted others.counts tidy.of_counts
    counts_after File links counted = after.counts_same change links others.counts tidy.of_counts

    kind_after : (x : ℕ) → IsIn x (i ∷ others.inodes) → inode_kind J x ≢ 0
    kind_after x among = elim among [
      | inl e ↦ subst (λ z. inode_kind J z ≢ 0) (sym e) new_kind
      | inr other ↦
          let litter = (tidy.of_inodes.each x).0 other in
          after.kind_kept change x (λ e. no_inode (subst (IsLitterInode P I) e litter)) litter (tidy.kinds x other)
    ]

    pub tidy_after : IsTidyBeside P J (joined (node_left kind d s (Some j) i) others)
    tidy_after = record {
      of_pointer = λ t. ((λ e. (after.pointer_same change t).0 ((tidy.of_pointer t).0 e)), (λ l. (tidy.of_pointer t).1 ((after.pointer_same change t).1 l)));
      of_slots = after.slots_after change others.slots tidy.of_slots;
      of_pages = after.pages_more change (unused_tidy P I j others tidy unused) others.pages tidy.of_pages;
      of_inodes = listed_more (IsLitterInode P I) (IsLitterInode P J) i others.inodes no_inode new_inode (λ x ne. after.inode_same change x (inr ne)) tidy.of_inodes;
      of_counts = counts_after kind makes.parent counted;
      kinds = kind_after;
      marks = after.marks_more change others.pages tidy.of_pages tidy.marks;
    }

pub paged_node_written_law : PagedNodeWrittenLaw
paged_node_written_law P I J kind d j s i name others coherent reached page at (some, most, none) counted makes tidy =
    tidy_after P I J kind d j s i name coherent reached (page.0, page.1.0) at (record { from_one = some; in_range = most }) (kindless_unreached P I i coherent none) makes others none page.1 counted tidy
