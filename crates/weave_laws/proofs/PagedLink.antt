-- A link is written in a new page: the page and the file's link word are to be repaired then.
use Rattle.std.proofs.Common.{◌≡◌, ◌≢◌, ◌⊎◌, inl, inr, ℕ, ◌+◌, ◌<◌, ◌≤◌, List, sym, ap, subst, ◌∙◌, arith}
use Rattle.std.proofs.lemmas.Bool.{cases_eq}
use Rattle.layout.specs.Fields.{word, IsKindOrOffset, inode_words, descriptor_words, inode_links}
use Rattle.layout.specs.Geometry.{inodes_of, data_pages_of, page_of_slot, inode_word_of, descriptor_word_of, slot_word_of, page_word_of}
use Rattle.layout.proofs.Widths.{in_inode, in_descriptor}
use Rattle.image_reading.specs.Reading.{Reached}
use Rattle.image_reading.specs.Repairs.{IsLitterInode}
use Rattle.image_reading.specs.Soundness.{Rule, IsCoherent, HasLinks}
use Rattle.image_counts.specs.Entries.{IsFreePage}
use Rattle.image_counts.proofs.Paths.{in_range}
use Rattle.image_laws.specs.Add.{IsOldFile}
use Rattle.image_laws.specs.Create.{IsPageMadeWord}
use Rattle.image_laws.specs.Free.{IsFree}
use Rattle.image_laws.specs.Link.{IsLinkedWord}
use Rattle.image_laws.specs.Taking.{MakesPagedLink}
use Rattle.image_laws.proofs.Addresses.{descriptor-ne_inode, descriptor-ne_page, descriptor-ne_slot, inode-ne_inode, inode-ne_field, inode-ne_slot, page-ne_inode, page-ne_slot, slot-ne_slot}
use Rattle.image_laws.proofs.Linking.{dec_linked, not_linked}
use Rattle.image_laws.proofs.Making.{links_more}
use Rattle.image_laws.proofs.NewPage.{not_page_made}
use Rattle.weave_laws.specs.Paging.{PagedLinkWrittenLaw}
use Rattle.weave_laws.proofs.FreeBeside.{unused_tidy}
use Rattle.weave_laws.proofs.Listed.{listed_same}
use Rattle.weave_laws.proofs.PagedBeside as after
use Rattle.weave_laws.proofs.PagedWritten as written
use Rattle.weave_laws.proofs.PagedWritten.{WritesPage, descriptor_apart, name_in_page}

module _ (P : ℕ) (I J : List ℕ) (j s i : ℕ) (name : List ℕ) (coherent : IsCoherent P I) (page : IsFreePage P I j) (at : page_of_slot s ≡ j) (file : IsOldFile P I i)
    (makes : MakesPagedLink P I J j s i name) where
  range : (1 ≤ i) × (i ≤ inodes_of P)
  range = in_range P I coherent i file.reached

  same_word : (a : ℕ) → ((w : ℕ) → w < 512 → a ≢ page_word_of P j w) → ((f : ℕ) → IsKindOrOffset f → a ≢ descriptor_word_of P j f)
      → ((k : ℕ) → k < 14 → a ≢ slot_word_of P s (2 + k)) → a ≢ inode_word_of i 1 → word J a ≡ word I a
  same_word a page descriptor slot links = makes.others a (not_page_made P j a page descriptor) (not_linked P s i a slot links)

  descriptor_same : (x f : ℕ) → x < data_pages_of P → f < descriptor_words I → (x ≢ j) ⊎ (f ≡ 0) → word J (descriptor_word_of P x f) ≡ word I (descriptor_word_of P x f)
  descriptor_same x f lt read other = same_word (descriptor_word_of P x f)
      (λ w l. descriptor-ne_page P x f j w lt (in_descriptor I f read))
      (descriptor_apart P j x f (in_descriptor I f read) other)
      (λ k l. descriptor-ne_slot P x f s (2 + k) lt (in_descriptor I f read))
      (descriptor-ne_inode P x f i 1 range.0 range.1 (omega arith))

  slot_same : (t f : ℕ) → f < 16 → page_of_slot t ≢ j → word J (slot_word_of P t f) ≡ word I (slot_word_of P t f)
  slot_same t f lt beside = same_word (slot_word_of P t f)
      (λ w l e. page-ne_slot P j w t f l lt (λ z. beside (sym z)) (sym e))
      (λ g which e. descriptor-ne_slot P j g t f page.0 (omega (arith, which)) (sym e))
      (λ k l. slot-ne_slot P t f s (2 + k) lt (omega arith) (λ e. beside (ap page_of_slot e ∙ at)))
      (λ e. inode-ne_slot P i 1 t f range.0 range.1 (omega arith) (sym e))

  inode_same : (x f : ℕ) → 1 ≤ x → x ≤ inodes_of P → f < inode_words I → (f ≢ 1) ⊎ (x ≢ i) → word J (inode_word_of x f) ≡ word I (inode_word_of x f)
  inode_same x f some most lt links =
      let own = in_inode I f lt in
      same_word (inode_word_of x f)
      (λ w l e. page-ne_inode P j w x f some most own (sym e))
      (λ g which e. descriptor-ne_inode P j g x f some most own (sym e))
      (λ k l. inode-ne_slot P x f s (2 + k) some most own)
      (elim links [
        | inl field ↦ inode-ne_field x f i 1 own (omega arith) field
        | inr ne ↦ inode-ne_inode x f i 1 some range.0 ne own (omega arith)
      ])

  free_linked : (a : ℕ) → (IsPageMadeWord P j a → ⊥) → IsLinkedWord P s i a → IsFree P I a
  free_linked a other m = elim m [
    | inl named ↦ absurd (other (name_in_page P j s a at named))
    | inr e ↦ subst (IsFree P I) (sym e) (IsFree.link i range.0 range.1)
  ]

  pub writes : WritesPage P I J j s i i name
  writes = record {
    before = coherent;
    free = page;
    size = makes.size;
    page = makes.page;
    words = λ a other. elim (dec_linked P s i a) [ yes m ↦ inr (free_linked a other m) | no n ↦ inl (makes.others a other n) ];
    linked = file.reached;
    links = subst (HasLinks P I i) (sym makes.links) (links_more P I i (inode_links I i) (coherent Rule.links i file.reached));
    descriptors = descriptor_same;
    slots = slot_same;
    inodes = λ x f some most lt old links. inode_same x f some most lt links;
  }

pub paged_link_written_law : PagedLinkWrittenLaw
paged_link_written_law P I J j s i name others coherent page at file counted makes tidy =
    let change = written.change (writes P I J j s i name coherent (page.0, page.1.0) at file makes) in
    record {
      of_pointer = λ t. ((λ e. (after.pointer_same change t).0 ((tidy.of_pointer t).0 e)), (λ l. (tidy.of_pointer t).1 ((after.pointer_same change t).1 l)));
      of_slots = after.slots_after change others.slots tidy.of_slots;
      of_pages = after.pages_more change (unused_tidy P I j others tidy page.1) others.pages tidy.of_pages;
      of_inodes = listed_same (IsLitterInode P I) (IsLitterInode P J) others.inodes
          (λ x. after.inode_same change x (elim (cases_eq x i) [ inl e ↦ inl (subst (Reached P I) (sym e) file.reached) | inr ne ↦ inr ne ])) tidy.of_inodes;
      of_counts = after.counts_more change makes.links counted others.counts tidy.of_counts;
      kinds = λ x among.
          let litter = (tidy.of_inodes.each x).0 among in
          after.kind_kept change x (λ e. litter.unreached (subst (Reached P I) (sym e) file.reached)) litter (tidy.kinds x among);
      marks = after.marks_more change others.pages tidy.of_pages tidy.marks;
    }
