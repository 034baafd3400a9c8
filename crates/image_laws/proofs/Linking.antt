-- The words of a new name are stored and a file's link word is raised: nothing is meant by them yet.
use Rattle.std.proofs.Common.{◌≡◌, ◌≢◌, ◌⊎◌, inl, inr, ℕ, ◌+◌, ◌<◌, ◌≤◌, List, refl, sym, ap, subst, ◌∙◌, arith}
use Rattle.std.proofs.lemmas.Bool.{cases_eq}
use Rattle.layout.specs.Fields.{word, inode_links, page_owner, slot_inode}
use Rattle.layout.specs.Geometry.{inodes_of, data_pages_of, inode_word_of, descriptor_word_of, slot_word_of}
use Rattle.layout.proofs.Widths.{in_inode}
use Rattle.tree_model.specs.PathText.{Route}
use Rattle.image_reading.specs.Counts.{AtMost}
use Rattle.image_reading.specs.Reading.{IsLive, Reached, IsNameOf}
use Rattle.image_reading.specs.Soundness.{Rule, HasLinks}
use Rattle.image_counts.proofs.Paths.{in_range}
use Rattle.image_laws.specs.Add.{IsOldFile, CanAdd}
use Rattle.image_laws.specs.Free.{IsFree, Stores}
use Rattle.image_laws.specs.Link.{IsLinkedWord, MakesLink}
use Rattle.image_laws.proofs.Addresses.{descriptor-ne_inode, descriptor-ne_slot, inode-ne_inode, inode-ne_field, inode-ne_slot, slot-ne_slot, slot-ne_field}
use Rattle.image_laws.proofs.Counts.{at_most}
use Rattle.image_laws.proofs.Decide.{dec_eq}
use Rattle.image_laws.proofs.Free.{SameEntries}
use Rattle.image_laws.proofs.Making.{links_more}
use Rattle.image_laws.proofs.KeptInodes.{KeepsInodes, by_inodes}
use Rattle.image_laws.proofs.Naming as names
use Rattle.image_laws.proofs.Naming.{StoresName}
use Rattle.image_laws.proofs.Paths.{reached_pos, reached-le}
use Rattle.image_laws.proofs.Ready.{dec_among, dec_either}
use Rattle.image_laws.specs.Stages.{IsReadySlot}

pub dec_linked : (P s i a : ℕ) → Dec (IsLinkedWord P s i a)
dec_linked P s i a = dec_either _ _ (dec_among (λ k. slot_word_of P s (2 + k)) 14 a) (dec_eq a (inode_word_of i 1))

pub not_linked : (P s i a : ℕ) → ((k : ℕ) → k < 14 → a ≢ slot_word_of P s (2 + k)) → a ≢ inode_word_of i 1 → IsLinkedWord P s i a → ⊥
not_linked P s i a g h m = elim m [ inl (k, lt, e) ↦ g k lt e | inr e ↦ h e ]

module _ (P : ℕ) (B C : List ℕ) (p : Route) (d s i : ℕ) (name : List ℕ) (place : IsReadySlot P B p d s name) (file : IsOldFile P B i) (makes : MakesLink P B C s i name) where
  i_pos : 1 ≤ i
  i_pos = let h = reached_pos P B i file.reached in omega (arith, h)

  i_most : i ≤ inodes_of P
  i_most = reached-le P B place.coherent i file.reached

  -- a file isn't the root
  pub i_least : 2 ≤ i
  i_least = elim (cases_eq i 1) [
    | inl e ↦ (let two = (place.coherent Rule.root i).directory e in let one = file.file in absurd (omega (arith, one, two)))
    | inr ne ↦ let some = i_pos in omega (arith, some, ne)
  ]

  range : (x : ℕ) → Reached P B x → (1 ≤ x) × (x ≤ inodes_of P)
  range x r = in_range P B place.coherent x r

  not_live : (t : ℕ) → IsLive P B t → t ≢ s
  not_live t l e = l.names (ap (slot_inode P B) e ∙ place.slot.free)

  -- ---- which words stay

  same_word : (a : ℕ) → ((k : ℕ) → k < 14 → a ≢ slot_word_of P s (2 + k)) → a ≢ inode_word_of i 1 → word C a ≡ word B a
  same_word a g h = makes.others a (not_linked P s i a g h)

  pub descriptor_same : (j f : ℕ) → j < data_pages_of P → f < 8 → word C (descriptor_word_of P j f) ≡ word B (descriptor_word_of P j f)
  descriptor_same j f lt l8 = same_word (descriptor_word_of P j f)
      (λ k l. descriptor-ne_slot P j f s (2 + k) lt l8)
      (descriptor-ne_inode P j f i 1 i_pos i_most (omega arith))

  -- an inode's words, but the file's link word
  pub inode_same : (x f : ℕ) → 1 ≤ x → x ≤ inodes_of P → f < 16 → (f ≢ 1) ⊎ (x ≢ i) → word C (inode_word_of x f) ≡ word B (inode_word_of x f)
  inode_same x f some most lt other = same_word (inode_word_of x f)
      (λ k l. inode-ne_slot P x f s (2 + k) some most lt)
      (elim other [
        | inl field ↦ inode-ne_field x f i 1 lt (omega arith) field
        | inr ne ↦ inode-ne_inode x f i 1 some i_pos ne lt (omega arith)
      ])

  -- a slot's words, but name words of the slot
  pub slot_same : (t f : ℕ) → f < 16 → (f < 2) ⊎ (t ≢ s) → word C (slot_word_of P t f) ≡ word B (slot_word_of P t f)
  slot_same t f lt other = same_word (slot_word_of P t f)
      (λ k l. elim other [
        | inl low ↦ slot-ne_field P t f s (2 + k) lt (omega arith) (λ e. omega (arith, e, low))
        | inr ne ↦ slot-ne_slot P t f s (2 + k) lt (omega arith) ne
      ])
      (λ e. inode-ne_slot P i 1 t f i_pos i_most (omega arith) (sym e))

  nodes : KeepsInodes B C (Reached P B) (λ x. x ≡ i)
  nodes = by_inodes P B C (Reached P B) (λ x. x ≡ i) range (λ x f r some most lt links. inode_same x f some most (in_inode B f lt) links)

  -- ---- the stores are free

  free_linked : (a : ℕ) → IsLinkedWord P s i a → IsFree P B a
  free_linked a m = elim m [
    | inl (k, lt, e) ↦ subst (IsFree P B) (sym e) (IsFree.name s (2 + k) (omega arith) (omega arith) place.slot.held (λ r. not_live s r.live refl))
    | inr e ↦ subst (IsFree P B) (sym e) (IsFree.link i i_pos i_most)
  ]

  enough_links : (x : ℕ) → Reached P B x → HasLinks P B x (inode_links C x)
  enough_links x r = elim (cases_eq x i) [
    | inl e ↦ subst (λ y. HasLinks P B y (inode_links C y)) (sym e) (subst (HasLinks P B i) (sym makes.links) (links_more P B i (inode_links B i) (place.coherent Rule.links i file.reached)))
    | inr ne ↦ subst (HasLinks P B x) (sym (nodes.links x r ne)) (place.coherent Rule.links x r)
  ]

  pub stores : Stores P B C
  unfolding page_owner
  stores = record {
    size = makes.size;
    words = λ a. elim (dec_linked P s i a) [ no n ↦ inl (makes.others a n) | yes m ↦ inr (free_linked a m) ];
    owners = λ j lt. inl (descriptor_same j 0 lt (omega arith));
    links = enough_links;
  }

  pub named : StoresName P B C s name
  named = record { stores = stores; descriptors = descriptor_same; slots = slot_same; words = makes.words }

  entries : SameEntries P B C
  entries = names.entries place named

  -- ---- the slot may take the inode

  pub old_file : IsOldFile P C i
  old_file = record { reached = (file.reached.0, (entries.same.names file.reached.0 i).0 file.reached.1); file = nodes.kind i file.reached ∙ file.file }

  name_back : (t : ℕ) → IsNameOf P C i t → IsNameOf P B i t
  name_back t n = record { slot = (entries.slots t).1 n.slot; inode = sym (names.number_same place named t) ∙ n.inode }

  name_room : AtMost 1 (IsNameOf P C i) (inode_links C i)
  name_room xs distinct all =
      let le = at_most 0 (inode_links B i) (IsNameOf P B i) (IsNameOf P C i) name_back ((place.coherent Rule.links i file.reached).file file.file) xs distinct all in
      let links = makes.links in omega (arith, le, links)

  pub can_add : CanAdd P C p d s i
  can_add = names.may_add place named i i_least i_most (inr old_file) (λ _. name_room) (λ two. let one = old_file.file in absurd (omega (arith, one, two)))
