-- A name is written in a page without an owner, with what goes with it: each word that changes is free.
use Rattle.std.proofs.Common.{◌≡◌, ◌≢◌, ◌⊎◌, inl, inr, ℕ, ◌+◌, ◌<◌, ◌≤◌, List, length, refl, sym, subst, ◌∙◌, arith}
use Rattle.std.proofs.lemmas.Bool.{cases_eq}
use Rattle.layout.specs.Geometry.{inodes_of, data_pages_of, page_of_slot, inode_word_of, descriptor_word_of, slot_word_of, page_word_of}
use Rattle.layout.specs.Fields.{word, IsKindOrOffset, inode_words, descriptor_words, inode_links, page_owner}
use Rattle.layout.proofs.Widths.{descriptor_field_read}
use Rattle.image_reading.specs.Reading.{Reached}
use Rattle.image_reading.specs.Repairs.{IsKeptFilePage}
use Rattle.image_reading.specs.Soundness.{Rule, IsCoherent, HasLinks}
use Rattle.image_counts.specs.Entries.{IsFreePage}
use Rattle.image_counts.proofs.Paths.{in_range}
use Rattle.image_laws.specs.Create.{IsAmong, IsPageMadeWord}
use Rattle.image_laws.specs.Free.{IsFree, Stores}
use Rattle.image_laws.specs.Taking.{IsNamedPage}
use Rattle.image_laws.proofs.Addresses.{descriptor_word-one, slot_word-in_page, word_in_page, word_in_page-lt}
use Rattle.image_laws.proofs.Free.{entries_stores}
use Rattle.image_laws.proofs.KeptInodes.{KeepsInodes, by_inodes}
use Rattle.image_laws.proofs.NewPage.{dec_page_made, free_page_word}
use Rattle.image_laws.proofs.Paths.{reached_pos}
use Rattle.weave_laws.proofs.PagedBeside.{ChangesPage}

-- the descriptor's words that the page doesn't change
pub descriptor_apart : (P j x f : ℕ) → f < 8 → (x ≢ j) ⊎ (f ≡ 0) → (g : ℕ) → IsKindOrOffset g → descriptor_word_of P x f ≢ descriptor_word_of P j g
descriptor_apart P j x f l8 other g which e =
    let (same_page, same_field) = descriptor_word-one P x f j g l8 (omega (arith, which)) e in
    elim other [ inl ne ↦ ne same_page | inr none ↦ omega (arith, none, same_field, which) ]

-- the name's words are the page's
pub name_in_page : (P j s a : ℕ) → page_of_slot s ≡ j → IsAmong (λ k. slot_word_of P s (2 + k)) 14 a → IsPageMadeWord P j a
name_in_page P j s a at (k, lt, e) = inl (
  word_in_page s (2 + k),
  word_in_page-lt s (2 + k) (omega arith),
  e ∙ subst (λ (z : ℕ). slot_word_of P s (2 + k) ≡ page_word_of P z (word_in_page s (2 + k))) at (slot_word-in_page P s (2 + k)),
)

-- From I to J page j gets the name, still without an owner. Of inodes only i changes, which is free, and the links of y.
pub record WritesPage (P : ℕ) (I J : List ℕ) (j s i y : ℕ) (name : List ℕ) : Type 0 where
  pub before : IsCoherent P I
  pub free : IsFreePage P I j
  pub size : length J ≡ length I
  pub page : IsNamedPage P J j s name
  pub words : (a : ℕ) → (IsPageMadeWord P j a → ⊥) → (word J a ≡ word I a) ⊎ IsFree P I a
  pub linked : Reached P I y
  pub links : HasLinks P I y (inode_links J y)
  pub descriptors : (x f : ℕ) → x < data_pages_of P → f < descriptor_words I → (x ≢ j) ⊎ (f ≡ 0) → word J (descriptor_word_of P x f) ≡ word I (descriptor_word_of P x f)
  pub slots : (t f : ℕ) → f < 16 → page_of_slot t ≢ j → word J (slot_word_of P t f) ≡ word I (slot_word_of P t f)
  pub inodes : (x f : ℕ) → 1 ≤ x → x ≤ inodes_of P → f < inode_words I → Reached P I x ⊎ (x ≢ i) → (f ≢ 1) ⊎ (x ≢ y) → word J (inode_word_of x f) ≡ word I (inode_word_of x f)

module _ {P : ℕ} {I J : List ℕ} {j s i y : ℕ} {name : List ℕ} (writes : WritesPage P I J j s i y name) where
  owner_same : (x : ℕ) → x < data_pages_of P → page_owner P J x ≡ page_owner P I x
  unfolding page_owner
  owner_same x lt = writes.descriptors x 0 lt (descriptor_field_read I 0 (omega arith)) (inr refl)

  nodes : KeepsInodes I J (Reached P I) (λ x. x ≡ y)
  nodes = by_inodes P I J (Reached P I) (λ x. x ≡ y) (in_range P I writes.before) (λ x f r some most lt links. writes.inodes x f some most lt (inl r) links)

  enough_links : (x : ℕ) → Reached P I x → HasLinks P I x (inode_links J x)
  enough_links x r = elim (cases_eq x y) [
    | inl e ↦ subst (λ (z : ℕ). HasLinks P I z (inode_links J z)) (sym e) writes.links
    | inr ne ↦ subst (HasLinks P I x) (sym (nodes.links x r ne)) (writes.before Rule.links x r)
  ]

  pub stores : Stores P I J
  stores = record {
    size = writes.size;
    words = λ a. elim (dec_page_made P j a) [ yes m ↦ inr (free_page_word P I j writes.free a m) | no n ↦ writes.words a n ];
    owners = λ x lt. inl (owner_same x lt);
    links = enough_links;
  }

  -- without an owner it is no file's page
  no_file : ¬ IsKeptFilePage P J j
  no_file is_kept = reached_pos P J (page_owner P J j) is_kept.owner (owner_same j writes.free.0 ∙ writes.free.1)

  pub change : ChangesPage P I J j i y
  change = record {
    before = writes.before;
    free = writes.free;
    entries = entries_stores P I J writes.before stores;
    descriptors = λ x f lt read ne. writes.descriptors x f lt read (inl ne);
    slots = writes.slots;
    inodes = writes.inodes;
    linked = writes.linked;
    kind = writes.page.kind;
    pointers = writes.page.pointers;
    no_file = no_file;
  }
