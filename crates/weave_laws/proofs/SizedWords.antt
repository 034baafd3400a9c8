-- One size word changes: which words stay, and that the paths do.
use Rattle.std.proofs.Common.{◌≡◌, ◌≢◌, inl, inr, ℕ, ◌≤◌, List, [], ◌∷◌, refl, sym, ap, subst, ◌∙◌, arith}
use Rattle.std.proofs.lemmas.List.{get_or-set_same, get_or-set_other}
use Rattle.layout.specs.Fields.{word, inode_kind, inode_size, slot_inode, slot_pointer, slot_name}
use Rattle.layout.specs.Geometry.{inodes_of, inode_word_of, descriptor_word_of, slot_word_of}
use Rattle.layout.specs.Name.{name_in_words}
use Rattle.layout.proofs.GeometryLaws.{inode_word_within}
use Rattle.layout.proofs.Widths.{in_inode}
use Rattle.tree_model.specs.PathText.{Route}
use Rattle.image_reading.specs.Reading.{slot_owner, IsLive, Names, Reached}
use Rattle.image_reading.specs.Soundness.{Rule, IsCoherent}
use Rattle.image_counts.proofs.Paths.{in_range}
use Rattle.image_laws.proofs.Addresses.{head-ne_inode, descriptor-ne_inode, inode-ne_inode, inode-ne_field, inode-ne_slot}
use Rattle.image_laws.proofs.KeptPages.{KeepsPages, held_owner_same, held_forth}
use Rattle.image_laws.proofs.Resize.{OnlySize, only_size}
use Rattle.content_laws.specs.Growth.{sized}
use Rattle.weave_laws.proofs.Sized.{ChangesFile}

-- what the paths are read from is the same in X and Y
record SamePaths (P : ℕ) (X Y : List ℕ) : Type 0 where
  paged : KeepsPages P X Y (λ j. ⊥)
  paged_back : KeepsPages P Y X (λ j. ⊥)
  kind : (x : ℕ) → inode_kind Y x ≡ inode_kind X x
  number : (t : ℕ) → slot_inode P Y t ≡ slot_inode P X t
  pointer : (t : ℕ) → slot_pointer P Y t ≡ slot_pointer P X t
  name : (t : ℕ) → slot_name P Y t ≡ slot_name P X t

module _ {P : ℕ} {X Y : List ℕ} (words : SamePaths P X Y) where
  live_forth : (t : ℕ) → IsLive P X t → IsLive P Y t
  live_forth t l = record {
    held = held_forth words.paged t (λ none. none) l.held;
    names = λ e. l.names (sym (words.number t) ∙ e);
    stays = λ q h points same. l.stays q (held_forth words.paged_back q (λ none. none) h) (sym (words.pointer q) ∙ points) (sym (words.number q) ∙ same ∙ words.number t);
  }

  names_forth : (q : Route) (x : ℕ) → Names P X q x → Names P Y q x
  names_forth [] x e = e
  names_forth (n ∷ q) x (t, b, l) = let o = held_owner_same words.paged t l.live.held (λ none. none) in (
    t,
    subst (Names P Y q) (sym o) (names_forth q (slot_owner P X t) b),
    record {
      directory = ap (inode_kind Y) o ∙ words.kind (slot_owner P X t) ∙ l.directory;
      live = live_forth t l.live;
      name = words.name t ∙ l.name;
      inode = words.number t ∙ l.inode;
      in_range = l.in_range;
    },
  )

flipped : {P : ℕ} {X Y : List ℕ} → SamePaths P X Y → SamePaths P Y X
flipped words = record {
  paged = words.paged_back;
  paged_back = words.paged;
  kind = λ x. sym (words.kind x);
  number = λ t. sym (words.number t);
  pointer = λ t. sym (words.pointer t);
  name = λ t. sym (words.name t);
}

module _ (P : ℕ) (I : List ℕ) (i z : ℕ) (coherent : IsCoherent P I) (reached : Reached P I i) where
  i_pos : 1 ≤ i
  i_pos = (in_range P I coherent i reached).0

  i_most : i ≤ inodes_of P
  i_most = (in_range P I coherent i reached).1

  only : OnlySize P I (sized I i z) i
  only = only_size P I i z i_pos i_most

  name_same : (t : ℕ) → slot_name P (sized I i z) t ≡ slot_name P I t
  unfolding slot_name
  name_same t = ap name_in_words (only.words t)

  same_paths : SamePaths P I (sized I i z)
  same_paths = record {
    paged = record { owner = λ j lt none. only.owner j lt; kind = λ j lt none. only.kind j lt; offset = λ j lt none. only.offset j lt };
    paged_back = record { owner = λ j lt none. sym (only.owner j lt); kind = λ j lt none. sym (only.kind j lt); offset = λ j lt none. sym (only.offset j lt) };
    kind = only.node_kind;
    number = only.inode;
    pointer = only.pointer;
    name = name_same;
  }

  other : (a : ℕ) → a ≢ inode_word_of i 2 → word (sized I i z) a ≡ word I a
  unfolding word
  other a ne = get_or-set_other I (inode_word_of i 2) a z 0 ne

  pub size_after : inode_size (sized I i z) i ≡ z
  unfolding inode_size word
  size_after =
      let within = inode_word_within P i 2 ((coherent Rule.head 0).size refl) i_pos i_most (omega arith) in
      let long = (coherent Rule.head 0).whole refl in
      get_or-set_same I (inode_word_of i 2) z 0 (omega (arith, within, long))

  pub change : IsCoherent P (sized I i z) → ChangesFile P I (sized I i z) i (λ j. ⊥)
  change after = record {
    before = coherent;
    after = after;
    file = reached;
    names = λ q x. (names_forth same_paths q x, names_forth (flipped same_paths) q x);
    version = other 1 (head-ne_inode i 2 1 (omega arith));
    descriptors = λ j f lt read none. other (descriptor_word_of P j f) (descriptor-ne_inode P j f i 2 i_pos i_most (omega arith));
    unheld = λ t none. absurd none;
    unheld_after = λ t none. absurd none;
    slots = λ t f held lt. other (slot_word_of P t f) (λ e. inode-ne_slot P i 2 t f i_pos i_most (omega arith) (sym e));
    inodes = λ x f some most lt why. other (inode_word_of x f) (elim why [
      | inl ne ↦ inode-ne_field x f i 2 (in_inode I f lt) (omega arith) ne
      | inr ne ↦ inode-ne_inode x f i 2 some i_pos ne (in_inode I f lt) (omega arith)
    ]);
  }
