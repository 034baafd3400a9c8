-- A rename pointer that changes with free words.
use Rattle.std.proofs.Common.{◌≡◌, ◌≢◌, ◌⊎◌, inl, inr, refl, ℕ, ◌+◌, ◌-◌, ◌<◌, List, length, set, length-set, sym, subst, ◌∙◌, arith}
use Rattle.std.proofs.lemmas.Bool.{cases_eq}
use Rattle.std.proofs.lemmas.List.{get_or-set_same, get_or-set_other}
use Rattle.layout.specs.Fields.{word, inode_links, page_owner, page_kind, slot_inode, slot_pointer}
use Rattle.layout.specs.Geometry.{data_pages_of, page_of_slot, inode_word_of, descriptor_word_of, slot_word_of}
use Rattle.layout.proofs.GeometryLaws.{page_of_slot_below, slot_word_within}
use Rattle.image_reading.specs.Reading.{slot_owner, IsHeld, Reached}
use Rattle.image_reading.specs.Soundness.{Rule, HasLinks}
use Rattle.image_counts.proofs.Paths.{in_range}
use Rattle.image_laws.specs.Frame.{SameMeaning}
use Rattle.image_laws.specs.Free.{IsFree}
use Rattle.image_laws.specs.Pointers.{CanPoint}
use Rattle.image_laws.specs.Quiet.{IsMix, IsQuiet}
use Rattle.image_laws.specs.Words.{IsUsed}
use Rattle.image_laws.proofs.Addresses.{descriptor-ne_slot, inode-ne_slot}
use Rattle.image_laws.proofs.Free.{free_law, stores_law, mix_one}
use Rattle.image_laws.proofs.Meaning.{same_chained}
use Rattle.image_laws.proofs.Pointers.{pointer_law}
use Rattle.image_laws.proofs.Quiet.{mix_quiet}
use Rattle.rename_laws.specs.Pointing.{StoresPointing, PointingLaw}

-- ---- the pointer put back

module _ (P : ℕ) (X : List ℕ) (d : ℕ) where
  back : List ℕ → List ℕ
  back I = set I (slot_word_of P d 1) (slot_pointer P X d)

  other_back : (I : List ℕ) (a : ℕ) → a ≢ slot_word_of P d 1 → word (back I) a ≡ word I a
  unfolding back word
  other_back I a ne = get_or-set_other I (slot_word_of P d 1) a (slot_pointer P X d) 0 ne

  pointer_back : (I : List ℕ) → slot_word_of P d 1 < length I → word (back I) (slot_word_of P d 1) ≡ word X (slot_word_of P d 1)
  unfolding back slot_pointer word
  pointer_back I inside = get_or-set_same I (slot_word_of P d 1) (slot_pointer P X d) 0 inside

pointer_inside : (P : ℕ) (X Y : List ℕ) (d v : ℕ) → CanPoint P X d v → length Y ≡ length X → slot_word_of P d 1 < length Y
pointer_inside P X Y d v can size =
    let below = slot_word_within P d 1 can.held.in_range (omega arith) in let whole = (can.coherent Rule.head 0).whole refl in omega (arith, below, whole, size)

-- A pointer that changes with words that are free, with owners that stay and enough links.
module _ (P : ℕ) (X Y : List ℕ) (d v : ℕ) (can : CanPoint P X d v) (size : length Y ≡ length X) (words : (a : ℕ) → a ≢ slot_word_of P d 1 → (word Y a ≡ word X a) ⊎ IsFree P X a)
    (owners : (j : ℕ) → j < data_pages_of P → page_owner P Y j ≡ page_owner P X j) (links : (x : ℕ) → Reached P X x → HasLinks P X x (inode_links Y x)) where
  back_words : (a : ℕ) → (word (back P X d Y) a ≡ word X a) ⊎ IsFree P X a
  back_words a = elim (cases_eq a (slot_word_of P d 1)) [
    | inl e ↦ inl (subst (λ b. word (back P X d Y) b ≡ word X b) (sym e) (pointer_back P X d Y (pointer_inside P X Y d v can size)))
    | inr ne ↦ elim (words a ne) [ inl same ↦ inl (other_back P X d Y a ne ∙ same) | inr free ↦ inr free ]
  ]

  pub stores_pointing : slot_pointer P Y d ≡ v → StoresPointing P X Y d v
  unfolding back page_owner inode_links
  stores_pointing pointer = record {
    pointer = pointer;
    rest = record {
      size = length-set Y (slot_word_of P d 1) (slot_pointer P X d) ∙ size;
      words = back_words;
      owners = λ j lt. inl (other_back P X d Y (descriptor_word_of P j 0) (descriptor-ne_slot P j 0 d 1 lt (omega arith)) ∙ owners j lt);
      links = λ x r.
          let (some, most) = in_range P X can.coherent x r in
          subst (HasLinks P X x) (sym (other_back P X d Y (inode_word_of x 1) (inode-ne_slot P x 1 d 1 some most (omega arith)))) (links x r);
    };
    owners = owners;
  }

-- ---- each mix means the same

module _ (P : ℕ) (X Y M : List ℕ) (d v : ℕ) (can : CanPoint P X d v) (stores : StoresPointing P X Y d v) (mix : IsMix X Y M) where
  in_image : slot_word_of P d 1 < length M
  in_image = pointer_inside P X M d v can mix.size

  mix_back : IsMix X (back P X d Y) (back P X d M)
  unfolding back
  mix_back = record {
    size = length-set M (slot_word_of P d 1) (slot_pointer P X d) ∙ mix.size;
    words = λ a. elim (cases_eq a (slot_word_of P d 1)) [
      | inl e ↦ inl (subst (λ b. word (back P X d M) b ≡ word X b) (sym e) (pointer_back P X d M in_image))
      | inr ne ↦ elim (mix.words a) [ inl e ↦ inl (other_back P X d M a ne ∙ e) | inr e ↦ inr (other_back P X d M a ne ∙ e ∙ sym (other_back P X d Y a ne)) ]
    ];
  }

  means_back : SameMeaning P X (back P X d M)
  unfolding back
  means_back = stores_law P X (back P X d Y) (back P X d M) can.coherent stores.rest mix_back

  quiet_back : IsQuiet P X (back P X d M)
  unfolding back
  quiet_back = mix_quiet P X (back P X d Y) (back P X d M) can.coherent (free_law P X (back P X d Y) can.coherent stores.rest).0 mix_back

  -- ---- the held slots and their numbers and pointers are those of X

  owner_same : (j : ℕ) → j < data_pages_of P → page_owner P (back P X d M) j ≡ page_owner P X j
  unfolding page_owner
  owner_same j lt = let ne = descriptor-ne_slot P j 0 d 1 lt (omega arith) in elim (mix.words (descriptor_word_of P j 0)) [
    | inl e ↦ other_back P X d M (descriptor_word_of P j 0) ne ∙ e
    | inr e ↦ other_back P X d M (descriptor_word_of P j 0) ne ∙ e ∙ stores.owners j lt
  ]

  kind_same : (j : ℕ) → j < data_pages_of P → page_owner P X j ≢ 0 → page_kind P (back P X d M) j ≡ page_kind P X j
  unfolding page_kind
  kind_same j lt owned = quiet_back.words (descriptor_word_of P j 1) (IsUsed.kind j lt owned)

  held_forth : (t : ℕ) → IsHeld P X t → IsHeld P (back P X d M) t
  unfolding slot_owner
  held_forth t h = let lt = page_of_slot_below P t h.in_range in record {
    in_range = h.in_range;
    kind = kind_same (page_of_slot t) lt h.owned ∙ h.kind;
    owned = λ z. h.owned (sym (owner_same (page_of_slot t) lt) ∙ z);
  }

  held_before : (t : ℕ) → IsHeld P (back P X d M) t → IsHeld P X t
  unfolding slot_owner
  held_before t h =
      let lt = page_of_slot_below P t h.in_range in
      let owned : page_owner P X (page_of_slot t) ≢ 0 = λ z. h.owned (owner_same (page_of_slot t) lt ∙ z) in
      record { in_range = h.in_range; kind = sym (kind_same (page_of_slot t) lt owned) ∙ h.kind; owned = owned }

  number_same : (t : ℕ) → IsHeld P X t → slot_inode P (back P X d M) t ≡ slot_inode P X t
  unfolding slot_inode
  number_same t h = quiet_back.words (slot_word_of P t 0) (IsUsed.slot_inode t h)

  pointer_same : (t : ℕ) → IsHeld P X t → slot_pointer P (back P X d M) t ≡ slot_pointer P X t
  unfolding slot_pointer
  pointer_same t h = quiet_back.words (slot_word_of P t 1) (IsUsed.pointer t h)

  -- what the pointer names, or shall name, is held
  old_target : (t : ℕ) → slot_pointer P X d ≡ t + 1 → IsHeld P X t
  old_target t points =
      let target = (can.coherent Rule.pointers d).held can.held (λ z. omega (arith, z, points)) in
      let same : slot_pointer P X d - 1 ≡ t = omega (arith, points) in
      subst (IsHeld P X) same target

  new_target : (t : ℕ) → v ≡ t + 1 → IsHeld P X t
  new_target t points =
      let target = (can.target (λ z. omega (arith, z, points))).1 in
      let same : v - 1 ≡ t = omega (arith, points) in
      subst (IsHeld P X) same target

  numbers_differ : (t : ℕ) → IsHeld P X t → (slot_inode P X d ≡ slot_inode P X t → slot_inode P X t ≡ 0) → slot_inode P (back P X d M) d ≡ slot_inode P (back P X d M) t → slot_inode P (back P X d M) t ≡ 0
  numbers_differ t held before same = number_same t held ∙ before (sym (number_same d can.held) ∙ same ∙ number_same t held)

  can_back : CanPoint P (back P X d M) d v
  can_back = record {
    coherent = means_back.coherent;
    held = held_forth d can.held;
    old = λ t points. let before = sym (pointer_same d can.held) ∙ points in numbers_differ t (old_target t before) (can.old t before);
    new = λ t points. numbers_differ t (new_target t points) (can.new t points);
    alone = λ t held ne. let before = held_before t held in pointer_same t before ∙ can.alone t before ne;
    target = λ some. let (ne, held) = can.target some in (ne, held_forth (v - 1) held);
  }

  -- ---- M is that, or the pointer away

  in_back : slot_word_of P d 1 < length (back P X d M)
  unfolding back
  in_back = subst (λ n. slot_word_of P d 1 < n) (sym (length-set M (slot_word_of P d 1) (slot_pointer P X d))) in_image

  stored : word (set (back P X d M) (slot_word_of P d 1) v) (slot_word_of P d 1) ≡ v
  unfolding word
  stored = get_or-set_same (back P X d M) (slot_word_of P d 1) v 0 in_back

  mix_pointer : IsMix (back P X d M) (set (back P X d M) (slot_word_of P d 1) v) M
  unfolding back slot_pointer
  mix_pointer = record {
    size = sym (length-set M (slot_word_of P d 1) (slot_pointer P X d));
    words = λ a. elim (cases_eq a (slot_word_of P d 1)) [
      | inl e ↦ subst (λ b. (word M b ≡ word (back P X d M) b) ⊎ (word M b ≡ word (set (back P X d M) (slot_word_of P d 1) v) b)) (sym e) (elim (mix.words (slot_word_of P d 1)) [
        | inl same ↦ inl (same ∙ sym (pointer_back P X d M in_image))
        | inr new ↦ inr (new ∙ stores.pointer ∙ sym stored)
      ])
      | inr ne ↦ inl (sym (other_back P X d M a ne))
    ];
  }

  means : SameMeaning P X M
  means = elim (mix_one (back P X d M) M (slot_word_of P d 1) v in_back mix_pointer) [
    | inl e ↦ subst (SameMeaning P X) (sym e) means_back
    | inr e ↦ subst (SameMeaning P X) (sym e) (same_chained P X (back P X d M) (set (back P X d M) (slot_word_of P d 1) v) means_back (pointer_law P (back P X d M) d v can_back))
  ]

pub pointing_law : PointingLaw
pointing_law P X Y M d v can stores mix = means P X Y M d v can stores mix
