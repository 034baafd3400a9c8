-- The steps of a cut behind its commit, and what each changes of the words: the owners of pages, and the rest of their descriptors.
use Rattle.std.proofs.Common.{◌≡◌, ◌↔◌, ◌⊎◌, inl, inr, ℕ, ◌<◌, false, true, List, [], refl, sym, subst, ◌∙◌, arith}
use Rattle.std.specs.Prelude.{Contains}
use Rattle.layout.specs.Geometry.{page_of_slot, descriptor_word_of}
use Rattle.layout.specs.Fields.{word, page_owner, page_kind, page_offset}
use Rattle.layout.proofs.Widths.{in_inode, in_descriptor, descriptor_field_read}
use Rattle.image_reading.specs.Reading.{HasBytes, slot_owner, Reached}
use Rattle.image_reading.specs.Residue.{Residue}
use Rattle.image_reading.specs.Soundness.{Rule}
use Rattle.image_counts.specs.Entries.{IsUnusedPage}
use Rattle.image_counts.proofs.Distinct.{in_front, in_either}
use Rattle.image_laws.specs.Drop.{GivesPages, ClearsRest}
use Rattle.image_laws.specs.Frame.{SameMeaning}
use Rattle.image_laws.specs.Stages.{MayFree}
use Rattle.image_laws.proofs.Addresses.{head-ne_descriptor, descriptor_word-one}
use Rattle.image_laws.proofs.Free.{same_stores}
use Rattle.image_laws.proofs.Given as lost
use Rattle.image_laws.proofs.Stages as stages
use Rattle.content_laws.specs.Cut.{MayTrim, ClearsPages}
use Rattle.content_laws.proofs.Trims.{same_trim}
use Rattle.weave_laws.specs.Joined.{joined}
use Rattle.weave_laws.specs.Removing.{cleared_left}
use Rattle.weave_laws.proofs.Contained.{contained_in, in_contained}
use Rattle.weave_laws.proofs.Sized.{ChangesFile}
use Rattle.weave_laws.proofs.Sized as after
use Rattle.knowing_laws.specs.Knowing.{KeepsPagesBut, ChangesNumbers, FreesNumbers}
use Rattle.waiting_laws.proofs.FileKnown.{unused_as, free_inode_as, same_numbers}

-- ---- the owners

module _ (P : ℕ) (I J : List ℕ) (i : ℕ) (pages : List ℕ) (may : MayTrim P I i (Contains pages)) (gives : GivesPages P I J (Contains pages)) where
  pub same_given : SameMeaning P I J
  same_given = same_trim P I J (Contains pages) gives i may

  one : (j : ℕ) → Contains pages j → page_kind P I j ≡ 1
  one j given =
      let past = may.past j given in
      (may.coherent Rule.page_kinds j).file past.in_range (subst (Reached P I) (sym past.owner) may.reached) (subst (HasBytes I) (sym past.owner) may.file)

  pub kind_given : (j : ℕ) → page_kind P J j ≡ page_kind P I j
  unfolding page_kind
  kind_given j = lost.give_descriptor P I J (Contains pages) gives j 1 (omega arith) (inl (λ same. omega (arith, same)))

  offset_given : (j : ℕ) → page_offset P J j ≡ page_offset P I j
  unfolding page_offset
  offset_given j = lost.give_descriptor P I J (Contains pages) gives j 2 (omega arith) (inl (λ same. omega (arith, same)))

  pub owner_given : (j : ℕ) → ¬ Contains pages j → page_owner P J j ≡ page_owner P I j
  unfolding page_owner
  owner_given j out = lost.give_descriptor P I J (Contains pages) gives j 0 (omega arith) (inr out)

  pub change_given : ChangesFile P I J i (Contains pages)
  unfolding slot_owner
  change_given = record {
    before = may.coherent;
    after = same_given.coherent;
    file = may.reached;
    names = same_given.names;
    version = gives.others 1 (λ j is. head-ne_descriptor P j 0 1 (omega arith));
    descriptors = λ j f low few out. lost.give_descriptor P I J (Contains pages) gives j f (in_descriptor I f few) (inr out);
    unheld = λ t given held. let two = held.kind in let bytes = one (page_of_slot t) given in omega (arith, two, bytes);
    unheld_after = λ t given held. held.owned (gives.owners (page_of_slot t) given);
    slots = λ t f held few. lost.give_slot P I J (Contains pages) gives (λ j given. (may.past j given).in_range) t f;
    inodes = λ x f least most few why. lost.give_inode P I J (Contains pages) gives x f least most (in_inode I f few);
  }

  -- they have their kind still
  unused_given : (j : ℕ) → IsUnusedPage P I j ↔ IsUnusedPage P J j
  unused_given j = elim (may.decided j) [
    | inl given ↦ ((λ (none, free). let bytes = one j given in absurd (omega (arith, bytes, free))), (λ (none, free). let bytes = one j given in let same = kind_given j in absurd (omega (arith, bytes, same, free))))
    | inr out ↦ unused_as P I J j (owner_given j out) (kind_given j)
  ]

  pub numbers_given : ChangesNumbers P I J [] []
  numbers_given = same_numbers P I J (after.kind_same change_given) (λ j low. unused_given j)

  -- the same pages are left
  pub pages_given : (others : Residue) → KeepsPagesBut P I J (joined (cleared_left pages false i) others) (joined (cleared_left pages false i) others) []
  pages_given others = record {
    left = λ j out none. out;
    owners = λ j low out none. owner_given j (λ given. out (in_front j pages others.pages (contained_in j pages given)));
    offsets = λ j low out none. offset_given j;
  }

-- ---- the rest

-- no inode goes
abbrev pub Nothing : Type 0
Nothing = false ≡ true

not_nothing : Nothing → ⊥
not_nothing is = cc

pub clears_rest : (P : ℕ) (I J : List ℕ) (i : ℕ) (pages : List ℕ) → ClearsPages P I J (Contains pages) → ClearsRest P I J (Contains pages) Nothing i
clears_rest P I J i pages clears = record { size = clears.size; rests = clears.rests; inode = λ goes. absurd (not_nothing goes); others = λ a out stays. clears.others a out }

module _ (P : ℕ) (I J : List ℕ) (i : ℕ) (pages : List ℕ) (may : MayFree P I (Contains pages) Nothing i) (reached : Reached P I i) (clears : ClearsPages P I J (Contains pages)) where
  abbrev rest : ClearsRest P I J (Contains pages) Nothing i
  rest = clears_rest P I J i pages clears

  pub same_cleared : SameMeaning P I J
  same_cleared = same_stores P I J may.coherent (stages.rest_stores P I J (Contains pages) Nothing i may rest)

  descriptor_cleared : (j f : ℕ) → f < 8 → (f ≡ 0) ⊎ ¬ Contains pages j → word J (descriptor_word_of P j f) ≡ word I (descriptor_word_of P j f)
  descriptor_cleared j f few other = clears.others (descriptor_word_of P j f) (λ k g given least less e.
      let (same_page, same_field) = descriptor_word-one P j f k g few (in_descriptor I g less) e in
      elim other [ inl zero ↦ omega (arith, zero, same_field, least) | inr out ↦ out (subst (Contains pages) (sym same_page) given) ])

  owner_cleared : (j : ℕ) → page_owner P J j ≡ page_owner P I j
  unfolding page_owner
  owner_cleared j = descriptor_cleared j 0 (omega arith) (inl refl)

  kind_cleared : (j : ℕ) → ¬ Contains pages j → page_kind P J j ≡ page_kind P I j
  unfolding page_kind
  kind_cleared j out = descriptor_cleared j 1 (omega arith) (inr out)

  offset_cleared : (j : ℕ) → ¬ Contains pages j → page_offset P J j ≡ page_offset P I j
  unfolding page_offset
  offset_cleared j out = descriptor_cleared j 2 (omega arith) (inr out)

  pub change_cleared : ChangesFile P I J i (Contains pages)
  unfolding slot_owner
  change_cleared = record {
    before = may.coherent;
    after = same_cleared.coherent;
    file = reached;
    names = same_cleared.names;
    version = clears.others 1 (λ j f is least few. head-ne_descriptor P j f 1 (omega arith));
    descriptors = λ j f low few out. descriptor_cleared j f (in_descriptor I f few) (inr out);
    unheld = λ t given held. held.owned (may.unowned (page_of_slot t) given);
    unheld_after = λ t given held. held.owned (owner_cleared (page_of_slot t) ∙ may.unowned (page_of_slot t) given);
    slots = λ t f held few. stages.rest_slot P I J (Contains pages) Nothing i may rest t f;
    inodes = λ x f least most few why. stages.rest_inode P I J (Contains pages) Nothing i may rest x f least most (in_inode I f few) (λ goes. absurd (not_nothing goes));
  }

  none_left : (j : ℕ) → Contains pages j → IsUnusedPage P J j
  unfolding page_kind
  none_left j given = (owner_cleared j ∙ may.unowned j given, clears.rests j 1 given (omega arith) (descriptor_field_read I 1 (omega arith)))

  -- they are free
  pub frees : FreesNumbers P I J [] pages
  frees = record {
    change = record {
      inodes_within = λ x none. absurd none;
      other_inodes = λ x some few none. free_inode_as I J x (after.kind_same change_cleared x some few);
      other_pages = λ j low out. unused_as P I J j (owner_cleared j) (kind_cleared j (λ given. out (contained_in j pages given)));
    };
    inodes_free = λ x none. absurd none;
    pages_free = λ j among. none_left j (in_contained j pages among);
  }

  -- and no more left
  pub pages_cleared : (others : Residue) → KeepsPagesBut P I J (joined (cleared_left pages false i) others) others pages
  pages_cleared others = record {
    left = λ j out none among. elim (in_either j pages others.pages among) [ inl own ↦ none own | inr other ↦ out other ];
    owners = λ j low out none. owner_cleared j;
    offsets = λ j low out none. offset_cleared j (λ given. none (contained_in j pages given));
  }
