-- One of the first two words of a slot changes, and no slot's life does.
use Rattle.std.proofs.Common.{◌≡◌, ◌≢◌, inl, inr, ℕ, ◌+◌, ◌-◌, ◌/◌, ◌%◌, ◌^◌, ◌<◌, ◌≤◌, List, length, set, refl, sym, ap, subst, ◌∙◌, arith, length-set}
use Rattle.std.proofs.lemmas.Bool.{cases_eq, cases_lt}
use Rattle.std.proofs.lemmas.List.{get_or-set_same, get_or-set_other}
use Rattle.layout.specs.Fields.{word, inode_kind, inode_links, inode_size, inode_own, page_owner, page_kind, page_offset, slot_inode, slot_pointer, slot_words, page_byte}
use Rattle.layout.specs.Geometry.{inodes_of, data_pages_of, page_of_slot, inode_word_of, descriptor_word_of, page_word_of, slot_word_of}
use Rattle.layout.proofs.GeometryLaws.{slot_word_within}
use Rattle.image_reading.specs.Reading.{IsHeld, IsLive}
use Rattle.image_reading.specs.Soundness.{Rule, PointsAtHeld, IsOnlyPointer, IsCoherent, HasLinks}
use Rattle.image_laws.specs.Agrees.{SameSlot}
use Rattle.image_laws.specs.Frame.{SameInode, SameMeaning}
use Rattle.image_laws.specs.Pointers.{CanPoint, PointerLaw, IsLeft, LeaveLaw}
use Rattle.image_laws.proofs.Addresses.{head-ne_slot, descriptor-ne_slot, some_inode, slot-ne_slot, slot-ne_field, page-ne_slot, inode-ne_slot0}
use Rattle.image_laws.proofs.Meaning.{same_head, shape, meaning}
use Rattle.image_laws.proofs.KeptPages as pages
use Rattle.image_laws.proofs.KeptPages.{KeepsPages, held_forth}
use Rattle.image_laws.proofs.Paths.{reached-le}
use Rattle.image_laws.proofs.Words.{slot_words-same}

-- J differs from I in the first two words of slot s alone
pub record Near (P : ℕ) (I J : List ℕ) (s : ℕ) : Type 0 where
  pub size : length J ≡ length I
  pub head : (a : ℕ) → a < 5 → word J a ≡ word I a
  pub owner : (j : ℕ) → j < data_pages_of P → page_owner P J j ≡ page_owner P I j
  pub kind : (j : ℕ) → j < data_pages_of P → page_kind P J j ≡ page_kind P I j
  pub offset : (j : ℕ) → j < data_pages_of P → page_offset P J j ≡ page_offset P I j
  pub inodes : (i : ℕ) → i ≤ inodes_of P → SameInode I J i
  pub links : (i : ℕ) → i ≤ inodes_of P → inode_links J i ≡ inode_links I i
  pub inode : (t : ℕ) → t ≢ s → slot_inode P J t ≡ slot_inode P I t
  pub pointer : (t : ℕ) → t ≢ s → slot_pointer P J t ≡ slot_pointer P I t
  pub words : (t : ℕ) → slot_words P J t ≡ slot_words P I t
  pub bytes : (j o : ℕ) → j ≢ page_of_slot s → o < 4096 → page_byte P J j o ≡ page_byte P I j o

pub near : (P : ℕ) (I : List ℕ) (s f v : ℕ) → 1 ≤ inodes_of P → f < 2 → Near P I (set I (slot_word_of P s f) v) s
unfolding word inode_kind inode_links inode_size inode_own page_owner page_kind page_offset slot_inode slot_pointer page_byte
near P I s f v some two = record {
  size = length-set I (slot_word_of P s f) v;
  head = λ a lt. other a (head-ne_slot P s f a (omega arith));
  owner = λ j lt. other (descriptor_word_of P j 0) (descriptor-ne_slot P j 0 s f lt (omega arith));
  kind = λ j lt. other (descriptor_word_of P j 1) (descriptor-ne_slot P j 1 s f lt (omega arith));
  offset = λ j lt. other (descriptor_word_of P j 2) (descriptor-ne_slot P j 2 s f lt (omega arith));
  inodes = λ i lt. record {
    kind = other (inode_word_of i 0) (inode-ne_slot0 P i 0 s f some lt (omega arith));
    size = other (inode_word_of i 2) (inode-ne_slot0 P i 2 s f some lt (omega arith));
    own = other (inode_word_of i 3) (inode-ne_slot0 P i 3 s f some lt (omega arith));
  };
  links = λ i lt. other (inode_word_of i 1) (inode-ne_slot0 P i 1 s f some lt (omega arith));
  inode = λ t ne. other (slot_word_of P t 0) (slot-ne_slot P t 0 s f (omega arith) (omega arith) ne);
  pointer = λ t ne. other (slot_word_of P t 1) (slot-ne_slot P t 1 s f (omega arith) (omega arith) ne);
  words = λ t. slot_words-same P I (set I (slot_word_of P s f) v) t (λ g lt. other (slot_word_of P t (2 + g)) (slot-ne_field P t (2 + g) s f (omega arith) (omega arith) (λ z. omega (arith, z))));
  bytes = λ j o ne lt. ap (λ x. x / 256 ^ (o % 8) % 256) (other (page_word_of P j (o / 8)) (page-ne_slot P j (o / 8) s f (omega arith) (omega arith) ne));
}
  where
    other : (a : ℕ) → a ≢ slot_word_of P s f → word (set I (slot_word_of P s f) v) a ≡ word I a
    other a ne = get_or-set_other I (slot_word_of P s f) a v 0 ne

module _ (P : ℕ) (I J : List ℕ) (s : ℕ) (coherent : IsCoherent P I) (n : Near P I J s) (held : IsHeld P I s) where
  paged : KeepsPages P I J (λ j. ⊥)
  paged = record { owner = λ j lt none. n.owner j lt; kind = λ j lt none. n.kind j lt; offset = λ j lt none. n.offset j lt }

  held_forward : (t : ℕ) → IsHeld P I t → IsHeld P J t
  held_forward t = held_forth paged t (λ none. none)

  held_back : (t : ℕ) → IsHeld P J t → IsHeld P I t
  held_back t = pages.held_back paged t (λ none. none)

  near_means : ((t : ℕ) → SameSlot P I J t) → ((t : ℕ) → PointsAtHeld P J t) → ((t : ℕ) → IsOnlyPointer P J t) → SameMeaning P I J
  near_means slots three four = meaning P I J (shape P I J coherent (record {
    size = n.size;
    head = λ x. same_head P I J x n.size n.head (coherent Rule.head x);
    pages = λ j lt. inl (record { owner = n.owner j lt; kind = λ owned. n.kind j lt; offset = λ owned. n.offset j lt });
    slots = λ t lt e r. slots t;
    pointers = three;
    one_pointer = four;
    inodes = λ i r. n.inodes i (reached-le P I coherent i r);
    links = λ i r. subst (HasLinks P I i) (sym (n.links i (reached-le P I coherent i r))) (coherent Rule.links i r);
    names = λ t r. n.words t;
  }))
      (λ i r k. record { bytes = λ o j lt g. n.bytes j (o % 4096) (λ e. let one = g.kind in let two = ap (page_kind P I) e ∙ held.kind in omega (arith, one, two)) (omega arith) })

module _ (P : ℕ) (I : List ℕ) (d v : ℕ) (c : CanPoint P I d v) where
  some : 1 ≤ inodes_of P
  some = some_inode P ((c.coherent Rule.head 0).size refl)

  after : List ℕ
  after = set I (slot_word_of P d 1) v

  close : Near P I after d
  unfolding after
  close = near P I d 1 v some (omega arith)

  inode_same : (t : ℕ) → slot_inode P after t ≡ slot_inode P I t
  unfolding after slot_inode word
  inode_same t = get_or-set_other I (slot_word_of P d 1) (slot_word_of P t 0) v 0 (slot-ne_field P t 0 d 1 (omega arith) (omega arith) (λ z. omega (arith, z)))

  pointer_new : slot_pointer P after d ≡ v
  unfolding after slot_pointer word
  pointer_new = get_or-set_same I (slot_word_of P d 1) v 0 (let b = slot_word_within P d 1 c.held.in_range (omega arith) in let e = (c.coherent Rule.head 0).whole refl in omega (arith, b, e))

  forward : (t : ℕ) → IsHeld P I t → IsHeld P after t
  forward = held_forward P I after d c.coherent close c.held

  back : (t : ℕ) → IsHeld P after t → IsHeld P I t
  back = held_back P I after d c.coherent close c.held

  slots : (t : ℕ) → SameSlot P I after t
  slots t = record {
    forward = λ l. record {
      held = forward t l.held;
      names = λ z. l.names (sym (inode_same t) ∙ z);
      stays = λ q h points same. let same' = sym (inode_same q) ∙ same ∙ inode_same t in elim (cases_eq q d) [
        | inl e ↦ l.names (c.new t (sym pointer_new ∙ ap (slot_pointer P after) (sym e) ∙ points) (ap (slot_inode P I) (sym e) ∙ same'))
        | inr ne ↦ l.stays q (back q h) (sym (close.pointer q ne) ∙ points) same'
      ];
    };
    back = λ l. record {
      held = back t l.held;
      names = λ z. l.names (inode_same t ∙ z);
      stays = λ q h points same. elim (cases_eq q d) [
        | inl e ↦ l.names (inode_same t ∙ c.old t (ap (slot_pointer P I) (sym e) ∙ points) (ap (slot_inode P I) (sym e) ∙ same))
        | inr ne ↦ l.stays q (forward q h) (close.pointer q ne ∙ points) (inode_same q ∙ same ∙ sym (inode_same t))
      ];
    };
    inode = λ l. inode_same t;
  }

  zero_else : (t : ℕ) → IsHeld P after t → t ≢ d → slot_pointer P after t ≡ 0
  zero_else t h ne = close.pointer t ne ∙ c.alone t (back t h) ne

  -- the slot points at another held one
  points_at : (t : ℕ) → IsHeld P after t → slot_pointer P after t ≢ 0 → (slot_pointer P after t ≢ t + 1) × IsHeld P after (slot_pointer P after t - 1)
  points_at t h nonzero = elim (cases_eq t d) [
    | inl e ↦
        let is : slot_pointer P after t ≡ v = ap (slot_pointer P after) e ∙ pointer_new in
        let (ne, target) = c.target (λ z. nonzero (is ∙ z)) in
        (λ z. ne (sym is ∙ z ∙ ap (λ x. x + 1) e), subst (λ x. IsHeld P after (x - 1)) (sym is) (forward (v - 1) target))
    | inr ne ↦ absurd (nonzero (zero_else t h ne))
  ]

  three : (t : ℕ) → PointsAtHeld P after t
  three t = record {
    other = λ h z. (points_at t h (λ none. omega (arith, none, z))).0 z;
    held = λ h nonzero. (points_at t h nonzero).1;
  }

  four : (t : ℕ) → IsOnlyPointer P after t
  four t r lt hr ht nonzero = elim (cases_eq r d) [
    | inl e ↦ zero_else t ht (λ z. omega (arith, e, z))
    | inr ne ↦ absurd (nonzero (zero_else r hr ne))
  ]

  point : SameMeaning P I after
  point = near_means P I after d c.coherent close c.held slots three four

pub pointer_law : PointerLaw
unfolding after
pointer_law P I d v c = point P I d v c

module _ (P : ℕ) (I : List ℕ) (s d : ℕ) (c : IsLeft P I s d) where
  few : 1 ≤ inodes_of P
  few = some_inode P ((c.coherent Rule.head 0).size refl)

  left : List ℕ
  left = set I (slot_word_of P s 0) 0

  by : Near P I left s
  unfolding left
  by = near P I s 0 0 few (omega arith)

  pointer_same : (t : ℕ) → slot_pointer P left t ≡ slot_pointer P I t
  unfolding left slot_pointer word
  pointer_same t = get_or-set_other I (slot_word_of P s 0) (slot_word_of P t 1) 0 0 (slot-ne_field P t 1 s 0 (omega arith) (omega arith) (λ z. omega (arith, z)))

  inode_gone : slot_inode P left s ≡ 0
  unfolding left slot_inode word
  inode_gone = get_or-set_same I (slot_word_of P s 0) 0 0 (let b = slot_word_within P s 0 c.source.in_range (omega arith) in let e = (c.coherent Rule.head 0).whole refl in omega (arith, b, e))

  points : slot_pointer P I d ≢ 0
  points z = let h = c.pointer in omega (arith, h, z)

  -- the slot itself points at none
  none : slot_pointer P I s ≡ 0
  none = elim (cases_eq (slot_pointer P I s) 0) [
    | inl e ↦ e
    | inr ne ↦ elim (cases_lt s d) [
      | inl lt ↦ absurd (points (c.coherent Rule.one_pointer d s lt c.source c.held ne))
      | inr ge ↦ elim (cases_eq s d) [
        | inl e ↦ absurd ((c.coherent Rule.pointers d).other c.held (c.pointer ∙ ap (λ x. x + 1) e))
        | inr other ↦ absurd (ne (c.coherent Rule.one_pointer s d (omega arith) c.held c.source points))
      ]
    ]
  ]

  onward : (t : ℕ) → IsHeld P I t → IsHeld P left t
  onward = held_forward P I left s c.coherent by c.source

  backward : (t : ℕ) → IsHeld P left t → IsHeld P I t
  backward = held_back P I left s c.coherent by c.source

  dead : (t : ℕ) → IsLive P I t → t ≢ s
  dead t l e = l.stays d c.held (c.pointer ∙ ap (λ x. x + 1) (sym e)) (c.same ∙ ap (slot_inode P I) (sym e))

  dead_after : (t : ℕ) → IsLive P left t → t ≢ s
  dead_after t l e = l.names (ap (slot_inode P left) e ∙ inode_gone)

  lives : (t : ℕ) → SameSlot P I left t
  lives t = record {
    forward = λ l. let e = by.inode t (dead t l) in record {
      held = onward t l.held;
      names = λ z. l.names (sym e ∙ z);
      stays = λ q h at same. elim (cases_eq q s) [
        | inl f ↦ (let z = pointer_same q ∙ ap (slot_pointer P I) f ∙ none in omega (arith, z, at))
        | inr ne ↦ l.stays q (backward q h) (sym (pointer_same q) ∙ at) (sym (by.inode q ne) ∙ same ∙ e)
      ];
    };
    back = λ l. let e = by.inode t (dead_after t l) in record {
      held = backward t l.held;
      names = λ z. l.names (e ∙ z);
      stays = λ q h at same. elim (cases_eq q s) [
        | inl f ↦ (let z = ap (slot_pointer P I) f ∙ none in omega (arith, z, at))
        | inr ne ↦ l.stays q (onward q h) (pointer_same q ∙ at) (by.inode q ne ∙ same ∙ sym e)
      ];
    };
    inode = λ l. by.inode t (dead t l);
  }

  leave : SameMeaning P I left
  leave = near_means P I left s c.coherent by c.source lives
      (λ t. record {
        other = λ h z. (c.coherent Rule.pointers t).other (backward t h) (sym (pointer_same t) ∙ z);
        held = λ h nonzero.
            let e = pointer_same t in
            subst (λ x. IsHeld P left (x - 1)) (sym e) (onward (slot_pointer P I t - 1) ((c.coherent Rule.pointers t).held (backward t h) (λ z. nonzero (e ∙ z))));
      })
      (λ t r lt hr ht nonzero. pointer_same t ∙ c.coherent Rule.one_pointer t r lt (backward r hr) (backward t ht) (λ z. nonzero (pointer_same r ∙ z)))

pub leave_law : LeaveLaw
unfolding left
leave_law P I s d c = leave P I s d c
