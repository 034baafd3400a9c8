-- An image that agrees with a coherent one on what is used means the same.
use Rattle.std.proofs.Common.{◌≡◌, ◌≢◌, ◌⊎◌, inl, inr, ℕ, ◌+◌, ◌-◌, ◌<◌, List, refl, sym, subst, ◌∙◌, arith}
use Rattle.layout.specs.Fields.{page_owner, slot_inode, slot_pointer}
use Rattle.layout.specs.Geometry.{slots_of, page_of_slot}
use Rattle.layout.proofs.GeometryLaws.{page_of_slot_below}
use Rattle.image_reading.specs.Reading.{slot_owner, IsHeld, IsLive, Reached}
use Rattle.image_reading.specs.Soundness.{Rule, Obeys, IsCoherent}
use Rattle.image_laws.specs.Agrees.{SamePage, IsIdle, AreIdle, SameDescriptor, SameSlot, Alike, Agrees, FrameLaw}
use Rattle.image_laws.proofs.Meaning.{shape, meaning}

module _ (P : ℕ) (I J : List ℕ) (a : Agrees P I J) where
  held_forward : (s : ℕ) → SamePage P I J (page_of_slot s) → IsHeld P I s → IsHeld P J s
  unfolding slot_owner
  held_forward s h l = record { in_range = l.in_range; kind = h.kind l.owned ∙ l.kind; owned = λ z. l.owned (sym h.owner ∙ z) }

  held_back : (s : ℕ) → SamePage P I J (page_of_slot s) → IsHeld P J s → IsHeld P I s
  unfolding slot_owner
  held_back s h l =
      let owned : page_owner P I (page_of_slot s) ≢ 0 = λ z. l.owned (h.owner ∙ z) in
      record { in_range = l.in_range; kind = sym (h.kind owned) ∙ l.kind; owned = owned }

  page_case : (s : ℕ) → s < slots_of P → SamePage P I J (page_of_slot s) ⊎ AreIdle P I J (page_of_slot s)
  page_case s lt = a.pages (page_of_slot s) (page_of_slot_below P s lt)

  live_forward : (s : ℕ) → SamePage P I J (page_of_slot s) → IsLive P I s → IsLive P J s
  live_forward s h l = record {
    held = held_forward s h l.held;
    names = λ z. l.names (sym e ∙ z);
    stays = λ d held points same. elim (page_case d held.in_range) [
      | inl k ↦ let back = held_back d k held in
          l.stays d back (sym (k.pointer d refl back) ∙ points) (sym (k.inode d refl back) ∙ same ∙ e)
      | inr k ↦ let z = k.after.pointers d refl held in omega (arith, z, points)
    ];
  }
    where
      e : slot_inode P J s ≡ slot_inode P I s
      e = h.inode s refl l.held

  live_back : (s : ℕ) → SamePage P I J (page_of_slot s) → IsLive P J s → IsLive P I s
  live_back s h l = record {
    held = mine;
    names = λ z. l.names (e ∙ z);
    stays = λ d held points same. elim (page_case d held.in_range) [
      | inl k ↦ l.stays d (held_forward d k held) (k.pointer d refl held ∙ points) (k.inode d refl held ∙ same ∙ sym e)
      | inr k ↦ let z = k.before.pointers d refl held in omega (arith, z, points)
    ];
  }
    where
      mine : IsHeld P I s
      mine = held_back s h l.held

      e : slot_inode P J s ≡ slot_inode P I s
      e = h.inode s refl mine

  -- a page that isn't needed holds no live slot of a reached directory
  not_live : (X : List ℕ) (s : ℕ) → IsIdle P I X (page_of_slot s) → Reached P I (slot_owner P X s) → IsLive P X s → ⊥
  unfolding slot_owner
  not_live X s k r l = elim (k.tree l.held.owned r) [
    | inl e ↦ (let kind = l.held.kind in omega (arith, e.kind, kind))
    | inr e ↦ l.names (e.empty s refl)
  ]

  same_slot : (s : ℕ) → s < slots_of P → SameDescriptor P I J (page_of_slot s) → Reached P I (slot_owner P I s) → SameSlot P I J s
  unfolding slot_owner
  same_slot s lt e r = elim (page_case s lt) [
    | inl h ↦ record { forward = live_forward s h; back = live_back s h; inode = λ l. h.inode s refl l.held }
    | inr k ↦ record {
      forward = λ l. absurd (not_live I s k.before r l);
      back = λ l. absurd (not_live J s k.after (subst (Reached P I) (sym e.owner) r) l);
      inode = λ l. absurd (not_live I s k.before r l);
    }
  ]

  descriptor : (j : ℕ) → SamePage P I J j → SameDescriptor P I J j
  descriptor j h = record { owner = h.owner; kind = h.kind; offset = h.offset }

  module _ (coherent : IsCoherent P I) where
    other_held : (s : ℕ) → IsHeld P J s → slot_pointer P J s ≢ s + 1
    other_held s held = elim (page_case s held.in_range) [
      | inr k ↦ λ z. (let none = k.after.pointers s refl held in omega (arith, none, z))
      | inl k ↦ let mine = held_back s k held in λ z. (coherent Rule.pointers s).other mine (sym (k.pointer s refl mine) ∙ z)
    ]

    target_held : (s : ℕ) → IsHeld P J s → slot_pointer P J s ≢ 0 → IsHeld P J (slot_pointer P J s - 1)
    target_held s held nonzero = elim (page_case s held.in_range) [
      | inr k ↦ absurd (nonzero (k.after.pointers s refl held))
      | inl k ↦
          let mine = held_back s k held in
          let e = k.pointer s refl mine in
          let target = (coherent Rule.pointers s).held mine (λ z. nonzero (e ∙ z)) in (
          subst (λ x. IsHeld P J (x - 1)) (sym e)
          (elim (page_case (slot_pointer P I s - 1) target.in_range) [
            | inl t ↦ held_forward (slot_pointer P I s - 1) t target
            | inr t ↦ absurd (t.target (slot_pointer P I s - 1) s refl mine
                (let nz : slot_pointer P I s ≢ 0 = λ z. nonzero (e ∙ z) in omega arith))
          ])
          )
    ]

    one_pointer_kept : (s : ℕ) → Obeys P J Rule.one_pointer s
    one_pointer_kept s r lt held_r held_s nonzero = elim (page_case s held_s.in_range) [
      | inr k ↦ k.after.pointers s refl held_s
      | inl k ↦ elim (page_case r held_r.in_range) [
        | inr q ↦ absurd (nonzero (q.after.pointers r refl held_r))
        | inl q ↦
            let mine_s = held_back s k held_s in
            let mine_r = held_back r q held_r in
            k.pointer s refl mine_s ∙ coherent Rule.one_pointer s r lt mine_r mine_s (λ z. nonzero (q.pointer r refl mine_r ∙ z))
      ]
    ]

    pub alike : Alike P I J
    alike = record {
      size = a.size;
      head = a.head;
      pages = λ j lt. elim (a.pages j lt) [ inl h ↦ inl (descriptor j h) | inr k ↦ inr (k.before.tree, k.after.tree) ];
      slots = same_slot;
      pointers = λ s. record { other = other_held s; held = target_held s };
      one_pointer = one_pointer_kept;
      inodes = a.inodes;
      links = a.links;
      names = a.names;
    }

pub frame : FrameLaw
frame P I J coherent a b = meaning P I J (shape P I J coherent (alike P I J a coherent)) b
