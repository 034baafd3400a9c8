-- Reached slots that stay, but those that are named: names, children, entries and rooms stay with them, and no other slot is to be repaired.
use Rattle.std.proofs.Common.{◌≡◌, ◌≢◌, ◌↔◌, inl, inr, ℕ, ◌+◌, ◌-◌, ◌<◌, ◌≤◌, List, [], ◌∷◌, sym, ap, subst, ◌∙◌, arith}
use Rattle.std.proofs.lemmas.Bool.{cases_eq}
use Rattle.layout.specs.Fields.{word, inode_kind, page_owner, slot_inode}
use Rattle.layout.specs.Geometry.{page_of_slot, slot_word_of}
use Rattle.image_reading.specs.Counts.{Count}
use Rattle.image_reading.specs.Reading.{IsDirectory, slot_owner, IsLive, Reached, IsReachedSlot, IsNameOf, IsChildOf, IsRoomOf}
use Rattle.image_reading.specs.Repairs.{IsLitterSlot}
use Rattle.image_reading.specs.Soundness.{Rule, IsCoherent}
use Rattle.image_reading.proofs.Credits.{count_same, count_more}
use Rattle.image_counts.specs.Entries.{IsSlotOf}
use Rattle.image_laws.proofs.Paths.{reach}
use Rattle.image_laws.proofs.RemoveRoom.{count_less}

-- A slot that isn't named is reached in K exactly where it is in A, in the same directory and with the same inode, and what is reached in both is of its kind.
pub record KeepsSlots (P : ℕ) (A K : List ℕ) (Slot : ℕ → Type 0) : Type 0 where
  pub before : IsCoherent P A
  pub after : IsCoherent P K
  pub forth : (t : ℕ) → ¬ Slot t → IsReachedSlot P A t → IsReachedSlot P K t
  pub back : (t : ℕ) → ¬ Slot t → IsReachedSlot P K t → IsReachedSlot P A t
  pub owners : (t : ℕ) → ¬ Slot t → IsReachedSlot P A t → IsReachedSlot P K t → slot_owner P K t ≡ slot_owner P A t
  pub numbers : (t : ℕ) → ¬ Slot t → IsReachedSlot P A t → slot_inode P K t ≡ slot_inode P A t
  pub kinds : (x : ℕ) → Reached P A x → Reached P K x → inode_kind K x ≡ inode_kind A x

-- a page with a reached slot
room_of : (P : ℕ) (X : List ℕ) (x j t : ℕ) → IsReachedSlot P X t → page_of_slot t ≡ j → slot_owner P X t ≡ x → IsRoomOf P X x j
room_of P X x j t r at o = record { reached = subst (Reached P X) o r.owner; directory = ap (inode_kind X) (sym o) ∙ r.directory; slot = (t, at, o, r.live) }

slot_of_room : (P : ℕ) (X : List ℕ) (x j : ℕ) → IsRoomOf P X x j → (t : ℕ) × IsReachedSlot P X t × (page_of_slot t ≡ j) × (slot_owner P X t ≡ x)
slot_of_room P X x j room =
    let (t, at, o, live) = room.slot in
    (t, record { owner = subst (Reached P X) (sym o) room.reached; directory = ap (inode_kind X) o ∙ room.directory; live = live }, at, o)

module _ {P : ℕ} {A K : List ℕ} {Slot : ℕ → Type 0} (keeps : KeepsSlots P A K Slot) where
  pub entries : (x t : ℕ) → ¬ Slot t → IsSlotOf P A x t ↔ IsSlotOf P K x t
  entries x t other = (
    (λ (was, owner). let is = keeps.forth t other was in (is, keeps.owners t other was is ∙ owner)),
    (λ (is, owner). let was = keeps.back t other is in (was, sym (keeps.owners t other was is) ∙ owner)),
  )

  pub names : (x t : ℕ) → ¬ Slot t → IsNameOf P A x t ↔ IsNameOf P K x t
  names x t other = (
    (λ n. record { slot = keeps.forth t other n.slot; inode = keeps.numbers t other n.slot ∙ n.inode }),
    (λ n. let was = keeps.back t other n.slot in record { slot = was; inode = sym (keeps.numbers t other was) ∙ n.inode }),
  )

  kind_named : (t : ℕ) → ¬ Slot t → IsReachedSlot P A t → IsReachedSlot P K t → inode_kind K (slot_inode P K t) ≡ inode_kind A (slot_inode P A t)
  kind_named t other was is =
      let number = keeps.numbers t other was in
      ap (inode_kind K) number
      ∙ keeps.kinds (slot_inode P A t) (reach P A t was ((keeps.before Rule.inodes t).most was)) (subst (Reached P K) number (reach P K t is ((keeps.after Rule.inodes t).most is)))

  pub children : (x t : ℕ) → ¬ Slot t → IsChildOf P A x t ↔ IsChildOf P K x t
  children x t other = (
    (λ n. let is = keeps.forth t other n.slot in record { slot = is; owner = keeps.owners t other n.slot is ∙ n.owner; directory = kind_named t other n.slot is ∙ n.directory }),
    (λ n. let was = keeps.back t other n.slot in record { slot = was; owner = sym (keeps.owners t other was n.slot) ∙ n.owner; directory = sym (kind_named t other was n.slot) ∙ n.directory }),
  )

  -- where no slot is named
  pub rooms : ((t : ℕ) → ¬ Slot t) → (x j : ℕ) → IsRoomOf P A x j ↔ IsRoomOf P K x j
  rooms none x j = (
    (λ room. let (t, was, at, o) = slot_of_room P A x j room in let is = keeps.forth t (none t) was in room_of P K x j t is at (keeps.owners t (none t) was is ∙ o)),
    (λ room. let (t, is, at, o) = slot_of_room P K x j room in let was = keeps.back t (none t) is in room_of P A x j t was at (sym (keeps.owners t (none t) was is) ∙ o)),
  )

  -- ---- slots to be repaired

  -- a slot that isn't live then wasn't
  pub dead_before : (t : ℕ) → ¬ Slot t → Reached P A (slot_owner P A t) → IsDirectory A (slot_owner P A t) → ¬ IsLive P K t → ¬ IsLive P A t
  dead_before t other reached directory dead live = dead (keeps.forth t other (record { owner = reached; directory = directory; live = live })).live

  pub litter_slot : (t : ℕ) → ¬ Slot t → IsRoomOf P A (page_owner P A (page_of_slot t)) (page_of_slot t) → ((f : ℕ) → f < 16 → word K (slot_word_of P t f) ≡ word A (slot_word_of P t f))
      → IsLitterSlot P K t → IsLitterSlot P A t
  unfolding slot_owner
  litter_slot t other room same l =
      let (f, lt, nonzero) = l.nonzero in
      record { page = room; dead = dead_before t other room.reached room.directory l.dead; nonzero = (f, lt, λ z. nonzero (same f lt ∙ z)) }

-- ---- counts, where all but s is as it was

module _ (Q R : ℕ → Type 0) (s n : ℕ) (same : (t : ℕ) → t ≢ s → Q t ↔ R t) where
  pub count_kept : ¬ Q s → ¬ R s → Count Q n → Count R n
  count_kept was is count = count_same Q R n (λ t. ((λ q. (same t (λ e. was (subst Q e q))).0 q), (λ r. (same t (λ e. is (subst R e r))).1 r))) count

  pub count_gained : ¬ Q s → R s → Count Q n → Count R (n + 1)
  count_gained was is count = count_more Q R n s was (λ t. (
    (λ r. elim (cases_eq t s) [ inl e ↦ inl e | inr ne ↦ inr ((same t ne).1 r) ]),
    (λ either. elim either [ inl e ↦ subst R (sym e) is | inr q ↦ (same t (λ e. was (subst Q e q))).0 q ]),
  )) count

  pub count_lost : Q s → ¬ R s → Count Q n → Count R (n - 1)
  count_lost was is count = count_less Q R n s was (λ t. (
    (λ r. let ne : t ≢ s = λ e. is (subst R e r) in ((same t ne).1 r, ne)),
    (λ (q, ne). (same t ne).0 q),
  )) count

-- what one has is counted
pub count_some : (Q : ℕ → Type 0) (n s : ℕ) → Q s → Count Q n → 1 ≤ n
count_some Q n s q ([], d, f, e) = absurd ((f s).1 q)
count_some Q n s q (x ∷ xs, d, f, e) = omega (arith, e)
