-- A slot gives up its number: it is to be repaired where its page is kept, and each other slot is where it was before.
use Rattle.std.proofs.Common.{◌≡◌, ◌≢◌, ◌↔◌, inl, inr, ℕ, ◌<◌, ◌≤◌, List, [], ◌++◌, Some, None, Option, sym, ap, subst, arith}
use Rattle.std.proofs.lemmas.Bool.{cases_eq}
use Rattle.layout.specs.Geometry.{inodes_of, page_of_slot, inode_word_of, descriptor_word_of, slot_word_of}
use Rattle.layout.specs.Fields.{word, inode_words, page_owner}
use Rattle.layout.specs.Name.{IsNameWords}
use Rattle.layout.proofs.Widths.{in_inode, in_descriptor}
use Rattle.tree_model.specs.PathText.{Route}
use Rattle.image_reading.specs.Counts.{IsIn, IsDistinct, IsListOf}
use Rattle.image_reading.specs.Reading.{slot_owner, IsRoomOf}
use Rattle.image_reading.specs.Repairs.{IsPointer, IsLitterSlot}
use Rattle.image_reading.specs.Soundness.{Rule, IsCoherent}
use Rattle.image_laws.specs.Drop.{dropped}
use Rattle.image_laws.specs.Remove.{CanRemove}
use Rattle.image_laws.proofs.Addresses.{descriptor-ne_slot, inode-ne_slot, slot-ne_slot}
use Rattle.image_laws.proofs.KeptPages.{KeepsPages, KeepsDescriptors, by_words}
use Rattle.image_laws.proofs.KeptSlots.{KeepsSlots}
use Rattle.image_laws.proofs.OnlySlot.{OnlySlot, same_owner}
use Rattle.image_laws.proofs.RemoveFacts as facts
use Rattle.image_laws.proofs.Removes.{removes, remove_law}
use Rattle.image_laws.proofs.Words.{other_word}
use Rattle.weave_laws.specs.Entering.{IsNamelessPage}
use Rattle.weave_laws.specs.Naming.{slots_left}
use Rattle.weave_laws.proofs.Contained.{in_or_not}
use Rattle.weave_laws.proofs.Listed.{listed_after, listed_same, listed_more}
use Rattle.weave_laws.proofs.Named.{name_nonzero}
use Rattle.weave_laws.proofs.Same as same

-- those of `now` get the property, and each other number has it where it had it
pub listed_added : (Q R : ℕ → Type 0) (now rest : List ℕ) → IsDistinct now → ((x : ℕ) → IsIn x now → ¬ Q x) → ((x : ℕ) → IsIn x now → R x) → ((x : ℕ) → ¬ IsIn x now → Q x ↔ R x)
    → IsListOf Q rest → IsListOf R (now ++ rest)
listed_added Q R now rest distinct was is same listed = listed_after Q R [] now rest distinct
    (λ x here other. was x here ((listed.each x).0 other))
    (λ x. (
      (λ has. elim (in_or_not x now) [ inl here ↦ inl here | inr none ↦ inr ((same x none).1 has, λ none. none) ]),
      (λ either. elim either [ inl here ↦ is x here | inr had ↦ (same x (λ here. was x here had.0)).0 had.0 ]),
    )) listed

module _ {P : ℕ} {I : List ℕ} {p : Route} {s : ℕ} (can : CanRemove P I p s) where
  -- ---- which words stay

  pub only : OnlySlot P I (dropped P I s) s
  only = (removes P I p s can).only

  pub version : word (dropped P I s) 1 ≡ word I 1
  version = only.head 1 (omega arith)

  pub coherent : IsCoherent P (dropped P I s)
  coherent = (remove_law P I p s can).coherent

  pub descriptors : (Page : ℕ → Type 0) → KeepsDescriptors P I (dropped P I s) Page
  descriptors Page j f lt read none = other_word I (slot_word_of P s 0) 0 (descriptor_word_of P j f) (descriptor-ne_slot P j f s 0 lt (in_descriptor I f read))

  paged : KeepsPages P I (dropped P I s) (λ j. ⊥)
  paged = by_words P I (dropped P I s) (λ j. ⊥) (descriptors (λ j. ⊥))

  slot_words_same : (t f : ℕ) → f < 16 → t ≢ s → word (dropped P I s) (slot_word_of P t f) ≡ word I (slot_word_of P t f)
  slot_words_same t f lt ne = other_word I (slot_word_of P s 0) 0 (slot_word_of P t f) (slot-ne_slot P t f s 0 lt (omega arith) ne)

  pub inode_words_same : (x f : ℕ) → 1 ≤ x → x ≤ inodes_of P → f < inode_words I → word (dropped P I s) (inode_word_of x f) ≡ word I (inode_word_of x f)
  inode_words_same x f least most lt = other_word I (slot_word_of P s 0) 0 (inode_word_of x f) (inode-ne_slot P x f s 0 least most (in_inode I f lt))

  pub kept : KeepsSlots P I (dropped P I s) (λ t. t ≡ s)
  kept = record {
    before = can.coherent;
    after = coherent;
    forth = λ t other r. facts.slot_forward P I p s can t other r;
    back = λ t other r. (facts.slot_back P I p s can t r).0;
    owners = λ t other was is. facts.owner_same P I p s can t was;
    numbers = λ t other was. only.inode t other;
    kinds = λ x was is. facts.kind_same P I p s can x was;
  }

  pub pointer_same : (t : ℕ) → IsPointer P I t ↔ IsPointer P (dropped P I s) t
  pointer_same t = same.pointer_same P I (dropped P I s) (λ j. ⊥) paged t (λ none. none) (only.pointer t)

  -- ---- rooms

  pub room_before : IsRoomOf P I (page_owner P I (page_of_slot s)) (page_of_slot s)
  unfolding slot_owner
  room_before = facts.room_here P I p s can

  pub owner_after : page_owner P (dropped P I s) (page_of_slot s) ≡ slot_owner P I s
  unfolding slot_owner
  owner_after = same_owner only s can.live.held.in_range

  rooms_beside : (x j : ℕ) → (j ≡ page_of_slot s → IsRoomOf P (dropped P I s) (slot_owner P I s) (page_of_slot s)) → IsRoomOf P I x j ↔ IsRoomOf P (dropped P I s) x j
  rooms_beside x j there = (
    (λ room. elim (facts.room_cases P I p s can x j room) [
      | inl here ↦ subst (IsRoomOf P (dropped P I s) x) (sym here.1) (subst (λ z. IsRoomOf P (dropped P I s) z (page_of_slot s)) (sym here.0) (there here.1))
      | inr after ↦ after
    ]),
    facts.room_back P I p s can x j,
  )

  -- ---- slots

  slot_same : (t : ℕ) → t ≢ s → (page_of_slot t ≡ page_of_slot s → IsRoomOf P (dropped P I s) (slot_owner P I s) (page_of_slot s)) → IsLitterSlot P I t ↔ IsLitterSlot P (dropped P I s) t
  slot_same t ne there = same.slot_same kept paged t ne (λ none. none) (λ x. rooms_beside x (page_of_slot t) there) (λ f lt. slot_words_same t f lt ne)

  slot_left : IsRoomOf P (dropped P I s) (slot_owner P I s) (page_of_slot s) → IsLitterSlot P (dropped P I s) s
  slot_left there = record {
    page = subst (λ x. IsRoomOf P (dropped P I s) x (page_of_slot s)) (sym owner_after) there;
    dead = λ live. live.names (removes P I p s can).number;
    nonzero = name_nonzero P (dropped P I s) s (subst IsNameWords (sym (only.words s)) (can.coherent Rule.names s (facts.old_slot P I p s can)));
  }

  no_slot : ¬ IsRoomOf P (dropped P I s) (slot_owner P I s) (page_of_slot s) → (t : ℕ) → page_of_slot t ≡ page_of_slot s → ¬ IsLitterSlot P (dropped P I s) t
  no_slot none t at l =
      let page = subst (λ j. IsRoomOf P (dropped P I s) (page_owner P (dropped P I s) j) j) at l.page in
      none (subst (λ x. IsRoomOf P (dropped P I s) x (page_of_slot s)) owner_after page)

  pub slots_after : (given_back : Option ℕ) → IsNamelessPage P (dropped P I s) (slot_owner P I s) s given_back → (rest : List ℕ) → ((t : ℕ) → IsIn t rest → ¬ (slot_owner P I t ≡ slot_owner P I s))
      → IsListOf (IsLitterSlot P I) rest → IsListOf (IsLitterSlot P (dropped P I s)) (slots_left s given_back ++ rest)
  unfolding slot_owner
  slots_after None there rest alone listed = listed_more (IsLitterSlot P I) (IsLitterSlot P (dropped P I s)) s rest (λ l. l.dead can.live) (slot_left there) (λ t ne. slot_same t ne (λ at. there)) listed
  slots_after (Some page) (at, none) rest alone listed = listed_same (IsLitterSlot P I) (IsLitterSlot P (dropped P I s)) rest (λ t. elim (cases_eq (page_of_slot t) (page_of_slot s)) [
    | inl e ↦ (
      λ l. absurd (alone t ((listed.each t).1 l) (ap (page_owner P I) e)),
      λ l. absurd (no_slot (λ room. none (subst (IsRoomOf P (dropped P I s) (slot_owner P I s)) at room)) t e l),
    )
    | inr other ↦ slot_same t (λ e. other (ap page_of_slot e)) (λ e. absurd (other e))
  ]) listed
