-- A name is written with what goes with it: its slot is to be repaired then, and each other slot and each page where it was before.
use Rattle.std.proofs.Common.{◌≡◌, ◌≢◌, ◌↔◌, ◌⊎◌, inl, inr, ℕ, ◌+◌, ◌<◌, ◌≤◌, List, ◌∷◌, sym, subst, ◌∙◌, arith}
use Rattle.layout.specs.Geometry.{inodes_of, data_pages_of, page_of_slot, inode_word_of}
use Rattle.layout.specs.Fields.{word, inode_words, inode_kind, inode_links, page_owner, page_kind, slot_pointer}
use Rattle.layout.specs.Name.{IsNameWords}
use Rattle.layout.proofs.Widths.{in_inode, in_descriptor, inode_field_read}
use Rattle.tree_model.specs.PathText.{Route}
use Rattle.image_reading.specs.Reading.{Reached, IsRoomOf, IsLinkCount}
use Rattle.image_reading.specs.Repairs.{IsPointer, IsLitterSlot, IsLitterPage, IsLitterInode, IsLitterCount}
use Rattle.image_counts.proofs.Decided.{room_owner}
use Rattle.image_counts.proofs.Paths.{in_range}
use Rattle.image_laws.specs.Stages.{IsReadySlot}
use Rattle.image_laws.proofs.AddTidy.{IsWritten}
use Rattle.image_laws.proofs.Free.{SameEntries}
use Rattle.image_laws.proofs.KeptInodes.{KeepsInodes, by_inodes}
use Rattle.image_laws.proofs.KeptPages.{KeepsPages, KeepsDescriptors, by_words}
use Rattle.image_laws.proofs.KeptSlots.{KeepsSlots}
use Rattle.image_laws.proofs.Naming as naming
use Rattle.image_reading.specs.Counts.{IsListOf}
use Rattle.weave_laws.specs.Naming.{IsBlankSlot}
use Rattle.weave_laws.proofs.Listed.{listed_same, listed_more}
use Rattle.weave_laws.proofs.Named.{name_nonzero}
use Rattle.weave_laws.proofs.Raised as raises
use Rattle.weave_laws.proofs.Raised.{Raises}
use Rattle.weave_laws.proofs.Same as same

module _ {P : ℕ} {I J : List ℕ} {p : Route} {d s i y : ℕ} {name : List ℕ} (place : IsReadySlot P I p d s name) (written : IsWritten P I J s i y name) where
  entries : SameEntries P I J
  entries = naming.entries place written.named

  pub reached : (x : ℕ) → Reached P I x ↔ Reached P J x
  reached x = ((λ (q, b). (q, (entries.same.names q x).0 b)), (λ (q, b). (q, (entries.same.names q x).1 b)))

  pub nodes : KeepsInodes I J (Reached P I) (λ x. x ≡ y)
  nodes = by_inodes P I J (Reached P I) (λ x. x ≡ y) (in_range P I place.coherent) (λ x f r some most lt links. written.inodes x f some most (in_inode I f lt) (inl r) links)

  words : KeepsDescriptors P I J (λ j. ⊥)
  words j f lt read none = written.named.descriptors j f lt (in_descriptor I f read)

  pub paged : KeepsPages P I J (λ j. ⊥)
  paged = by_words P I J (λ j. ⊥) words

  kept : KeepsSlots P I J (λ t. ⊥)
  kept = record {
    before = place.coherent;
    after = entries.same.coherent;
    forth = λ t other r. (entries.slots t).0 r;
    back = λ t other r. (entries.slots t).1 r;
    owners = λ t other was is. naming.owner_same place written.named t was.live.held;
    numbers = λ t other was. naming.number_same place written.named t;
    kinds = λ x was is. nodes.kind x was;
  }

  pointer_word : (t : ℕ) → slot_pointer P J t ≡ slot_pointer P I t
  unfolding slot_pointer
  pointer_word t = written.named.slots t 1 (omega arith) (inl (omega arith))

  pub pointer_same : (t : ℕ) → IsPointer P I t ↔ IsPointer P J t
  pointer_same t = same.pointer_same P I J (λ j. ⊥) paged t (λ none. none) (pointer_word t)

  -- ---- slots and pages

  new_slot : IsRoomOf P I d (page_of_slot s) → IsLitterSlot P J s
  new_slot room =
      let now = (entries.rooms d (page_of_slot s)).0 room in
      record {
        page = subst (λ x. IsRoomOf P J x (page_of_slot s)) (sym (room_owner P J d (page_of_slot s) now)) now;
        dead = λ live. live.names (naming.number_same place written.named s ∙ place.slot.free);
        nonzero = name_nonzero P J s (subst IsNameWords (sym written.named.words) place.is_name);
      }

  pub slots_after : IsBlankSlot P I d s → (rest : List ℕ) → IsListOf (IsLitterSlot P I) rest → IsListOf (IsLitterSlot P J) (s ∷ rest)
  slots_after blank rest = listed_more (IsLitterSlot P I) (IsLitterSlot P J) s rest
      (λ l. let (f, lt, nonzero) = l.nonzero in nonzero (blank.zero f lt))
      (new_slot blank.kept)
      (λ t ne. same.slot_same kept paged t (λ none. none) (λ none. none) (λ x. entries.rooms x (page_of_slot t)) (λ f lt. written.named.slots t f lt (inr ne)))

  page_same : (j : ℕ) → IsLitterPage P I j ↔ IsLitterPage P J j
  page_same j = same.page_same P I J (λ x. ⊥) words entries.version nodes.kind nodes.size (λ x r. (reached x).0 r) (λ x lt r. (reached (page_owner P I x)).1 r) (λ x k other. entries.rooms x k) j (λ none. none)

  pub pages_after : (rest : List ℕ) → IsListOf (IsLitterPage P I) rest → IsListOf (IsLitterPage P J) rest
  pages_after rest = listed_same (IsLitterPage P I) (IsLitterPage P J) rest page_same

  pub mark_kept : (j : ℕ) → j < data_pages_of P → (page_owner P I j ≢ 0) ⊎ (page_kind P I j ≢ 0) → (page_owner P J j ≢ 0) ⊎ (page_kind P J j ≢ 0)
  mark_kept j lt mark = elim mark [
    | inl owned ↦ inl (λ z. owned (sym (paged.owner j lt (λ none. none)) ∙ z))
    | inr kind ↦ inr (λ z. kind (sym (paged.kind j lt (λ none. none)) ∙ z))
  ]

  -- ---- inodes and links

  inode_word : (x f : ℕ) → 1 ≤ x → x ≤ inodes_of P → f < inode_words I → x ≢ i → ¬ Reached P I x → word J (inode_word_of x f) ≡ word I (inode_word_of x f)
  inode_word x f least most lt other unreached = written.inodes x f least most (in_inode I f lt) (inr other) (inr (λ e. unreached (subst (Reached P I) (sym e) written.linked)))

  pub inode_same : (x : ℕ) → Reached P I x ⊎ (x ≢ i) → IsLitterInode P I x ↔ IsLitterInode P J x
  inode_same x old = same.inode_same P I J x entries.version (reached x) (λ f least most lt unreached.
      inode_word x f least most lt (elim old [ inl r ↦ absurd (unreached r) | inr ne ↦ ne ]) unreached)

  pub kind_kept : (x : ℕ) → x ≢ i → IsLitterInode P I x → inode_kind I x ≢ 0 → inode_kind J x ≢ 0
  unfolding inode_kind
  kind_kept x ne l kind z = kind (sym (inode_word x 0 l.least l.most (inode_field_read I 0 (omega arith)) ne l.unreached) ∙ z)

  raised : Raises P I J y
  raised = record { kept = kept; nodes = nodes; reached = reached; linked = written.linked }

  pub counts_more : inode_links J y ≡ inode_links I y + 1 → IsLinkCount P I y (inode_links I y) → (rest : List ℕ) → IsListOf (IsLitterCount P I) rest → IsListOf (IsLitterCount P J) (y ∷ rest)
  counts_more = raises.counts_more raised

  pub counts_same : inode_links J y ≡ inode_links I y → (rest : List ℕ) → IsListOf (IsLitterCount P I) rest → IsListOf (IsLitterCount P J) rest
  counts_same = raises.counts_same raised
