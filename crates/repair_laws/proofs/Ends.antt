-- The last words are tidy, and what recovery makes of the first.
use Rattle.std.proofs.Common.{◌≡◌, ◌⊎◌, inl, inr, ℕ, ◌<◌, List, refl, sym, ap, subst, ◌∙◌, arith}
use Rattle.std.proofs.lemmas.Bool.{cases_eq}
use Rattle.layout.specs.Fields.{word, inode_links, page_owner, slot_inode, slot_pointer}
use Rattle.layout.specs.Geometry.{page_of_slot, slot_word_of, inode_word_of}
use Rattle.layout.proofs.Widths.{same_inode_words, same_descriptor_words}
use Rattle.image_reading.specs.Reading.{IsLive, IsLinkCount}
use Rattle.image_reading.specs.Repairs.{IsPointer, IsLitterSlot, IsLitterPage, IsLitterInode, IsLitterCount, IsKeptDirectoryPage}
use Rattle.image_reading.specs.Soundness.{IsCoherent}
use Rattle.image_reading.specs.Tidy.{IsTidied}
use Rattle.image_reading.proofs.Counts.{count_none}
use Rattle.image_counts.proofs.Links.{links_counted}
use Rattle.image_laws.specs.Frame.{SameMeaning}
use Rattle.image_laws.proofs.Trees.{tree_law}
use Rattle.repair_laws.specs.Mended.{GivesUp, Unpoints, Clears, Frees, Mends, IsMended, IsRepair}
use Rattle.repair_laws.specs.Laws.{EndLaw}
use Rattle.repair_laws.proofs.After.{stays}
use Rattle.repair_laws.proofs.Apart.{mends_head}
use Rattle.repair_laws.proofs.Ending as ending
use Rattle.repair_laws.proofs.Freeing.{fourth_means}
use Rattle.repair_laws.proofs.Kept.{kept_held}
use Rattle.repair_laws.proofs.Pointing as pointing
use Rattle.repair_laws.proofs.Uses.{reached_after, reached_before}

module _ (P : ℕ) (W A B C K : List ℕ) (coherent : IsCoherent P W) (repair : IsRepair P W A B C K) where
  means : SameMeaning P W K
  means = fourth_means P W A B C K coherent repair

  -- ---- word by word

  gives : {a v : ℕ} → GivesUp P W a v → word K a ≡ v
  unfolding slot_inode
  gives (GivesUp.number s d left) =
      ending.last_number P W A B C K coherent repair s
      ∙ pointing.second_inode P W coherent A repair.first B repair.second s
      ∙ pointing.first_left P W coherent A repair.first s d left

  unpoints : {a v : ℕ} → Unpoints P W a v → word K a ≡ v
  unfolding slot_pointer
  unpoints (Unpoints.pointer d held) = ending.last_pointer P W A B C K coherent repair d held

  clears : {a v : ℕ} → Clears P W a v → word K a ≡ v
  unfolding page_owner inode_links
  clears (Clears.owner j unkept) = ending.free_owner P W A B C K coherent repair j unkept.in_range unkept.free
  clears (Clears.slot s f dead low small) = ending.dead_word P W A B C K coherent repair s f dead.page dead.dead low small
  clears (Clears.links i n reached count) = ending.counted_links P W A B C K coherent repair i n reached count

  new : {a v : ℕ} → Mends P W a v → word K a ≡ v
  new (Mends.gives_up h) = gives h
  new (Mends.unpoints h) = unpoints h
  new (Mends.clears h) = clears h
  new (Mends.frees h) = repair.fourth.new _ _ h

  words : (a : ℕ) → (word K a ≡ word W a) ⊎ ((v : ℕ) × Mends P W a v)
  words a = elim (repair.fourth.words a) [
    | inr h ↦ inr (h.0, Mends.frees h.1)
    | inl fourth ↦ elim (repair.third.words a) [
      | inr h ↦ inr (h.0, Mends.clears h.1)
      | inl third ↦ elim (repair.second.words a) [
        | inr h ↦ inr (h.0, Mends.unpoints h.1)
        | inl second ↦ elim (repair.first.words a) [
          | inr h ↦ inr (h.0, Mends.gives_up h.1)
          | inl first ↦ inl (fourth ∙ third ∙ second ∙ first)
        ]
      ]
    ]
  ]

  pub mended : IsMended P W K
  mended = record { size = repair.fourth.size ∙ repair.third.size ∙ repair.second.size ∙ repair.first.size; new = λ a v h. new h; words = words }

  -- so the same words are read
  version : word K 1 ≡ word W 1
  version = stays (Mends P W) W K mended 1 (λ v mends. mends_head P W 1 (omega arith) mends refl)

  -- ---- nothing is to be repaired

  no_pointer : (s : ℕ) → IsPointer P K s → ⊥
  no_pointer s pointer = pointer.nonzero (ending.none_points P W A B C K coherent repair s pointer.held)

  -- a dead slot has no number
  dead_number : (s : ℕ) → IsKeptDirectoryPage P W (page_of_slot s) → ¬ IsLive P W s → slot_inode P K s ≡ 0
  dead_number s page dead = elim (cases_eq (slot_inode P B s) 0) [
    | inl none ↦ ending.last_number P W A B C K coherent repair s ∙ none
    | inr some ↦ absurd (dead (pointing.second_numbered P W coherent A repair.first B repair.second s (kept_held P W coherent s page) some))
  ]

  dead_word : (s f : ℕ) → IsKeptDirectoryPage P W (page_of_slot s) → ¬ IsLive P W s → f < 16 → word K (slot_word_of P s f) ≡ 0
  unfolding slot_inode
  dead_word s f page dead small = elim (cases_eq f 0) [
    | inl zero ↦ ap (λ g. word K (slot_word_of P s g)) zero ∙ dead_number s page dead
    | inr some ↦ ending.dead_word P W A B C K coherent repair s f page dead (omega (arith, some)) small
  ]

  no_slot : (s : ℕ) → IsLitterSlot P K s → ⊥
  no_slot s litter =
      let page = ending.directory_page_before P W A B C K coherent repair (page_of_slot s) litter.page in
      let (f, small, some) = litter.nonzero in
      some (dead_word s f page (λ live. litter.dead (ending.live_after P W A B C K coherent repair s (inr page) live)) small)

  no_page : (j : ℕ) → IsLitterPage P K j → ⊥
  no_page j litter =
      let (f, small, some) = litter.nonzero in
      some (ending.free_word P W A B C K coherent repair j f litter.in_range (λ kept. litter.free (ending.kept_after P W A B C K coherent repair j kept))
      (subst (λ n. f < n) (same_descriptor_words W K version) small))

  no_inode : (i : ℕ) → IsLitterInode P K i → ⊥
  no_inode i litter =
      let (f, small, some) = litter.nonzero in
      some (repair.fourth.new (inode_word_of i f) 0
      (Frees.inode i f (record { least = litter.least; most = litter.most; unreached = λ reached. litter.unreached (reached_after P W K means i reached) })
      (subst (λ n. f < n) (same_inode_words W K version) small)))

  no_count : (i : ℕ) → IsLitterCount P K i → ⊥
  no_count i litter =
      let reached = reached_before P W K means i litter.reached in
      let (T, reads, form) = tree_law P W coherent in
      let count = links_counted P W T coherent reads i reached in
      litter.other (subst (IsLinkCount P K i) (sym (ending.counted_links P W A B C K coherent repair i _ reached count))
      (ending.counted_after P W A B C K coherent repair i _ reached count))

  pub tidy : IsTidied P K
  tidy = record {
    coherent = means.coherent;
    repaired = record {
      of_pointers = count_none (IsPointer P K) no_pointer;
      of_slots = count_none (IsLitterSlot P K) no_slot;
      of_pages = count_none (IsLitterPage P K) no_page;
      of_inodes = count_none (IsLitterInode P K) no_inode;
      of_counts = count_none (IsLitterCount P K) no_count;
    };
  }

pub end_law : EndLaw
end_law P W A B C K coherent repair = mended P W A B C K coherent repair
