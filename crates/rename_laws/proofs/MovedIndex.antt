-- What an index of the image holds after a rename.
use Rattle.std.proofs.Common.{◌≡◌, ◌≢◌, ◌↔◌, inl, inr, ℕ, ◌+◌, ◌<◌, ◌≤◌, List, Option, sym, ap, subst, ◌∙◌, arith}
use Rattle.layout.specs.Fields.{inode_kind, page_owner, page_kind, slot_name}
use Rattle.layout.specs.Geometry.{inodes_of, data_pages_of, page_of_slot}
use Rattle.layout.specs.Name.{name_in_words}
use Rattle.layout.proofs.Widths.{inode_field_read, descriptor_field_read}
use Rattle.tree_model.specs.PathText.{Route}
use Rattle.image_reading.specs.Reading.{Reached, IsReachedSlot, IsPageOf}
use Rattle.image_laws.specs.Move.{CanMove, moved}
use Rattle.image_laws.proofs.KeptPages.{page_same}
use Rattle.image_laws.proofs.KeptSlots as slot_laws
use Rattle.image_laws.proofs.Paths.{reached_pos}
use Rattle.image_laws.proofs.Words.{slot_words-same}
use Rattle.rename_laws.specs.Target.{Target, Vacant, Opened, Taken, old_number}
use Rattle.rename_laws.specs.Ready.{HasNewPage, IsMoveReady}
use Rattle.rename_laws.specs.Intervals.{IsGone, IsGivenUp, Finishes}
use Rattle.rename_laws.specs.Index.{HasEntryMoved, HasIndexMoved, MovedIndexLaw}
use Rattle.rename_laws.proofs.MoveIntervals as intervals
use Rattle.rename_laws.proofs.MoveNear as near
use Rattle.rename_laws.proofs.MoveNear.{IsOpenedPage}
use Rattle.rename_laws.proofs.MoveReads as reads
use Rattle.rename_laws.proofs.MoveSpare.{IsOut, IsSpare}
use Rattle.rename_laws.proofs.MoveTidy as ends
use Rattle.rename_laws.proofs.MoveTidy.{HasEnded}
use Rattle.rename_laws.proofs.MovedCounts.{IsAlmostTidy}
use Rattle.rename_laws.proofs.MovedEntries as entries
use Rattle.rename_laws.proofs.MovedNames as here

-- a new page is a directory's
opened_kind : (P : ℕ) (I : List ℕ) (x d : ℕ) (target : Target) (j : ℕ) → HasNewPage P I x d target → IsOpenedPage target j → page_kind P I j ≡ 2
opened_kind P I x d (Vacant name) j page new = absurd new
opened_kind P I x d (Opened opened name) j page new = ap (page_kind P I) new ∙ page.kind
opened_kind P I x d (Taken r) j page new = absurd new

module _ (P : ℕ) (W I J G K : List ℕ) (pa pb : Route) (s x d : ℕ) (target : Target) (rising falling : Option ℕ) (ready : IsMoveReady P W I pa pb s x d target rising)
    (finishes : Finishes P W I J G K s x d target falling) where
  c : CanMove P I pa pb s d
  c = ready.can_move

  almost : IsAlmostTidy P I s d
  almost = near.near P W I pa pb s x d target rising ready

  ended : HasEnded P I K s d
  ended = reads.ended P W I J G K pa pb s x d target rising falling ready finishes

  entry : HasEntryMoved P W (moved P I s d) s x d target
  entry = entries.entry_moved P W I pa pb s x d target rising ready

  new_name : slot_name P K d ≡ slot_name P I d
  unfolding slot_name
  new_name = ap name_in_words (slot_words-same P I K d (λ f lt. ended.name (2 + f) (omega arith) (omega (arith, lt))))

  name_same : (t : ℕ) → t ≢ s → t ≢ d → slot_name P K t ≡ slot_name P I t
  unfolding slot_name
  name_same t ns nd = ap name_in_words (slot_words-same P I K t (λ f lt. ended.slots t (2 + f) ns nd (omega (arith, lt))))

  commit_name : (t : ℕ) → slot_name P (moved P I s d) t ≡ slot_name P I t
  unfolding slot_name
  commit_name t = ap name_in_words ((here.only P I pa pb s d c).words t)

  entry_end : HasEntryMoved P W K s x d target
  entry_end = record {
    entries = λ y t.
        let same = slot_laws.entries (ends.kept P I K pa pb s d c almost ended) y t (λ none. none) in
        ((λ e. (entry.entries y t).0 (same.1 e)), (λ h. same.0 ((entry.entries y t).1 h)));
    new_name = new_name ∙ ready.name_is;
    new_inode = ended.number ∙ near.source_number P W I pa pb s x d target rising ready;
    names = λ t r ns nd. name_same t ns nd ∙ sym (commit_name t) ∙ entry.names t r ns nd;
    inodes = λ t r ns nd. ends.number_after P I K pa pb s d c almost ended t ns ∙ entry.inodes t r ns nd;
    reached = λ y. (
      (λ r. (entry.reached y).0 (ends.back P I K pa pb s d c almost ended y r)),
      (λ h. ends.forth P I K pa pb s d c almost ended y ((entry.reached y).1 h)),
    );
  }

  -- ---- pages

  given_spare : (j : ℕ) → IsGivenUp P (moved P I s d) s target j ↔ IsSpare P I (moved P I s d) s d j
  given_spare = intervals.given_spare P W I pa pb s x d target rising ready

  out_gone : IsGone P (moved P I s d) target ↔ IsOut P I (moved P I s d) d
  out_gone = intervals.out_gone P W I pa pb s x d target rising ready

  no_owner : (j : ℕ) → IsGivenUp P (moved P I s d) s target j → page_owner P K j ≡ 0
  unfolding page_owner
  no_owner j given = ended.spare j 0 ((given_spare j).0 given) (descriptor_field_read K 0 (omega arith))

  old_owner : (j : ℕ) → j < data_pages_of P → j ≢ page_of_slot d → (IsGivenUp P (moved P I s d) s target j → ⊥)
      → page_owner P K j ≡ page_owner P W j
  old_owner j lt other none =
      (ends.paged P I K pa pb s d c almost ended).owner j lt (λ spare. none ((given_spare j).1 spare))
      ∙ (near.paged P W I pa pb s x d target rising ready).owner j lt (λ new. other (near.opened_here P W pb s x d target j ready.can.target_slot new))

  -- a file's page is no new page, and isn't given up where the file is reached
  file_old : (j : ℕ) → page_kind P I j ≡ 1 → IsOpenedPage target j → ⊥
  file_old j one new = let two = opened_kind P I x d target j ready.page new in omega (arith, one, two)

  file_kept : (y j : ℕ) → Reached P K y → page_owner P I j ≡ y → page_kind P I j ≡ 1 → IsSpare P I (moved P I s d) s d j → ⊥
  file_kept y j r owner one spare = elim spare.why [
    | inl (out, is) ↦ out.1 (subst (Reached P (moved P I s d)) (sym owner ∙ is) (ends.back P I K pa pb s d c almost ended y r))
    | inr (at, none) ↦ (let two = ap (page_kind P I) at ∙ c.source.held.kind in omega (arith, one, two))
  ]

  page_before : (y k j : ℕ) → Reached P K y → IsPageOf P K y k j → IsPageOf P W y k j
  page_before y k j r page =
      let none = ends.not_spare P I K pa pb s d c almost ended j (λ z. reached_pos P K y r (sym page.owner ∙ z)) in
      let was = (page_same (ends.paged P I K pa pb s d c almost ended) y k j none).0 page in
      (page_same (near.paged P W I pa pb s x d target rising ready) y k j (file_old j was.kind)).0 was

  page_after : (y k j : ℕ) → Reached P K y → IsPageOf P W y k j → IsPageOf P K y k j
  page_after y k j r page =
      let old : IsOpenedPage target j → ⊥ = λ new. reached_pos P K y r (sym page.owner ∙ near.unowned P W pb s x d target j ready.can.target_slot new) in
      let now = (page_same (near.paged P W I pa pb s x d target rising ready) y k j old).1 page in
      (page_same (ends.paged P I K pa pb s d c almost ended) y k j (file_kept y j r now.owner now.kind)).1 now

  -- ---- kinds

  gone_kind : IsGone P (moved P I s d) target → inode_kind K (old_number target) ≡ 0
  unfolding inode_kind
  gone_kind gone = ap (inode_kind K) (sym ready.number) ∙ ended.out (out_gone.0 gone) 0 (inode_field_read K 0 (omega arith))

  kind_kept : (y : ℕ) → 1 ≤ y → y ≤ inodes_of P → (IsGone P (moved P I s d) target → y ≢ old_number target) → inode_kind K y ≡ inode_kind W y
  unfolding inode_kind
  kind_kept y some most other =
      ended.inodes y 0 some most (inode_field_read I 0 (omega arith)) (λ e. omega (arith, e)) (λ out e. other (out_gone.1 out) (e ∙ ready.number))
      ∙ near.inode_same P W I pa pb s x d target rising ready y 0 some most (omega arith) (inr (λ e. omega (arith, e)))

  -- ---- the index

  new_slot : IsReachedSlot P K d
  new_slot = ends.slot_forth P I K pa pb s d c almost ended d (here.slot_new P I pa pb s d c)

  pub index_moved : HasIndexMoved P W (moved P I s d) K s x d target
  index_moved = record {
    entry = entry_end;
    owner = ends.slot_owner_same P I K pa pb s d c almost ended d new_slot.live.held ∙ ready.owner;
    given = no_owner;
    owners = old_owner;
    gone = gone_kind;
    kinds = kind_kept;
    files = λ y k j r. (page_before y k j r, page_after y k j r);
  }

pub moved_index_law : MovedIndexLaw
moved_index_law P W I J G K pa pb s x d target rising falling ready finishes =
    index_moved P W I J G K pa pb s x d target rising falling ready finishes
