-- The size of a file falls: its pages behind the new end are left.
use Rattle.std.proofs.Common.{◌≡◌, ◌≢◌, ◌⊎◌, inl, inr, ℕ, ◌<◌, ◌≤◌, List, [], ◌++◌, sym, ap, subst, ◌∙◌, arith}
use Rattle.std.proofs.lemmas.Bool.{cases_eq, cases_lt}
use Rattle.layout.specs.Fields.{inode_kind, inode_size, page_owner, page_kind, page_offset}
use Rattle.layout.proofs.Widths.{descriptor_field_read}
use Rattle.image_reading.specs.Counts.{IsIn, IsDistinct, IsListOf}
use Rattle.image_reading.specs.Reading.{HasBytes, Reached, IsRoomOf, pages_of_size}
use Rattle.image_reading.specs.Repairs.{IsKeptFilePage, IsLitterPage}
use Rattle.image_reading.specs.Residue.{Residue, IsTidyBeside}
use Rattle.image_counts.proofs.Distinct.{in_either}
use Rattle.image_counts.proofs.Paths.{in_range}
use Rattle.content_laws.specs.Growth.{sized}
use Rattle.weave_laws.specs.Bytes.{MayLower}
use Rattle.weave_laws.specs.Sizing.{ArePagesBetween, LoweredLaw}
use Rattle.weave_laws.proofs.Contained.{in_contained, contained_in, contained_or_not}
use Rattle.weave_laws.proofs.Listed.{listed_after}
use Rattle.weave_laws.proofs.Resized.{lowered_coherent}
use Rattle.weave_laws.proofs.Sized as after
use Rattle.weave_laws.proofs.SizedRaised.{more_pages}
use Rattle.weave_laws.proofs.SizedWords as words

module _ (P : ℕ) (I : List ℕ) (i z : ℕ) (pages : List ℕ) (others : Residue) (may : MayLower P I i z) (distinct : IsDistinct pages) (between : ArePagesBetween P I i pages z (inode_size I i)) (tidy : IsTidyBeside P I others) where
  abbrev K : List ℕ
  K = sized I i z

  abbrev change : after.ChangesFile P I K i (λ j. ⊥)
  change = words.change P I i z may.coherent may.reached (lowered_coherent P I i z may)

  size_after : inode_size K i ≡ z
  size_after = words.size_after P I i z may.coherent may.reached

  -- each size is at most what it was
  size_falls : (x : ℕ) → Reached P I x → inode_size K x ≤ inode_size I x
  size_falls x r = elim (cases_eq x i) [
    | inl e ↦ (let old = ap (inode_size I) e in let new = ap (inode_size K) e in let size = size_after in let le = may.less in omega (arith, old, new, size, le))
    | inr ne ↦ (let same = after.size_beside change x r ne in omega (arith, same))
  ]

  below_back : (j : ℕ) → ¬ ⊥ → IsKeptFilePage P K j → page_offset P K j < pages_of_size (inode_size I (page_owner P K j))
  below_back j other kept =
      let owner = page_owner P K j in
      let more = more_pages (inode_size K owner) (inode_size I owner) (size_falls owner ((after.reached change owner).1 kept.owner)) in
      let below = kept.below in
      omega (arith, more, below)

  below_forth : (j : ℕ) → ¬ IsIn j pages → IsKeptFilePage P I j → page_offset P I j < pages_of_size (inode_size K (page_owner P I j))
  below_forth j other kept =
      let x = page_owner P I j in
      let below = kept.below in
      elim (cases_eq x i) [
        | inl e ↦ elim (cases_lt (page_offset P I j) (pages_of_size z)) [
          | inl lt ↦
              let size : pages_of_size (inode_size K x) ≡ pages_of_size z = ap (λ y. pages_of_size (inode_size K y)) e ∙ ap pages_of_size size_after in
              omega (arith, lt, size)
          | inr ge ↦
              let size = ap (λ y. pages_of_size (inode_size I y)) e in
              absurd (other ((between j).1 (record { in_range = kept.in_range; owner = e }, ge, omega (arith, size, below))))
        ]
        | inr ne ↦ (let size = ap pages_of_size (after.size_beside change x kept.owner ne) in omega (arith, size, below))
      ]

  -- these are kept before, and left then
  kept_before : (j : ℕ) → IsIn j pages → IsKeptFilePage P I j
  kept_before j among =
      let (page, ge, lt) = (between j).0 among in
      let size = ap (λ y. pages_of_size (inode_size I y)) page.owner in
      record { in_range = page.in_range; owner = subst (Reached P I) (sym page.owner) may.reached; file = ap (inode_kind I) page.owner ∙ may.file; below = omega (arith, size, lt) }

  owner_after : (j : ℕ) → IsIn j pages → page_owner P K j ≡ i
  owner_after j among = let page = ((between j).0 among).0 in (after.paged change).owner j page.in_range (λ none. none) ∙ page.owner

  owned_after : (j : ℕ) → IsIn j pages → page_owner P K j ≢ 0
  owned_after j among z = let owner = owner_after j among in let some = (in_range P I may.coherent i may.reached).0 in omega (arith, owner, some, z)

  not_file : (j : ℕ) → IsIn j pages → ¬ IsKeptFilePage P K j
  not_file j among kept =
      let (page, ge, lt) = (between j).0 among in
      let same = (after.paged change).offset j page.in_range (λ none. none) in
      let size : pages_of_size (inode_size K (page_owner P K j)) ≡ pages_of_size z = ap (λ y. pages_of_size (inode_size K y)) (owner_after j among) ∙ ap pages_of_size size_after in
      let below = kept.below in
      omega (arith, ge, same, size, below)

  not_room : (j : ℕ) → IsIn j pages → ¬ IsRoomOf P K (page_owner P K j) j
  not_room j among room =
      let two = room.directory in
      let one : HasBytes K (page_owner P K j) = ap (inode_kind K) (owner_after j among) ∙ after.kind_reached change i may.reached ∙ may.file in
      omega (arith, one, two)

  left_then : (j : ℕ) → IsIn j pages → IsLitterPage P K j
  unfolding page_owner
  left_then j among = record {
    in_range = (kept_before j among).in_range;
    free = λ kept. elim kept [ inl file ↦ not_file j among file | inr room ↦ not_room j among room ];
    nonzero = (0, descriptor_field_read K 0 (omega arith), owned_after j among);
  }

  pages_after : IsListOf (IsLitterPage P K) (pages ++ others.pages)
  pages_after = listed_after (IsLitterPage P I) (IsLitterPage P K) [] pages others.pages distinct
      (λ j among other. ((tidy.of_pages.each j).0 other).free (inl (kept_before j among)))
      (λ j. (
        (λ l. elim (contained_or_not pages j) [
          | inl is ↦ inl (contained_in j pages is)
          | inr none ↦ inr (after.page_back change (λ x. IsIn x pages) (λ x none. absurd none) below_forth j (λ among. none (in_contained j pages among)) l, λ none. none)
        ]),
        (λ either. elim either [ inl among ↦ left_then j among | inr had ↦ after.page_forth change (λ x. ⊥) (λ x none. none) below_back j (λ none. none) had.0 ]),
      ))
      tidy.of_pages

  mark_after : (j : ℕ) → IsIn j (pages ++ others.pages) → (page_owner P K j ≢ 0) ⊎ (page_kind P K j ≢ 0)
  mark_after j among = elim (in_either j pages others.pages among) [
    | inl own ↦ inl (owned_after j own)
    | inr other ↦ after.mark_kept change j (λ none. none) ((tidy.of_pages.each j).0 other).in_range (tidy.marks j other)
  ]

pub lowered_law : LoweredLaw
lowered_law P I i z pages others may distinct between tidy =
    after.tidy_after (change P I i z pages others may distinct between tidy) others.pages (pages ++ others.pages) others tidy
    (pages_after P I i z pages others may distinct between tidy) (mark_after P I i z pages others may distinct between tidy)
