-- The size of a file rises over pages behind its end: nothing of them is left.
use Rattle.std.proofs.Common.{◌≡◌, ◌≢◌, ◌⊎◌, inl, inr, ℕ, ◌<◌, ◌≤◌, false, List, [], ◌++◌, sym, ap, subst, ◌∙◌, arith}
use Rattle.std.proofs.lemmas.Bool.{cases_eq, cases_lt}
use Rattle.layout.specs.Fields.{inode_kind, inode_size, page_owner, page_kind, page_offset}
use Rattle.image_reading.specs.Counts.{IsIn, IsListOf}
use Rattle.image_reading.specs.Reading.{Reached, pages_of_size}
use Rattle.image_reading.specs.Repairs.{IsKeptFilePage, IsLitterPage}
use Rattle.image_reading.specs.Residue.{Residue, IsTidyBeside}
use Rattle.image_counts.proofs.Distinct.{in_back}
use Rattle.content_laws.specs.Growth.{sized}
use Rattle.weave_laws.specs.Joined.{joined}
use Rattle.weave_laws.specs.Removing.{cleared_left}
use Rattle.weave_laws.specs.Bytes.{MayRaise}
use Rattle.weave_laws.specs.Sizing.{ArePagesBetween, RaisedLaw}
use Rattle.weave_laws.proofs.Listed.{listed_after}
use Rattle.weave_laws.proofs.Resized.{raised_coherent}
use Rattle.weave_laws.proofs.Sized as after
use Rattle.weave_laws.proofs.SizedWords as words

-- a greater size takes no fewer pages
pub more_pages : (small large : ℕ) → small ≤ large → pages_of_size small ≤ pages_of_size large
unfolding pages_of_size
more_pages small large le = omega (arith, le)

module _ (P : ℕ) (I : List ℕ) (i z : ℕ) (pages : List ℕ) (others : Residue) (may : MayRaise P I i z) (between : ArePagesBetween P I i pages (inode_size I i) z) (tidy : IsTidyBeside P I (joined (cleared_left pages false i) others)) where
  abbrev K : List ℕ
  K = sized I i z

  abbrev change : after.ChangesFile P I K i (λ j. ⊥)
  change = words.change P I i z may.coherent may.reached (raised_coherent P I i z may)

  size_after : inode_size K i ≡ z
  size_after = words.size_after P I i z may.coherent may.reached

  -- each size is at most what it is then
  size_grows : (x : ℕ) → Reached P I x → inode_size I x ≤ inode_size K x
  size_grows x r = elim (cases_eq x i) [
    | inl e ↦ (let old = ap (inode_size I) e in let new = ap (inode_size K) e in let size = size_after in let le = may.larger in omega (arith, old, new, size, le))
    | inr ne ↦ (let same = after.size_beside change x r ne in omega (arith, same))
  ]

  below_forth : (j : ℕ) → ¬ ⊥ → IsKeptFilePage P I j → page_offset P I j < pages_of_size (inode_size K (page_owner P I j))
  below_forth j other kept =
      let owner = page_owner P I j in
      let more = more_pages (inode_size I owner) (inode_size K owner) (size_grows owner kept.owner) in
      let below = kept.below in
      omega (arith, more, below)

  owner_same : (j : ℕ) → IsKeptFilePage P K j → page_owner P K j ≡ page_owner P I j
  owner_same j kept = (after.paged change).owner j kept.in_range (λ none. none)

  offset_same : (j : ℕ) → IsKeptFilePage P K j → page_offset P K j ≡ page_offset P I j
  offset_same j kept = (after.paged change).offset j kept.in_range (λ none. none)

  below_back : (j : ℕ) → ¬ IsIn j pages → IsKeptFilePage P K j → page_offset P K j < pages_of_size (inode_size I (page_owner P K j))
  below_back j other kept =
      let x = page_owner P K j in
      let below = kept.below in
      elim (cases_eq x i) [
        | inl e ↦ elim (cases_lt (page_offset P I j) (pages_of_size (inode_size I i))) [
          | inl lt ↦ (let same = offset_same j kept in let size = ap (λ y. pages_of_size (inode_size I y)) e in omega (arith, lt, same, size))
          | inr ge ↦
              let same = offset_same j kept in
              let size : pages_of_size (inode_size K x) ≡ pages_of_size z = ap (λ y. pages_of_size (inode_size K y)) e ∙ ap pages_of_size size_after in
              absurd (other ((between j).1 (record { in_range = kept.in_range; owner = sym (owner_same j kept) ∙ e }, ge, omega (arith, same, size, below))))
        ]
        | inr ne ↦ (let size = ap pages_of_size (after.size_beside change x ((after.reached change x).1 kept.owner) ne) in omega (arith, size, below))
      ]

  -- these are kept then
  kept_then : (j : ℕ) → IsIn j pages → IsKeptFilePage P K j
  kept_then j among =
      let (page, ge, lt) = (between j).0 among in
      let owner : page_owner P K j ≡ i = (after.paged change).owner j page.in_range (λ none. none) ∙ page.owner in
      let same = (after.paged change).offset j page.in_range (λ none. none) in
      let size : pages_of_size (inode_size K (page_owner P K j)) ≡ pages_of_size z = ap (λ y. pages_of_size (inode_size K y)) owner ∙ ap pages_of_size size_after in
      record {
        in_range = page.in_range;
        owner = subst (Reached P K) (sym owner) ((after.reached change i).0 may.reached);
        file = ap (inode_kind K) owner ∙ after.kind_reached change i may.reached ∙ may.file;
        below = omega (arith, same, size, lt);
      }

  pages_after : IsListOf (IsLitterPage P K) others.pages
  pages_after = listed_after (IsLitterPage P I) (IsLitterPage P K) pages [] others.pages tt (λ j none. absurd none) (λ j. (
    (λ l.
        let other : ¬ IsIn j pages = λ among. l.free (inl (kept_then j among)) in
        inr (after.page_back change (λ x. ⊥) (λ x none. none) below_forth j (λ none. none) l, other)),
    (λ either. elim either [ inl none ↦ absurd none | inr had ↦ after.page_forth change (λ x. IsIn x pages) (λ x none. absurd none) below_back j had.1 had.0 ]),
  )) tidy.of_pages

  mark_after : (j : ℕ) → IsIn j others.pages → (page_owner P K j ≢ 0) ⊎ (page_kind P K j ≢ 0)
  mark_after j among =
      let before = in_back j pages others.pages among in
      after.mark_kept change j (λ none. none) ((tidy.of_pages.each j).0 before).in_range (tidy.marks j before)

pub raised_law : RaisedLaw
raised_law P I i z pages others may between tidy =
    after.tidy_after (change P I i z pages others may between tidy) (pages ++ others.pages) others.pages others tidy
    (pages_after P I i z pages others may between tidy) (mark_after P I i z pages others may between tidy)
