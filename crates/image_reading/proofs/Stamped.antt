-- The pages of a file are found by a walk along them, which stamps their offsets.
use Rattle.std.proofs.Common.{◌≡◌, ◌≢◌, ◌↔◌, inl, inr, ℕ, zero, suc, ◌+◌, ◌-◌, ◌<◌, ◌≤◌, Bool, List, [], ◌∷◌, length, get_or, replicate, min, Option, Some, None, refl, sym, ap, subst, ◌∙◌, arith}
use Rattle.std.specs.Option.{unwrap_or}
use Rattle.std.proofs.lemmas.Bool.{cases_eq, cases_lt}
use Rattle.std.specs.Int.{div_ceil}
use Rattle.layout.specs.Geometry.{inodes_of, data_pages_of}
use Rattle.layout.specs.Fields.{page_owner, page_offset, inode_size}
use Rattle.image_reading.specs.Counts.{IsIn, IsDistinct}
use Rattle.image_reading.specs.Reading.{HasBytes, Reached, IsPageOf, pages_of_size}
use Rattle.image_reading.specs.Soundness.{HasAllPages, HasOwnOffset}
use Rattle.image_reading.specs.Scan.{Finds, AreStamps, IsStamped, StampsPage}
use Rattle.image_reading.proofs.Counts.{strip}
use Rattle.image_reading.proofs.Walked.{reached_range}
use Rattle.image_reading.proofs.Linked.{PagesDone, IsLinkedAt, pages_map, page_there, pages_step, pages_end, next_after, zeros}

-- ---- as many offsets as pages

-- numbers below n are at most n
at_most_below : (n : ℕ) (xs : List ℕ) → IsDistinct xs → ((x : ℕ) → IsIn x xs → x < n) → length xs ≤ n
at_most_below zero [] d f = omega arith
at_most_below zero (x ∷ xs) d f = let h = f x (inl refl) in absurd (omega arith)
at_most_below (suc n) xs d f =
    let (ys, dy, g, l) = strip n xs d in
    let h = at_most_below n ys dy (λ x c. let (at, ne) = g x c in let lt = f x at in omega arith) in
    omega (arith, h, l)

module _ (P : ℕ) (I : List ℕ) (i : ℕ) where
  -- a page for each offset below n
  pages_at : (n : ℕ) → ((k : ℕ) → k < n → (j : ℕ) × IsPageOf P I i k j)
      → (xs : List ℕ) × IsDistinct xs × ((x : ℕ) → IsIn x xs → (x < data_pages_of P) × (page_offset P I x < n)) × (length xs ≡ n)
  pages_at zero f = ([], tt, (λ x h. absurd h), refl)
  pages_at (suc n) f =
      let (xs, d, h, e) = pages_at n (λ k lt. f k (omega arith)) in
      let (j, page) = f n (omega arith) in
      let offset = page.offset in (
        j ∷ xs,
        ((λ c. let below = (h j c).1 in omega (arith, below, offset)), d),
        (λ x c. elim c [
          | inl same ↦ (subst (λ z. z < data_pages_of P) (sym same) page.in_range, (let at = ap (page_offset P I) same in omega (arith, at, offset)))
          | inr old ↦ ((h x old).0, (let below = (h x old).1 in omega (arith, below)))
        ]),
        ap suc e,
      )

  pub offsets_within : (n : ℕ) → ((k : ℕ) → k < n → (j : ℕ) × IsPageOf P I i k j) → n ≤ data_pages_of P
  offsets_within n f = let (xs, d, h, e) = pages_at n f in let most = at_most_below (data_pages_of P) xs d (λ x c. (h x c).0) in omega (arith, most, e)

-- ---- the walk

-- Stamps of i stand at the offsets below the limit of the pages before the link, each of which has Q, and nowhere else.
pub record FileWalk (P : ℕ) (I : List ℕ) (i limit : ℕ) (Q : ℕ → Type 0) (stamps : List ℕ) (link : ℕ) : Type 0 where
  pub pages : PagesDone P I i (λ j. ((k : ℕ) → k < limit → IsPageOf P I i k j → get_or stamps k 0 ≡ i) × Q j) link
  pub only : (k : ℕ) → get_or stamps k 0 ≡ i → (h : ℕ) × IsPageOf P I i k h × (link ≢ 0 → h + 1 < link)
  pub earlier : (k : ℕ) → get_or stamps k 0 < i + 1

module _ (P : ℕ) (I : List ℕ) (i limit : ℕ) (Q : ℕ → Type 0) where
  module _ (old new : List ℕ) (link v : ℕ) (some : link ≢ 0) (walk : FileWalk P I i limit Q old link)
      (is_new : Bool) (stamp : StampsPage P I i (link - 1) limit old new is_new)
      (linked : IsLinkedAt P I (link - 1) v) (within : i ≤ inodes_of P) where
    kept : (k : ℕ) → get_or old k 0 ≡ i → get_or new k 0 ≡ i
    kept k e = elim (stamp.only k) [ inl same ↦ same ∙ e | inr stamped ↦ stamped.0 ]

    later : PagesDone P I i (λ j. ((k : ℕ) → k < limit → IsPageOf P I i k j → get_or new k 0 ≡ i) × Q j) link
    later =
        pages_map P I i (λ j. ((k : ℕ) → k < limit → IsPageOf P I i k j → get_or old k 0 ≡ i) × Q j) (λ j. ((k : ℕ) → k < limit → IsPageOf P I i k j → get_or new k 0 ≡ i) × Q j) link
        (λ j (stamped, q). ((λ k below page. kept k (stamped k below page)), q)) walk.pages

    pub file_step : Q (link - 1) → FileWalk P I i limit Q new v
    file_step q =
        let next = next_after P I i (λ j. ((k : ℕ) → k < limit → IsPageOf P I i k j → get_or new k 0 ≡ i) × Q j) link v some later linked within in
        record {
          pages = pages_step P I i (λ j. ((k : ℕ) → k < limit → IsPageOf P I i k j → get_or new k 0 ≡ i) × Q j) link v some later (stamp.here, q) linked within;
          only = λ k e. elim (stamp.only k) [
            | inl same ↦ (let (h, page, before) = walk.only k (sym same ∙ e) in (h, page, (λ more. let old_before = before some in let beyond = (next.there more).0 in omega (arith, old_before, beyond))))
            | inr (at, page) ↦ (link - 1, page, (λ more. let beyond = (next.there more).0 in omega (arith, some, beyond)))
          ];
          earlier = λ k. elim (stamp.only k) [
            | inl same ↦ (let lt = walk.earlier k in omega (arith, same, lt))
            | inr (at, page) ↦ omega (arith, at)
          ];
        }

-- ---- the rules

-- how many pages a size takes
pub pages_of : (size : ℕ) → div_ceil size 4096 ≡ pages_of_size size
unfolding pages_of_size
pages_of size = omega arith

module _ (P : ℕ) (I : List ℕ) (i : ℕ) where
  pub all_pages_none : (Reached P I i → ⊥) → HasAllPages P I i
  all_pages_none un reached = absurd (un reached)

  -- each offset below the end is stamped where the file has each page
  pub all_pages : (stamps : List ℕ) (pages : ℕ) → length stamps ≡ data_pages_of P → pages ≡ pages_of_size (inode_size I i) → Reached P I i → HasBytes I i → IsStamped P I i stamps
      → ((pages ≤ length stamps) × ((k : ℕ) → k < pages → get_or stamps k 0 ≡ i)) ↔ HasAllPages P I i
  all_pages stamps pages size is reached file stamped = (
    (λ (within, all) _ _ k lt. (stamped k (omega (arith, within, size, is, lt))).0 (all k (omega (arith, is, lt)))),
    (λ h.
        let there : (k : ℕ) → k < pages → (j : ℕ) × IsPageOf P I i k j = λ k lt. h reached file k (omega (arith, is, lt)) in
        let few = offsets_within P I i pages there in
        (omega (arith, few, size), (λ k lt. (stamped k (omega (arith, few, lt))).1 (there k lt)))),
  )

-- no stamps
pub unstamped : (P : ℕ) (stamps : List ℕ) (n : ℕ) → stamps ≡ replicate n 0 → length stamps ≡ data_pages_of P → AreStamps P 1 stamps
unstamped P stamps n is room = record {
  room = room;
  earlier = λ k. (let none : get_or stamps k 0 ≡ 0 = ap (λ xs. get_or xs k 0) is ∙ zeros n k in omega (arith, none));
}

module _ (P : ℕ) (I : List ℕ) where
  -- a page of nobody that is a reached file, or past the last page, is no second page
  pub own_offset_past : (j : ℕ) → data_pages_of P ≤ j → HasOwnOffset P I j
  own_offset_past j past h i k lt reached file below first second = let within = second.in_range in omega (arith, past, within)

  pub own_offset_other : (j : ℕ) → (Reached P I (page_owner P I j) → HasBytes I (page_owner P I j) → ⊥) → HasOwnOffset P I j
  own_offset_other j un h i k lt reached file below first second =
      un (subst (Reached P I) (sym second.owner) reached) (subst (HasBytes I) (sym second.owner) file)

  -- those before the one that the link names
  pub own_before : (i limit : ℕ) (stamps : List ℕ) (link : ℕ) → link ≢ 0 → FileWalk P I i limit (HasOwnOffset P I) stamps link → (j : ℕ) → j < link - 1 → page_owner P I j ≡ i → HasOwnOffset P I j
  own_before i limit stamps link some walk j lt owner = elim (cases_lt j walk.pages.from) [
    | inl before ↦ (walk.pages.done j owner before).1
    | inr after ↦ absurd (let there = walk.pages.next.there some in let least = (walk.pages.next.least j after (omega (arith, lt, there.1)) owner).1 in omega (arith, least, lt))
  ]

  -- the page that the link names has an offset of its own where its offset had no stamp
  pub own_here : (i limit : ℕ) (stamps : List ℕ) (link : ℕ) → link ≢ 0 → FileWalk P I i limit (HasOwnOffset P I) stamps link → limit ≡ pages_of_size (inode_size I i)
      → ((k : ℕ) → k < limit → IsPageOf P I i k (link - 1) → get_or stamps k 0 ≡ i → ⊥) → HasOwnOffset P I (link - 1)
  own_here i limit stamps link some walk is fresh h e k lt reached file below first second =
      let (within, owner) = page_there P I i (λ j. ((k : ℕ) → k < limit → IsPageOf P I i k j → get_or stamps k 0 ≡ i) × HasOwnOffset P I j) link some walk.pages in
      let same : e ≡ i = sym second.owner ∙ owner in
      let here : IsPageOf P I i k (link - 1) = subst (λ z. IsPageOf P I z k (link - 1)) same second in
      let there : IsPageOf P I i k h = subst (λ z. IsPageOf P I z k h) same first in
      let size : pages_of_size (inode_size I e) ≡ limit = ap (λ z. pages_of_size (inode_size I z)) same ∙ sym is in
      let small : k < limit = omega (arith, below, size) in
      elim (cases_lt h walk.pages.from) [
        | inl before ↦ fresh k small here ((walk.pages.done h there.owner before).0 k small there)
        | inr after ↦ let pages = walk.pages.next.there some in let least = (walk.pages.next.least h after (omega (arith, lt, pages.1)) there.owner).1 in omega (arith, least, lt)
      ]

  -- and none where it had one
  pub own_not : (i limit : ℕ) (stamps : List ℕ) (link : ℕ) → link ≢ 0 → FileWalk P I i limit (HasOwnOffset P I) stamps link → limit ≡ pages_of_size (inode_size I i) → Reached P I i → HasBytes I i
      → (k : ℕ) × (k < limit) × IsPageOf P I i k (link - 1) × (get_or stamps k 0 ≡ i) → (page_owner P I (link - 1) ≡ i → HasOwnOffset P I (link - 1)) → ⊥
  own_not i limit stamps link some walk is reached file (k, small, page, stamp) own =
      let (h, first, before) = walk.only k stamp in
      own page.owner h i k (let lt = before some in omega (arith, lt)) reached file (omega (arith, small, is)) first page

  -- at the end all have
  pub own_all : (i limit : ℕ) (stamps : List ℕ) (link : ℕ) → link ≡ 0 → FileWalk P I i limit (HasOwnOffset P I) stamps link → (j : ℕ) → page_owner P I j ≡ i → HasOwnOffset P I j
  own_all i limit stamps link none walk j owner = elim (cases_lt j (data_pages_of P)) [
    | inl within ↦ (pages_end P I i (λ j. ((k : ℕ) → k < limit → IsPageOf P I i k j → get_or stamps k 0 ≡ i) × HasOwnOffset P I j) link none walk.pages j within owner).1
    | inr past ↦ own_offset_past j past
  ]

-- after the last inode, the pages of all owners are done
pub least_below : (P : ℕ) (I : List ℕ) (i least : ℕ) → 1 ≤ inodes_of P → inodes_of P < i → ((x : ℕ) → x < least → page_owner P I x < i → HasOwnOffset P I x) → (x : ℕ) → x < least → HasOwnOffset P I x
least_below P I i least some past kept x lt = elim (cases_lt (page_owner P I x) i) [
  | inl done ↦ kept x lt done
  | inr beyond ↦ own_offset_other P I x (λ reached _. let range = (reached_range P I (page_owner P I x) some reached).1 in omega (arith, range, past, beyond))
]

-- what was found, or else the number of pages
found_parts : (Q : ℕ → Type 0) (found : Option ℕ) (n other : ℕ) → other ≡ unwrap_or found n → Finds Q found → ((x : ℕ) → x < other → Q x) × (other ≢ n → Q other → ⊥)
found_parts Q None n other is all = ((λ x lt. all x), (λ ne q. ne is))
found_parts Q (Some p) n other is (below, broken) = ((λ x lt. below x (omega (arith, lt, is))), (λ ne q. broken (subst Q is q)))

module _ (P : ℕ) (I : List ℕ) (i least other new : ℕ) (found : Option ℕ) (n : ℕ) (whole : n ≡ data_pages_of P) (is_other : other ≡ unwrap_or found n) (is_new : new ≡ min least other)
    (finds : Finds (λ j. page_owner P I j ≡ i → HasOwnOffset P I j) found) where
  pub least_kept : ((x : ℕ) → x < least → page_owner P I x < i → HasOwnOffset P I x) → (x : ℕ) → x < new → page_owner P I x < i + 1 → HasOwnOffset P I x
  least_kept kept x lt owner = elim (cases_eq (page_owner P I x) i) [
    | inl here ↦ (found_parts (λ j. page_owner P I j ≡ i → HasOwnOffset P I j) found n other is_other finds).0 x (omega (arith, lt, is_new)) here
    | inr ne ↦ kept x (omega (arith, lt, is_new)) (omega (arith, owner, ne))
  ]

  pub least_broken : (least ≢ data_pages_of P → HasOwnOffset P I least → ⊥) → new ≢ data_pages_of P → HasOwnOffset P I new → ⊥
  least_broken broken ne own = elim (cases_lt other least) [
    | inl lt ↦
        let same : new ≡ other = omega (arith, is_new, lt) in
        (found_parts (λ j. page_owner P I j ≡ i → HasOwnOffset P I j) found n other is_other finds).1 (λ e. ne (same ∙ e ∙ whole)) (λ _. subst (HasOwnOffset P I) same own)
    | inr le ↦
        let same : new ≡ least = omega (arith, is_new, le) in
        broken (λ e. ne (same ∙ e)) (subst (HasOwnOffset P I) same own)
  ]
