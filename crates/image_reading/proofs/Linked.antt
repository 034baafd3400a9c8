-- The lists of pages are built from the last page back.
use Rattle.std.proofs.Common.{◌≡◌, ◌≢◌, inl, inr, ℕ, zero, suc, ◌+◌, ◌-◌, ◌<◌, ◌≤◌, cond, eqb, List, length, get_or, replicate, refl, sym, subst, arith, eq-eqb, ne_eqb}
use Rattle.std.proofs.lemmas.Bool.{cases_eq, cases_lt, cond-true, cond-false}
use Rattle.layout.specs.Geometry.{inodes_of, data_pages_of}
use Rattle.layout.specs.Fields.{page_owner}
use Rattle.image_reading.specs.Scan.{IsNextPage, IsLinked}

-- the lists of the pages from n on
pub record LinkedFrom (P : ℕ) (I : List ℕ) (n : ℕ) (first next : List ℕ) : Type 0 where
  pub below : n ≤ data_pages_of P
  pub firsts : (i : ℕ) → i ≤ inodes_of P → IsNextPage P I i n (get_or first i 0)
  pub nexts : (j : ℕ) → n ≤ j → j < data_pages_of P → page_owner P I j ≤ inodes_of P → IsNextPage P I (page_owner P I j) (j + 1) (get_or next j 0)

pub zeros : (n k : ℕ) → ◌≡◌ {A = ℕ} (get_or (replicate n 0) k 0) 0
zeros zero k = refl
zeros (suc n) zero = refl
zeros (suc n) (suc k) = zeros n k

pub linked : (P : ℕ) (I : List ℕ) (n : ℕ) (first next : List ℕ) → n ≡ 0 → length first ≡ inodes_of P + 1 → length next ≡ data_pages_of P → LinkedFrom P I n first next → IsLinked P I first next
linked P I n first next none inodes pages h = record {
  inodes = inodes;
  pages = pages;
  firsts = λ i le. subst (λ m. IsNextPage P I i m (get_or first i 0)) none (h.firsts i le);
  nexts = λ j lt within. h.nexts j (omega (arith, none)) lt within;
}

-- ---- a walk along the pages of owner i

-- v links to the page after page j of the same owner
abbrev pub IsLinkedAt : ℕ → List ℕ → ℕ → ℕ → Type 0
IsLinkedAt P I j v = j < data_pages_of P → page_owner P I j ≤ inodes_of P → IsNextPage P I (page_owner P I j) (j + 1) v

-- Q holds at the pages of i before the one that the link names
pub record PagesDone (P : ℕ) (I : List ℕ) (i : ℕ) (Q : ℕ → Type 0) (link : ℕ) : Type 0 where
  pub from : ℕ
  pub next : IsNextPage P I i from link
  pub done : (j : ℕ) → page_owner P I j ≡ i → j < from → Q j

-- how far the walk is from its end
abbrev pub pages_left : ℕ → ℕ → ℕ
pages_left n link = cond (eqb link 0) 0 (n + 1 - link)

left_at : (n link : ℕ) → link ≢ 0 → pages_left n link ≡ n + 1 - link
left_at n link some = cond-false (eqb link 0) 0 (n + 1 - link) (ne_eqb link 0 some)

left_at_none : (n link : ℕ) → link ≡ 0 → pages_left n link ≡ 0
left_at_none n link none = cond-true (eqb link 0) 0 (n + 1 - link) (eq-eqb link 0 none)

module _ (P : ℕ) (I : List ℕ) (i : ℕ) (Q : ℕ → Type 0) where
  pub pages_begin : (link : ℕ) → IsNextPage P I i 0 link → PagesDone P I i Q link
  pages_begin link next = record { from = 0; next = next; done = λ j e lt. absurd (omega (arith, lt)) }

  -- what follows from Q
  pub pages_map : (R : ℕ → Type 0) (link : ℕ) → ((j : ℕ) → Q j → R j) → PagesDone P I i Q link → PagesDone P I i R link
  pages_map R link f pages = record { from = pages.from; next = pages.next; done = λ j e lt. f j (pages.done j e lt) }

  pub page_there : (link : ℕ) → link ≢ 0 → PagesDone P I i Q link → (link - 1 < data_pages_of P) × (page_owner P I (link - 1) ≡ i)
  page_there link some pages = let (above, within, owner) = pages.next.there some in (omega (arith, some, within), owner)

  pub next_after : (link v : ℕ) → link ≢ 0 → PagesDone P I i Q link → IsLinkedAt P I (link - 1) v → i ≤ inodes_of P → IsNextPage P I i link v
  next_after link v some pages linked within =
      let (lt, owner) = page_there link some pages in
      let one : link - 1 + 1 ≡ link = omega (arith, some) in
      subst (λ m. IsNextPage P I i m v) one (subst (λ o. IsNextPage P I o (link - 1 + 1) v) owner (linked lt (subst (λ o. o ≤ inodes_of P) (sym owner) within)))

  pub pages_step : (link v : ℕ) → link ≢ 0 → PagesDone P I i Q link → Q (link - 1) → IsLinkedAt P I (link - 1) v → i ≤ inodes_of P → PagesDone P I i Q v
  pages_step link v some pages here linked within = record {
    from = link;
    next = next_after link v some pages linked within;
    done = λ j e lt. elim (cases_lt j pages.from) [
      | inl before ↦ pages.done j e before
      | inr after ↦
          let there = pages.next.there some in
          let least = (pages.next.least j after (omega (arith, lt, there.1)) e).1 in
          let same : link - 1 ≡ j = omega (arith, least, lt) in
          subst Q same here
    ];
  }

  pub pages_smaller : (link v : ℕ) → link ≢ 0 → PagesDone P I i Q link → IsLinkedAt P I (link - 1) v → i ≤ inodes_of P → pages_left (data_pages_of P) v < pages_left (data_pages_of P) link
  pages_smaller link v some pages linked within =
      let next = next_after link v some pages linked within in
      let there = pages.next.there some in
      let old = left_at (data_pages_of P) link some in
      elim (cases_eq v 0) [
        | inl none ↦ (let new = left_at_none (data_pages_of P) v none in omega (arith, new, old, there.1))
        | inr more ↦ (let new = left_at (data_pages_of P) v more in let beyond = next.there more in omega (arith, new, old, beyond.0, beyond.1))
      ]

  pub pages_end : (link : ℕ) → link ≡ 0 → PagesDone P I i Q link → (j : ℕ) → j < data_pages_of P → page_owner P I j ≡ i → Q j
  pages_end link none pages j lt e = elim (cases_lt j pages.from) [
    | inl before ↦ pages.done j e before
    | inr after ↦ absurd ((pages.next.least j after lt e).0 none)
  ]
