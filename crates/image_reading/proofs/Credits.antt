-- The links of each inode, counted slot by slot.
use Rattle.std.proofs.Common.{◌≡◌, ◌↔◌, ◌⊎◌, inl, inr, ℕ, zero, suc, ◌+◌, ◌<◌, ◌≤◌, List, ◌∷◌, length, get_or, set, replicate, refl, sym, ap, subst, ◌∙◌, arith, eq-eqb, ne_eqb, get_or-set_other, get_or-set_same}
use Rattle.std.proofs.lemmas.Bool.{cases_eq, cond-true, cond-false}
use Rattle.layout.specs.Geometry.{inodes_of}
use Rattle.layout.specs.Fields.{inode_kind, inode_links, slot_inode}
use Rattle.image_reading.specs.Counts.{Count, AtMost}
use Rattle.image_reading.specs.Reading.{IsDirectory, HasBytes, slot_owner, IsReachedSlot, IsNameOf, IsChildOf}
use Rattle.image_reading.specs.Soundness.{HasLinks, NamesInode}
use Rattle.image_reading.specs.Scan.{credited, IsCredit, AreCounted}
use Rattle.image_reading.specs.Scanned.{AreNames}
use Rattle.image_reading.proofs.Counts.{count_none, length-distinct}
use Rattle.image_reading.proofs.ReachedTable.{in_at, place_of, distinct_at}

-- ---- counts

-- the same property
pub count_same : (Q R : ℕ → Type 0) (n : ℕ) → ((x : ℕ) → Q x ↔ R x) → Count Q n → Count R n
count_same Q R n f (xs, d, h, e) = (xs, d, (λ x. ((λ c. (f x).0 ((h x).0 c)), (λ r. (h x).1 ((f x).1 r)))), e)

-- one more
pub count_more : (Q R : ℕ → Type 0) (n s : ℕ) → (Q s → ⊥) → ((x : ℕ) → R x ↔ ((x ≡ s) ⊎ Q x)) → Count Q n → Count R (n + 1)
count_more Q R n s new f (xs, d, h, e) = (
  s ∷ xs,
  ((λ c. new ((h s).0 c)), d),
  (λ x. (
    (λ c. (f x).1 (elim c [ inl same ↦ inl same | inr old ↦ inr ((h x).0 old) ])),
    (λ r. elim ((f x).0 r) [ inl same ↦ inl same | inr old ↦ inr ((h x).1 old) ]),
  )),
  (let one : length (s ∷ xs) ≡ length xs + 1 = omega arith in one ∙ ap (λ k. k + 1) e),
)

-- at most so many, by the count
pub at_most-count : (Q : ℕ → Type 0) (m n k : ℕ) → Count Q n → AtMost m Q k ↔ (m + n ≤ k)
at_most-count Q m n k (xs, dx, f, e) = (
  (λ h. let a = h xs dx (λ x c. (f x).0 c) in omega (arith, a, e)),
  (λ h ys dy all. let a = length-distinct ys xs dy dx (λ x c. (f x).1 (all x c)) in omega (arith, a, e, h)),
)

-- ---- whom a slot counts for

module _ (P : ℕ) (I : List ℕ) where
  pub credited-directory : (s : ℕ) → IsDirectory I (slot_inode P I s) → credited P I s ≡ slot_owner P I s
  credited-directory s directory = cond-true _ _ _ (eq-eqb (inode_kind I (slot_inode P I s)) 2 directory)

  pub credited-other : (s : ℕ) → (IsDirectory I (slot_inode P I s) → ⊥) → credited P I s ≡ slot_inode P I s
  credited-other s other = cond-false _ _ _ (ne_eqb (inode_kind I (slot_inode P I s)) 2 other)

  -- it is an inode
  pub credited_within : (s n m : ℕ) → IsReachedSlot P I s → NamesInode P I s → n ≡ inodes_of P → m ≡ n + 1 → (slot_owner P I s ≤ inodes_of P) → credited P I s < m
  credited_within s n m slot names inodes size owner = elim (cases_eq (inode_kind I (slot_inode P I s)) 2) [
    | inl directory ↦ (let e = credited-directory s directory in omega (arith, e, owner, inodes, size))
    | inr other ↦ (let e = credited-other s other in let most = names.most slot in omega (arith, e, most, inodes, size))
  ]

  -- of a file its names,
  pub name_credit : (i s : ℕ) → HasBytes I i → IsCredit P I i s ↔ IsNameOf P I i s
  name_credit i s file = (
    (λ credit. record {
      slot = credit.slot;
      inode = elim (cases_eq (inode_kind I (slot_inode P I s)) 2) [
        | inl directory ↦ absurd (let two = ap (inode_kind I) (sym (credited-directory s directory) ∙ credit.inode) in let kind = credit.slot.directory in omega (arith, two, kind, file))
        | inr other ↦ sym (credited-other s other) ∙ credit.inode
      ];
    }),
    (λ name. record {
      slot = name.slot;
      inode = credited-other s (λ directory. (let same = ap (inode_kind I) name.inode in omega (arith, same, directory, file))) ∙ name.inode;
    }),
  )

  -- of a directory the directories that it names
  pub child_credit : (i s : ℕ) → IsDirectory I i → IsCredit P I i s ↔ IsChildOf P I i s
  child_credit i s parent = (
    (λ credit. elim (cases_eq (inode_kind I (slot_inode P I s)) 2) [
      | inl directory ↦ record { slot = credit.slot; owner = sym (credited-directory s directory) ∙ credit.inode; directory = directory }
      | inr other ↦ absurd (other (ap (inode_kind I) (sym (credited-other s other) ∙ credit.inode) ∙ parent))
    ]),
    (λ child. record { slot = child.slot; inode = credited-directory s child.directory ∙ child.owner }),
  )

  -- ---- the tally

  zeros : (n k : ℕ) → ◌≡◌ {A = ℕ} (get_or (replicate n 0) k 0) 0
  zeros zero k = refl
  zeros (suc n) zero = refl
  zeros (suc n) (suc k) = zeros n k

  -- one of the first k names that counts for i
  pub record IsEarlyCredit (names : List ℕ) (k i s : ℕ) : Type 0 where
    pub early : (j : ℕ) × (j < k) × (get_or names j 0 ≡ s)
    pub credit : IsCredit P I i s

  pub record AreTallied (names : List ℕ) (k : ℕ) (tally : List ℕ) : Type 0 where
    pub counts : (i : ℕ) → i ≤ inodes_of P → Count (IsEarlyCredit names k i) (get_or tally i 0)
    pub few : (i : ℕ) → get_or tally i 0 ≤ k

  pub tallied_none : (names : List ℕ) (n : ℕ) → AreTallied names 0 (replicate n 0)
  tallied_none names n = record {
    counts = λ i le. subst (Count (IsEarlyCredit names 0 i)) (sym (zeros n i)) (count_none (IsEarlyCredit names 0 i) (λ s h. let (j, lt, e) = h.early in omega (arith, lt)));
    few = λ i. (let h = zeros n i in omega (arith, h));
  }

  module _ (names : List ℕ) (table : AreNames P I names) where
    same_early : (k i : ℕ) → (IsCredit P I i (get_or names k 0) → ⊥) → (s : ℕ) → IsEarlyCredit names k i s ↔ IsEarlyCredit names (k + 1) i s
    same_early k i none s = (
      (λ h. record { early = (let (j, lt, e) = h.early in (j, omega (arith, lt), e)); credit = h.credit }),
      (λ h. let (j, lt, e) = h.early in elim (cases_eq j k) [
        | inl same ↦ absurd (none (subst (IsCredit P I i) (sym e ∙ ap (λ m. get_or names m 0) same) h.credit))
        | inr other ↦ record { early = (j, omega (arith, lt, other), e); credit = h.credit }
      ]),
    )

    more_early : (k i : ℕ) → IsCredit P I i (get_or names k 0) → (s : ℕ) → IsEarlyCredit names (k + 1) i s ↔ ((s ≡ get_or names k 0) ⊎ IsEarlyCredit names k i s)
    more_early k i here s = (
      (λ h. let (j, lt, e) = h.early in elim (cases_eq j k) [
        | inl same ↦ inl (sym e ∙ ap (λ m. get_or names m 0) same)
        | inr other ↦ inr (record { early = (j, omega (arith, lt, other), e); credit = h.credit })
      ]),
      (λ c. elim c [
        | inl e ↦ record { early = (k, omega arith, sym e); credit = subst (IsCredit P I i) (sym e) here }
        | inr h ↦ record { early = (let (j, lt, e) = h.early in (j, omega (arith, lt), e)); credit = h.credit }
      ]),
    )

    -- a name stands once
    new_credit : (k i : ℕ) → k < length names → IsEarlyCredit names k i (get_or names k 0) → ⊥
    new_credit k i within h = let (j, lt, e) = h.early in distinct_at names j k table.distinct lt within e

    pub tallied_more : (k : ℕ) (tally : List ℕ) (to : ℕ) → k < length names → to ≡ credited P I (get_or names k 0) → to < length tally → AreTallied names k tally
        → AreTallied names (k + 1) (set tally to (get_or tally to 0 + 1))
    tallied_more k tally to inside is within t = record {
      counts = λ i le. elim (cases_eq i to) [
        | inl e ↦
            let here : get_or (set tally to (get_or tally to 0 + 1)) i 0 ≡ get_or tally i 0 + 1 =
            ap (λ z. get_or (set tally to (get_or tally to 0 + 1)) z 0) e ∙ get_or-set_same tally to (get_or tally to 0 + 1) 0 within ∙ ap (λ z. get_or tally z 0 + 1) (sym e) in
            let slot = (table.exactly (get_or names k 0)).0 (in_at names k 0 inside) in
            let credit : IsCredit P I i (get_or names k 0) = record { slot = slot; inode = sym is ∙ sym e } in
            subst (Count (IsEarlyCredit names (k + 1) i)) (sym here)
            (count_more (IsEarlyCredit names k i) (IsEarlyCredit names (k + 1) i) (get_or tally i 0) (get_or names k 0) (new_credit k i inside) (more_early k i credit) (t.counts i le))
        | inr ne ↦ subst (Count (IsEarlyCredit names (k + 1) i)) (sym (get_or-set_other tally to i (get_or tally to 0 + 1) 0 ne))
            (count_same (IsEarlyCredit names k i) (IsEarlyCredit names (k + 1) i) _ (same_early k i (λ credit. ne (sym credit.inode ∙ sym is))) (t.counts i le))
      ];
      few = λ i. elim (cases_eq i to) [
        | inl e ↦ (
            let h = t.few to in
            let here = ap (λ z. get_or (set tally to (get_or tally to 0 + 1)) z 0) e ∙ get_or-set_same tally to (get_or tally to 0 + 1) 0 within in
            omega (arith, h, here)
            )
        | inr ne ↦ (let h = t.few i in let here = get_or-set_other tally to i (get_or tally to 0 + 1) 0 ne in omega (arith, h, here))
      ];
    }

    pub tallied_all : (k : ℕ) (tally : List ℕ) → length names ≤ k → length tally ≡ inodes_of P + 1 → AreTallied names k tally → AreCounted P I tally
    tallied_all k tally past inodes t = record {
      inodes = inodes;
      each = λ i le. count_same (IsEarlyCredit names k i) (IsCredit P I i) _ (λ s. (
        (λ h. h.credit),
        (λ credit. record { early = (let (j, lt, e) = place_of s names ((table.exactly s).1 credit.slot) in (j, omega (arith, lt, past), e)); credit = credit }),
      )) (t.counts i le);
    }

  -- ---- the rule

  module _ (i links counted : ℕ) (is : links ≡ inode_links I i) (count : Count (IsCredit P I i) counted) where
    pub enough_file : HasBytes I i → counted ≤ links ↔ HasLinks P I i (inode_links I i)
    enough_file file =
        let names = at_most-count (IsNameOf P I i) 0 counted (inode_links I i) (count_same (IsCredit P I i) (IsNameOf P I i) counted (λ s. name_credit i s file) count) in (
          (λ le. record { file = λ _. names.1 (omega (arith, le, is)); directory = λ directory. absurd (omega (arith, file, directory)) }),
          (λ h. let least = names.0 (h.file file) in omega (arith, least, is)),
        )

    pub enough_directory : IsDirectory I i → 2 + counted ≤ links ↔ HasLinks P I i (inode_links I i)
    enough_directory directory =
        let children = at_most-count (IsChildOf P I i) 2 counted (inode_links I i) (count_same (IsCredit P I i) (IsChildOf P I i) counted (λ s. child_credit i s directory) count) in (
          (λ le. record { file = λ file. absurd (omega (arith, file, directory)); directory = λ _. children.1 (omega (arith, le, is)) }),
          (λ h. let least = children.0 (h.directory directory) in omega (arith, least, is)),
        )
