-- The marks of directories that have a name.
use Rattle.std.proofs.Common.{◌≡◌, inl, inr, ℕ, zero, suc, ◌+◌, ◌<◌, Bool, true, false, List, length, get_or, set, replicate, sym, ap, subst, ◌∙◌, arith, get_or-set_other, get_or-set_same}
use Rattle.std.proofs.lemmas.Bool.{cases_eq, false≢true}
use Rattle.layout.specs.Geometry.{inodes_of}
use Rattle.layout.specs.Fields.{slot_inode}
use Rattle.image_reading.specs.Reading.{IsDirectory}
use Rattle.image_reading.specs.Soundness.{HasOwnDirectory, NamesInode}
use Rattle.image_reading.specs.Scan.{IsNaming, AreReachedSlots}
use Rattle.image_reading.specs.Marks.{IsMarked}
use Rattle.image_reading.proofs.ReachedTable.{rises, earlier_at}

-- what the first k slots of the table name is marked, and nothing else
pub record AreNamed (P : ℕ) (I slots : List ℕ) (k : ℕ) (marks : List Bool) : Type 0 where
  pub marked : (j : ℕ) → j < k → IsNaming P I (get_or slots j 0) → IsMarked marks (slot_inode P I (get_or slots j 0))
  pub only : (i : ℕ) → IsMarked marks i → (j : ℕ) × (j < k) × IsNaming P I (get_or slots j 0) × (slot_inode P I (get_or slots j 0) ≡ i)

unmarked : (n i : ℕ) → IsMarked (replicate n false) i → ⊥
unmarked zero i h = false≢true h
unmarked (suc n) zero h = false≢true h
unmarked (suc n) (suc i) h = unmarked n i h

-- the inode number that a slot names, as an index
pub naming_within : (P : ℕ) (I : List ℕ) (s i n m : ℕ) → i ≡ slot_inode P I s → IsNaming P I s → ((r : ℕ) → NamesInode P I r) → n ≡ inodes_of P → m ≡ n + 1 → i < m
naming_within P I s i n m is naming numbers inodes size = let most = (numbers s).most naming.slot in omega (arith, is, inodes, size, most)

module _ (P : ℕ) (I slots : List ℕ) (table : AreReachedSlots P I slots) (k : ℕ) (within : k < length slots) (marks : List Bool) (named : AreNamed P I slots k marks) where
  -- slot k of the table names no directory
  pub named_same : (IsNaming P I (get_or slots k 0) → ⊥) → AreNamed P I slots (k + 1) marks
  named_same un = record {
    marked = λ j lt h. elim (cases_eq j k) [ inl e ↦ absurd (un (subst (λ (m : ℕ). IsNaming P I (get_or slots m 0)) e h)) | inr ne ↦ named.marked j (omega (arith, lt, ne)) h ];
    only = λ i h. let (j, lt, naming, e) = named.only i h in (j, omega (arith, lt), naming, e);
  }

  pub own_at_none : (IsNaming P I (get_or slots k 0) → ⊥) → HasOwnDirectory P I (get_or slots k 0)
  own_at_none un r lt first second directory = absurd (un (record { slot = second; directory = directory }))

  module _ (i : ℕ) (is : i ≡ slot_inode P I (get_or slots k 0)) (naming : IsNaming P I (get_or slots k 0)) where
    -- it names one that has a name
    pub own_not : IsMarked marks i → HasOwnDirectory P I (get_or slots k 0) → ⊥
    own_not h own =
        let (j, lt, first, e) = named.only i h in
        own (get_or slots j 0) (rises P I slots table j k lt within) first.slot naming.slot naming.directory (e ∙ is)

    -- or one that has none
    pub own_at : (IsMarked marks i → ⊥) → HasOwnDirectory P I (get_or slots k 0)
    own_at un r lt first second directory e =
        let (j, before, at) = earlier_at P I slots table r k first within lt in
        let earlier : IsNaming P I r = record { slot = first; directory = subst (IsDirectory I) (sym e) directory } in
        let mark : IsMarked marks (slot_inode P I r) =
        subst (λ (s : ℕ). IsMarked marks (slot_inode P I s)) at (named.marked j before (subst (IsNaming P I) (sym at) earlier)) in
        un (subst (IsMarked marks) (e ∙ sym is) mark)

    pub named_more : i < length marks → AreNamed P I slots (k + 1) (set marks i true)
    named_more room = record {
      marked = λ j lt h. elim (cases_eq (slot_inode P I (get_or slots j 0)) i) [
        | inl e ↦ subst (IsMarked (set marks i true)) (sym e) here
        | inr ne ↦ get_or-set_other marks i (slot_inode P I (get_or slots j 0)) true false ne ∙ elim (cases_eq j k) [
          | inl e ↦ absurd (ne (ap (λ m. slot_inode P I (get_or slots m 0)) e ∙ sym is))
          | inr other ↦ named.marked j (omega (arith, lt, other)) h
        ]
      ];
      only = λ n h. elim (cases_eq n i) [
        | inl e ↦ (k, omega arith, naming, sym is ∙ sym e)
        | inr ne ↦ (let (j, lt, first, e) = named.only n (sym (get_or-set_other marks i n true false ne) ∙ h) in (j, omega (arith, lt), first, e))
      ];
    }
      where
        here : IsMarked (set marks i true) i
        here = get_or-set_same marks i true false room
