-- What is decided of numbers, slots and steps.
use Rattle.std.proofs.Common.{◌≡◌, ◌⊎◌, inl, inr, ℕ, ◌≤◌, List, arith}
use Rattle.std.proofs.lemmas.Bool.{cases_eq, cases_lt}
use Rattle.layout.specs.Fields.{inode_kind, slot_inode}
use Rattle.layout.specs.Geometry.{inodes_of}
use Rattle.image_reading.specs.Reading.{IsDirectory, slot_owner, IsLive}
use Rattle.image_counts.proofs.Decided.{IsDecided, live_or_not}

-- what is told of A, as a decision
pub told : {A : Type 0} → IsDecided A → Dec A
told (inl a) = yes a
told (inr n) = no n

pub decided : {A : Type 0} → Dec A → IsDecided A
decided (yes a) = inl a
decided (no n) = inr n

pub none_or_not : (A : Type 0) → IsDecided A → IsDecided (¬ A)
none_or_not A (inl a) = inr (λ none. none a)
none_or_not A (inr none) = inl none

pub both_or_not : (A B : Type 0) → IsDecided A → IsDecided B → IsDecided (A × B)
both_or_not A B (inl a) (inl b) = inl (a, b)
both_or_not A B (inl a) (inr none) = inr (λ h. none h.1)
both_or_not A B (inr none) b = inr (λ h. none h.0)

pub either_or_not : (A B : Type 0) → IsDecided A → IsDecided B → IsDecided (A ⊎ B)
either_or_not A B (inl a) b = inl (inl a)
either_or_not A B (inr none) (inl b) = inl (inr b)
either_or_not A B (inr none) (inr never) = inr (λ h. elim h [ inl a ↦ none a | inr b ↦ never b ])

pub dec_eq : (a b : ℕ) → Dec (a ≡ b)
dec_eq a b = elim (cases_eq a b) [ inl e ↦ yes e | inr n ↦ no n ]

pub dec_live : (P : ℕ) (I : List ℕ) (s : ℕ) → Dec (IsLive P I s)
dec_live P I s = told (live_or_not P I s)

-- a step from directory d
pub record IsStep (P : ℕ) (I : List ℕ) (d s : ℕ) : Type 0 where
  pub owner : slot_owner P I s ≡ d
  pub directory : IsDirectory I d
  pub live : IsLive P I s
  pub in_range : slot_inode P I s ≤ inodes_of P

pub dec_step : (P : ℕ) (I : List ℕ) (d s : ℕ) → Dec (IsStep P I d s)
dec_step P I d s = elim (dec_eq (slot_owner P I s) d) [
  | no n ↦ no (λ h. n h.owner)
  | yes o ↦ elim (dec_eq (inode_kind I d) 2) [
    | no n ↦ no (λ h. n h.directory)
    | yes k ↦ elim (dec_live P I s) [
      | no n ↦ no (λ h. n h.live)
      | yes l ↦ elim (cases_lt (inodes_of P) (slot_inode P I s)) [
        | inl n ↦ no (λ h. let r = h.in_range in omega arith)
        | inr r ↦ yes (record { owner = o; directory = k; live = l; in_range = r })
      ]
    ]
  ]
]
