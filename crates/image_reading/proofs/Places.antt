-- How the tests and loops of a scan decide what they are to decide.
use Rattle.std.proofs.Common.{◌≡◌, ◌≢◌, inl, inr, ℕ, ◌<◌, ◌≤◌, not, eqb, IsTrue, List, arith, length, get_or, ◌*◌, sym, ap, subst, ◌∙◌, eq-eqb, ne_eqb}
use Rattle.std.proofs.lemmas.Bool.{cases_lt}
use Rattle.layout.specs.Geometry.{IsVolumeSize, slots_of, page_of_slot, inodes_of}
use Rattle.layout.proofs.GeometryLaws.{some_inodes}
use Rattle.layout.specs.Superblock.{head_of}
use Rattle.layout.specs.Fields.{word, page_kind, page_owner}
use Rattle.image_reading.specs.Reading.{IsHeld, slot_owner}
use Rattle.image_reading.specs.Soundness.{HasHead, PointsAtHeld}

-- ---- loops over places

-- what holds below n, and past it in any case, holds at each place
pub holds_at_all : (Q : ℕ → Type 0) (n : ℕ) → ((x : ℕ) → x < n → Q x) → ((x : ℕ) → n ≤ x → Q x) → (x : ℕ) → Q x
holds_at_all Q n below past x = elim (cases_lt x n) [ inl lt ↦ below x lt | inr le ↦ past x le ]

-- ---- tests

pub not_zero : (x : ℕ) → IsTrue (not (eqb x 0)) → x ≢ 0
not_zero x t e = let e' = eq-eqb x 0 e in cc

pub is_not_zero : (x : ℕ) → x ≢ 0 → IsTrue (not (eqb x 0))
is_not_zero x n = let e = ne_eqb x 0 n in cc

-- ---- held slots

module _ (P : ℕ) (I : List ℕ) (s : ℕ) where
  pub not_past : slots_of P ≤ s → IsHeld P I s → ⊥
  not_past past h = let lt = h.in_range in omega arith

  -- as the descriptor of its page says
  pub held : (page : ℕ) → page ≡ page_of_slot s → s < slots_of P → page_kind P I page ≡ 2 → page_owner P I page ≢ 0 → IsHeld P I s
  unfolding slot_owner
  held page is lt kind owner = record {
    in_range = lt;
    kind = subst (λ j. page_kind P I j ≡ 2) is kind;
    owned = subst (λ j. page_owner P I j ≢ 0) is owner;
  }

  pub held-kind : (page : ℕ) → page ≡ page_of_slot s → IsHeld P I s → page_kind P I page ≡ 2
  held-kind page is h = ap (page_kind P I) is ∙ h.kind

  pub held-owner : (page : ℕ) → page ≡ page_of_slot s → IsHeld P I s → page_owner P I page ≢ 0
  unfolding slot_owner
  held-owner page is h = subst (λ j. page_owner P I j ≢ 0) (sym is) h.owned

-- ---- slots that are searched for one that breaks a rule

-- a slot that isn't held points nowhere
pub past-points : (P : ℕ) (I : List ℕ) (x : ℕ) → slots_of P ≤ x → PointsAtHeld P I x
past-points P I x past = record { other = λ h. absurd (not_past P I x past h); held = λ h. absurd (not_past P I x past h) }

-- ---- the head and the root

module _ (P : ℕ) (I : List ℕ) (x : ℕ) (size : IsVolumeSize P) (whole : length I ≡ 512 * P) where
  pub head_there : (x < 5 → get_or I x 0 ≡ get_or (head_of P) x 0) → HasHead P I x
  unfolding word
  head_there same = record { size = λ _. size; whole = λ _. whole; head = same }

  pub head_not : x < 5 → (get_or I x 0 ≡ get_or (head_of P) x 0 → ⊥) → HasHead P I x → ⊥
  unfolding word
  head_not lt other h = other (h.head lt)

pub one_inode : (P : ℕ) → IsVolumeSize P → 1 ≤ inodes_of P
one_inode P size = let some = some_inodes P size in omega arith
