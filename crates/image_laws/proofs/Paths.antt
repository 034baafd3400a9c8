-- Paths of a coherent image.
use Rattle.std.proofs.Common.{◌≢◌, ℕ, ◌≤◌, List, [], ◌∷◌, ◌∙◌, arith}
use Rattle.layout.specs.Fields.{slot_inode}
use Rattle.layout.specs.Geometry.{inodes_of}
use Rattle.tree_model.specs.PathText.{Route}
use Rattle.image_reading.specs.Reading.{slot_owner, Leads, Names, Reached, IsReachedSlot}
use Rattle.image_reading.specs.Soundness.{IsCoherent}
use Rattle.image_reading.proofs.Readings.{reached_law}
use Rattle.image_counts.proofs.Paths.{in_range}

-- a reached inode is not 0
pub reached_pos : (P : ℕ) (I : List ℕ) (i : ℕ) → Reached P I i → i ≢ 0
reached_pos P I i (p, q) = go p q
  where
    go : (p : Route) → Names P I p i → i ≢ 0
    go [] e z = omega (arith, e, z)
    go (n ∷ p) (s, q, l) z = l.live.names (l.inode ∙ z)

-- and is in range
pub reached-le : (P : ℕ) (I : List ℕ) → IsCoherent P I → (i : ℕ) → Reached P I i → i ≤ inodes_of P
reached-le P I coherent i r = (in_range P I coherent i r).1

module _ (P : ℕ) (I : List ℕ) where
  pub slot_of : (s : ℕ) (p : Route) (n : List ℕ) (i : ℕ) → Names P I p (slot_owner P I s) → Leads P I s n i → IsReachedSlot P I s
  slot_of s p n i q l = record { owner = (p, q); directory = l.directory; live = l.live }

  -- what a reached slot names is reached
  pub reach : (s : ℕ) → IsReachedSlot P I s → slot_inode P I s ≤ inodes_of P → Reached P I (slot_inode P I s)
  reach = (reached_law P I).named
