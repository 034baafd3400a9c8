-- What the tables say of a slot and its owner.
use Rattle.std.proofs.Common.{◌≡◌, ℕ, ◌+◌, ◌≤◌, List, sym, subst, arith}
use Rattle.layout.specs.Geometry.{IsVolumeSize, inodes_of, data_pages_of, slots_of}
use Rattle.image_reading.specs.Reading.{IsDirectory, slot_owner, IsLive, IsReachedSlot, Reached}
use Rattle.image_reading.specs.Walk.{IsFound, Knows}
use Rattle.image_reading.specs.declared.reach.Reach.{Reach}
use Rattle.image_reading.proofs.Places.{one_inode, not_past}
use Rattle.image_reading.specs.Soundness.{NamesInode, IsWellFormed, HasOwnersKind, IsNotTooBig}
use Rattle.image_reading.proofs.Walked.{reached_range}

module _ (P : ℕ) (I : List ℕ) (reach : Reach) (known : Knows P I reach) where
  pub found_range : (i : ℕ) → IsVolumeSize P → IsFound reach i → (1 ≤ i) × (i ≤ inodes_of P)
  found_range i size found = reached_range P I i (one_inode P size) ((known.reached i).0 found)

  pub reached_slot : (s owner : ℕ) → IsLive P I s → owner ≡ slot_owner P I s → IsFound reach owner → IsDirectory I owner → IsReachedSlot P I s
  reached_slot s owner live is found kind = record {
    owner = subst (Reached P I) is ((known.reached owner).0 found);
    directory = subst (IsDirectory I) is kind;
    live = live;
  }

  pub owner_found : (s owner : ℕ) → owner ≡ slot_owner P I s → IsReachedSlot P I s → IsFound reach owner
  owner_found s owner is slot = (known.reached owner).1 (subst (Reached P I) (sym is) slot.owner)

  pub owner_directory : (s owner : ℕ) → owner ≡ slot_owner P I s → IsReachedSlot P I s → IsDirectory I owner
  owner_directory s owner is slot = subst (IsDirectory I) (sym is) slot.directory

-- ---- rules at what isn't reached

module _ (P : ℕ) (I : List ℕ) (x : ℕ) where
  -- a slot past the last isn't reached
  pub slot_past : slots_of P ≤ x → IsReachedSlot P I x → ⊥
  slot_past past slot = not_past P I x past slot.live.held

  -- nor an inode number past the last
  pub inode_past : (n : ℕ) → IsVolumeSize P → n ≡ inodes_of P → n + 1 ≤ x → Reached P I x → ⊥
  inode_past n size is past reached = let range = (reached_range P I x (one_inode P size) reached).1 in omega (arith, is, past, range)

  pub NamesInode-unreached : (IsReachedSlot P I x → ⊥) → NamesInode P I x
  NamesInode-unreached un = record { least = λ r. absurd (un r); most = λ r. absurd (un r) }

  pub IsWellFormed-unreached : (Reached P I x → ⊥) → IsWellFormed P I x
  IsWellFormed-unreached un = record { kind = λ r. absurd (un r); own = λ r. absurd (un r) }

  pub IsNotTooBig-unreached : (Reached P I x → ⊥) → IsNotTooBig P I x
  IsNotTooBig-unreached un r = absurd (un r)

  pub HasOwnersKind-past : data_pages_of P ≤ x → HasOwnersKind P I x
  HasOwnersKind-past past = record { file = λ lt. absurd (omega (arith, past, lt)); directory = λ lt. absurd (omega (arith, past, lt)) }
