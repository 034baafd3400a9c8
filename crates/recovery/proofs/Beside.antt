-- No step of a repair stores to a word of the superblock.
use Rattle.std.proofs.Common.{inl, inr, ℕ, ◌≤◌, List, Option, Some, None, slice_index, arith}
use Rattle.layout.specs.Fields.{word}
use Rattle.layout.specs.Superblock.{IsSuperblockWord}
use Rattle.layout.specs.Geometry.{descriptor_word_of, slot_word_of, first_data_word_of}
use Rattle.layout.proofs.GeometryLaws.{inode_word_above, descriptor_word_above, slot_word_above}
use Rattle.pm_trait.specs.Unfolds.{KeepsWords, AllKeep}
use Rattle.repair_laws.specs.Mended.{IsAfter}
use Rattle.recovery.specs.declared.part.Part.{Part}
use Rattle.recovery.specs.declared.part.Part.TheVariants.{Number, Pointer, Owner, Name, Links, Descriptor, Inode}
use Rattle.recovery.specs.declared.repairs.Repairs.{Repairs}
use Rattle.recovery.specs.Parts.{first_of}
use Rattle.recovery.specs.Changes.{IsInPart, IsOne}
use Rattle.recovery.specs.Repairs.{IsClearedBy, IsFreedBy, steps_of}

slot_above : (P s f : ℕ) → 512 ≤ slot_word_of P s f
unfolding first_data_word_of
slot_above P s f = let above = slot_word_above P s f in omega (arith, above)

descriptor_above : (P j f : ℕ) → 512 ≤ descriptor_word_of P j f
descriptor_above P j f = let above = descriptor_word_above P j f in omega (arith, above)

part_above : (P : ℕ) (part : Part) (number : ℕ) → 512 ≤ first_of P part number
part_above P Number s = slot_above P s 0
part_above P Pointer s = slot_above P s 1
part_above P Owner j = descriptor_above P j 0
part_above P Name s = slot_above P s 1
part_above P Links i = inode_word_above i 1
part_above P (Descriptor words) j = descriptor_above P j 1
part_above P (Inode words) i = inode_word_above i 0

above : (P : ℕ) (part : Part) (number value a v : ℕ) → IsInPart P part number value a v → 512 ≤ a
above P part number value a v is = let first = part_above P part number in let low = is.low in omega (arith, first, low)

one_above : (P : ℕ) (part : Part) (slot : Option ℕ) (a v : ℕ) → IsOne P part slot a v → 512 ≤ a
one_above P part None a v none = absurd none
one_above P part (Some number) a v is = above P part number 0 a v is

cleared_above : (r : Repairs) (a v : ℕ) → IsClearedBy r a v → 512 ≤ a
cleared_above r a v (inl (inl is)) = above r.geometry.pages Owner (slice_index r.owners.items is.place) 0 a v is.is
cleared_above r a v (inl (inr is)) = above r.geometry.pages Name (slice_index r.slots.items is.place) 0 a v is.is
cleared_above r a v (inr is) = above r.geometry.pages Links (slice_index r.links.items is.place) (slice_index r.counts.items is.place) a v is.is

freed_above : (r : Repairs) (a v : ℕ) → IsFreedBy r a v → 512 ≤ a
freed_above r a v (inl is) = above r.geometry.pages (Descriptor r.descriptor_width) (slice_index r.descriptors.items is.place) 0 a v is.is
freed_above r a v (inr is) = above r.geometry.pages (Inode r.inode_width) (slice_index r.inodes.items is.place) 0 a v is.is

keeps : (becomes : ℕ → ℕ → Type 0) → ((a v : ℕ) → becomes a v → 512 ≤ a) → (I J : List ℕ) → IsAfter becomes I J → KeepsWords IsSuperblockWord I J
unfolding word
keeps becomes high I J after a low = elim (after.words a) [
  | inl same ↦ same
  | inr (v, is) ↦ absurd (let far = high a v is in omega (arith, far, low))
]

pub all_keep : (r : Repairs) → AllKeep IsSuperblockWord (steps_of r)
all_keep r = (
  keeps (IsOne r.geometry.pages Number r.left) (one_above r.geometry.pages Number r.left),
  (
    keeps (IsOne r.geometry.pages Pointer r.pointer) (one_above r.geometry.pages Pointer r.pointer),
    (
      keeps (IsClearedBy r) (cleared_above r),
      (keeps (IsFreedBy r) (freed_above r), tt),
    ),
  ),
)
