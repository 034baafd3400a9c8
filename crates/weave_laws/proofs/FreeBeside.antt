-- What its words don't show to be in use isn't reached, nor is it to be repaired beside a residue.
use Rattle.std.proofs.Common.{◌≡◌, inl, inr, ℕ, List, arith}
use Rattle.layout.specs.Fields.{inode_kind}
use Rattle.image_reading.specs.Reading.{IsDirectory, HasBytes, Reached}
use Rattle.image_reading.specs.Repairs.{IsLitterPage, IsLitterInode}
use Rattle.image_reading.specs.Residue.{Residue, IsTidyBeside}
use Rattle.image_reading.specs.Soundness.{Rule, IsCoherent}
use Rattle.image_counts.specs.Entries.{IsUnusedPage}

pub kindless_unreached : (P : ℕ) (I : List ℕ) (i : ℕ) → IsCoherent P I → inode_kind I i ≡ 0 → ¬ Reached P I i
kindless_unreached P I i coherent none reached = elim ((coherent Rule.kinds i).kind reached) [
  | inl file ↦ (let one : HasBytes I i = file in omega (arith, one, none))
  | inr directory ↦ (let two : IsDirectory I i = directory in omega (arith, two, none))
]

pub kindless_tidy : (P : ℕ) (I : List ℕ) (i : ℕ) (residue : Residue) → IsTidyBeside P I residue → inode_kind I i ≡ 0 → ¬ IsLitterInode P I i
kindless_tidy P I i residue tidy none l = tidy.kinds i ((tidy.of_inodes.each i).1 l) none

pub unused_tidy : (P : ℕ) (I : List ℕ) (j : ℕ) (residue : Residue) → IsTidyBeside P I residue → IsUnusedPage P I j → ¬ IsLitterPage P I j
unused_tidy P I j residue tidy unused l = elim (tidy.marks j ((tidy.of_pages.each j).1 l)) [ inl owner ↦ owner unused.0 | inr kind ↦ kind unused.1 ]
