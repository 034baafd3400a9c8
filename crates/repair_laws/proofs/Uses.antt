-- The first two steps change nothing that is live, reached, kept or counted.
use Rattle.std.proofs.Common.{ℕ, List, sym}
use Rattle.image_reading.specs.Reading.{Reached}
use Rattle.image_reading.specs.Soundness.{IsCoherent}
use Rattle.image_laws.specs.Frame.{SameMeaning}
use Rattle.repair_laws.specs.Mended.{IsRepair}
use Rattle.repair_laws.specs.Laws.{SameUse, UseLaw}
use Rattle.repair_laws.proofs.Held.{turned}
use Rattle.repair_laws.proofs.Pointing as pointing
use Rattle.repair_laws.proofs.Using.{same_use}

pub reached_after : (P : ℕ) (I J : List ℕ) → SameMeaning P I J → (i : ℕ) → Reached P I i → Reached P J i
reached_after P I J means i (p, names) = (p, (means.names p i).0 names)

pub reached_before : (P : ℕ) (I J : List ℕ) → SameMeaning P I J → (i : ℕ) → Reached P J i → Reached P I i
reached_before P I J means i (p, names) = (p, (means.names p i).1 names)

module _ (P : ℕ) (W A B C K : List ℕ) (coherent : IsCoherent P W) (repair : IsRepair P W A B C K) where
  first_means : SameMeaning P W A
  first_means = (pointing.first_means P W coherent A repair.first).0

  pub second_means : SameMeaning P W B
  second_means = (pointing.second_means P W coherent A repair.first B repair.second).0

  first_use : SameUse P W A
  first_use = same_use P W A coherent first_means.coherent
      (record {
        descriptors = pointing.first_descriptor P W coherent A repair.first;
        inodes = pointing.first_inode P W coherent A repair.first;
        reached = reached_after P W A first_means;
        live = pointing.first_live P W coherent A repair.first;
        number = pointing.first_live_number P W coherent A repair.first;
      })
      (record {
        descriptors = turned P W A (pointing.first_descriptor P W coherent A repair.first);
        inodes = λ i f least most small. sym (pointing.first_inode P W coherent A repair.first i f least most small);
        reached = reached_before P W A first_means;
        live = pointing.first_alive P W coherent A repair.first;
        number = λ s live. sym (pointing.first_live_number P W coherent A repair.first s (pointing.first_alive P W coherent A repair.first s live));
      })

  pub second_use : SameUse P W B
  second_use = same_use P W B coherent second_means.coherent
      (record {
        descriptors = pointing.second_descriptor P W coherent A repair.first B repair.second;
        inodes = pointing.second_inodes P W coherent A repair.first B repair.second;
        reached = reached_after P W B second_means;
        live = pointing.second_live P W coherent A repair.first B repair.second;
        number = pointing.second_live_number P W coherent A repair.first B repair.second;
      })
      (record {
        descriptors = turned P W B (pointing.second_descriptor P W coherent A repair.first B repair.second);
        inodes = λ i f least most small. sym (pointing.second_inodes P W coherent A repair.first B repair.second i f least most small);
        reached = reached_before P W B second_means;
        live = pointing.second_alive P W coherent A repair.first B repair.second;
        number = λ s live.
            sym (pointing.second_live_number P W coherent A repair.first B repair.second s (pointing.second_alive P W coherent A repair.first B repair.second s live));
      })

pub use_law : UseLaw
use_law P W A B C K coherent repair = record { first = first_use P W A B C K coherent repair; second = second_use P W A B C K coherent repair }
