-- What is tidied reads beside nothing, of which nothing is any inode's.
use Rattle.std.proofs.Common.{ℕ, List}
use Rattle.tree_model.specs.Run.{State}
use Rattle.image_reading.specs.Reading.{ReadsAs}
use Rattle.image_reading.specs.Residue.{no_residue}
use Rattle.image_reading.specs.Tidy.{IsTidied}
use Rattle.image_reading.proofs.Residues.{tidied_beside}
use Rattle.image_counts.specs.Laws.{IsApart, ReadsBeside}

pub reads_tidied : (P : ℕ) (I : List ℕ) (state : State) → IsTidied P I → ReadsAs P I state → ReadsBeside P I no_residue state
reads_tidied P I state tidy reads = record { coherent = tidy.coherent; beside = tidied_beside tidy; reads = reads }

pub apart_nothing : (P : ℕ) (I : List ℕ) (i : ℕ) → IsApart P I no_residue i
apart_nothing P I i = record { slots = λ s none. absurd none; pages = λ j none. absurd none; links = λ none. none }
