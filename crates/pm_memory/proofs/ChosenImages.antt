-- Chosen images are crash images.
use Rattle.std.specs.Prelude.{ℕ, ◌%◌, List, length, slice_index}
use Rattle.std.proofs.Common.{sym, subst, arith}
use Rattle.std.proofs.lemmas.List.Elements.{Contains-get_or}
use Rattle.std.specs.List.{Contains}
use Rattle.pm_trait.specs.Trail.{Trail, IsCrashImage, candidates}
use Rattle.pm_memory.specs.Chosen.{rank_of, IsChosenImage}

-- a chosen image is one that a crash may leave
pub chosen_is_crash_image : (trail : Trail) (keep image : List ℕ) → IsChosenImage trail keep image → IsCrashImage trail image
chosen_is_crash_image trail keep image chooses = record {
  long = chooses.long;
  each = λ word inside.
      subst (Contains (candidates trail word)) (sym (chooses.each word inside))
      (Contains-get_or (candidates trail word) (slice_index keep (rank_of trail word % length keep) % length (candidates trail word)) 0 (omega arith));
}
