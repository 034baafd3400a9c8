-- Which lengths are those of a volume.
use Rattle.std.specs.Prelude.{◌≡◌, ◌⊎◌, ℕ, ◌*◌, List, [], length}
use Rattle.layout.specs.Geometry.{IsVolumeSize, IsVolumeLength}

-- so many bytes are those of a volume
abbrev pub IsVolumeFile : ℕ → Type 0
IsVolumeFile bytes = (pages : ℕ) × IsVolumeSize pages × (bytes ≡ 4096 * pages)

-- no words, or those of a volume
abbrev pub IsNoneOrVolume : List ℕ → Type 0
IsNoneOrVolume words = (words ≡ []) ⊎ IsVolumeLength (length words)
