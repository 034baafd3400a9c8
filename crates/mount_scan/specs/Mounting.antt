-- What the words of a device are. W is the words; their length says how many pages are meant.
use Rattle.std.specs.Prelude.{ℕ, List}
use Rattle.image_reading.specs.Laws.{IsVolume}
use Rattle.image_reading.specs.Soundness.{Sound, pages_in_image}
use Rattle.image_reading.specs.Tidy.{Tidy}

-- the length and the first words are a volume's
abbrev pub HoldsVolume : List ℕ → Type 0
HoldsVolume W = IsVolume (pages_in_image W) W

-- no rule is broken
abbrev pub IsSound : List ℕ → Type 0
IsSound W = Sound (pages_in_image W) W

-- and nothing is to be repaired
abbrev pub IsTidy : List ℕ → Type 0
IsTidy W = Tidy (pages_in_image W) W
