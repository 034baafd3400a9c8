-- One word is given a value by itself.
use Rattle.std.specs.Prelude.{◌≡◌, ℕ, true, slice_set}
use Rattle.pm_trait.specs.Unfolds.{Step}

-- its store, the flush of its line, and a fence
abbrev pub setting_events : ℕ
setting_events = 3

-- the word becomes this
abbrev pub setting : ℕ → ℕ → Step
setting at value = record { Makes = λ I J. J ≡ slice_set I at value; stores = true; events = setting_events }
