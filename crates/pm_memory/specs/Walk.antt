-- What is left of a walk over a trail.
use Rattle.std.specs.Prelude.{ℕ, List, [], ◌∷◌, drop}
use Rattle.pm_trait.specs.declared.event.Event.{Event}
use Rattle.pm_memory.specs.declared.entry.Entry.{Entry}
use Rattle.pm_memory.specs.Entries.{told}

-- the acknowledgements that come first: those before the first entry, or behind the last where there is none
abbrev pub acks_first : List Entry → ℕ → ℕ
acks_first [] acks_since = acks_since
acks_first (entry ∷ entries) acks_since = entry.acks

-- the events that these entries and acknowledgements tell, but for as many acknowledgements as were passed
abbrev pub events_left : List Entry → ℕ → ℕ → List Event
events_left entries acks_since passed = drop passed (told entries acks_since)
