-- How a format may end.
use Rattle.std.specs.Prelude.{◌≡◌, ◌/◌, length, Result, Ok, Err}
use Rattle.pm_trait.specs.DeviceView.{DeviceView, Reserves, MakesIntervals}
use Rattle.pm_trait.specs.Unfolds.{Unfolds}
use Rattle.format_ops.specs.Making.{steps_of, format_events}
use Rattle.format_ops.specs.declared.error.FormatError.{FormatError}
use Rattle.format_ops.specs.declared.error.FormatError.TheVariants.{BadSize, PmFault, NoMemory}

-- It made its three intervals, or fewer where a fence failed, in no more events than were reserved. A device of another size is as it
-- was, and so is one that has no room for the events, but for the refused reserve that it counts.
abbrev pub Formats : DeviceView → DeviceView → Result (Unit {0}) FormatError → Type 0
Formats old new (Ok done) = MakesIntervals {E = FormatError} old new (format_events (length old.words / 512)) 3 (Ok done)
Formats old new (Err PmFault) = MakesIntervals {T = Unit {0}} old new (format_events (length old.words / 512)) 3 (Err PmFault)
Formats old new (Err NoMemory) = Reserves {T = Unit {0}} old new (format_events (length old.words / 512)) (Err NoMemory)
Formats old new (Err BadSize) = new ≡ old

-- Where it is done, or a fence failed, it made its steps in turn.
abbrev pub TakesSteps : DeviceView → DeviceView → Result (Unit {0}) FormatError → Type 0
TakesSteps old new (Ok done) = Unfolds {E = FormatError} (steps_of (length old.words / 512)) old new (Ok done)
TakesSteps old new (Err PmFault) = Unfolds {T = Unit {0}} (steps_of (length old.words / 512)) old new (Err PmFault)
TakesSteps old new (Err NoMemory) = Unit {0}
TakesSteps old new (Err BadSize) = Unit {0}
