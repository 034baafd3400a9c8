-- Events without acknowledgements.
use Rattle.std.specs.Prelude.{◌≡◌, List, [], ◌∷◌}
use Rattle.pm_trait.specs.declared.event.Event.{Event}
use Rattle.pm_trait.specs.declared.event.Event.TheVariants.{Store, Flush, Fence, BadFence, Ack}
use Rattle.pm_memory.specs.declared.entry.Entry.{Entry}

-- the events of entries, without acknowledgements
abbrev pub plain : List Entry → List Event
plain [] = []
plain (entry ∷ entries) = entry.event ∷ plain entries

-- the events without acknowledgements
abbrev pub unacked : List Event → List Event
unacked [] = []
unacked (Store word value ∷ later) = Store word value ∷ unacked later
unacked (Flush line ∷ later) = Flush line ∷ unacked later
unacked (Fence ∷ later) = Fence ∷ unacked later
unacked (BadFence ∷ later) = BadFence ∷ unacked later
unacked (Ack ∷ later) = unacked later

-- two lists of events are alike but for acknowledgements
abbrev pub AreAlike : List Event → List Event → Type 0
AreAlike events others = unacked events ≡ unacked others
