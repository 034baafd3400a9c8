use Rattle.std.proofs.Common.{◌∷◌, sym, subst}
use Rattle.pm_trait.specs.declared.event.Event.{Event}
use Rattle.pm_memory.specs.Tally.{AreTalliesOf}
use Rattle.pm_memory.proofs.tally.Tallies.add_before.Goals as goal

pub returns-in-Store-clause-tallies : goal.returns-in-Store-clause-tallies
returns-in-Store-clause-tallies c = λ later are.
    subst (λ (event : Event). AreTalliesOf (event ∷ later) c.add_store.new.self) (sym c.in-Store.is) (c.add_store.ensures.tallies later c.in-Store.value are)
