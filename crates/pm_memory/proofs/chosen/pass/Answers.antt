use Rattle.std.proofs.Common.{◌∷◌, subst}
use Rattle.pm_trait.specs.declared.event.Event.{Event}
use Rattle.pm_memory.specs.Chosen.{IsStillToCome}
use Rattle.pm_memory.proofs.chosen.pass.Goals as goal

pub returns-in-Store : goal.returns-in-Store
returns-in-Store c = λ wanted later to_come.
    c.make_store.ensures wanted later (subst (λ (event : Event). IsStillToCome wanted c.args.image.now c.args.numbers.now (event ∷ later)) c.in-Store.is to_come)
