use Rattle.std.proofs.Common.{sym, subst}
use Rattle.volume.specs.Carried.{IsPlanFor}
use Rattle.volume.specs.Stands.{StandsFor}
use Rattle.volume.specs.Volume.{VolumeView}
use Rattle.mark_ops.proofs.Changed.{sets_mark, stands_unmarked, planned_unmarked}
use Rattle.mark_ops.proofs.marking.unmark.Goals as goal

pub returns-in-Ok-clause-sets : goal.returns-in-Ok-clause-sets
returns-in-Ok-clause-sets g c state stands = sets_mark c.in-Ok.ensures.takes stands

pub returns-in-Err-clause-sets : goal.returns-in-Err-clause-sets
returns-in-Err-clause-sets g c state stands = sets_mark c.in-Err.ensures.takes stands

pub returns-in-Ok-clause-stands : goal.returns-in-Ok-clause-stands
returns-in-Ok-clause-stands g c state stands =
    subst (λ (volume : VolumeView). StandsFor volume (g.P.Pm.view c.set_word.new.pm) state) (sym c.clear_mark.ensures)
    (stands_unmarked c.requires.room c.in-Ok.ensures.takes stands)

pub returns-in-Ok-clause-plans : goal.returns-in-Ok-clause-plans
returns-in-Ok-clause-plans g c state command action plan =
    subst (λ (volume : VolumeView). IsPlanFor volume (g.P.Pm.view c.set_word.new.pm) state command action) (sym c.clear_mark.ensures)
    (planned_unmarked c.requires.room c.in-Ok.ensures.takes plan)
