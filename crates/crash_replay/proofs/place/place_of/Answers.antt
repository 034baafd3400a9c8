use Rattle.std.proofs.Common.{◌≡◌, subst}
use Rattle.std.specs.Prelude.{Option, IfSome}
use Rattle.pm_trait.specs.Trail.{Trail}
use Rattle.crash_replay.specs.Place.{place_in}
use Rattle.crash_replay.proofs.Places.{place_within}
use Rattle.crash_replay.proofs.place.place_of.Goals as goal

pub returns-clause-within : goal.returns-clause-within
returns-clause-within g c =
    let place = c.place_in_ram.result in
    place_within (g.P.Pm.view c.args.pm.now).trail c.args.mark c.args.moment place
    (subst (λ (trail : Option Trail). IfSome trail (λ t. place ≡ place_in t.events c.args.mark c.args.moment)) c.ram.ensures.trail c.place_in_ram.ensures)
