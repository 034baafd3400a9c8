use Rattle.dentry_state.proofs.Lent.{lent_goes_on}
use Rattle.dentry_state.proofs.dentry.DentryH+Clean+Left.free_left.Goals as goal

pub returns-clause-lent : goal.returns-clause-lent
returns-clause-lent g c =
    lent_goes_on c.args.self c.args.destination.now c.requires.volume c.requires.other_slot c.store_rest.ensures.device.interval
    (λ word is. record { field = is.field; is_field = is.is_field; at = is.at })
