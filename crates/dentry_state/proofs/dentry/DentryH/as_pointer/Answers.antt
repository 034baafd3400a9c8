use Rattle.std.proofs.Common.{arith}
use Rattle.dentry_state.proofs.Lent.{pointer_fits}
use Rattle.dentry_state.proofs.dentry.DentryH.as_pointer.Goals as goal

pub overflow_add-result : goal.overflow_add-result
overflow_add-result g c =
    let inside = c.self.inside in
    let fits = pointer_fits inside.geometry.pages inside.slot inside.geometry.volume_size c.self.invariant.0 in
    omega (arith, fits)
