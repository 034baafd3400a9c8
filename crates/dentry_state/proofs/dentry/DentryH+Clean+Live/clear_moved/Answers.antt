use Rattle.std.proofs.Common.{sym, rules, arith}
use Rattle.dentry_state.specs.States.{IsLive}
use Rattle.dentry_state.proofs.Lent.{pointer_tells, slots_differ, lent_over_store}
use Rattle.dentry_state.proofs.dentry.DentryH+Clean+Live.clear_moved.Goals as goal

pub returns-clause-lent : goal.returns-clause-lent
returns-clause-lent g c =
    let slot = c.args.self in
    let destination = c.args.destination.now in
    let live : IsLive slot.fields = search rules in
    let told = pointer_tells slot.fields destination.fields slot.slot live.1 c.requires.pointer in
    let differ = slots_differ slot destination c.requires.volume (λ same. told (sym same)) c.requires.clean.stands c.requires.destination_clean.stands in
    lent_over_store 0 slot destination (omega arith) c.requires.volume differ c.store_number.ensures.device
