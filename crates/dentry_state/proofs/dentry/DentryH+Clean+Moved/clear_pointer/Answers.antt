use Rattle.std.proofs.Common.{arith}
use Rattle.dentry_state.proofs.Lent.{pointer_tells, slots_differ, lent_over_store}
use Rattle.dentry_state.proofs.dentry.DentryH+Clean+Moved.clear_pointer.Goals as goal

pub returns-clause-lent : goal.returns-clause-lent
returns-clause-lent g c =
    let slot = c.args.self in
    let source = c.args.source.now in
    let told = pointer_tells source.fields slot.fields source.slot c.slot-slot.ensures.reads.1 c.requires.pointer in
    let differ = slots_differ slot source c.requires.volume told c.requires.clean.stands c.requires.source_clean.stands in
    lent_over_store 1 slot source (omega arith) c.requires.volume differ c.store_pointer.ensures.device
