use Rattle.std.proofs.Common.{ap, arith}
use Rattle.layout.specs.declared.fields.SlotFields.{SlotFields}
use Rattle.dentry_state.proofs.Lent.{slots_differ, lent_over_store}
use Rattle.dentry_state.proofs.dentry.DentryH+Clean+S.point_at.Goals as goal

pub returns-clause-lent : goal.returns-clause-lent
returns-clause-lent g c =
    let slot = c.args.self in
    let source = c.args.source.now in
    let differ = slots_differ slot source c.requires.volume (λ same. c.requires.other_inode (ap (λ (fields : SlotFields). fields.inode) same)) c.requires.clean.stands c.requires.source_clean.stands in
    lent_over_store 1 slot source (omega arith) c.requires.volume differ c.store_pointer.ensures.device
