use Rattle.std.proofs.Common.{rules}
use Rattle.dentry_state.specs.States.{IsNamed}
use Rattle.dentry_state.proofs.Stored.{new_kind, stays_clean}
use Rattle.dentry_state.proofs.dentry.DentryH+Clean+Named.commit.Goals as goal

pub returns-clause-inode_clean : goal.returns-clause-inode_clean
returns-clause-inode_clean g c =
    let slot = c.args.self in
    let inode = c.args.inode.now in
    let named : IsNamed slot.fields = search rules in
    stays_clean slot inode (new_kind inode.number inode.fields c.number-number.ensures.reads) named.0 c.requires.clean.stands c.store_number.ensures.device c.requires.inode_clean
