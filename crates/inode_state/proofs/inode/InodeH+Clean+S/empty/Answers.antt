use Rattle.std.proofs.Common.{ℕ, ap, subst}
use Rattle.inode_state.specs.States.{free_fields}
use Rattle.inode_state.specs.Inode.{InodeView, IsInodeWord}
use Rattle.inode_state.proofs.Stored.{stands_as}
use Rattle.inode_state.proofs.inode.InodeH+Clean+S.empty.Goals as goal

pub store_fields-requires-clause-inside : goal.store_fields-requires-clause-inside
store_fields-requires-clause-inside g c = λ word is.
    c.requires.clean.stands.inside word (subst (λ (n : ℕ). IsInodeWord n word) (ap (λ (inode : InodeView). inode.number) c.self.view_is) is)

pub returns-clause-stands : goal.returns-clause-stands
returns-clause-stands g c =
    stands_as c.self.inside.number c.of.result.number free_fields c.of.result.fields
    (ap (λ (inode : InodeView). inode.number) c.of.ensures) (ap (λ (inode : InodeView). inode.fields) c.of.ensures) c.store_fields.ensures.stands
