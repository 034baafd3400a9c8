use Rattle.std.proofs.Common.{ℕ, ◌∙◌, ap, arith}
use Rattle.layout.specs.declared.fields.InodeFields.{InodeFields}
use Rattle.layout.specs.Geometry.{inode_word_of}
use Rattle.inode_state.specs.Inode.{InodeView}
use Rattle.inode_state.proofs.Stored.{stands_as, word_inside, size_stored}
use Rattle.inode_state.proofs.inode.InodeH+Clean+Live.store_size.Goals as goal

pub store-requires-clause-in_range : goal.store-requires-clause-in_range
store-requires-clause-in_range g c =
    let number = ap (λ (inode : InodeView). inode.number) c.self.view_is in
    word_inside c.args.self.number 2 c.inode_word.result (g.P.Pm.view c.args.pm.now).words (c.inode_word.ensures.value ∙ ap (λ (n : ℕ). inode_word_of n 2) number) (omega arith) c.requires.clean.stands.inside

pub returns-clause-stands : goal.returns-clause-stands
returns-clause-stands g c =
    let number = ap (λ (inode : InodeView). inode.number) c.self.view_is in
    let fields = ap (λ (inode : InodeView). inode.fields) c.self.view_is in
    let size = c.args.size in
    stands_as c.args.self.number c.of.result.number (record c.args.self.fields { size = size }) c.of.result.fields
    (ap (λ (inode : InodeView). inode.number) c.of.ensures ∙ number)
    (ap (λ (inode : InodeView). inode.fields) c.of.ensures ∙ ap (λ (f : InodeFields). record f { size = size }) fields)
    (size_stored c.args.self.number size c.args.self.fields (g.P.Pm.view c.args.pm.now).words _ c.inode_word.result (c.inode_word.ensures.value ∙ ap (λ (n : ℕ). inode_word_of n 2) number) c.store.ensures.words c.requires.clean.stands)
