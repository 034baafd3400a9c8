use Rattle.std.proofs.Common.{arith}
use Rattle.fence_token.proofs.StoredLaws.{exactly_performed}
use Rattle.inode_state.proofs.Stored.{word_inside, same_length, fields_stored, fields_stand, fields_performed}
use Rattle.inode_state.proofs.inode.store_fields.Goals as goal

pub store-requires-clause-in_range : goal.store-requires-clause-in_range
store-requires-clause-in_range g c = word_inside c.args.number 0 c.inode_word.result (g.P.Pm.view c.args.pm.now).words c.inode_word.ensures.value (omega arith) c.requires.inside

pub store-requires-2-clause-in_range : goal.store-requires-2-clause-in_range
store-requires-2-clause-in_range g c =
    let before = word_inside c.args.number 1 c.inode_word-2.result (g.P.Pm.view c.args.pm.now).words c.inode_word-2.ensures.value (omega arith) c.requires.inside in
    omega (arith, before, same_length _ _ _ _ c.store.ensures.words)

pub store-requires-3-clause-in_range : goal.store-requires-3-clause-in_range
store-requires-3-clause-in_range g c =
    let before = word_inside c.args.number 2 c.inode_word-3.result (g.P.Pm.view c.args.pm.now).words c.inode_word-3.ensures.value (omega arith) c.requires.inside in
    omega (arith, before, same_length _ _ _ _ c.store.ensures.words, same_length _ _ _ _ c.store-2.ensures.words)

pub store-requires-4-clause-in_range : goal.store-requires-4-clause-in_range
store-requires-4-clause-in_range g c =
    let before = word_inside c.args.number 3 c.inode_word-4.result (g.P.Pm.view c.args.pm.now).words c.inode_word-4.ensures.value (omega arith) c.requires.inside in
    omega (arith, before, same_length _ _ _ _ c.store.ensures.words, same_length _ _ _ _ c.store-2.ensures.words, same_length _ _ _ _ c.store-3.ensures.words)

pub returns-clause-stands : goal.returns-clause-stands
returns-clause-stands g c =
    fields_stand c.args.number c.args.fields.now _ _ _ _ _ _ _ _ _ c.inode_word.ensures.value c.inode_word-2.ensures.value c.inode_word-3.ensures.value c.inode_word-4.ensures.value
    c.store.ensures.words c.store-2.ensures.words c.store-3.ensures.words c.store-4.ensures.words c.requires.inside

pub returns-clause-device : goal.returns-clause-device
returns-clause-device g c =
    exactly_performed 4 (omega arith)
    (fields_stored c.args.number _ _ _ _ _ _ _ _ c.inode_word.ensures.value c.inode_word-2.ensures.value c.inode_word-3.ensures.value c.inode_word-4.ensures.value
    c.store.ensures.words c.store.ensures.trail c.store-2.ensures.words c.store-2.ensures.trail c.store-3.ensures.words c.store-3.ensures.trail c.store-4.ensures.words c.store-4.ensures.trail)
    (fields_performed c.args.number c.args.fields.now c.inode_word.ensures.value c.inode_word-2.ensures.value c.inode_word-3.ensures.value c.inode_word-4.ensures.value
    c.store.ensures c.store-2.ensures c.store-3.ensures c.store-4.ensures)
