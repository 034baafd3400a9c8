use Rattle.std.proofs.Common.{refl, rules}
use Rattle.image_reading.proofs.Marked as lemmas
use Rattle.image_reading.proofs.reach.Reach.mark.Goals as goal

pub index_mut-requires-2 : goal.index_mut-requires-2
index_mut-requires-2 c = lemmas.room_left c.args.self.now c.args.inode c.requires c.index.result.now c.index.ensures c.if-index.false

pub overflow_add-self : goal.overflow_add-self
overflow_add-self c =
    let left = lemmas.room_left c.args.self.now c.args.inode c.requires c.index.result.now c.index.ensures c.if-index.false in
    search (rules, left)

pub invariant_of-self : goal.invariant_of-self
invariant_of-self c = record {
  counted = lemmas.one_more c.args.self.now c.args.inode c.requires c.index.result.now c.index.ensures c.if-index.false;
  room = c.args.self.now.room;
}

pub returns : goal.returns
returns c =
    let in_marks = lemmas.in_marks c.args.self.now c.args.inode c.requires c.index.result.now c.index.ensures c.if-index.false in
    let in_order = lemmas.in_order c.args.self.now c.args.inode c.requires c.index.result.now c.index.ensures c.if-index.false in
    lemmas.marks_new c.args.self.now _ c.args.inode refl refl refl refl in_marks in_order

pub returns-then-index : goal.returns-then-index
returns-then-index c = lemmas.marks_old c.args.self.now c.args.inode c.requires c.index.result.now c.index.ensures c.if-index.true
