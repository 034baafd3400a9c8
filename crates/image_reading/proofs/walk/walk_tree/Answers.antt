use Rattle.std.proofs.Common.{sym, subst, arith, rules}
use Rattle.image_reading.specs.Reading.{Reached}
use Rattle.image_reading.specs.Walk.{IsClosed}
use Rattle.image_reading.proofs.Places.{one_inode}
use Rattle.image_reading.proofs.Marked.{seen_within, in_order_at}
use Rattle.image_reading.proofs.Walked as lemmas
use Rattle.image_reading.proofs.walk.walk_tree.Goals as goal

pub mark-requires : goal.mark-requires
mark-requires c =
    let g = c.args.image.now.geometry in
    let one = one_inode g.pages g.volume_size in
    omega (arith, one, g.inodes_exact, c.clear.ensures.size, c.requires.marks)

pub loop-place-init : goal.loop-place-init
loop-place-init c =
    let g = c.args.image.now.geometry in
    let a = c.clear.new.self in
    record {
      walk = lemmas.walk_root g.pages c.args.image.now.words.now c.args.rename c.args.reach.now a c.mark.new.self c.requires.pointer (omega (arith, g.inodes_exact, c.requires.marks)) c.clear.ensures c.mark.ensures;
      root = c.mark.ensures.found;
      before = omega arith;
      done = lemmas.queued_first g.pages c.args.image.now.words.now c.args.rename c.args.reach.now a c.mark.new.self c.clear.ensures c.mark.ensures;
    }

pub index-inode-requires : goal.index-inode-requires
index-inode-requires c = let within = seen_within c.loop-place.reach in omega (arith, within, c.loop-place-test.true)

pub visit-requires-clause-reached : goal.visit-requires-clause-reached
visit-requires-clause-reached c =
    let g = c.args.image.now.geometry in
    let r = c.loop-place.reach in
    let is = in_order_at r c.loop-place.place c.index-inode.result.now c.loop-place-test.true c.index-inode.ensures in
    subst (Reached g.pages c.args.image.now.words.now) (sym is) (c.loop-place.invariant.walk.sound _ (c.loop-place.invariant.walk.ordered c.loop-place.place c.loop-place-test.true))

pub overflow_add-place : goal.overflow_add-place
overflow_add-place c = let within = seen_within c.loop-place.reach in search (rules, within)

pub loop-place-smaller : goal.loop-place-smaller
loop-place-smaller c =
    let r = c.loop-place.reach in
    let within = seen_within r in
    let old = c.loop-place.invariant.walk.size in
    let new = c.visit.ensures.walk.size in
    let room = r.room in
    let room_after = c.visit.new.reach.room in
    omega (arith, within, old, new, room, room_after, c.loop-place-test.true)

pub loop-place-preserved : goal.loop-place-preserved
loop-place-preserved c =
    let g = c.args.image.now.geometry in
    let r = c.loop-place.reach in
    let is = in_order_at r c.loop-place.place c.index-inode.result.now c.loop-place-test.true c.index-inode.ensures in
    record {
      walk = c.visit.ensures.walk;
      root = c.visit.ensures.extends.keeps 1 c.loop-place.invariant.root;
      before = (let later = c.visit.ensures.extends.later in omega (arith, later, c.loop-place-test.true));
      done = lemmas.done_more g.pages c.args.image.now.words.now r c.visit.new.reach c.loop-place.place c.loop-place-test.true c.loop-place.invariant.done c.visit.ensures.extends
          (subst (IsClosed g.pages c.args.image.now.words.now c.visit.new.reach) is c.visit.ensures.taken);
    }

pub returns : goal.returns
returns c =
    let g = c.args.image.now.geometry in
    let i = c.loop-place.invariant in
    record {
      pointer = i.walk.pointer;
      size = i.walk.size;
      reached = lemmas.all_found g.pages c.args.image.now.words.now c.loop-place.reach c.loop-place.place c.loop-place-test.false i.walk i.root i.done;
    }
