use Rattle.std.proofs.Common.{subst, arith}
use Rattle.image_reading.specs.Walk.{IsFound}
use Rattle.image_reading.proofs.Walked as lemmas
use Rattle.image_reading.proofs.walk.visit_slot.Goals as goal

pub returns-then-inode-image : goal.returns-then-inode-image
returns-then-inode-image c =
    let g = c.args.image.now.geometry in
    let slot = c.requires.slot in
    record {
      walk = lemmas.walk_marks g.pages c.args.image.now.words.now c.args.reach.now c.mark.new.self c.args.slot c.slot_at-inode.result.inode c.slot_at-inode.ensures.inode
          (omega (arith, c.if-inode-image.true, g.inodes_exact))
          (record { owner = slot.owner; directory = slot.directory; live = c.is_live.ensures.0 c.if-not-is_live.false })
          c.requires.walk c.mark.ensures;
      extends = c.mark.ensures.extends;
      taken = λ _ _. subst (IsFound c.mark.new.self) c.slot_at-inode.ensures.inode c.mark.ensures.found;
    }
