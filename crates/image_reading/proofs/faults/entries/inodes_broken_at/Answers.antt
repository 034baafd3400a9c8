use Rattle.std.proofs.Common.{ℕ, ◌<◌, sym, subst, arith}
use Rattle.image_reading.specs.Reading.{IsReachedSlot}
use Rattle.image_reading.specs.Soundness.{NamesInode}
use Rattle.image_reading.proofs.Owners.{NamesInode-unreached}
use Rattle.image_reading.proofs.ReachedTable as lemmas
use Rattle.image_reading.proofs.faults.entries.inodes_broken_at.Goals as goal

pub slot_at-inode-requires-clause-slot_in_range : goal.slot_at-inode-requires-clause-slot_in_range
slot_at-inode-requires-clause-slot_in_range c =
    let P = c.args.image.now.geometry.pages in
    let I = c.args.image.now.words.now in
    let slot = lemmas.reached_at P I c.args.slots.now c.requires c.loop-k.k c.loop-k-test.true in
    omega (arith, slot.live.held.in_range, c.from-slot.ensures)

pub returns-then-inode-le-ROOT : goal.returns-then-inode-le-ROOT
returns-then-inode-le-ROOT c =
    let P = c.args.image.now.geometry.pages in
    let I = c.args.image.now.words.now in
    let slot = subst (IsReachedSlot P I) (sym c.from-slot.ensures) (lemmas.reached_at P I c.args.slots.now c.requires c.loop-k.k c.loop-k-test.true) in (
      (λ x lt. lemmas.holds_before P I c.args.slots.now c.requires (NamesInode P I) (NamesInode-unreached P I) c.loop-k.k c.loop-k-test.true c.loop-k.invariant x
          (subst (λ (s : ℕ). x < s) c.from-slot.ensures lt)),
      (λ names. let least = names.least slot in omega (arith, least, c.slot_at-inode.ensures.inode, c.if-inode-le-ROOT.true)),
    )

pub returns-then-inode-image : goal.returns-then-inode-image
returns-then-inode-image c =
    let P = c.args.image.now.geometry.pages in
    let I = c.args.image.now.words.now in
    let slot = subst (IsReachedSlot P I) (sym c.from-slot.ensures) (lemmas.reached_at P I c.args.slots.now c.requires c.loop-k.k c.loop-k-test.true) in (
      (λ x lt. lemmas.holds_before P I c.args.slots.now c.requires (NamesInode P I) (NamesInode-unreached P I) c.loop-k.k c.loop-k-test.true c.loop-k.invariant x
          (subst (λ (s : ℕ). x < s) c.from-slot.ensures lt)),
      (λ names. let most = names.most slot in omega (arith, most, c.slot_at-inode.ensures.inode, c.if-inode-image.true, c.args.image.now.geometry.inodes_exact)),
    )

pub returns : goal.returns
returns c =
    let P = c.args.image.now.geometry.pages in
    let I = c.args.image.now.words.now in
    lemmas.holds_all P I c.args.slots.now c.requires (NamesInode P I) (NamesInode-unreached P I) c.loop-k.k c.loop-k-test.false c.loop-k.invariant
