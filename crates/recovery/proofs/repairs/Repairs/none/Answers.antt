use Rattle.std.proofs.Common.{◌≤◌, length, refl, sym, ap, subst}
use Rattle.layout.proofs.Widths.{inode_words_bounds, descriptor_words_bounds}
use Rattle.recovery.proofs.Still.{empty_plan}
use Rattle.recovery.proofs.repairs.Repairs.none.Goals as goal

pub returns-clause-planned : goal.returns-clause-planned
returns-clause-planned c = empty_plan _ _ (record {
  left = refl;
  pointer = refl;
  owners = ap length c.new.ensures.items;
  slots = ap length c.new-2.ensures.items;
  links = ap length c.new-3.ensures.items;
  descriptors = ap length c.new-5.ensures.items;
  inodes = ap length c.new-6.ensures.items;
  descriptor_width = c.descriptor_words.ensures;
  inode_width = c.inode_words.ensures;
})

pub invariant_of-result-clause-descriptor_bounds : goal.invariant_of-result-clause-descriptor_bounds
invariant_of-result-clause-descriptor_bounds c = subst (λ n. (3 ≤ n) × (n ≤ 8)) (sym c.descriptor_words.ensures) (descriptor_words_bounds _)

pub invariant_of-result-clause-inode_bounds : goal.invariant_of-result-clause-inode_bounds
invariant_of-result-clause-inode_bounds c = subst (λ n. (4 ≤ n) × (n ≤ 16)) (sym c.inode_words.ensures) (inode_words_bounds _)
