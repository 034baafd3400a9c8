use Rattle.std.proofs.Common.{◌≤◌, sym, subst, arith}
use Rattle.layout.proofs.Widths.{inode_words_bounds, descriptor_words_bounds}
use Rattle.recovery.proofs.Listing.{list_short}
use Rattle.recovery.proofs.Needing.{all_reached, owner_below, kind_below, dead_below, links_below, litter_below}
use Rattle.recovery.proofs.repairs.Repairs.of.Goals as goal

pub counts_of-requires-clause-reached : goal.counts_of-requires-clause-reached
counts_of-requires-clause-reached c = all_reached _ _ c.in_ok-links.links.items c.as_slice.result.now c.as_slice.ensures.value c.in_ok-links.ensures

pub invariant_of-result-clause-few_owners : goal.invariant_of-result-clause-few_owners
invariant_of-result-clause-few_owners c =
    let few = list_short _ _ _ (owner_below _ _ c.args.scanned.now.image.geometry.volume_size) c.in_ok-owners.ensures in
    omega (arith, few, c.in_ok-owners.owners.ok.0)

pub invariant_of-result-clause-few_slots : goal.invariant_of-result-clause-few_slots
invariant_of-result-clause-few_slots c =
    let few = list_short _ _ _ (dead_below _ _ c.requires.coherent c.args.scanned.now.image.geometry.volume_size) c.in_ok-slots.ensures in
    omega (arith, few, c.in_ok-slots.slots.ok.0)

pub invariant_of-result-clause-few_links : goal.invariant_of-result-clause-few_links
invariant_of-result-clause-few_links c =
    let few = list_short _ _ _ (links_below _ _ c.requires.coherent c.args.scanned.now.image.geometry.volume_size) c.in_ok-links.ensures in
    omega (arith, few, c.in_ok-links.links.ok.0)

pub invariant_of-result-clause-few_descriptors : goal.invariant_of-result-clause-few_descriptors
invariant_of-result-clause-few_descriptors c =
    let few = list_short _ _ _ (kind_below _ _ c.args.scanned.now.image.geometry.volume_size) c.in_ok-descriptors.ensures in
    omega (arith, few, c.in_ok-descriptors.descriptors.ok.0)

pub invariant_of-result-clause-few_inodes : goal.invariant_of-result-clause-few_inodes
invariant_of-result-clause-few_inodes c =
    let few = list_short _ _ _ (litter_below _ _ c.args.scanned.now.image.geometry.volume_size) c.in_ok-inodes.ensures in
    omega (arith, few, c.in_ok-inodes.inodes.ok.0)

pub invariant_of-result-clause-descriptor_bounds : goal.invariant_of-result-clause-descriptor_bounds
invariant_of-result-clause-descriptor_bounds c = subst (λ n. (3 ≤ n) × (n ≤ 8)) (sym c.descriptor_words.ensures) (descriptor_words_bounds _)

pub invariant_of-result-clause-inode_bounds : goal.invariant_of-result-clause-inode_bounds
invariant_of-result-clause-inode_bounds c = subst (λ n. (4 ≤ n) × (n ≤ 16)) (sym c.inode_words.ensures) (inode_words_bounds _)
