-- A slot gives up its number: what that leaves to be repaired.
use Rattle.weave_laws.specs.Unnaming.{UnnamedLaw}
use Rattle.weave_laws.proofs.UnnamedLinks as links
use Rattle.weave_laws.proofs.UnnamedPages as pages_of
use Rattle.weave_laws.proofs.UnnamedSlots as slots

pub unnamed_law : UnnamedLaw
unnamed_law P I p s given_back pages goes falling others can with node parent tidy =
    let kind = links.kind_of can goes falling with.link in
    record {
      of_pointer = λ t. ((λ e. (slots.pointer_same can t).0 ((tidy.of_pointer t).0 e)), (λ l. (tidy.of_pointer t).1 ((slots.pointer_same can t).1 l)));
      of_slots = slots.slots_after can given_back with.page others.slots parent.slots tidy.of_slots;
      of_pages = pages_of.pages_after can with others.pages (λ j here page. node.pages j here page.owner) tidy.of_pages;
      of_inodes = links.inodes_after can goes with.node kind others.inodes tidy.of_inodes;
      of_counts = links.counts_after can goes with.node falling with.link others.counts (λ l. node.links ((tidy.of_counts.each _).1 l)) (λ l. parent.links ((tidy.of_counts.each _).1 l)) tidy.of_counts;
      kinds = links.kinds_after can goes kind others.inodes tidy.of_inodes tidy.kinds;
      marks = pages_of.marks_after can with others.pages (λ j here page. node.pages j here page.owner) tidy.of_pages tidy.marks;
    }
