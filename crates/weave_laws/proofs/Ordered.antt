-- The order of places doesn't matter.
use Rattle.std.proofs.Common.{ℕ, List, sym, ◌∙◌}
use Rattle.image_reading.specs.Counts.{IsIn, IsListOf}
use Rattle.weave_laws.specs.Joined.{AnyOrderLaw}

listed_same : (Q : ℕ → Type 0) (xs ys : List ℕ) → IsListOf (λ x. IsIn x xs) ys → IsListOf Q xs → IsListOf Q ys
listed_same Q xs ys same listed = record {
  distinct = same.distinct;
  each = λ x. ((λ here. (listed.each x).0 ((same.each x).0 here)), (λ q. (same.each x).1 ((listed.each x).1 q)));
}

pub any_order_law : AnyOrderLaw
any_order_law P I one other same tidy = record {
  of_pointer = λ s. ((λ is. (tidy.of_pointer s).0 (sym same.pointer ∙ is)), (λ points. same.pointer ∙ (tidy.of_pointer s).1 points));
  of_slots = listed_same _ one.slots other.slots same.slots tidy.of_slots;
  of_pages = listed_same _ one.pages other.pages same.pages tidy.of_pages;
  of_inodes = listed_same _ one.inodes other.inodes same.inodes tidy.of_inodes;
  of_counts = listed_same _ one.counts other.counts same.counts tidy.of_counts;
  kinds = λ i here. tidy.kinds i ((same.inodes.each i).0 here);
  marks = λ j here. tidy.marks j ((same.pages.each j).0 here);
}
