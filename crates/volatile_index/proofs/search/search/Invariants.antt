use Rattle.std.proofs.Common.{◌≡◌, ◌-◌, ◌≤◌, length}
use Rattle.std.proofs.Common.{Less, Greater}
use Rattle.std.specs.List.{AllWithin}
use Rattle.layout.specs.Name.{name_cmp}
use Rattle.volatile_index.proofs.Halving.{Halves}
use Rattle.volatile_index.proofs.search.search.Given as goal

abbrev pub invariant-loop-low : goal.invariant-loop-low
invariant-loop-low g l = record {
  order : l.low ≤ l.high;
  within : l.high ≤ length l.entries.items;
  less : AllWithin (λ entry. name_cmp entry.name l.name ≡ Less) l.entries.items 0 l.low;
  greater : AllWithin (λ entry. name_cmp entry.name l.name ≡ Greater) l.entries.items l.high (length l.entries.items);
  counted : l.fn.steps ≤ l.steps;
  halves : Halves (l.steps - l.fn.steps) (l.high - l.low) (length l.entries.items);
}

abbrev pub decreases-loop-low : goal.decreases-loop-low
decreases-loop-low g l = l.high - l.low
