use Rattle.std.proofs.Common.{◌≡◌, ◌+◌, ◌≤◌, length}
use Rattle.volatile_index.specs.Index.{entries_of, pages_of, page_places_of, IsSameElsewhere}
use Rattle.mount_scan.proofs.index.add_places.Given as goal

abbrev pub invariant-loop : goal.invariant-loop
invariant-loop l = record {
  long : length (pages_of l.index l.inode) ≡ length (pages_of l.fn.index l.inode) + l.counter;
  room : length (pages_of l.fn.index l.inode) + l.count ≤ page_places_of l.index l.inode;
  same_entries : entries_of l.index l.inode ≡ entries_of l.fn.index l.inode;
  elsewhere : IsSameElsewhere l.inode l.fn.index l.index;
}
