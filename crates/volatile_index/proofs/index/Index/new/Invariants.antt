use Rattle.std.proofs.Common.{◌≡◌, All, vec_len}
use Rattle.volatile_index.specs.Index.{IsEmpty}
use Rattle.volatile_index.proofs.index.Index.new.Given as goal

abbrev pub invariant-loop : goal.invariant-loop
invariant-loop l = record {
  count : vec_len l.nodes ≡ l.counter;
  empty : All IsEmpty l.nodes.items;
}
