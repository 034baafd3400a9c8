use Rattle.std.proofs.Common.{◌≡◌, ◌≤◌, ◌+◌, ◌++◌, length, take, decimal, flat_map}
use Rattle.std.specs.List.{sum_by}
use Rattle.arrayvec.specs.ArrayVec.{array_vec_len}
use Rattle.script.proofs.check.text_of_table.Given as goal

abbrev pub invariant-loop-words : goal.invariant-loop-words
invariant-loop-words l = record {
  so_far : l.text.items ≡ flat_map (λ row. row.0.now ++ decimal row.1) (take l.words-index l.table);
  short : array_vec_len l.text ≤ sum_by (λ row. length row.0.now + 20) (take l.words-index l.table);
}
