use Rattle.std.proofs.Common.{◌≡◌, ◌+◌, ◌*◌, ◌++◌, replicate}
use Rattle.arrayvec.specs.ArrayVec.{array_vec_len}
use Rattle.hex.specs.Hex.{encode_lower}
use Rattle.crash_replay.proofs.work_line.push_digits.Given as goal

abbrev pub invariant-loop-pushed : goal.invariant-loop-pushed
invariant-loop-pushed l = record {
  so_far : l.line.items ≡ l.fn.line.items ++ encode_lower (replicate l._pushed l.byte);
  long : array_vec_len l.line ≡ array_vec_len l.fn.line + 2 * l._pushed;
}
