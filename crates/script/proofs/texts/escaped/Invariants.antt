use Rattle.std.proofs.Common.{◌≡◌, ◌*◌, ◌≤◌, take, flat_map}
use Rattle.arrayvec.specs.ArrayVec.{array_vec_len}
use Rattle.script.specs.Texts.{byte_text}
use Rattle.script.proofs.texts.escaped.Given as goal

abbrev pub invariant-loop-byte : goal.invariant-loop-byte
invariant-loop-byte l = record {
  so_far : l.text.items ≡ flat_map byte_text (take l.byte-index l.byte-items);
  short : array_vec_len l.text ≤ 3 * l.byte-index;
}
