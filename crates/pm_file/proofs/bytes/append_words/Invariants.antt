use Rattle.std.proofs.Common.{◌≡◌, ◌*◌, ◌≤◌, length}
use Rattle.std.specs.Vec.{vec_capacity}
use Rattle.pm_file.specs.Placed.{AppendsWords}
use Rattle.pm_file.proofs.bytes.append_words.Given as goal

abbrev pub invariant-loop-page : goal.invariant-loop-page
invariant-loop-page l = record {
  long : length l.read ≡ 512;
  room : vec_capacity l.fn.words ≤ vec_capacity l.words;
  words : AppendsWords l.bytes (512 * l.page) l.fn.words.items l.words.items;
}
