use Rattle.std.proofs.Common.{◌≡◌, ◌*◌, ◌-◌, ◌≤◌, length}
use Rattle.std.specs.Vec.{vec_capacity}
use Rattle.pm_file.specs.Given.{ReadsFrom}
use Rattle.pm_file.proofs.mirror.read_all.Given as goal

abbrev pub invariant-loop-done : goal.invariant-loop-done
invariant-loop-done g l = record {
  within : l.done ≤ l.pages;
  long : length l.words.items ≡ 512 * l.done;
  room : 512 * l.pages ≤ vec_capacity l.words;
  held : g.F.Medium.held l.medium ≡ g.F.Medium.safe l.fn.medium;
  safe : g.F.Medium.safe l.medium ≡ g.F.Medium.safe l.fn.medium;
  read : ReadsFrom (g.F.Medium.safe l.fn.medium) 0 (512 * l.done) l.words.items;
}

abbrev pub decreases-loop-done : goal.decreases-loop-done
decreases-loop-done g l = l.pages - l.done
