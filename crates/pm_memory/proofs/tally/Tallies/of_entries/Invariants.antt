use Rattle.std.proofs.Common.{◌≡◌, drop, vec_len}
use Rattle.pm_memory.specs.Plain.{plain}
use Rattle.pm_memory.specs.Tally.{AreTalliesOf}
use Rattle.pm_memory.proofs.tally.Tallies.of_entries.Given as goal

abbrev pub invariant-loop-i : goal.invariant-loop-i
invariant-loop-i l = record {
  tallies : AreTalliesOf (plain (drop l.i l.entries)) l.tallies;
  words : vec_len l.tallies.stores ≡ l.words;
}
