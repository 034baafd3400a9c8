use Rattle.std.proofs.Common.{◌≡◌, ◌-◌, ◌≤◌, length, take}
use Rattle.io_edge.specs.Bytes.{GivesFirst}
use Rattle.squirrel_cli.proofs.whole.fill.Given as goal

abbrev pub invariant-reading : goal.invariant-reading
invariant-reading g l = record {
  long : length l.buffer ≡ length l.initial.buffer;
  within : l.filled ≤ length l.buffer;
  gives : GivesFirst (g.S.Source.left l.initial.source) (take l.filled l.buffer) (g.S.Source.left l.source);
  no_fault : g.S.Source.faults l.source ≡ g.S.Source.faults l.initial.source;
}

abbrev pub decreases-reading : goal.decreases-reading
decreases-reading g l = length l.buffer - l.filled
