use Rattle.std.proofs.Common.{◌≡◌, false, ◌-◌, []}
use Rattle.script.specs.Lines.{script_limit}
use Rattle.script.specs.Reader.{pending, read_count, has_ended}
use Rattle.script.specs.Reading.{SkipsOn}
use Rattle.script.proofs.lines.Lines.skip_line.Given as goal

abbrev pub invariant-skipping : goal.invariant-skipping
invariant-skipping g l = record {
  skips : SkipsOn (g.S.Source.left l.fn.source) (pending l.fn.self) (read_count l.fn.self) (g.S.Source.left l.source) (read_count l.self);
  none : pending l.self ≡ [];
  unended : has_ended l.self ≡ false;
  faults : g.S.Source.faults l.source ≡ g.S.Source.faults l.fn.source;
}

abbrev pub decreases-skipping : goal.decreases-skipping
decreases-skipping g l = script_limit - read_count l.self
