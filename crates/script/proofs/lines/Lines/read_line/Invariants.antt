use Rattle.std.proofs.Common.{◌≡◌, false, ◌-◌}
use Rattle.script.specs.Lines.{IsUnbroken, script_limit}
use Rattle.script.specs.Reader.{pending, read_count, given_count, has_ended}
use Rattle.script.specs.Reading.{ReadsOn}
use Rattle.script.proofs.lines.Lines.read_line.Given as goal

abbrev pub invariant-reading : goal.invariant-reading
invariant-reading g l = record {
  reads : ReadsOn (g.S.Source.left l.fn.source) (pending l.fn.self) (read_count l.fn.self) (g.S.Source.left l.source) (pending l.self) (read_count l.self);
  unbroken : IsUnbroken (pending l.self);
  given : given_count l.self ≡ given_count l.fn.self;
  unended : has_ended l.self ≡ false;
  faults : g.S.Source.faults l.source ≡ g.S.Source.faults l.fn.source;
}

abbrev pub decreases-reading : goal.decreases-reading
decreases-reading g l = script_limit - read_count l.self
