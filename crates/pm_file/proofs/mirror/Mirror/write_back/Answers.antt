use Rattle.std.proofs.Common.{rules}
use Rattle.pm_file.specs.Given.{HasLines}
use Rattle.pm_file.proofs.Sorted.{lines_sorted}
use Rattle.pm_file.proofs.mirror.Mirror.write_back.Goals as goal

pub returns-clause-ok : goal.returns-clause-ok
returns-clause-ok g c =
    let held = g.F.Medium.held in
    let safe = g.F.Medium.safe in
    let old = c.args.self.now in
    let given : HasLines (held old.medium) (safe c.end_round.new.self.medium) old.words.items c.sort_flushed.new.self.flushed.items = search rules in
    lines_sorted _ _ old.words.items old.flushed.items c.sort_flushed.new.self.flushed.items c.sort_flushed.ensures.same given
