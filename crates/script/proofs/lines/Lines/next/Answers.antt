use Rattle.std.proofs.Common.{ℕ, refl, sym, subst}
use Rattle.script.specs.Reader.{pending, read_count}
use Rattle.script.specs.Reading.{IfTold, ReadPrefix}
use Rattle.script.proofs.ReadingLaws.{line_given, reads_none}
use Rattle.script.proofs.lines.Lines.next.Goals as goal

pub returns-in-Some-clause-step : goal.returns-in-Some-clause-step
returns-in-Some-clause-step g c =
    line_given _ _ _ _ _ _ _ _ _ refl c.in-Some.ensures.place c.take_line.ensures.line c.take_line.ensures.behind c.take_line.ensures.step

pub returns-in-Some-clause-counted : goal.returns-in-Some-clause-counted
returns-in-Some-clause-counted g c =
    subst (λ (n : ℕ). IfTold (g.S.Source.left c.args.source.now) (g.S.Source.left c.args.source.now) (ReadPrefix (read_count c.args.self.now) n)) (sym c.take_line.ensures.read)
    (let reads = reads_none (g.S.Source.left c.args.source.now) (pending c.args.self.now) (read_count c.args.self.now) in reads.front)
