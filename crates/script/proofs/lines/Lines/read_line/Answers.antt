use Rattle.std.proofs.Common.{ℕ, ◌-◌, ◌<◌, ◌≤◌, length, List, Option, drop, subst, sym, ap, ◌∙◌, arith}
use Rattle.std.proofs.lemmas.List.{length-take}
use Rattle.script.specs.Lines.{line_limit, script_limit, IsUnbroken}
use Rattle.script.specs.Reader.{pending, read_count}
use Rattle.script.specs.Reading.{IfTold, ReadPrefix}
use Rattle.script.specs.Stepping.{StepsTo}
use Rattle.script.proofs.ReadingLaws.{reads_trans, line_given, last_given, breaks_off, counted_on}
use Rattle.script.proofs.lines.Lines.read_line.Goals as goal

pub reading-preserved : goal.reading-preserved
reading-preserved g c =
    let found = rw c.in-Ok-Nothing.field-0-is at c.in-Ok-Nothing.ensures.found in
    record {
      reads = reads_trans _ _ _ _ _ _ _ _ _ c.reading.invariant.reads c.read_piece.ensures.reads;
      unbroken = found.0;
      given = c.read_piece.ensures.counts.given ∙ c.reading.invariant.given;
      unended = c.read_piece.ensures.counts.unended;
      faults = c.in-Ok-Nothing.ensures.counts.no_fault ∙ c.reading.invariant.faults;
    }

pub returns-in-Ok-Newline-clause-step : goal.returns-in-Ok-Newline-clause-step
returns-in-Ok-Newline-clause-step g c =
    let found = rw c.in-Ok-Newline.field-0-is at c.in-Ok-Newline.ensures.found in
    line_given _ _ _ _ _ _ _ _ _ (c.read_piece.ensures.reads.rest ∙ c.reading.invariant.reads.rest) found c.take_line.ensures.line c.take_line.ensures.behind c.take_line.ensures.step

pub returns-in-Ok-Newline-clause-counted : goal.returns-in-Ok-Newline-clause-counted
returns-in-Ok-Newline-clause-counted g c =
    subst (λ (n : ℕ). IfTold (g.S.Source.left c.args.source.now) (g.S.Source.left c.read_piece.new.source) (ReadPrefix (read_count c.args.self.now) n)) (sym c.take_line.ensures.read)
    (counted_on _ _ _ _ _ _ _ _ c.reading.invariant.reads c.read_piece.ensures.reads.front)

pub returns-in-Ok-End-clause-step : goal.returns-in-Ok-End-clause-step
returns-in-Ok-End-clause-step g c =
    let found = rw c.in-Ok-End.field-0-is at c.in-Ok-End.ensures.found in
    let l = c.reading.self in
    let short : length (pending c.read_piece.new.self) ≤ line_limit = omega (arith, ap length found.0, c.reading-test.true, length-take (l.end - l.start) (drop l.start l.buffer.items)) in
    last_given _ _ _ _ _ _ _ _ c.take_last.ensures.ended (c.read_piece.ensures.reads.rest ∙ c.reading.invariant.reads.rest)
    (subst (λ (bytes : List ℕ). IsUnbroken bytes) (sym found.0) c.reading.invariant.unbroken) found.1
    (subst (λ (n : ℕ). n < script_limit) (sym c.take_last.ensures.read) found.2) short c.take_last.ensures.line c.take_last.ensures.none c.take_last.ensures.step

pub returns-in-Ok-End-clause-counted : goal.returns-in-Ok-End-clause-counted
returns-in-Ok-End-clause-counted g c =
    subst (λ (n : ℕ). IfTold (g.S.Source.left c.args.source.now) (g.S.Source.left c.read_piece.new.source) (ReadPrefix (read_count c.args.self.now) n)) (sym c.take_last.ensures.read)
    (counted_on _ _ _ _ _ _ _ _ c.reading.invariant.reads c.read_piece.ensures.reads.front)

pub returns-in-Ok-Limit-clause-step : goal.returns-in-Ok-Limit-clause-step
returns-in-Ok-Limit-clause-step g c =
    let found = rw c.in-Ok-Limit.field-0-is at c.in-Ok-Limit.ensures.found in
    (found.1, breaks_off _ _ _ (c.read_piece.ensures.reads.rest ∙ c.reading.invariant.reads.rest) found.0)

pub returns-in-Ok-Limit-clause-counted : goal.returns-in-Ok-Limit-clause-counted
returns-in-Ok-Limit-clause-counted g c = counted_on _ _ _ _ _ _ _ _ c.reading.invariant.reads c.read_piece.ensures.reads.front

pub returns-in-Err-clause-step : goal.returns-in-Err-clause-step
returns-in-Err-clause-step g c = breaks_off _ _ _ (c.read_piece.ensures.reads.rest ∙ c.reading.invariant.reads.rest) c.in-Err.ensures.counts.unbroken

pub returns-in-Err-clause-counted : goal.returns-in-Err-clause-counted
returns-in-Err-clause-counted g c = counted_on _ _ _ _ _ _ _ _ c.reading.invariant.reads c.read_piece.ensures.reads.front

pub returns-clause-counted : goal.returns-clause-counted
returns-clause-counted g c = counted_on _ _ _ _ _ _ _ _ c.reading.invariant.reads c.skip_line.ensures.counted

pub returns-clause-step : goal.returns-clause-step
returns-clause-step g c =
    subst (λ (rest : Option (List ℕ)). StepsTo rest (g.S.Source.left c.skip_line.new.source) c.skip_line.new.self c.skip_line.result) c.reading.invariant.reads.rest c.skip_line.ensures.step
