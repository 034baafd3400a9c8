use Rattle.std.proofs.Common.{◌<◌, ℕ, subst, sym, ◌∙◌}
use Rattle.script.specs.Lines.{script_limit}
use Rattle.script.specs.Reader.{pending, read_count}
use Rattle.script.specs.Reading.{IfTold, ReadPrefix, SkipsOn}
use Rattle.script.proofs.ReadingLaws.{skip_on, skip_front, skip_ends, skip_last, skip_breaks_off}
use Rattle.script.proofs.lines.Lines.skip_line.Goals as goal

pub skipping-preserved : goal.skipping-preserved
skipping-preserved g c =
    let found = rw c.in-Ok-Nothing.field-0-is at c.in-Ok-Nothing.ensures.found in
    record {
      skips = subst (λ (n : ℕ). SkipsOn (g.S.Source.left c.args.source.now) (pending c.args.self.now) (read_count c.args.self.now) (g.S.Source.left c.read_piece.new.source) n)
          (sym c.drop_pending-in-Ok-Nothing.ensures.read)
          (skip_on _ _ _ _ _ _ _ _ _ c.skipping.invariant.skips c.skipping.invariant.none c.read_piece.ensures.reads found.0);
      none = c.drop_pending-in-Ok-Nothing.ensures.none;
      unended = c.drop_pending-in-Ok-Nothing.ensures.ended ∙ c.read_piece.ensures.counts.unended;
      faults = c.in-Ok-Nothing.ensures.counts.no_fault ∙ c.skipping.invariant.faults;
    }

pub returns-in-Ok-Newline-clause-step : goal.returns-in-Ok-Newline-clause-step
returns-in-Ok-Newline-clause-step g c =
    let found = rw c.in-Ok-Newline.field-0-is at c.in-Ok-Newline.ensures.found in
    skip_ends _ _ _ _ _ _ _ _ _ c.skipping.invariant.skips.skipped c.skipping.invariant.none c.read_piece.ensures.reads.rest found c.take_line.ensures.behind

pub returns-in-Ok-Newline-clause-counted : goal.returns-in-Ok-Newline-clause-counted
returns-in-Ok-Newline-clause-counted g c =
    subst (λ (n : ℕ). IfTold (g.S.Source.left c.args.source.now) (g.S.Source.left c.read_piece.new.source) (ReadPrefix (read_count c.args.self.now) n)) (sym c.take_line.ensures.read)
    (skip_front _ _ _ _ _ _ _ _ _ c.skipping.invariant.skips c.read_piece.ensures.reads)

pub returns-in-Ok-End-clause-step : goal.returns-in-Ok-End-clause-step
returns-in-Ok-End-clause-step g c =
    let found = rw c.in-Ok-End.field-0-is at c.in-Ok-End.ensures.found in
    skip_last _ _ _ _ _ _ _ _ c.take_last.ensures.ended c.take_last.ensures.none c.skipping.invariant.skips.skipped c.skipping.invariant.none found.0 c.read_piece.ensures.reads.rest found.1
    (subst (λ (n : ℕ). n < script_limit) (sym c.take_last.ensures.read) found.2)

pub returns-in-Ok-End-clause-counted : goal.returns-in-Ok-End-clause-counted
returns-in-Ok-End-clause-counted g c =
    subst (λ (n : ℕ). IfTold (g.S.Source.left c.args.source.now) (g.S.Source.left c.read_piece.new.source) (ReadPrefix (read_count c.args.self.now) n)) (sym c.take_last.ensures.read)
    (skip_front _ _ _ _ _ _ _ _ _ c.skipping.invariant.skips c.read_piece.ensures.reads)

pub returns-in-Ok-Limit-clause-step : goal.returns-in-Ok-Limit-clause-step
returns-in-Ok-Limit-clause-step g c =
    let found = rw c.in-Ok-Limit.field-0-is at c.in-Ok-Limit.ensures.found in
    (found.1, skip_breaks_off _ _ _ _ _ c.skipping.invariant.skips.skipped c.skipping.invariant.none c.read_piece.ensures.reads.rest found.0)

pub returns-in-Ok-Limit-clause-counted : goal.returns-in-Ok-Limit-clause-counted
returns-in-Ok-Limit-clause-counted g c = skip_front _ _ _ _ _ _ _ _ _ c.skipping.invariant.skips c.read_piece.ensures.reads

pub returns-in-Err-clause-step : goal.returns-in-Err-clause-step
returns-in-Err-clause-step g c =
    skip_breaks_off _ _ _ _ _ c.skipping.invariant.skips.skipped c.skipping.invariant.none c.read_piece.ensures.reads.rest c.in-Err.ensures.counts.unbroken

pub returns-in-Err-clause-counted : goal.returns-in-Err-clause-counted
returns-in-Err-clause-counted g c = skip_front _ _ _ _ _ _ _ _ _ c.skipping.invariant.skips c.read_piece.ensures.reads
