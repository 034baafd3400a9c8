use Rattle.std.proofs.Common.{rules, arith}
use Rattle.std.proofs.lemmas.Grind.{common_steps}
use Rattle.script.proofs.Windows.{window_after}
use Rattle.script.proofs.lines.Lines.take_line.Goals as goal

pub returns-then-place-le-LONGEST_LINE : goal.returns-then-place-le-LONGEST_LINE
returns-then-place-le-LONGEST_LINE c =
    let old = c.args.self.now in
    record {
      line = grind (arith, common_steps);
      behind = window_after old.buffer.items old.start old.end c.args.place c.requires;
      read = search rules;
      given = search rules;
      unended = search rules;
      step = search rules;
    }

pub returns-else-place-le-LONGEST_LINE : goal.returns-else-place-le-LONGEST_LINE
returns-else-place-le-LONGEST_LINE c =
    let old = c.args.self.now in
    record {
      line = grind (arith, common_steps);
      behind = window_after old.buffer.items old.start old.end c.args.place c.requires;
      read = search rules;
      given = search rules;
      unended = search rules;
      step = search rules;
    }
