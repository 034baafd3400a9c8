use Rattle.std.proofs.Common.{◌≡◌, ◌<◌, ◌≤◌, ◌++◌, length, min, take, drop, refl, sym, ◌∙◌, arith, rules, length-append}
use Rattle.std.proofs.lemmas.Grind.{common_steps}
use Rattle.std.proofs.lemmas.List.{length-drop}
use Rattle.io_edge.proofs.Copied.{copied_then_left}
use Rattle.crash_replay.proofs.WorkLefts.{left_behind, none_left}
use Rattle.crash_replay.proofs.work.WorkSource.read.Goals as goal

pub returns-clause-gives : goal.returns-clause-gives
returns-clause-gives c =
    let work = c.make_line.new.self in
    let count = c.min-count.result in
    let copied = c.copy_from_slice.new.self in
    let behind = drop count c.args.buf.now in
    let long : length copied ≡ count = search rules in
    let fits : count ≤ length c.args.buf.now = search rules in
    let front : copied ≡ take count (drop work.at work.line.items) = grind (arith, common_steps) in
    let exact : count ≡ min (length c.args.buf.now) (length (drop work.at work.line.items)) = grind (arith, common_steps) in
    record {
      within = search rules;
      gives = sym c.make_line.ensures.left
          ∙ left_behind work _ (take count (copied ++ behind)) count (copied_then_left work.line.items copied behind work.at count front long) refl refl refl refl;
      end = λ some none.
          let room : 0 < length c.args.buf.now = omega (arith, length-append copied behind, length-drop count c.args.buf.now) in
          let given : length work.line.items ≤ work.at = omega (arith, exact, length-drop work.at work.line.items) in
          sym c.make_line.ensures.left ∙ none_left work given (c.make_line.ensures.filled (omega (arith, given, work.in_range)));
      kept = tt;
      no_fault = search rules;
      faults = search rules;
      cause = tt;
    }
