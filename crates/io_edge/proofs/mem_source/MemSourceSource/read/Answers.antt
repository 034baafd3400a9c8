use Rattle.std.proofs.Common.{◌≡◌, ◌<◌, ◌≤◌, length, drop, min, arith, rules, length-append}
use Rattle.std.proofs.lemmas.Grind.{common_steps}
use Rattle.std.proofs.lemmas.List.{length-drop}
use Rattle.io_edge.specs.MemSource.{bytes_left}
use Rattle.io_edge.proofs.Copied.{copied_then_left, none_left}
use Rattle.io_edge.proofs.mem_source.MemSourceSource.read.Goals as goal

pub returns-clause-gives : goal.returns-clause-gives
returns-clause-gives c =
    let self = c.args.self.now in
    let count = c.min-count.result in
    let long : length c.copy_from_slice.new.self ≡ count = search rules in
    let fits : count ≤ length c.args.buf.now = search rules in
    let exact : count ≡ min self.step (min (length c.args.buf.now) (length (bytes_left self))) = grind (arith, common_steps) in
    let moves : 1 ≤ self.step = search rules in
    record {
      within = search rules;
      gives = copied_then_left self.bytes.items c.copy_from_slice.new.self _ self.at count (grind (arith, common_steps)) long;
      end = λ some none.
          let room : 0 < length c.args.buf.now =
          omega (arith, length-append c.copy_from_slice.new.self (drop count c.args.buf.now), length-drop count c.args.buf.now) in
          none_left (bytes_left self) self.step (length c.args.buf.now) count moves room exact none;
      kept = tt;
      no_fault = search rules;
      faults = search rules;
      cause = tt;
    }
