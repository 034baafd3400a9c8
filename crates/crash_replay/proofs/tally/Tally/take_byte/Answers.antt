use Rattle.std.proofs.Common.{◌≡◌, ◌∙◌, codes, false, sym, ap, take, rules}
use Rattle.crash_replay.specs.Tally.{is_no_memory, open_line}
use Rattle.script.specs.Answers.{begins_with}
use Rattle.script.specs.Lines.{is_newline}
use Rattle.std.proofs.lemmas.Bool.{ne_eqb}
use Rattle.crash_replay.proofs.Tallies.{counted_kept, begun_more, begun_full, open_more}
use Rattle.crash_replay.proofs.tally.Tally.take_byte.Goals as goal

pub returns-then-not-is_full : goal.returns-then-not-is_full
returns-then-not-is_full c = λ bytes is.
    let tally = c.args.self.now in
    let byte = c.args.byte in
    let other : is_newline byte ≡ false = ne_eqb byte 10 c.if-byte-eq10.false in
    record {
      accepted = counted_kept (begins_with (codes "ok")) byte bytes tally.accepted other is.accepted;
      refused = counted_kept (begins_with (codes "error")) byte bytes tally.refused other is.refused;
      lacking = counted_kept is_no_memory byte bytes tally.lacking other is.lacking;
      begun = c.push.ensures.items ∙ begun_more tally.begun.items (open_line bytes) byte is.begun (search rules) ∙ sym (ap (take 15) (open_more byte bytes other));
    }

pub returns-else-not-is_full : goal.returns-else-not-is_full
returns-else-not-is_full c = λ bytes is.
    let tally = c.args.self.now in
    let byte = c.args.byte in
    let other : is_newline byte ≡ false = ne_eqb byte 10 c.if-byte-eq10.false in
    record {
      accepted = counted_kept (begins_with (codes "ok")) byte bytes tally.accepted other is.accepted;
      refused = counted_kept (begins_with (codes "error")) byte bytes tally.refused other is.refused;
      lacking = counted_kept is_no_memory byte bytes tally.lacking other is.lacking;
      begun = begun_full tally.begun.items (open_line bytes) byte is.begun (search rules) ∙ sym (ap (take 15) (open_more byte bytes other));
    }
