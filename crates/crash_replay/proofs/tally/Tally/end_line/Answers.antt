use Rattle.std.proofs.Common.{◌≡◌, ◌∙◌, codes, sym, ap, take, lit≤}
use Rattle.std.specs.Prelude.{bytes_eq}
use Rattle.crash_replay.specs.Tally.{is_no_memory, open_line}
use Rattle.script.specs.Answers.{begins_with}
use Rattle.crash_replay.proofs.Tallies.{counted_more, begins_kept, no_memory_kept, open_ended}
use Rattle.crash_replay.proofs.tally.Tally.end_line.Goals as goal

pub returns : goal.returns
returns c = λ bytes is.
    let tally = c.args.self.now in
    let line = open_line bytes in
    let kept = c.as_slice-line.ensures.value ∙ is.begun in
    let ok : c.begins_with-accepted.result ≡ begins_with (codes "ok") line =
    c.begins_with-accepted.ensures ∙ begins_kept (codes "ok") c.as_slice-line.result.now line kept (lit≤ tt) in
    let error : c.begins_with-refused.result ≡ begins_with (codes "error") line =
    c.begins_with-refused.ensures ∙ begins_kept (codes "error") c.as_slice-line.result.now line kept (lit≤ tt) in
    let lacking : c.eq-lacking.result ≡ is_no_memory line =
    c.eq-lacking.ensures ∙ ap (bytes_eq c.as_slice-line.result.now) c.as_slice.ensures ∙ no_memory_kept c.as_slice-line.result.now line kept in
    record {
      accepted = c.counted-self.ensures ∙ counted_more (begins_with (codes "ok")) bytes tally.accepted c.begins_with-accepted.result is.accepted ok;
      refused = c.counted-self-2.ensures ∙ counted_more (begins_with (codes "error")) bytes tally.refused c.begins_with-refused.result is.refused error;
      lacking = c.counted-self-3.ensures ∙ counted_more is_no_memory bytes tally.lacking c.eq-lacking.result is.lacking lacking;
      begun = c.clear.ensures ∙ sym (ap (take 15) (open_ended bytes));
    }
