use Rattle.std.proofs.Common.{◌++◌, replicate, ap, ◌∙◌, sym, append_assoc, arith}
use Rattle.hex.specs.Hex.{encode_lower}
use Rattle.crash_replay.proofs.WorkTexts.{encode_none, encode_more}
use Rattle.crash_replay.proofs.work_line.push_digits.Goals as goal

pub loop-pushed-init : goal.loop-pushed-init
loop-pushed-init c = record {
  so_far = encode_none c.args.line.now.items c.args.byte;
  long = omega arith;
}

pub loop-pushed-preserved : goal.loop-pushed-preserved
loop-pushed-preserved c =
    let old = c.args.line.now.items in
    let before = encode_lower (replicate c.loop-pushed._pushed c.args.byte) in
    record {
      so_far = c.push_text.ensures.items ∙ ap (λ line. line ++ c.digits_of-digits.result) c.loop-pushed.invariant.so_far
          ∙ append_assoc old before c.digits_of-digits.result
          ∙ ap (λ more. old ++ (before ++ more)) c.digits_of-digits.ensures.digits
          ∙ ap (λ more. old ++ more) (sym (encode_more c.loop-pushed._pushed c.args.byte));
      long = omega (arith, c.push_text.ensures.len, c.digits_of-digits.ensures.two);
    }
