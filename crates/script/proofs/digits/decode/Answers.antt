use Rattle.std.proofs.Common.{arith}
use Rattle.hex.proofs.Pairs.{decode_start}
use Rattle.script.proofs.DigitLaws.{decoded_more, decoded_all}
use Rattle.script.proofs.digits.decode.Goals as goal

pub pairs-init : goal.pairs-init
pairs-init c = decode_start c.args.text.now c.args.bytes.now

pub pairs-preserved : goal.pairs-preserved
pairs-preserved c =
    decoded_more _ _ _ c.args.text.now c.pairs.bytes c.pairs.i _ _ (omega arith) (omega arith) c.is_digit.ensures c.is_digit-in-pairs.ensures c.value_of.ensures.value c.value_of-in-pairs.ensures.value c.pairs.invariant

pub returns : goal.returns
returns c = decoded_all c.pairs.valid c.args.text.now c.pairs.bytes c.pairs.i (omega arith) (omega arith) (omega arith) c.pairs.invariant
