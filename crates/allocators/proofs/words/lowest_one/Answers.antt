use Rattle.std.proofs.Common.{bit_and, ap, arith}
use Rattle.std.proofs.lemmas.Nat.Bits.{ones_shl}
use Rattle.allocators.proofs.Bits.{none_left, lowest_left}
use Rattle.allocators.proofs.words.lowest_one.Goals as goal

pub returns-then-left-eq0-clause-found : goal.returns-then-left-eq0-clause-found
returns-then-left-eq0-clause-found g c = none_left c.args.word c.args.low _ (ap (bit_and c.args.word) (ones_shl 64 c.args.low (omega arith))) c.if-left-eq0.true

pub returns-else-left-eq0-clause-found : goal.returns-else-left-eq0-clause-found
returns-else-left-eq0-clause-found g c = lowest_left c.args.word c.args.low _ (ap (bit_and c.args.word) (ones_shl 64 c.args.low (omega arith))) (omega arith) (omega (arith, c.if-left-eq0.false))
