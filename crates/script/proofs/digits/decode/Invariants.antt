use Rattle.script.proofs.DigitLaws.{Decoded}
use Rattle.script.proofs.digits.decode.Given as goal

abbrev pub invariant-pairs : goal.invariant-pairs
invariant-pairs l = Decoded l.valid l.i l.text l.bytes
