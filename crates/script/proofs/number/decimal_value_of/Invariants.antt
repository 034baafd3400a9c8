use Rattle.std.proofs.Common.{◌≡◌, ◌<◌, ◌^◌, take}
use Rattle.script.specs.Lines.{decimal_value}
use Rattle.script.proofs.number.decimal_value_of.Given as goal

-- the value of the digits so far
abbrev pub invariant-loop-byte : goal.invariant-loop-byte
invariant-loop-byte l = record {
  value : l.value ≡ decimal_value (take l.byte-index l.word);
  small : l.value < 10 ^ l.byte-index;
}
