use Rattle.std.proofs.Common.{◌≡◌, ◌+◌, ◌-◌, ◌*◌, ◌<◌, ◌≤◌, ℕ, max, length}
use Rattle.allocators.specs.Words.{bit_of}
use Rattle.allocators.proofs.words.next_one.Given as goal

abbrev pub invariant-loop-place : goal.invariant-loop-place
invariant-loop-place g l = record {
  low : l.low < 64;
  reached : 64 * l.word + l.bit ≤ 64 * l.place + l.low;
  passed : (k : ℕ) → 64 * l.word + l.bit ≤ k → k < 64 * l.place + l.low → bit_of l.words k ≡ 0;
  end : l.place ≤ max l.word (length l.words);
  cost : l.steps ≡ l.fn.steps + (l.place - l.word);
}
