use Rattle.std.proofs.Common.{◌≡◌, ℕ, [], ◌<◌, ◌≤◌, length, get_or}
use Rattle.pm_memory.specs.Chosen.{rank_of, chosen_store}
use Rattle.pm_memory.specs.Plain.{plain}
use Rattle.pm_memory.proofs.chosen.chosen_stores.Given as goal

abbrev pub invariant-loop-word : goal.invariant-loop-word
invariant-loop-word l = record {
  long : length l.numbers.items ≡ l.word;
  rank_is : l.rank ≡ rank_of (record { base = []; events = plain l.entries }) l.word;
  few : l.rank ≤ l.word;
  each : (word : ℕ) → word < l.word → get_or l.numbers.items word 0 ≡ chosen_store (plain l.entries) l.keep word;
}
