use Rattle.std.proofs.Common.{◌≡◌, ◌<◌, ℕ, length, slice_index, vec_len, vec_capacity}
use Rattle.pieces.specs.Joined.{count_before}
use Rattle.pieces.proofs.counts.count_from.Given as goal

abbrev pub invariant-loop-k : goal.invariant-loop-k
invariant-loop-k g l = record {
  len : vec_len l.starts ≡ vec_len l.fn.starts;
  capacity : vec_capacity l.starts ≡ vec_capacity l.fn.starts;
  counted : (j : ℕ) → j < l.k → j < length l.pieces.items → slice_index l.starts.items j ≡ count_before l.pieces.items j;
}
