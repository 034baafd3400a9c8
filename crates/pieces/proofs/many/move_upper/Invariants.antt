use Rattle.std.proofs.Common.{◌≡◌, ◌+◌, ◌≤◌, ◌++◌, reverse, vec_len, vec_capacity}
use Rattle.pieces.proofs.many.move_upper.Given as goal

abbrev pub invariant-loop-piece : goal.invariant-loop-piece
invariant-loop-piece g l = record {
  items : l.piece.items ++ reverse l.upper.items ≡ l.fn.piece.items;
  len : vec_len l.piece + vec_len l.upper ≡ vec_len l.fn.piece;
  cut : l.cut ≤ vec_len l.piece;
  capacity : vec_capacity l.piece ≡ vec_capacity l.fn.piece;
  upper_capacity : vec_capacity l.upper ≡ vec_capacity l.fn.upper;
}

abbrev pub decreases-loop-piece : goal.decreases-loop-piece
decreases-loop-piece g l = vec_len l.piece
