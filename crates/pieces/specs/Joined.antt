-- Pieces of a list, and where each begins in it.
use Rattle.std.specs.Prelude.{◌≡◌, ℕ, ◌+◌, ◌<◌, ◌≤◌, List, length, take, slice_index, slice_index_or}
use Rattle.std.specs.List.{flat_map}
use Rattle.std.specs.Vec.{vec_len, vec_capacity}
use Rattle.std.specs.declared.vec.Vec.{Vec}
use Rattle.std.specs.declared.alloc.Global.{Global}

-- the items of all pieces, in order
abbrev pub items_of : {T : Type 0} → List (Vec T Global) → List T
items_of pieces = flat_map (λ piece. piece.items) pieces

-- as many items as stand before the piece k
abbrev pub count_before : {T : Type 0} → List (Vec T Global) → ℕ → ℕ
count_before pieces k = length (items_of (take k pieces))

-- at each piece's place stands the count of the items before it
pub record IsCounted {T : Type 0} (pieces : List (Vec T Global)) (starts : List ℕ) : Type 0 where
  pub len : length starts ≡ length pieces
  pub count : (k : ℕ) → k < length pieces → slice_index starts k ≡ count_before pieces k

-- a piece has 256 items at most, and memory for as many
pub record IsPiece {T : Type 0} (piece : Vec T Global) : Type 0 where
  pub len : vec_len piece ≤ 256
  pub capacity : 256 ≤ vec_capacity piece

-- the items of a piece and of the one behind it fit one piece
abbrev pub IsTogetherPiece : {T : Type 0} → List (Vec T Global) → ℕ → Type 0
IsTogetherPiece {T} pieces k = (first second : Vec T Global) → vec_len (slice_index_or pieces k first) + vec_len (slice_index_or pieces (k + 1) second) ≤ 256
