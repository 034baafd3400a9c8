-- What is true of pieces between any two calls.
use Rattle.std.specs.Prelude.{◌≡◌, ◌-◌, ◌^◌, ◌<◌, ◌≤◌, List, [], All, length}
use Rattle.std.specs.Vec.{vec_len, vec_capacity}
use Rattle.pieces.specs.Joined.{items_of, IsCounted, IsPiece}
use Rattle.pieces.specs.declared.many.Many.{Many}

abbrev pub all_items : {T : Type 0} → Many T → List T
all_items many = items_of many.pieces.items

-- each piece has its bounds and its count, the spare is empty, and the items can be counted
pub record IsWhole {T : Type 0} (many : Many T) : Type 0 where
  pub counted : IsCounted many.pieces.items many.starts.items
  pub sized : All IsPiece many.pieces.items
  pub spare : many.spare.items ≡ []
  pub fits : length (all_items many) < 2 ^ 64

-- another piece has memory and a place, and another item a number
pub record HasRoom {T : Type 0} (many : Many T) : Type 0 where
  pub places : vec_len many.pieces < vec_capacity many.pieces
  pub counts : vec_len many.starts < vec_capacity many.starts
  pub spare : 256 ≤ vec_capacity many.spare
  pub number : length (all_items many) < 2 ^ 64 - 1
