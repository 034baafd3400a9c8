-- How the few items of a short list, or else the pieces of a longer one, are seen. No public clause cites this module.
use Rattle.std.specs.Prelude.{◌-◌, ◌^◌, ◌≤◌, Bool, ◌&&◌, ◌==◌, if◌then◌else◌, nat_lt, nat_le, length}
use Rattle.std.specs.Vec.{vec_len, vec_capacity}
use Rattle.std.specs.declared.vec.Vec.{Vec}
use Rattle.std.specs.declared.alloc.Global.{Global}
use Rattle.pieces.specs.declared.many.Many.{Many}
use Rattle.pieces.specs.Many.{all_items, IsWhole}
use Rattle.pieces.specs.Pieces.{PiecesView}

module _ {T : Type 0} where
  abbrev pub few_have_room : Vec T Global → Bool
  few_have_room few = nat_lt (vec_len few) (vec_capacity few) && nat_lt (vec_len few) 256

  abbrev pub many_have_room : Many T → Bool
  many_have_room many =
      (nat_lt (vec_len many.pieces) (vec_capacity many.pieces) && nat_lt (vec_len many.starts) (vec_capacity many.starts))
      && (nat_le 256 (vec_capacity many.spare) && nat_lt (length (all_items many)) (2 ^ 64 - 1))

  -- as long as there is no piece, the few are the list
  abbrev pub is_short : Many T → Bool
  is_short many = vec_len many.pieces == 0

  abbrev pub view_of : Vec T Global → Many T → PiecesView T
  view_of few many = record {
    items = if is_short many then few.items else all_items many;
    has_room = if is_short many then few_have_room few else many_have_room many;
  }

  pub record IsSound (few : Vec T Global) (many : Many T) : Type 0 where
    pub sized : vec_len few ≤ 256
    pub whole : IsWhole many
