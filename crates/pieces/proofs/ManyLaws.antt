-- How a piece changes, and what stays true of all.
use Rattle.std.proofs.Common.{◌≡◌, ℕ, ◌+◌, ◌<◌, ◌≤◌, Bool, true, cond, List, length, get_or, set, All, vec_len, vec_capacity, sym, ap, subst, ◌∙◌, arith}
use Rattle.std.specs.List.{insert, remove, HoldsAt}
use Rattle.std.specs.declared.vec.Vec.{Vec}
use Rattle.std.specs.declared.alloc.Global.{Global}
use Rattle.std.proofs.lemmas.List.Edits.{length-insert, length-remove}
use Rattle.std.proofs.lemmas.List.Elements.{All-set}
use Rattle.pieces.specs.Joined.{items_of, count_before, IsPiece, IsTogetherPiece}
use Rattle.pieces.proofs.JoinedLaws.{items_inserted, items_removed, place_among, place_in}

-- what a call says by its result, where it went well
pub went_well : {X : Type 0} (ok : Bool) (new there before : X) → ok ≡ true → new ≡ cond ok there before → new ≡ there
went_well ok new there before well is = subst (λ t. new ≡ cond t there before) well is

module _ {T : Type 0} where
  pub at_piece : (P : Vec T Global → Type 0) (pieces : List (Vec T Global)) (k : ℕ) (piece : Vec T Global) → piece ≡ get_or pieces k piece → HoldsAt P pieces k → P piece
  at_piece P pieces k piece read holds = subst P (sym read) (holds piece)

  pub piece_of : (pieces : List (Vec T Global)) (k : ℕ) (piece : Vec T Global) → All IsPiece pieces → k < length pieces → piece ≡ get_or pieces k piece → IsPiece piece
  piece_of pieces k piece sized within read = subst IsPiece (sym read) (sized k piece within)

  -- a place in the piece is one of its items
  pub in_piece : (pieces : List (Vec T Global)) (k at : ℕ) (piece : Vec T Global) → piece ≡ get_or pieces k piece → HoldsAt (λ p. at < vec_len p) pieces k → at < length piece.items
  in_piece pieces k at piece read holds =
      let len = piece.ok.0 in
      let low : at < vec_len piece = at_piece (λ p. at < vec_len p) pieces k piece read holds in
      omega arith

  put_in_number : (pieces : List (Vec T Global)) (k at : ℕ) (old new : Vec T Global) (item : T) → k < length pieces → old ≡ get_or pieces k old → at ≤ length old.items → new.items ≡ insert old.items at item → length (items_of (set pieces k new)) ≡ length (items_of pieces) + 1
  put_in_number pieces k at old new item within read place is =
      ap length (items_inserted pieces k at old new item within read place is)
      ∙ length-insert (items_of pieces) (count_before pieces k + at) item (place_among pieces k at old within read place)

  put_in_piece : (at : ℕ) (old new : Vec T Global) (item : T) → IsPiece old → vec_len old < 256 → at ≤ length old.items → new.items ≡ insert old.items at item → vec_capacity old ≤ vec_capacity new → IsPiece new
  put_in_piece at old new item piece not_full place is capacity =
      let longer : length new.items ≡ length old.items + 1 = ap length is ∙ length-insert old.items at item place in
      let new_len = new.ok.0 in
      let old_len = old.ok.0 in
      let old_capacity = piece.capacity in
      record { len = omega arith; capacity = omega arith }

  -- what an insertion into a piece leaves
  pub made_put : (pieces : List (Vec T Global)) (k at : ℕ) (new : Vec T Global) (item : T) {old : Vec T Global} {ok : Bool} → All IsPiece pieces → k < length pieces → old ≡ get_or pieces k old → HoldsAt (λ p. vec_len p < 256) pieces k → HoldsAt (λ p. at ≤ vec_len p) pieces k
      → (vec_len old < vec_capacity old → ok ≡ true) → new.items ≡ cond ok (insert old.items at item) old.items → vec_capacity old ≤ vec_capacity new
      → All IsPiece (set pieces k new) × (items_of (set pieces k new) ≡ insert (items_of pieces) (count_before pieces k + at) item) × (length (items_of (set pieces k new)) ≡ length (items_of pieces) + 1)
  made_put pieces k at new item {old} {ok} sized within read not_full place succeeds made capacity =
      let this = piece_of pieces k old sized within read in
      let room = this.capacity in
      let len = old.ok.0 in
      let few : vec_len old < 256 = at_piece (λ p. vec_len p < 256) pieces k old read not_full in
      let low : at ≤ vec_len old = at_piece (λ p. at ≤ vec_len p) pieces k old read place in
      let here : at ≤ length old.items = omega arith in
      let is : new.items ≡ insert old.items at item = went_well ok new.items (insert old.items at item) old.items (succeeds (omega arith)) made in (
        All-set IsPiece pieces k new (put_in_piece at old new item this few here is capacity) sized,
        items_inserted pieces k at old new item within read here is,
        put_in_number pieces k at old new item within read here is,
      )

  removed_number : (pieces : List (Vec T Global)) (k at : ℕ) (old new : Vec T Global) → k < length pieces → old ≡ get_or pieces k old → at < length old.items → new.items ≡ remove old.items at → length (items_of (set pieces k new)) + 1 ≡ length (items_of pieces)
  removed_number pieces k at old new within read place is =
      ap (λ xs. length xs + 1) (items_removed pieces k at old new within read place is)
      ∙ length-remove (items_of pieces) (count_before pieces k + at) (place_in pieces k at old within read place)

  -- what a removal from a piece leaves
  pub made_taken : (pieces : List (Vec T Global)) (k at : ℕ) (new : Vec T Global) {old : Vec T Global} → All IsPiece pieces → k < length pieces → old ≡ get_or pieces k old → HoldsAt (λ p. at < vec_len p) pieces k → new.items ≡ remove old.items at → vec_capacity new ≡ vec_capacity old
      → All IsPiece (set pieces k new) × (items_of (set pieces k new) ≡ remove (items_of pieces) (count_before pieces k + at)) × (length (items_of (set pieces k new)) + 1 ≡ length (items_of pieces))
  made_taken pieces k at new {old} sized within read place is capacity =
      let this = piece_of pieces k old sized within read in
      let most = this.len in
      let least = this.capacity in
      let old_len = old.ok.0 in
      let new_len = new.ok.0 in
      let here = in_piece pieces k at old read place in
      let shorter : length new.items + 1 ≡ length old.items = ap (λ xs. length xs + 1) is ∙ length-remove old.items at here in (
        All-set IsPiece pieces k new (record { len = omega arith; capacity = omega arith }) sized,
        items_removed pieces k at old new within read here is,
        removed_number pieces k at old new within read here is,
      )

  pub few_of : (pieces : List (Vec T Global)) (k : ℕ) (first second : Vec T Global) → IsTogetherPiece pieces k → first ≡ get_or pieces k first → second ≡ get_or pieces (k + 1) second → vec_len first + vec_len second ≤ 256
  few_of pieces k first second few first_read second_read =
      let with_second = subst (λ (p : Vec T Global). vec_len (get_or pieces k first) + vec_len p ≤ 256) (sym second_read) (few first second) in
      subst (λ (p : Vec T Global). vec_len p + vec_len second ≤ 256) (sym first_read) with_second
