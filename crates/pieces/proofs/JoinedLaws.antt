-- Laws of pieces joined end to end.
use Rattle.std.proofs.Common.{◌≡◌, ℕ, suc, ◌+◌, ◌-◌, ◌<◌, ◌≤◌, List, [], ◌∷◌, ◌++◌, length, take, drop, get_or, refl, sym, ap, subst, ◌∙◌, set, slice_get, slice_index, Some, inl, inr, arith, add-one, length-append}
use Rattle.std.specs.List.{insert, remove}
use Rattle.std.specs.Vec.{vec_len}
use Rattle.std.specs.declared.vec.Vec.{Vec}
use Rattle.std.specs.declared.alloc.Global.{Global}
use Rattle.std.proofs.lemmas.List.{take_more, append-nil, take-append-drop, drop_more, set_split, take-set-le, take-append-le, take-take, length-take-le, take_all}
use Rattle.std.proofs.lemmas.Bool.{cases_lt}
use Rattle.std.proofs.lemmas.List.Edits.{insert-append_left, insert-append_right, remove-append_left, remove-append_right}
use Rattle.std.proofs.lemmas.Option.{slice_get_read}
use Rattle.std.proofs.lemmas.List.Concat.{flat_map-append, get_or-flat_map}
use Rattle.pieces.specs.Joined.{items_of, count_before, IsCounted}

module _ {T : Type 0} where
  pub items_of-append : (xs ys : List (Vec T Global)) → items_of (xs ++ ys) ≡ items_of xs ++ items_of ys
  items_of-append xs ys = flat_map-append (λ (piece : Vec T Global). piece.items) xs ys

  -- ---- how many items stand before a piece

  pub count_more : (pieces : List (Vec T Global)) (k : ℕ) (d : Vec T Global) → k < length pieces → count_before pieces (k + 1) ≡ count_before pieces k + length (get_or pieces k d).items
  count_more pieces k d within =
      let piece = get_or pieces k d in
      ap (λ ps. length (items_of ps)) (take_more pieces k d within)
      ∙ ap length (items_of-append (take k pieces) (piece ∷ []))
      ∙ length-append (items_of (take k pieces)) (piece.items ++ [])
      ∙ ap (λ xs. count_before pieces k + length xs) (append-nil piece.items)

  pub count_rest : (pieces : List (Vec T Global)) (k : ℕ) → count_before pieces k + length (items_of (drop k pieces)) ≡ length (items_of pieces)
  count_rest pieces k =
      sym (length-append (items_of (take k pieces)) (items_of (drop k pieces)))
      ∙ ap length (sym (items_of-append (take k pieces) (drop k pieces)))
      ∙ ap (λ ps. length (items_of ps)) (take-append-drop k pieces)

  pub count_within : (pieces : List (Vec T Global)) (k : ℕ) → count_before pieces k ≤ length (items_of pieces)
  count_within pieces k = omega (arith, count_rest pieces k)

  -- by the piece before, as it was read
  pub next_count : (pieces : List (Vec T Global)) (k : ℕ) (piece : Vec T Global) → 0 < k → k < length pieces → piece ≡ get_or pieces (k - 1) piece → count_before pieces k ≡ count_before pieces (k - 1) + vec_len piece
  next_count pieces k piece positive within read =
      let same : k - 1 + 1 ≡ k = omega arith in
      let before : k - 1 < length pieces = omega arith in
      sym (ap (count_before pieces) same)
      ∙ count_more pieces (k - 1) piece before
      ∙ ap (λ (p : Vec T Global). count_before pieces (k - 1) + length p.items) (sym read)
      ∙ ap (λ n. count_before pieces (k - 1) + n) (sym piece.ok.0)

  -- ---- one item

  pub item_at : (pieces : List (Vec T Global)) (k at place : ℕ) (piece : Vec T Global) (item : T) → k < length pieces → piece ≡ get_or pieces k piece → at < length piece.items → item ≡ get_or piece.items at item → place ≡ count_before pieces k + at → place < length (items_of pieces) → slice_get (items_of pieces) place ≡ Some item
  item_at pieces k at place piece item within read at_within item_read place_is place_within =
      let there : at < length (get_or pieces k piece).items = subst (λ (p : Vec T Global). at < length p.items) read at_within in
      let found = get_or-flat_map (λ (p : Vec T Global). p.items) pieces k at piece item within there in
      slice_get_read (items_of pieces) (length (items_of pieces)) place item refl place_within
      (item_read ∙ ap (λ (p : Vec T Global). get_or p.items at item) read ∙ sym found ∙ ap (λ n. get_or (items_of pieces) n item) (sym place_is))

  -- ---- a piece among the others

  pub items_around : (pieces : List (Vec T Global)) (k : ℕ) (d : Vec T Global) → k < length pieces → items_of pieces ≡ items_of (take k pieces) ++ ((get_or pieces k d).items ++ items_of (drop (k + 1) pieces))
  items_around pieces k d within =
      ap items_of (sym (take-append-drop k pieces))
      ∙ items_of-append (take k pieces) (drop k pieces)
      ∙ ap (λ ps. items_of (take k pieces) ++ items_of ps) (drop_more pieces k d within)

  pub items_of-set : (pieces : List (Vec T Global)) (k : ℕ) (piece : Vec T Global) → k < length pieces → items_of (set pieces k piece) ≡ items_of (take k pieces) ++ (piece.items ++ items_of (drop (k + 1) pieces))
  items_of-set pieces k piece within =
      ap items_of (set_split pieces k piece within)
      ∙ items_of-append (take k pieces) (piece ∷ drop (suc k) pieces)
      ∙ ap (λ n. items_of (take k pieces) ++ (piece.items ++ items_of (drop n pieces))) (sym (add-one k))

  pub items_of-insert : (pieces : List (Vec T Global)) (k : ℕ) (piece : Vec T Global) → items_of (insert pieces k piece) ≡ items_of (take k pieces) ++ (piece.items ++ items_of (drop k pieces))
  items_of-insert pieces k piece = items_of-append (take k pieces) (piece ∷ drop k pieces)

  -- an item put into a piece is put among all
  pub items_inserted : (pieces : List (Vec T Global)) (k at : ℕ) (old new : Vec T Global) (item : T) → k < length pieces → old ≡ get_or pieces k old → at ≤ length old.items → new.items ≡ insert old.items at item → items_of (set pieces k new) ≡ insert (items_of pieces) (count_before pieces k + at) item
  items_inserted pieces k at old new item within read place is =
      let front = items_of (take k pieces) in
      let back = items_of (drop (k + 1) pieces) in
      let n = count_before pieces k in
      let back_again : n + at - n ≡ at = omega arith in
      let among : items_of pieces ≡ front ++ (old.items ++ back) = items_around pieces k old within ∙ ap (λ (p : Vec T Global). front ++ (p.items ++ back)) (sym read) in
      items_of-set pieces k new within
      ∙ ap (λ xs. front ++ (xs ++ back)) is
      ∙ ap (λ xs. front ++ xs) (sym (insert-append_left old.items back at item place))
      ∙ ap (λ i. front ++ insert (old.items ++ back) i item) (sym back_again)
      ∙ sym (insert-append_right front (old.items ++ back) n (n + at) item refl (omega arith))
      ∙ ap (λ xs. insert xs (n + at) item) (sym among)

  -- and one taken out of it is taken out of all
  pub items_removed : (pieces : List (Vec T Global)) (k at : ℕ) (old new : Vec T Global) → k < length pieces → old ≡ get_or pieces k old → at < length old.items → new.items ≡ remove old.items at → items_of (set pieces k new) ≡ remove (items_of pieces) (count_before pieces k + at)
  items_removed pieces k at old new within read place is =
      let front = items_of (take k pieces) in
      let back = items_of (drop (k + 1) pieces) in
      let n = count_before pieces k in
      let back_again : n + at - n ≡ at = omega arith in
      let among : items_of pieces ≡ front ++ (old.items ++ back) = items_around pieces k old within ∙ ap (λ (p : Vec T Global). front ++ (p.items ++ back)) (sym read) in
      items_of-set pieces k new within
      ∙ ap (λ xs. front ++ (xs ++ back)) is
      ∙ ap (λ xs. front ++ xs) (sym (remove-append_left old.items back at place))
      ∙ ap (λ i. front ++ remove (old.items ++ back) i) (sym back_again)
      ∙ sym (remove-append_right front (old.items ++ back) n (n + at) refl (omega arith))
      ∙ ap (λ xs. remove xs (n + at)) (sym among)

  -- the pieces before another one stay as they are
  pub count_before-set : (pieces : List (Vec T Global)) (k j : ℕ) (piece : Vec T Global) → j ≤ k → count_before (set pieces k piece) j ≡ count_before pieces j
  count_before-set pieces k j piece before = ap (λ ps. length (items_of ps)) (take-set-le j pieces k piece before)

  pub count_before-insert : (pieces : List (Vec T Global)) (k j : ℕ) (piece : Vec T Global) → j ≤ k → k ≤ length pieces → count_before (insert pieces k piece) j ≡ count_before pieces j
  count_before-insert pieces k j piece before within =
      let long : length (take k pieces) ≡ k = length-take-le k pieces within in
      ap (λ ps. length (items_of ps))
      (take-append-le j (take k pieces) (piece ∷ drop k pieces) (omega arith) ∙ take-take j k pieces before)

  -- ---- places

  pub count_all : (pieces : List (Vec T Global)) (k : ℕ) → length pieces ≤ k → count_before pieces k ≡ length (items_of pieces)
  count_all pieces k past = ap (λ ps. length (items_of ps)) (take_all k pieces past)

  -- what stands before the next piece, or among all, stands before the end of this one
  pub before_end : (pieces : List (Vec T Global)) (starts : List ℕ) (k n : ℕ) (piece : Vec T Global) → IsCounted pieces starts → k < length pieces → piece ≡ get_or pieces k piece → (k + 1 < length starts → n ≤ slice_index starts (k + 1)) → n ≤ length (items_of pieces) → n ≤ count_before pieces k + vec_len piece
  before_end pieces starts k n piece counted within read next all =
      let len = counted.len in
      let more : count_before pieces (k + 1) ≡ count_before pieces k + vec_len piece =
      count_more pieces k piece within
      ∙ ap (λ (p : Vec T Global). count_before pieces k + length p.items) (sym read)
      ∙ ap (λ m. count_before pieces k + m) (sym piece.ok.0) in
      elim (cases_lt (k + 1) (length pieces)) [
        | inl lt ↦
            let start : slice_index starts (k + 1) ≡ count_before pieces (k + 1) = counted.count (k + 1) lt in
            let below : n ≤ slice_index starts (k + 1) = next (omega arith) in
            omega arith
        | inr ge ↦
            let last = count_all pieces (k + 1) ge in
            omega arith
      ]

  -- a place in a piece is a place among all
  pub place_among : (pieces : List (Vec T Global)) (k at : ℕ) (piece : Vec T Global) → k < length pieces → piece ≡ get_or pieces k piece → at ≤ length piece.items → count_before pieces k + at ≤ length (items_of pieces)
  place_among pieces k at piece within read place =
      let more = count_more pieces k piece within in
      let same : length (get_or pieces k piece).items ≡ length piece.items = ap (λ (p : Vec T Global). length p.items) (sym read) in
      let all = count_within pieces (k + 1) in
      omega arith

  pub place_in : (pieces : List (Vec T Global)) (k at : ℕ) (piece : Vec T Global) → k < length pieces → piece ≡ get_or pieces k piece → at < length piece.items → count_before pieces k + at < length (items_of pieces)
  place_in pieces k at piece within read place =
      let more = count_more pieces k piece within in
      let same : length (get_or pieces k piece).items ≡ length piece.items = ap (λ (p : Vec T Global). length p.items) (sym read) in
      let all = count_within pieces (k + 1) in
      omega arith
