-- A piece in two, and two in one.
use Rattle.std.proofs.Common.{◌≡◌, ℕ, suc, ◌+◌, ◌-◌, ◌<◌, ◌≤◌, Bool, true, cond, List, [], ◌∷◌, ◌++◌, length, take, drop, get_or, set, slice_index, All, vec_len, vec_capacity, sym, ap, ◌∙◌, arith, add-one, append_assoc, length-append, length-set, get_or-set_same}
use Rattle.std.specs.List.{insert, remove}
use Rattle.std.specs.declared.vec.Vec.{Vec}
use Rattle.std.specs.declared.alloc.Global.{Global}
use Rattle.std.proofs.lemmas.List.{append-nil, take-append-drop, take_more_set, drop-set-lt, length-take-le, get_or_append_left, get_or-take, take-append-le, take-take, drop_at, drop_more}
use Rattle.std.proofs.lemmas.List.Edits.{get_or-remove_below, length-remove}
use Rattle.std.proofs.lemmas.List.Elements.{All-append, All-cons, All-take, All-drop, All-set, All-same}
use Rattle.pieces.specs.Joined.{items_of, count_before, IsCounted, IsPiece, IsTogetherPiece}
use Rattle.pieces.proofs.ManyLaws.{went_well, piece_of, few_of}
use Rattle.pieces.proofs.JoinedLaws.{items_of-append, items_of-insert, items_of-set, items_around, count_more, count_before-set, count_before-insert}

pub All-insert : {X : Type 0} (P : X → Type 0) (xs : List X) (i : ℕ) (x : X) → P x → All P xs → All P (insert xs i x)
All-insert P xs i x this others = All-append P (take i xs) (x ∷ drop i xs) (All-take P i xs others) (All-cons P x (drop i xs) this (All-drop P i xs others))

module _ {T : Type 0} where
  -- the pieces where the piece k has become two
  abbrev pub halved : List (Vec T Global) → ℕ → Vec T Global → Vec T Global → List (Vec T Global)
  halved pieces k lower upper = insert (set pieces k lower) (k + 1) upper

  pub items_halved : (pieces : List (Vec T Global)) (k cut : ℕ) (old lower upper : Vec T Global) → k < length pieces → old ≡ get_or pieces k old → lower.items ≡ take cut old.items → upper.items ≡ drop cut old.items → items_of (halved pieces k lower upper) ≡ items_of pieces
  items_halved pieces k cut old lower upper within read lower_is upper_is =
      let front = items_of (take k pieces) in
      let back = items_of (drop (k + 1) pieces) in
      let first : items_of (take (k + 1) (set pieces k lower)) ≡ front ++ lower.items =
      ap items_of (take_more_set pieces k lower within) ∙ items_of-append (take k pieces) (lower ∷ []) ∙ ap (λ xs. front ++ xs) (append-nil lower.items) in
      let last : items_of (drop (k + 1) (set pieces k lower)) ≡ back = ap items_of (drop-set-lt (k + 1) pieces k lower (omega arith)) in
      let together : lower.items ++ upper.items ≡ old.items =
      ap (λ xs. xs ++ upper.items) lower_is ∙ ap (λ xs. take cut old.items ++ xs) upper_is ∙ take-append-drop cut old.items in
      items_of-insert (set pieces k lower) (k + 1) upper
      ∙ ap (λ xs. xs ++ (upper.items ++ items_of (drop (k + 1) (set pieces k lower)))) first
      ∙ ap (λ xs. (front ++ lower.items) ++ (upper.items ++ xs)) last
      ∙ append_assoc front lower.items (upper.items ++ back)
      ∙ ap (λ xs. front ++ xs) (sym (append_assoc lower.items upper.items back))
      ∙ ap (λ xs. front ++ (xs ++ back)) together
      ∙ ap (λ (p : Vec T Global). front ++ (p.items ++ back)) read
      ∙ sym (items_around pieces k old within)

  -- so with the pieces that an insertion left, where it went well
  pub made_halved : (pieces new : List (Vec T Global)) (k cut : ℕ) (old lower upper : Vec T Global) (ok : Bool) → k < length pieces → old ≡ get_or pieces k old → lower.items ≡ take cut old.items → upper.items ≡ drop cut old.items
      → ok ≡ true → new ≡ cond ok (halved pieces k lower upper) (set pieces k lower) → (new ≡ halved pieces k lower upper) × (items_of new ≡ items_of pieces)
  made_halved pieces new k cut old lower upper ok within read lower_is upper_is well is =
      let all : new ≡ halved pieces k lower upper = went_well ok new (halved pieces k lower upper) (set pieces k lower) well is in
      (all, ap items_of all ∙ items_halved pieces k cut old lower upper within read lower_is upper_is)

  pub count_halved : (pieces : List (Vec T Global)) (k j : ℕ) (lower upper : Vec T Global) → k < length pieces → j ≤ k → count_before (halved pieces k lower upper) j ≡ count_before pieces j
  count_halved pieces k j lower upper within before =
      let same = length-set pieces k lower in
      count_before-insert (set pieces k lower) (k + 1) j upper (omega arith) (omega arith) ∙ count_before-set pieces k j lower before

  pub count_upper : (pieces : List (Vec T Global)) (k cut : ℕ) (old lower upper : Vec T Global) → k < length pieces → lower.items ≡ take cut old.items → cut ≤ length old.items → count_before (halved pieces k lower upper) (k + 1) ≡ count_before pieces k + cut
  count_upper pieces k cut old lower upper within lower_is cut_within =
      let same = length-set pieces k lower in
      let there : k < length (set pieces k lower) = omega arith in
      count_before-insert (set pieces k lower) (k + 1) (k + 1) upper (omega arith) (omega arith)
      ∙ count_more (set pieces k lower) k lower there
      ∙ ap (λ n. n + length (get_or (set pieces k lower) k lower).items) (count_before-set pieces k k lower (omega arith))
      ∙ ap (λ (p : Vec T Global). count_before pieces k + length p.items) (get_or-set_same pieces k lower lower within)
      ∙ ap (λ n. count_before pieces k + n) (ap length lower_is ∙ length-take-le cut old.items cut_within)

  -- with a count more at the end, the counts up to the piece k are those of the pieces
  pub counted_halved : (pieces : List (Vec T Global)) (starts : List ℕ) (k : ℕ) (lower upper : Vec T Global) → IsCounted pieces starts → k < length pieces → (j : ℕ) → j < k + 1 → slice_index (starts ++ 0 ∷ []) j ≡ count_before (halved pieces k lower upper) j
  counted_halved pieces starts k lower upper counted within j lt =
      let len = counted.len in
      get_or_append_left starts (0 ∷ []) 0 j (omega arith)
      ∙ counted.count j (omega arith)
      ∙ sym (count_halved pieces k j lower upper within (omega arith))

  -- ---- two in one

  front_stays : (pieces : List (Vec T Global)) (k j : ℕ) → k + 1 < length pieces → j ≤ k + 1 → take j (remove pieces (k + 1)) ≡ take j pieces
  front_stays pieces k j within before =
      let long : length (take (k + 1) pieces) ≡ k + 1 = length-take-le (k + 1) pieces (omega arith) in
      take-append-le j (take (k + 1) pieces) (drop (suc (k + 1)) pieces) (omega arith) ∙ take-take j (k + 1) pieces before

  back_stays : (pieces : List (Vec T Global)) (k : ℕ) → k + 1 < length pieces → drop (k + 1) (remove pieces (k + 1)) ≡ drop (k + 1 + 1) pieces
  back_stays pieces k within =
      drop_at (take (k + 1) pieces) (drop (suc (k + 1)) pieces) (k + 1) (length-take-le (k + 1) pieces (omega arith))
      ∙ ap (λ n. drop n pieces) (sym (add-one (k + 1)))

  first_read : (pieces rest : List (Vec T Global)) (k : ℕ) (first : Vec T Global) → rest ≡ remove pieces (k + 1) → k + 1 < length pieces → first ≡ get_or rest k first → first ≡ get_or pieces k first
  first_read pieces rest k first is within read =
      read ∙ ap (λ ps. get_or ps k first) is ∙ get_or-remove_below pieces (k + 1) first k (omega arith) within

  items_joined : (pieces rest : List (Vec T Global)) (k : ℕ) (first second new : Vec T Global) → rest ≡ remove pieces (k + 1) → k + 1 < length pieces → first ≡ get_or rest k first → second ≡ get_or pieces (k + 1) second → new.items ≡ first.items ++ second.items → items_of (set rest k new) ≡ items_of pieces
  items_joined pieces rest k first second new is within read second_read new_is =
      let front = items_of (take k pieces) in
      let back = items_of (drop (k + 1 + 1) pieces) in
      let shorter = length-remove pieces (k + 1) within in
      let there : k < length (remove pieces (k + 1)) = omega arith in
      let behind : items_of (drop (k + 1) pieces) ≡ second.items ++ back =
      ap items_of (drop_more pieces (k + 1) second within) ∙ ap (λ (p : Vec T Global). p.items ++ back) (sym second_read) in
      ap (λ ps. items_of (set ps k new)) is
      ∙ items_of-set (remove pieces (k + 1)) k new there
      ∙ ap (λ ps. items_of ps ++ (new.items ++ items_of (drop (k + 1) (remove pieces (k + 1))))) (front_stays pieces k k within (omega arith))
      ∙ ap (λ ps. front ++ (new.items ++ items_of ps)) (back_stays pieces k within)
      ∙ ap (λ xs. front ++ (xs ++ back)) new_is
      ∙ ap (λ xs. front ++ xs) (append_assoc first.items second.items back)
      ∙ ap (λ xs. front ++ (first.items ++ xs)) (sym behind)
      ∙ ap (λ (p : Vec T Global). front ++ (p.items ++ items_of (drop (k + 1) pieces))) (first_read pieces rest k first is within read)
      ∙ sym (items_around pieces k first (omega arith))

  pub count_joined : (pieces rest : List (Vec T Global)) (k j : ℕ) (new : Vec T Global) → rest ≡ remove pieces (k + 1) → k + 1 < length pieces → j ≤ k → count_before (set rest k new) j ≡ count_before pieces j
  count_joined pieces rest k j new is within before =
      count_before-set rest k j new before
      ∙ ap (λ ps. count_before ps j) is
      ∙ ap (λ ps. length (items_of ps)) (front_stays pieces k j within (omega arith))

  pub counted_joined : (pieces rest : List (Vec T Global)) (starts : List ℕ) (k : ℕ) (new : Vec T Global) → IsCounted pieces starts → rest ≡ remove pieces (k + 1) → k + 1 < length pieces → (j : ℕ) → j < k + 1 → slice_index (take (length starts - 1) starts) j ≡ count_before (set rest k new) j
  counted_joined pieces rest starts k new counted is within j lt =
      let len = counted.len in
      get_or-take (length starts - 1) starts j 0 (omega arith)
      ∙ counted.count j (omega arith)
      ∙ sym (count_joined pieces rest k j new is within (omega arith))

  sized_joined : (pieces rest : List (Vec T Global)) (k : ℕ) (new : Vec T Global) → rest ≡ remove pieces (k + 1) → IsPiece new → All IsPiece pieces → All IsPiece (set rest k new)
  sized_joined pieces rest k new is this sized =
      All-set IsPiece rest k new this
      (All-same IsPiece rest (remove pieces (k + 1)) is
      (All-append IsPiece (take (k + 1) pieces) (drop (suc (k + 1)) pieces) (All-take IsPiece (k + 1) pieces sized) (All-drop IsPiece (suc (k + 1)) pieces sized)))

  -- what an appending to a piece leaves
  pub made_joined : (pieces : List (Vec T Global)) (k : ℕ) (new : Vec T Global) {rest : List (Vec T Global)} {first second : Vec T Global} {ok : Bool} → All IsPiece pieces → IsTogetherPiece pieces k → k + 1 < length pieces → rest ≡ remove pieces (k + 1) → first ≡ get_or rest k first → second ≡ get_or pieces (k + 1) second
      → (vec_len first + vec_len second ≤ vec_capacity first → ok ≡ true) → new.items ≡ cond ok (first.items ++ second.items) first.items → vec_capacity first ≤ vec_capacity new → All IsPiece (set rest k new) × (items_of (set rest k new) ≡ items_of pieces)
  made_joined pieces k new {rest} {first} {second} {ok} sized few within rest_is read second_read succeeds made capacity =
      let here = first_read pieces rest k first rest_is within read in
      let together = few_of pieces k first second few here second_read in
      let least = (piece_of pieces k first sized (omega arith) here).capacity in
      let is : new.items ≡ first.items ++ second.items = went_well ok new.items (first.items ++ second.items) first.items (succeeds (omega arith)) made in
      let new_len = new.ok.0 in
      let first_len = first.ok.0 in
      let second_len = second.ok.0 in
      let this : IsPiece new = record { len = omega (arith, ap length is, length-append first.items second.items); capacity = omega arith } in
      (sized_joined pieces rest k new rest_is this sized, items_joined pieces rest k first second new rest_is within read second_read is)
