use Rattle.std.proofs.Common.{rules, ◌≡◌, ◌+◌, ◌<◌, ◌≤◌, is_ok, length, set, slice_index, vec_len, vec_capacity, ap, sym, ◌∙◌, arith}
use Rattle.std.proofs.lemmas.List.Elements.{All-set, All-same}
use Rattle.std.proofs.lemmas.List.{length-drop, length-take-le}
use Rattle.pieces.specs.Joined.{count_before, IsPiece}
use Rattle.pieces.proofs.ManyLaws.{at_piece, piece_of}
use Rattle.pieces.proofs.SplitLaws.{All-insert, halved, made_halved, count_upper, counted_halved}
use Rattle.pieces.proofs.many.Many.split.Goals as goal

pub count_from-requires-clause-fits : goal.count_from-requires-clause-fits
count_from-requires-clause-fits g c =
    let pieces = c.args.self.now.pieces.items in
    let within : c.args.k < length pieces = omega arith in
    let (is, same) = made_halved pieces c.insert.new.self.items c.args.k c.args.cut c.index_mut.result.now c.move_upper.new.piece c.move_upper.new.upper (is_ok c.insert.result) within c.index_mut.ensures.value
    c.move_upper.ensures.lower c.move_upper.ensures.upper (c.insert.ensures.succeeds (omega (arith, c.requires.room.places))) c.insert.ensures.items in
    omega (arith, ap length same)

pub count_from-requires-clause-before : goal.count_from-requires-clause-before
count_from-requires-clause-before g c =
    let pieces = c.args.self.now.pieces.items in
    let within : c.args.k < length pieces = omega arith in
    let (is, same) = made_halved pieces c.insert.new.self.items c.args.k c.args.cut c.index_mut.result.now c.move_upper.new.piece c.move_upper.new.upper (is_ok c.insert.result) within c.index_mut.ensures.value
    c.move_upper.ensures.lower c.move_upper.ensures.upper (c.insert.ensures.succeeds (omega (arith, c.requires.room.places))) c.insert.ensures.items in
    λ j lt in_new.
    ap (λ counts. slice_index counts j) c.push_reserved.ensures.items
    ∙ counted_halved pieces c.args.self.now.starts.items c.args.k c.move_upper.new.piece c.move_upper.new.upper c.requires.whole.counted within j lt
    ∙ ap (λ ps. count_before ps j) (sym is)

pub returns-clause-whole : goal.returns-clause-whole
returns-clause-whole g c =
    let pieces = c.args.self.now.pieces.items in
    let piece = c.index_mut.result.now in
    let lower = c.move_upper.new.piece in
    let upper = c.move_upper.new.upper in
    let within : c.args.k < length pieces = omega arith in
    let read = c.index_mut.ensures.value in
    let (is, same) = made_halved pieces c.insert.new.self.items c.args.k c.args.cut piece lower upper (is_ok c.insert.result) within read
    c.move_upper.ensures.lower c.move_upper.ensures.upper (c.insert.ensures.succeeds (omega (arith, c.requires.room.places))) c.insert.ensures.items in
    let sized = piece_of pieces c.args.k piece c.requires.whole.sized within read in
    let full : vec_len piece ≡ 256 = at_piece (λ p. vec_len p ≡ 256) pieces c.args.k piece read c.requires.full in
    let len = piece.ok.0 in
    let lower_len : length lower.items ≤ 256 = omega (arith, ap length c.move_upper.ensures.lower, length-take-le c.args.cut piece.items (omega (arith, c.requires.cut))) in
    let upper_len : length upper.items ≤ 256 = omega (arith, ap length c.move_upper.ensures.upper, length-drop c.args.cut piece.items) in
    let lower_ok = lower.ok.0 in
    let upper_ok = upper.ok.0 in
    let capacity = sized.capacity in
    let memory = c.requires.room.spare in
    let first : IsPiece lower = record { len = omega arith; capacity = omega arith } in
    let second : IsPiece upper = record { len = omega arith; capacity = omega (arith, c.move_upper.ensures.upper_capacity, ap (λ p. vec_capacity p) c.replace-upper.ensures.value) } in
    record {
      counted = c.count_from.ensures.counted;
      sized = All-same IsPiece c.insert.new.self.items (halved pieces c.args.k lower upper) is (All-insert IsPiece (set pieces c.args.k lower) (c.args.k + 1) upper second (All-set IsPiece pieces c.args.k lower first c.requires.whole.sized));
      spare = ap (λ p. p.items) c.replace-upper.ensures.after ∙ c.new.ensures.items;
      fits = omega (arith, ap length same);
    }

pub returns-clause-items : goal.returns-clause-items
returns-clause-items g c =
    let pieces = c.args.self.now.pieces.items in
    (made_halved pieces c.insert.new.self.items c.args.k c.args.cut c.index_mut.result.now c.move_upper.new.piece c.move_upper.new.upper (is_ok c.insert.result) (omega arith) c.index_mut.ensures.value
    c.move_upper.ensures.lower c.move_upper.ensures.upper (c.insert.ensures.succeeds (omega (arith, c.requires.room.places))) c.insert.ensures.items).1

pub returns-clause-next : goal.returns-clause-next
returns-clause-next g c =
    let pieces = c.args.self.now.pieces.items in
    let piece = c.index_mut.result.now in
    let lower = c.move_upper.new.piece in
    let upper = c.move_upper.new.upper in
    let within : c.args.k < length pieces = omega arith in
    let read = c.index_mut.ensures.value in
    let full : vec_len piece ≡ 256 = at_piece (λ p. vec_len p ≡ 256) pieces c.args.k piece read c.requires.full in
    let len = piece.ok.0 in
    let (is, same) = made_halved pieces c.insert.new.self.items c.args.k c.args.cut piece lower upper (is_ok c.insert.result) within read
    c.move_upper.ensures.lower c.move_upper.ensures.upper (c.insert.ensures.succeeds (omega (arith, c.requires.room.places))) c.insert.ensures.items in
    let counted = c.requires.whole.counted.count c.args.k within in
    let longer : length c.insert.new.self.items ≡ length pieces + 1 = search rules in
    c.count_from.ensures.counted.count (c.args.k + 1) (omega arith)
    ∙ ap (λ ps. count_before ps (c.args.k + 1)) is
    ∙ count_upper pieces c.args.k c.args.cut piece lower upper within c.move_upper.ensures.lower (omega (arith, c.requires.cut))
    ∙ ap (λ n. n + c.args.cut) (sym counted)
