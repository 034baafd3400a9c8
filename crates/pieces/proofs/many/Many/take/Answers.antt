use Rattle.std.proofs.Common.{◌≡◌, ◌+◌, ◌<◌, length, slice_index, ap, sym, ◌∙◌, arith}
use Rattle.std.specs.List.{remove}
use Rattle.pieces.specs.Joined.{items_of, count_before}
use Rattle.pieces.proofs.JoinedLaws.{item_at, place_in}
use Rattle.pieces.proofs.ManyLaws.{in_piece, made_taken}
use Rattle.pieces.proofs.many.Many.take.Goals as goal

pub count_from-requires-clause-fits : goal.count_from-requires-clause-fits
count_from-requires-clause-fits g c =
    let (sized, items, shorter) = made_taken c.args.self.now.pieces.items c.args.k c.args.at c.remove-item.new.self c.requires.whole.sized (omega arith) c.index_mut.ensures.value c.requires.place c.remove-item.ensures.items c.remove-item.ensures.capacity in
    omega (arith, shorter)

pub returns-clause-whole : goal.returns-clause-whole
returns-clause-whole g c =
    let (sized, items, shorter) = made_taken c.args.self.now.pieces.items c.args.k c.args.at c.remove-item.new.self c.requires.whole.sized (omega arith) c.index_mut.ensures.value c.requires.place c.remove-item.ensures.items c.remove-item.ensures.capacity in
    record { counted = c.count_from.ensures.counted; sized = sized; spare = c.requires.whole.spare; fits = omega (arith, shorter) }

pub returns-clause-items : goal.returns-clause-items
returns-clause-items g c =
    let (sized, items, shorter) = made_taken c.args.self.now.pieces.items c.args.k c.args.at c.remove-item.new.self c.requires.whole.sized (omega arith) c.index_mut.ensures.value c.requires.place c.remove-item.ensures.items c.remove-item.ensures.capacity in
    items ∙ ap (λ n. remove (items_of c.args.self.now.pieces.items) (n + c.args.at)) (sym (c.requires.whole.counted.count c.args.k (omega arith)))

pub returns-clause-item : goal.returns-clause-item
returns-clause-item g c =
    let pieces = c.args.self.now.pieces.items in
    let piece = c.index_mut.result.now in
    let within : c.args.k < length pieces = omega arith in
    let read = c.index_mut.ensures.value in
    let place = in_piece pieces c.args.k c.args.at piece read c.requires.place in
    let counted : slice_index c.args.self.now.starts.items c.args.k ≡ count_before pieces c.args.k = c.requires.whole.counted.count c.args.k within in
    let there = place_in pieces c.args.k c.args.at piece within read place in
    item_at pieces c.args.k c.args.at (slice_index c.args.self.now.starts.items c.args.k + c.args.at) piece c.remove-item.result within read place c.remove-item.ensures.value (ap (λ n. n + c.args.at) counted) (omega arith)

pub returns-clause-room : goal.returns-clause-room
returns-clause-room g c room =
    let (sized, items, shorter) = made_taken c.args.self.now.pieces.items c.args.k c.args.at c.remove-item.new.self c.requires.whole.sized (omega arith) c.index_mut.ensures.value c.requires.place c.remove-item.ensures.items c.remove-item.ensures.capacity in
    record { places = room.places; counts = omega (arith, room.counts); spare = room.spare; number = omega (arith, shorter, room.number) }
