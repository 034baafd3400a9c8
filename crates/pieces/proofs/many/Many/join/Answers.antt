use Rattle.std.proofs.Common.{◌+◌, ◌-◌, ◌<◌, length, take, slice_index, ap, ◌∙◌, arith}
use Rattle.pieces.specs.Joined.{items_of}
use Rattle.pieces.proofs.SplitLaws.{made_joined, counted_joined}
use Rattle.pieces.proofs.many.Many.join.Goals as goal

pub count_from-requires-clause-fits : goal.count_from-requires-clause-fits
count_from-requires-clause-fits g c =
    let (sized, same) = made_joined c.args.self.now.pieces.items c.args.k c.append.new.self c.requires.whole.sized c.requires.few (omega arith) c.remove-upper.ensures.items c.index_mut.ensures.value c.remove-upper.ensures.value
    c.append.ensures.succeeds c.append.ensures.items c.append.ensures.capacity in
    omega (arith, ap length same)

pub count_from-requires-clause-before : goal.count_from-requires-clause-before
count_from-requires-clause-before g c =
    let pieces = c.args.self.now.pieces.items in
    let starts = c.args.self.now.starts in
    let within : c.args.k + 1 < length pieces = omega arith in
    λ j lt in_new.
    ap (λ counts. slice_index counts j) c.pop.ensures.rest
    ∙ ap (λ n. slice_index (take (n - 1) starts.items) j) starts.ok.0
    ∙ counted_joined pieces c.remove-upper.new.self.items starts.items c.args.k c.append.new.self c.requires.whole.counted c.remove-upper.ensures.items within j lt

pub keep-requires-clause-whole : goal.keep-requires-clause-whole
keep-requires-clause-whole g c =
    let (sized, same) = made_joined c.args.self.now.pieces.items c.args.k c.append.new.self c.requires.whole.sized c.requires.few (omega arith) c.remove-upper.ensures.items c.index_mut.ensures.value c.remove-upper.ensures.value
    c.append.ensures.succeeds c.append.ensures.items c.append.ensures.capacity in
    record { counted = c.count_from.ensures.counted; sized = sized; spare = c.requires.whole.spare; fits = omega (arith, ap length same) }

pub returns-clause-items : goal.returns-clause-items
returns-clause-items g c =
    let (sized, same) = made_joined c.args.self.now.pieces.items c.args.k c.append.new.self c.requires.whole.sized c.requires.few (omega arith) c.remove-upper.ensures.items c.index_mut.ensures.value c.remove-upper.ensures.value
    c.append.ensures.succeeds c.append.ensures.items c.append.ensures.capacity in
    ap (λ v. items_of v.items) c.keep.ensures.pieces ∙ same

pub returns-clause-room : goal.returns-clause-room
returns-clause-room g c room =
    let (sized, same) = made_joined c.args.self.now.pieces.items c.args.k c.append.new.self c.requires.whole.sized c.requires.few (omega arith) c.remove-upper.ensures.items c.index_mut.ensures.value c.remove-upper.ensures.value
    c.append.ensures.succeeds c.append.ensures.items c.append.ensures.capacity in
    c.keep.ensures.room (record { places = omega (arith, room.places); counts = omega (arith, room.counts); spare = room.spare; number = omega (arith, ap length same, room.number) })
