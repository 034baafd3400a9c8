use Rattle.std.proofs.Common.{◌+◌, ap, sym, ◌∙◌, arith}
use Rattle.std.specs.List.{insert}
use Rattle.pieces.specs.Joined.{items_of}
use Rattle.pieces.proofs.ManyLaws.{made_put}
use Rattle.pieces.proofs.many.Many.put.Goals as goal

pub count_from-requires-clause-fits : goal.count_from-requires-clause-fits
count_from-requires-clause-fits g c =
    let (sized, items, longer) = made_put c.args.self.now.pieces.items c.args.k c.args.at c.insert.new.self c.args.item c.requires.whole.sized (omega arith) c.index_mut.ensures.value c.requires.not_full c.requires.place
    c.insert.ensures.succeeds c.insert.ensures.items c.insert.ensures.capacity in
    omega (arith, longer)

pub returns-clause-whole : goal.returns-clause-whole
returns-clause-whole g c =
    let (sized, items, longer) = made_put c.args.self.now.pieces.items c.args.k c.args.at c.insert.new.self c.args.item c.requires.whole.sized (omega arith) c.index_mut.ensures.value c.requires.not_full c.requires.place
    c.insert.ensures.succeeds c.insert.ensures.items c.insert.ensures.capacity in
    record { counted = c.count_from.ensures.counted; sized = sized; spare = c.requires.whole.spare; fits = omega (arith, longer) }

pub returns-clause-items : goal.returns-clause-items
returns-clause-items g c =
    let (sized, items, longer) = made_put c.args.self.now.pieces.items c.args.k c.args.at c.insert.new.self c.args.item c.requires.whole.sized (omega arith) c.index_mut.ensures.value c.requires.not_full c.requires.place
    c.insert.ensures.succeeds c.insert.ensures.items c.insert.ensures.capacity in
    items ∙ ap (λ n. insert (items_of c.args.self.now.pieces.items) (n + c.args.at) c.args.item) (sym (c.requires.whole.counted.count c.args.k (omega arith)))
