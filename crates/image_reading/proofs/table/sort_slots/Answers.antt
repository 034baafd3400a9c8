use Rattle.std.proofs.Common.{ap, rules, of_calls, is_lt}
use Rattle.std.proofs.lemmas.Fn.{always_returns_same}
use Rattle.image_reading.specs.Scan.{slot_cmp}
use Rattle.image_reading.proofs.NameOrder.{slot_weak, sorted_slots}
use Rattle.image_reading.proofs.table.sort_slots.Goals as goal

pub returns : goal.returns
returns c =
    let image = c.args.image.now in
    let P = image.geometry.pages in
    let I = image.words.now in
    sorted_slots P I c.args.slots.now c.requires c.sort_unstable_by.new.self c.sort_unstable_by.ensures.permutation
    (c.sort_unstable_by.ensures.sorted (λ x y. is_lt (slot_cmp P I x y)) (slot_weak P I) (always_returns_same _ _ _ (λ a r f k. (ap is_lt (search (rules, of_calls)), search (rules, of_calls)))))
