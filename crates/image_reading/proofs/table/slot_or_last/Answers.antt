use Rattle.std.proofs.Common.{arith}
use Rattle.image_reading.proofs.ReachedTable.{some_slots}
use Rattle.image_reading.proofs.table.slot_or_last.Goals as goal

pub overflow_sub-result : goal.overflow_sub-result
overflow_sub-result c =
    let g = c.args.image.now.geometry in
    let some = some_slots g.pages g.volume_size in
    omega (arith, some, c.slots-slots.ensures)

pub returns-else-slot-slots-clause-in_range : goal.returns-else-slot-slots-clause-in_range
returns-else-slot-slots-clause-in_range c =
    let g = c.args.image.now.geometry in
    let some = some_slots g.pages g.volume_size in
    omega (arith, some, c.slots-slots.ensures)
