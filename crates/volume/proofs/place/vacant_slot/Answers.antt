use Rattle.std.proofs.Common.{sym, ◌∙◌, arith}
use Rattle.layout.specs.Geometry.{page_of_slot}
use Rattle.layout.proofs.GeometryLaws.{data_pages_below, slot_below}
use Rattle.volume.proofs.Places.{page_is, slots_of_page, contains_one, in_one}
use Rattle.volume.proofs.place.vacant_slot.Goals as goal

pub overflow_mul-first : goal.overflow_mul-first
overflow_mul-first c =
    let geometry = c.args.geometry.now in
    let below = data_pages_below geometry.pages geometry.volume_size in
    omega (arith, below, geometry.data_pages_exact, geometry.volume_size, c.requires.page)

pub overflow_add-slot-end : goal.overflow_add-slot-end
overflow_add-slot-end c =
    let geometry = c.args.geometry.now in
    let below = data_pages_below geometry.pages geometry.volume_size in
    omega (arith, below, geometry.data_pages_exact, geometry.volume_size, c.requires.page)

pub slot_at-requires-clause-slot_in_range : goal.slot_at-requires-clause-slot_in_range
slot_at-requires-clause-slot_in_range c =
    let geometry = c.args.geometry.now in
    let page = page_is c.args.page c.loop-slot.slot c.loop-slot.auto.slot c.loop-slot-test.true in
    slot_below geometry.pages c.loop-slot.slot (omega (arith, page, geometry.data_pages_exact, c.requires.page))

pub returns-then-slot_at-eq0 : goal.returns-then-slot_at-eq0
returns-then-slot_at-eq0 c =
    let page = page_is c.args.page c.loop-slot.slot c.loop-slot.auto.slot c.loop-slot-test.true in (
      (contains_one c.args.page (page_of_slot c.loop-slot.slot) page, sym c.slot_at.ensures.inode ∙ c.if-slot_at-eq0.true),
      (λ other lt vacant.
          let bounds = slots_of_page c.args.page other (in_one c.args.page (page_of_slot other) vacant.0) in
          c.loop-slot.invariant other bounds.0 lt vacant.1),
    )

pub returns : goal.returns
returns c = λ other vacant.
    let bounds = slots_of_page c.args.page other (in_one c.args.page (page_of_slot other) vacant.0) in
    c.loop-slot.invariant other bounds.0 (omega (arith, bounds, c.loop-slot-test.false)) vacant.1
