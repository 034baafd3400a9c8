use Rattle.std.proofs.Common.{sym, ◌∙◌, arith}
use Rattle.layout.proofs.GeometryLaws.{data_pages_below, slot_below}
use Rattle.volume.proofs.Places.{page_is, slots_of_page}
use Rattle.volume.proofs.prepare.removal.emptied_page.Goals as goal

pub overflow_mul-first : goal.overflow_mul-first
overflow_mul-first c =
    let geometry = c.args.geometry.now in
    let below = data_pages_below geometry.pages geometry.volume_size in
    omega (arith, below, geometry.data_pages_exact, geometry.volume_size, c.page_of-page.ensures.in_range)

pub overflow_add-other-end : goal.overflow_add-other-end
overflow_add-other-end c =
    let geometry = c.args.geometry.now in
    let below = data_pages_below geometry.pages geometry.volume_size in
    omega (arith, below, geometry.data_pages_exact, geometry.volume_size, c.page_of-page.ensures.in_range)

pub slot_at-requires-clause-slot_in_range : goal.slot_at-requires-clause-slot_in_range
slot_at-requires-clause-slot_in_range c =
    let geometry = c.args.geometry.now in
    let page = page_is c.page_of-page.result c.loop-other.other c.loop-other.auto.other c.loop-other-test.true in
    slot_below geometry.pages c.loop-other.other (omega (arith, page, geometry.data_pages_exact, c.page_of-page.ensures.in_range))

pub returns-then-slot_at-ne0 : goal.returns-then-slot_at-ne0
returns-then-slot_at-ne0 c = λ alone.
    let page = page_is c.page_of-page.result c.loop-other.other c.loop-other.auto.other c.loop-other-test.true in
    c.if-slot_at-ne0.true (c.slot_at.ensures.inode ∙ alone c.loop-other.other (page ∙ c.page_of-page.ensures.is) c.if-other-slot.true)

pub returns : goal.returns
returns c = (
  (λ other same differs.
      let bounds = slots_of_page c.page_of-page.result other (same ∙ sym c.page_of-page.ensures.is) in
      c.loop-other.invariant other bounds.0 (omega (arith, bounds, c.loop-other-test.false)) differs),
  c.page_of-page.ensures.is,
)
