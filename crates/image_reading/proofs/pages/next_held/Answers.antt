use Rattle.std.proofs.Common.{◌/◌, arith}
use Rattle.layout.proofs.GeometryLaws.{slots_in_pages}
use Rattle.image_reading.proofs.HeldPages as lemmas
use Rattle.image_reading.proofs.pages.next_held.Goals as goal

pub bounds-held-slot : goal.bounds-held-slot
bounds-held-slot c =
    let all = slots_in_pages c.args.image.now.geometry.pages in
    let pages = c.requires.held.pages in
    omega (arith, all, pages, c.requires.in_range)

pub returns-then-link-eq0-clause-passed : goal.returns-then-link-eq0-clause-passed
returns-then-link-eq0-clause-passed c x le lt h =
    let P = c.args.image.now.geometry.pages in
    let all = slots_in_pages P in
    let next = c.requires.held.nexts (c.args.slot / 32) (omega (arith, all, c.requires.in_range)) in
    (lemmas.passes P c.args.image.now.words.now c.args.slot _ x next le h).0 c.if-link-eq0.true

pub returns-clause-passed : goal.returns-clause-passed
returns-clause-passed c x le lt h =
    let P = c.args.image.now.geometry.pages in
    let all = slots_in_pages P in
    let next = c.requires.held.nexts (c.args.slot / 32) (omega (arith, all, c.requires.in_range)) in
    let at = (lemmas.passes P c.args.image.now.words.now c.args.slot _ x next le h).1 in
    omega (arith, at, le, lt, c.max.ensures, c.slot_in.ensures.is)
