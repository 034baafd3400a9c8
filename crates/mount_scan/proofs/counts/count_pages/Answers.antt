use Rattle.std.proofs.Common.{◌≡◌, ℕ, ◌*◌, subst, arith}
use Rattle.layout.specs.Geometry.{data_pages_of, slots_of}
use Rattle.layout.proofs.GeometryLaws.{slots_in_pages}
use Rattle.image_reading.specs.Repairs.{IsLitterPage}
use Rattle.mount_scan.specs.Counting.{CountBelow, CountsSlots}
use Rattle.mount_scan.proofs.Counted.{count_told, count_fits}
use Rattle.mount_scan.proofs.Told.{page_limit}
use Rattle.mount_scan.proofs.counts.count_pages.Goals as goal

pub overflow_add-litter : goal.overflow_add-litter
overflow_add-litter c =
    let image = c.args.scanned.now.image in
    let few = page_limit image.geometry c.loop-page.page c.loop-page-test.true in
    let fits = count_fits (IsLitterPage image.geometry.pages image.words.now) _ _ _ _ c.from-litter.ensures (omega (arith, few)) c.loop-page.invariant.litter in
    omega (arith, fits)

pub loop-page-preserved : goal.loop-page-preserved
loop-page-preserved c =
    let image = c.args.scanned.now.image in
    record {
      litter = count_told (IsLitterPage image.geometry.pages image.words.now) c.loop-page.page _ _ _ c.from-litter.ensures c.is_litter_page.ensures c.loop-page.invariant.litter;
      in_slots = c.count_slots-slots.ensures;
    }

pub returns : goal.returns
returns c =
    let image = c.args.scanned.now.image in
    let P = image.geometry.pages in
    let W = image.words.now in
    let end : c.loop-page.page ≡ data_pages_of P = omega (arith, c.loop-page-test.false, image.geometry.data_pages_exact) in
    let slots = slots_in_pages P in
    let last : 32 * c.loop-page.page ≡ slots_of P = omega (arith, end, slots) in
    record {
      litter = subst (λ (limit : ℕ). CountBelow (IsLitterPage P W) limit c.loop-page.litter) end c.loop-page.invariant.litter;
      in_slots = subst (λ (limit : ℕ). CountsSlots P W limit c.loop-page.slots) last c.loop-page.invariant.in_slots;
    }
