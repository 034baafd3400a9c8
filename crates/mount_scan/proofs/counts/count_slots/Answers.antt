use Rattle.std.proofs.Common.{◌≡◌, ℕ, ◌+◌, ◌*◌, sym, subst, arith}
use Rattle.std.proofs.lemmas.Bool.{iff_false}
use Rattle.image_reading.specs.Reading.{IsReachedSlot}
use Rattle.image_reading.specs.Repairs.{IsKeptDirectoryPage, IsLitterSlot}
use Rattle.mount_scan.specs.Counting.{CountBelow, CountsSlots}
use Rattle.mount_scan.proofs.Counted.{count_skipped, count_told, count_fits}
use Rattle.mount_scan.proofs.Told.{reached_kept, kept_reached, none_of_page, slot_limit}
use Rattle.mount_scan.proofs.counts.count_slots.Goals as goal

pub returns-then-not-is_kept_directory_page : goal.returns-then-not-is_kept_directory_page
returns-then-not-is_kept_directory_page c =
    let image = c.args.scanned.now.image in
    let P = image.geometry.pages in
    let W = image.words.now in
    let page = c.args.page in
    let none = none_of_page P W page (iff_false c.is_kept_directory_page.ensures c.if-not-is_kept_directory_page.true) in
    record {
      names = count_skipped (IsReachedSlot P W) (32 * page) (32 * (page + 1)) c.args.before.names (omega arith) (λ s low high slot. none s low high (reached_kept P W s slot)) c.requires.before.names;
      litter = count_skipped (IsLitterSlot P W) (32 * page) (32 * (page + 1)) c.args.before.litter (omega arith) (λ s low high litter. none s low high litter.page) c.requires.before.litter;
    }

pub loop-place-init : goal.loop-place-init
loop-place-init c =
    let image = c.args.scanned.now.image in
    let start : 32 * c.args.page ≡ 32 * c.args.page + 0 = omega arith in
    subst (λ (limit : ℕ). CountsSlots image.geometry.pages image.words.now limit c.args.before) start c.requires.before

pub overflow_add-counts : goal.overflow_add-counts
overflow_add-counts c =
    let image = c.args.scanned.now.image in
    let few = slot_limit image.geometry c.args.page c.loop-place.place c.requires.in_range c.loop-place-test.true in
    let fits = count_fits (IsReachedSlot image.geometry.pages image.words.now) _ _ _ _ c.from.ensures few c.loop-place.invariant.names in
    omega (arith, fits)

pub overflow_add-counts-in-loop-place : goal.overflow_add-counts-in-loop-place
overflow_add-counts-in-loop-place c =
    let image = c.args.scanned.now.image in
    let few = slot_limit image.geometry c.args.page c.loop-place.place c.requires.in_range c.loop-place-test.true in
    let fits = count_fits (IsLitterSlot image.geometry.pages image.words.now) _ _ _ _ c.from-in-loop-place.ensures few c.loop-place.invariant.litter in
    omega (arith, fits)

pub loop-place-preserved : goal.loop-place-preserved
loop-place-preserved c =
    let image = c.args.scanned.now.image in
    let P = image.geometry.pages in
    let W = image.words.now in
    let slot = c.slot_in-slot.result in
    let before = c.loop-place.invariant in
    let here = sym c.slot_in-slot.ensures.is in
    let next : slot + 1 ≡ 32 * c.args.page + (c.loop-place.place + 1) = omega (arith, c.slot_in-slot.ensures.is) in
    let kept = subst (IsKeptDirectoryPage P W) (sym c.slot_in-slot.ensures.page) (c.is_kept_directory_page.ensures.0 c.if-not-is_kept_directory_page.false) in
    record {
      names = subst (λ (limit : ℕ). CountBelow (IsReachedSlot P W) limit (c.loop-place.counts.names + c.from.result)) next
          (count_told (IsReachedSlot P W) slot _ _ _ c.from.ensures ((λ t. kept_reached P W slot kept (c.is_live.ensures.0 t)), (λ reached. c.is_live.ensures.1 reached.live))
          (subst (λ (limit : ℕ). CountBelow (IsReachedSlot P W) limit c.loop-place.counts.names) here before.names));
      litter = subst (λ (limit : ℕ). CountBelow (IsLitterSlot P W) limit (c.loop-place.counts.litter + c.from-in-loop-place.result)) next
          (count_told (IsLitterSlot P W) slot _ _ _ c.from-in-loop-place.ensures c.is_litter_slot.ensures
          (subst (λ (limit : ℕ). CountBelow (IsLitterSlot P W) limit c.loop-place.counts.litter) here before.litter));
    }

pub returns : goal.returns
returns c =
    let image = c.args.scanned.now.image in
    let end : 32 * c.args.page + c.loop-place.place ≡ 32 * (c.args.page + 1) = omega (arith, c.loop-place-test.false) in
    subst (λ (limit : ℕ). CountsSlots image.geometry.pages image.words.now limit c.loop-place.counts) end c.loop-place.invariant
