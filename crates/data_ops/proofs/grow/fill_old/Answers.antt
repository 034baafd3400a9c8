use Rattle.std.proofs.Common.{length, ap, ◌∙◌, arith, refl}
use Rattle.pm_trait.proofs.DeviceViewLaws.{stores_nothing, stores_weaker}
use Rattle.layout.specs.declared.fields.DescriptorFields.{DescriptorFields}
use Rattle.page_state.specs.Page.{PageView, touched_lines}
use Rattle.data_ops.proofs.Pages.{pages_settled, can_take, all_live, some_pages, no_pages}
use Rattle.data_ops.proofs.Spans as spans
use Rattle.data_ops.proofs.grow.fill_old.Goals as goal

pub offset_bounds-pages-first : goal.offset_bounds-pages-first
offset_bounds-pages-first g c = let (low, top) = spans.old_bounds c.requires.may c.min-first.ensures in omega arith

pub slice_bounds-last-count : goal.slice_bounds-last-count
slice_bounds-last-count g c = let (low, top) = spans.old_bounds c.requires.may c.min-first.ensures in omega arith

pub slice_bounds-last-start : goal.slice_bounds-last-start
slice_bounds-last-start g c = let (low, top) = spans.old_bounds c.requires.may c.min-first.ensures in omega arith

pub slice_bounds-last-end : goal.slice_bounds-last-end
slice_bounds-last-end g c = let (low, top) = spans.old_bounds c.requires.may c.min-first.ensures in omega arith

pub at-live-requires : goal.at-live-requires
at-live-requires g c =
    let geometry = c.args.geometry.now in
    let device = g.P.Pm.view c.args.pm.now in
    let from = spans.old_from_first c.requires.may c.min-first.ensures in
    let take = can_take geometry.pages device.words c.args.growth.now.inode _ _ from geometry.data_pages geometry.data_pages_exact (some_pages _ c.is_empty.result c.is_empty.ensures c.if-not-is_empty.true) in
    record {
      whole = c.requires.whole;
      data_pages = take.data_pages;
      settled = pages_settled geometry.pages _ device.words device.trail geometry.volume_size from.in_range c.requires.whole c.requires.settled;
      reads = all_live geometry.pages device.words c.args.growth.now.inode _ _ from (λ none. let least = c.requires.may.held.least in omega (arith, least, none));
      alike = take.alike;
    }

pub write_span-written-requires : goal.write_span-written-requires
write_span-written-requires g c =
    let may = c.requires.may in
    let first = c.min-first.ensures in
    let live = c.at-live.ensures.object in
    let some = some_pages _ c.is_empty.result c.is_empty.ensures c.if-not-is_empty.true in
    let at = ap (λ (v : PageView). v.fields.offset) live ∙ ap (λ (d : DescriptorFields). d.offset) (spans.old_taken may first some) in
    record {
      clean = c.at-live.ensures.clean;
      kind = ap (λ (v : PageView). v.fields.kind) live ∙ ap (λ (d : DescriptorFields). d.kind) (spans.old_taken may first some);
      first = omega (arith, at);
      places = spans.few_places may first live;
      range = may.range;
      some = spans.old_has_words may first live some;
      room = omega (arith, c.requires.room, spans.old_costs may first live some);
    }

pub flush-flushed-requires : goal.flush-flushed-requires
flush-flushed-requires g c =
    let written = c.write_span-written.ensures in
    let lines = ap (λ (v : PageView). touched_lines v.touched (length v.pages)) written.object in
    let costs = spans.old_costs c.requires.may c.min-first.ensures c.at-live.ensures.object (some_pages _ c.is_empty.result c.is_empty.ensures c.if-not-is_empty.true) in
    record { dirty = written.dirty; room = omega (arith, lines, costs, c.requires.room, written.device.room) }

pub returns-then-not-is_empty : goal.returns-then-not-is_empty
returns-then-not-is_empty g c =
    let may = c.requires.may in
    let first = c.min-first.ensures in
    let live = c.at-live.ensures.object in
    let written = c.write_span-written.ensures in
    let flush = c.flush-flushed.ensures in
    let now = (g.P.Pm.view c.flush-flushed.new.pm).words in
    record {
      below = spans.all_below may first live written.object written.device refl written.bytes now flush.device.words;
      tail = spans.all_tail may first live written.object written.device refl written.bytes now flush.device.words;
      flushed = spans.old_flushed may first live written.object written.device flush.flushed;
      device = spans.old_stored may first live written.object written.device (some_pages _ c.is_empty.result c.is_empty.ensures c.if-not-is_empty.true) flush.device;
    }

pub returns-else-not-is_empty : goal.returns-else-not-is_empty
returns-else-not-is_empty g c =
    let may = c.requires.may in
    let first = c.min-first.ensures in
    let none = no_pages _ c.is_empty.result c.is_empty.ensures c.if-not-is_empty.false in
    record {
      below = spans.none_below may first none;
      tail = spans.none_tail may first none;
      flushed = spans.none_flushed may first none;
      device = stores_weaker _ (λ word none. absurd none) (omega arith) (stores_nothing (g.P.Pm.view c.args.pm.now));
    }
