use Rattle.std.proofs.Common.{length, ap, ◌∙◌, arith, refl}
use Rattle.layout.specs.declared.fields.DescriptorFields.{DescriptorFields}
use Rattle.page_state.specs.Page.{PageView, touched_lines}
use Rattle.pm_trait.proofs.Unfolding.{interval_ends}
use Rattle.data_ops.proofs.Pages.{pages_settled, can_take, all_live}
use Rattle.data_ops.proofs.Spans as spans
use Rattle.data_ops.proofs.write.write_inside.Goals as goal

pub overflow_add-writing : goal.overflow_add-writing
overflow_add-writing g c = let (inside, far) = spans.range c.requires.ready in omega arith

pub div_ceil-end-requires : goal.div_ceil-end-requires
div_ceil-end-requires g c = omega arith

pub offset_bounds-pages-first : goal.offset_bounds-pages-first
offset_bounds-pages-first g c = let (low, most, top, long) = spans.bounds c.requires.ready c.div_ceil-end.ensures in omega arith

pub slice_bounds-part-count : goal.slice_bounds-part-count
slice_bounds-part-count g c = let (low, most, top, long) = spans.bounds c.requires.ready c.div_ceil-end.ensures in omega arith

pub slice_bounds-part-start : goal.slice_bounds-part-start
slice_bounds-part-start g c = let (low, most, top, long) = spans.bounds c.requires.ready c.div_ceil-end.ensures in omega arith

pub slice_bounds-part-end : goal.slice_bounds-part-end
slice_bounds-part-end g c = let (low, most, top, long) = spans.bounds c.requires.ready c.div_ceil-end.ensures in omega arith

pub at-live-requires : goal.at-live-requires
at-live-requires g c =
    let geometry = c.args.geometry.now in
    let device = g.P.Pm.view c.args.pm.now in
    let begins = c.requires.begins in
    let from = spans.from_first c.requires.ready c.div_ceil-end.ensures in
    let take = can_take geometry.pages device.words c.args.writing.now.inode _ _ from geometry.data_pages geometry.data_pages_exact (spans.some c.requires.ready c.div_ceil-end.ensures) in
    record {
      whole = begins.whole;
      data_pages = take.data_pages;
      settled = pages_settled geometry.pages _ device.words device.trail geometry.volume_size from.in_range begins.whole begins.settled;
      reads = all_live geometry.pages device.words c.args.writing.now.inode _ _ from (λ none. let least = c.requires.ready.held.least in omega (arith, least, none));
      alike = take.alike;
    }

pub write_span-written-requires : goal.write_span-written-requires
write_span-written-requires g c =
    let ready = c.requires.ready in
    let end = c.div_ceil-end.ensures in
    let live = c.at-live.ensures.object in
    let (low, most, top, long) = spans.bounds ready end in
    let (inside, far) = spans.range ready in
    let at = ap (λ (v : PageView). v.fields.offset) live ∙ ap (λ (d : DescriptorFields). d.offset) (spans.taken ready end) in
    record {
      clean = c.at-live.ensures.clean;
      kind = ap (λ (v : PageView). v.fields.kind) live ∙ ap (λ (d : DescriptorFields). d.kind) (spans.taken ready end);
      first = omega (arith, at);
      places = omega (arith, low, top, long, ap (λ (v : PageView). length v.pages) live);
      range = omega (arith, inside, far);
      some = spans.has_words ready end live;
      room = omega (arith, spans.costs ready end live, c.requires.begins.room);
    }

pub flush-flushed-requires : goal.flush-flushed-requires
flush-flushed-requires g c =
    let written = c.write_span-written.ensures in
    let lines = ap (λ (v : PageView). touched_lines v.touched (length v.pages)) written.object in
    let costs = spans.costs c.requires.ready c.div_ceil-end.ensures c.at-live.ensures.object in
    record { dirty = written.dirty; room = omega (arith, lines, costs, c.requires.begins.room, written.device.room) }

pub end_interval-requires : goal.end_interval-requires
end_interval-requires g c =
    let written = c.write_span-written.ensures in
    let begins = c.requires.begins in
    let stores = spans.all_stored c.requires.ready c.div_ceil-end.ensures c.at-live.ensures.object written.object written.device c.flush-flushed.ensures.device in
    record { countable = omega (arith, begins.countable, stores.counts.fences); room = omega (arith, begins.room, stores.room) }

pub returns : goal.returns
returns g c =
    let ready = c.requires.ready in
    let end = c.div_ceil-end.ensures in
    let live = c.at-live.ensures.object in
    let written = c.write_span-written.ensures in
    let flush = c.flush-flushed.ensures in
    record {
      takes = record {
        makes = spans.all_written ready end live written.object written.device refl written.bytes (g.P.Pm.view c.end_interval.new.pm).words (c.end_interval.ensures.device.words ∙ flush.device.words);
        fenced = interval_ends c.end_interval.result c.requires.begins.settled (spans.all_stored ready end live written.object written.device flush.device)
            (spans.all_flushed ready end live written.object written.device flush.flushed) c.end_interval.ensures.device;
      };
    }
