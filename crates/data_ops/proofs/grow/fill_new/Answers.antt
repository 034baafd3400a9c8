use Rattle.std.proofs.Common.{ℕ, ◌<◌, length, ap, subst, sym, arith}
use Rattle.pm_trait.proofs.DeviceViewLaws.{stores_nothing, stores_weaker}
use Rattle.page_state.specs.Spans.{span_of}
use Rattle.page_state.specs.Page.{PageView, EachPage, touched_lines}
use Rattle.page_state.proofs.PageLaws.{free_pages_alike}
use Rattle.data_ops.proofs.Pages.{some_pages, no_pages}
use Rattle.data_ops.proofs.Spans.{new_bytes, new_have, new_stored, new_flushed}
use Rattle.data_ops.proofs.grow.fill_new.Goals as goal

pub at-free-requires : goal.at-free-requires
at-free-requires g c =
    let free = c.requires.free in
    record {
      whole = c.requires.whole;
      data_pages = record {
        some = some_pages c.args.pages.now c.is_empty.result c.is_empty.ensures c.if-not-is_empty.true;
        in_range = subst (λ (n : ℕ). EachPage c.args.pages.now (λ page. page < n)) (sym c.args.geometry.now.data_pages_exact) free.in_range;
        distinct = free.distinct;
      };
      settled = c.requires.settled;
      reads = free.free;
      alike = free_pages_alike c.args.geometry.now.pages c.args.pages.now (g.P.Pm.view c.args.pm.now).words free.free;
    }

pub fill_bytes-filled-requires : goal.fill_bytes-filled-requires
fill_bytes-filled-requires g c =
    let long = ap (λ (v : PageView). length v.pages) c.at-free.ensures.object in
    record { clean = c.at-free.ensures.clean; places = omega (arith, long, c.requires.places); range = c.requires.range; room = omega (arith, long, c.requires.room) }

pub flush-flushed-requires : goal.flush-flushed-requires
flush-flushed-requires g c =
    let long = ap (λ (v : PageView). length v.pages) c.at-free.ensures.object in
    let filled = c.fill_bytes-filled.ensures in
    let lines = ap (λ (v : PageView). touched_lines v.touched (length v.pages)) filled.object in
    record { dirty = filled.dirty; room = omega (arith, long, lines, filled.device.room, c.requires.room) }

pub returns-then-not-is_empty : goal.returns-then-not-is_empty
returns-then-not-is_empty g c =
    let free = c.at-free.ensures.object in
    let filled = c.fill_bytes-filled.ensures in
    let flush = c.flush-flushed.ensures in
    let span = span_of c.args.first 0 c.args.offset c.args.bytes.now in
    let before = (g.P.Pm.view c.args.pm.now).words in
    let words = (g.P.Pm.view c.flush-flushed.new.pm).words in
    record {
      filled = new_bytes c.args.first before free filled.object c.requires.free filled.dirty words flush.device.words;
      bytes = new_have c.args.first before free filled.object span c.args.bytes.now (g.P.Pm.view c.fill_bytes-filled.new.pm).words words flush.device.words filled.bytes;
      flushed = new_flushed c.args.first before free filled.object flush.flushed;
      device = new_stored c.args.first before free filled.object span c.args.bytes.now filled.device flush.device;
    }

pub returns-else-not-is_empty : goal.returns-else-not-is_empty
returns-else-not-is_empty g c =
    let none = no_pages c.args.pages.now c.is_empty.result c.is_empty.ensures c.if-not-is_empty.false in
    record {
      filled = record { in_range = c.requires.free.in_range; distinct = c.requires.free.distinct; each = λ k low. absurd (omega (arith, none, low)) };
      bytes = record { each = λ k byte low few. absurd (omega (arith, none, low)) };
      flushed = λ word some. let low = some.before in absurd (omega (arith, none, low));
      device = stores_weaker _ (λ word none. absurd none) (omega arith) (stores_nothing (g.P.Pm.view c.args.pm.now));
    }
