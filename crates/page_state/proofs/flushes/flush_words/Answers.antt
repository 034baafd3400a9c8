use Rattle.std.proofs.Common.{◌≡◌, inl, ℕ, ◌+◌, ◌*◌, ◌≤◌, length, slice_index, sym, ap, subst, arith}
use Rattle.pm_trait.proofs.DeviceLaws.{interval_length}
use Rattle.page_state.specs.Spans.{new_pieces}
use Rattle.page_state.specs.Events.{new_flushes}
use Rattle.page_state.proofs.Pieces.{pieces_none, pieces_most, page_room}
use Rattle.page_state.proofs.Steps.{no_more_flushes, flushes_all}
use Rattle.page_state.proofs.NewFlushes.{one_more_page_flushed, page_ticket, page_words}
use Rattle.page_state.proofs.flushes.flush_words.Goals as goal

pub loop-page-init : goal.loop-page-init
loop-page-init g c =
    let span = c.args.span.now in
    record {
      offset = omega arith;
      ticket = λ some. absurd (let none = pieces_none span (4096 * span.first) 64 in omega (arith, some, none));
      flushed = λ word is. let below = is.below in absurd (omega (arith, below));
      device = no_more_flushes (λ index. new_flushes span c.args.geometry.now.pages (span.first + index) (slice_index c.args.pages.now index)) (new_pieces span (4096 * span.first) 64 (64 * 0)) (g.P.Pm.view c.args.pm.now);
    }

pub flush_new-ticket-requires-clause-inside : goal.flush_new-ticket-requires-clause-inside
flush_new-ticket-requires-clause-inside g c = λ word content.
    let before = c.requires.inside word (record { index = c.loop-page.page-index; before = omega arith; is = inl content }) in
    omega (arith, before, interval_length c.loop-page.invariant.device.stores_none)

pub flush_new-ticket-requires-clause-room : goal.flush_new-ticket-requires-clause-room
flush_new-ticket-requires-clause-room g c =
    let so_far = c.loop-page.invariant in
    let span = c.args.span.now in
    let Fits : ℕ → Type 0 = λ offset. new_pieces span (4096 * offset) 64 64 ≤ (g.P.Pm.view c.loop-page.pm).spare in
    subst Fits (sym so_far.offset)
    (page_room span 64 64 c.loop-page.page-index (length c.args.pages.now) (g.P.Pm.view c.args.pm.now).spare (g.P.Pm.view c.loop-page.pm).spare (omega arith) (omega arith) c.requires.room so_far.device.room)

pub flush_new-ticket-requires-clause-place : goal.flush_new-ticket-requires-clause-place
flush_new-ticket-requires-clause-place g c =
    let at = c.loop-page.invariant.offset in
    let places = c.requires.span.places in
    omega (arith, at, places)

pub flush_new-ticket-requires-clause-range : goal.flush_new-ticket-requires-clause-range
flush_new-ticket-requires-clause-range g c = c.requires.span.range

pub loop-page-preserved : goal.loop-page-preserved
loop-page-preserved g c =
    let so_far = c.loop-page.invariant in
    let span = c.args.span.now in
    let index = c.loop-page.page-index in
    let pages = c.args.pages.now in
    let step = c.flush_new-ticket.ensures in
    record {
      offset = let at = so_far.offset in omega (arith, at);
      ticket = page_ticket span index c.loop-page.offset (g.P.Pm.view c.loop-page.pm).fences (g.P.Pm.view c.flush_new-ticket.new.pm).fences c.loop-page.ticket c.flush_new-ticket.result so_far.offset so_far.ticket step.ticket;
      flushed = page_words span c.args.geometry.now.pages index c.loop-page.offset pages so_far.offset step.device so_far.flushed step.flushed;
      device = one_more_page_flushed span c.args.geometry.now.pages index c.loop-page.offset pages so_far.offset so_far.device step.device;
    }

pub returns-clause-ticket : goal.returns-clause-ticket
returns-clause-ticket g c =
    let span = c.args.span.now in
    let whole : c.loop-page.page-index ≡ length c.args.pages.now = omega arith in
    let all = ap (λ (n : ℕ). new_pieces span (4096 * span.first) 64 (64 * n)) whole in
    c.loop-page.invariant.ticket (omega (arith, all, c.requires.some))

pub returns-clause-flushed : goal.returns-clause-flushed
returns-clause-flushed g c = λ word is. let below = is.below in c.loop-page.invariant.flushed word (record { index = is.index; below = omega (arith, below); is = is.is })

pub returns-clause-device : goal.returns-clause-device
returns-clause-device g c =
    let span = c.args.span.now in
    let pages = c.args.pages.now in
    flushes_all (λ index. new_flushes span c.args.geometry.now.pages (span.first + index) (slice_index pages index)) c.loop-page.page-index (length pages) (new_pieces span (4096 * span.first) 64 (64 * length pages)) (omega arith)
    (pieces_most span (4096 * span.first) 64 (64 * c.loop-page.page-index) (64 * length pages) (omega arith)) c.loop-page.invariant.device
