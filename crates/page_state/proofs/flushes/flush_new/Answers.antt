use Rattle.std.proofs.Common.{◌≡◌, inl, inr, ℕ, ◌*◌, ap, arith}
use Rattle.pm_trait.proofs.DeviceLaws.{interval_length}
use Rattle.page_state.specs.Spans.{new_pieces}
use Rattle.page_state.specs.Events.{flush_of_line, new_flushes}
use Rattle.page_state.proofs.Pieces.{pieces_none, pieces_most}
use Rattle.page_state.proofs.Steps.{no_more_flushes, flushes_all}
use Rattle.page_state.proofs.NewFlushes.{line_room, one_more_line, line_ticket, line_words}
use Rattle.page_state.proofs.flushes.flush_new.Goals as goal

pub loop-line-init : goal.loop-line-init
loop-line-init g c = record {
  ticket = λ told. elim told [ inl kept ↦ kept | inr some ↦ absurd (let none = pieces_none c.args.span.now (4096 * c.args.offset) 64 in omega (arith, some, none)) ];
  flushed = λ word is. let below = is.below in absurd (omega (arith, below));
  device = no_more_flushes (flush_of_line c.args.span.now c.args.geometry.now.pages c.args.offset c.args.page) (new_pieces c.args.span.now (4096 * c.args.offset) 64 0) (g.P.Pm.view c.args.pm.now);
}

pub flush_line-ticket-requires-clause-inside : goal.flush_line-ticket-requires-clause-inside
flush_line-ticket-requires-clause-inside g c = λ word content.
    let before = c.requires.inside word content in
    omega (arith, before, interval_length c.loop-line.invariant.device.stores_none)

pub flush_line-ticket-requires-clause-room : goal.flush_line-ticket-requires-clause-room
flush_line-ticket-requires-clause-room g c = λ has.
    line_room c.args.span.now c.args.offset c.loop-line.line (g.P.Pm.view c.args.pm.now).spare (g.P.Pm.view c.loop-line.pm).spare (omega arith) c.requires.room c.loop-line.invariant.device.room has

pub loop-line-preserved : goal.loop-line-preserved
loop-line-preserved g c =
    let so_far = c.loop-line.invariant in
    let line = c.loop-line.line in
    let step = c.flush_line-ticket.ensures in
    record {
      ticket = line_ticket c.args.span.now c.args.offset line (g.P.Pm.view c.args.pm.now).fences (g.P.Pm.view c.loop-line.pm).fences (g.P.Pm.view c.flush_line-ticket.new.pm).fences c.args.ticket c.loop-line.ticket c.flush_line-ticket.result step.device.fences so_far.ticket step.ticket;
      flushed = line_words c.args.span.now c.args.geometry.now.pages c.args.offset c.args.page line step.device so_far.flushed step.flushed;
      device = one_more_line c.args.span.now c.args.geometry.now.pages c.args.offset c.args.page line so_far.device step.device;
    }

pub returns-clause-ticket : goal.returns-clause-ticket
returns-clause-ticket g c = λ told.
    let whole : c.loop-line.line ≡ 64 = omega arith in
    let all = ap (λ (n : ℕ). new_pieces c.args.span.now (4096 * c.args.offset) 64 n) whole in
    c.loop-line.invariant.ticket (elim told [ inl kept ↦ inl kept | inr some ↦ inr (omega (arith, some, all)) ])

pub returns-clause-flushed : goal.returns-clause-flushed
returns-clause-flushed g c = λ word is. let below = is.below in c.loop-line.invariant.flushed word (record { index = is.index; below = omega (arith, below); is = is.is })

pub returns-clause-device : goal.returns-clause-device
unfolding new_flushes
returns-clause-device g c =
    flushes_all (flush_of_line c.args.span.now c.args.geometry.now.pages c.args.offset c.args.page) c.loop-line.line 64 (new_pieces c.args.span.now (4096 * c.args.offset) 64 64) (omega arith)
    (pieces_most c.args.span.now (4096 * c.args.offset) 64 c.loop-line.line 64 (omega arith)) c.loop-line.invariant.device
