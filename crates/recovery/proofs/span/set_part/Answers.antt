use Rattle.std.proofs.Common.{◌≤◌, ℕ, arith, subst, sym}
use Rattle.recovery.specs.Parts.{first_of}
use Rattle.recovery.specs.Changes.{span_events}
use Rattle.recovery.proofs.Changing.{changes_at}
use Rattle.recovery.proofs.Spans.{in_order, events_exact}
use Rattle.recovery.proofs.span.set_part.Goals as goal

pub fill_span-requires-clause-order : goal.fill_span-requires-clause-order
fill_span-requires-clause-order g c =
    let order = in_order c.args.geometry.now.pages c.args.part c.args.number c.requires.number in
    omega (arith, order, c.first_word-first.ensures.value, c.last_word-last.ensures.value)

pub fill_span-requires-clause-room : goal.fill_span-requires-clause-room
fill_span-requires-clause-room g c =
    subst (λ (first : ℕ). span_events first c.last_word-last.result ≤ (g.P.Pm.view c.args.pm.now).spare) (sym c.first_word-first.ensures.value)
    (subst (λ (last : ℕ). span_events (first_of c.args.geometry.now.pages c.args.part c.args.number) last ≤ (g.P.Pm.view c.args.pm.now).spare) (sym c.last_word-last.ensures.value)
    (subst (λ (events : ℕ). events ≤ (g.P.Pm.view c.args.pm.now).spare) (sym (events_exact c.args.geometry.now.pages c.args.part c.args.number c.requires.number)) c.requires.room))

pub returns : goal.returns
returns g c =
    changes_at c.first_word-first.ensures.value c.last_word-last.ensures.value (events_exact c.args.geometry.now.pages c.args.part c.args.number c.requires.number) c.fill_span.ensures
