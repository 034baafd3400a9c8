use Rattle.std.proofs.Common.{refl, sym, ◌∙◌, ap, arith, ℕ, List, slice_index}
use Rattle.pm_trait.proofs.DeviceLaws.{interval_length}
use Rattle.pm_trait.proofs.DeviceViewLaws.{stores_weaker, stores_flushed}
use Rattle.recovery.specs.Changes.{span_events}
use Rattle.recovery.proofs.Changing.{flushes_stores}
use Rattle.recovery.proofs.span.fill_span.Goals as goal

pub flush_span-lines-requires-clause-in_range : goal.flush_span-lines-requires-clause-in_range
flush_span-lines-requires-clause-in_range g c =
    let long = interval_length c.store_span.ensures.device.stores in
    omega (arith, long, c.requires.in_range)

pub returns : goal.returns
returns g c =
    let stored = c.store_span.ensures in
    let flush = c.flush_span-lines.ensures in
    record {
      device = stores_weaker (span_events c.args.first c.args.last) (λ x within. (c.args.value, record { low = within.low; high = omega (arith, within.high); is = refl })) (omega arith)
          (stores_flushed stored.device (flushes_stores flush.device));
      new_words = λ x v is. ap (λ (l : List ℕ). slice_index l x) flush.device.words ∙ stored.stored x is.low (omega (arith, is.high)) ∙ sym is.is;
      flushed = λ x v is. flush.flushed x is.low is.high;
    }
