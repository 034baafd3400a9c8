use Rattle.std.proofs.Common.{inl, inr, ℕ, ◌+◌, ◌-◌, ◌/◌, List, length, slice_index, ◌∙◌, ap, sym, subst, arith}
use Rattle.layout.specs.Geometry.{first_data_word_of}
use Rattle.pm_trait.proofs.DeviceLaws.{interval_keeps, interval_length}
use Rattle.pm_trait.proofs.DeviceViewLaws.{stores_flushed}
use Rattle.pm_trait.proofs.Unfolding.{interval_ends}
use Rattle.format_ops.specs.Tables.{HasTableValues, tables_events}
use Rattle.fence_token.proofs.Flushing.{flushes_stores}
use Rattle.format_ops.proofs.Steps.{fenced_as}
use Rattle.format_ops.proofs.tables.write_tables.Goals as goal

pub flush_span-span-requires-clause-in_range : goal.flush_span-span-requires-clause-in_range
flush_span-span-requires-clause-in_range g c =
    let long = interval_length c.store_tables.ensures.device.stores in
    omega (arith, long, c.requires.begins.whole, c.first_data_word.ensures.in_device)

pub returns : goal.returns
returns g c =
    let flush = c.flush_span-span.ensures in
    let pages = c.args.geometry.now.pages in
    let last = c.first_data_word.result - 1 in
    let words = c.end_interval.ensures.device.words ∙ flush.device.words in
    record {
      takes = record {
        makes = record {
          long = ap length words ∙ interval_length c.store_tables.ensures.device.stores;
          written = subst (λ (l : List ℕ). HasTableValues pages 1 (first_data_word_of pages) l) (sym words) c.store_tables.ensures.written;
          beside = record {
            each = λ word beside. ap (λ (l : List ℕ). slice_index l word) words
                ∙ interval_keeps word c.store_tables.ensures.device.stores (λ within. elim beside [ inl before ↦ omega (arith, before, within.low) | inr after ↦ omega (arith, after, within.high) ]);
          };
        };
        fenced = fenced_as (first_data_word_of pages - 1 + (last / 8 - 1 / 8 + 1) + 1) (tables_events pages) (omega (arith, c.first_data_word.ensures.value))
            (interval_ends c.end_interval.result c.requires.begins.settled (stores_flushed c.store_tables.ensures.device (flushes_stores flush.device))
            (λ word within. flush.flushed word within.low (omega (arith, within.high))) c.end_interval.ensures.device);
      };
    }
