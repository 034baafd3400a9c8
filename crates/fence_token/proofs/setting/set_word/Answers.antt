use Rattle.std.proofs.Common.{◌∙◌, arith}
use Rattle.pm_trait.proofs.DeviceViewLaws.{store_stores, stores_flushed}
use Rattle.pm_trait.proofs.Unfolding.{interval_ends}
use Rattle.fence_token.proofs.Flushing.{flushes_stores}
use Rattle.fence_token.proofs.OneLine.{one_line}
use Rattle.fence_token.proofs.setting.set_word.Goals as goal

pub returns : goal.returns
returns g c = record {
  takes = record {
    makes = c.end_interval.ensures.device.words ∙ c.flush_span-line.ensures.device.words ∙ c.store.ensures.words;
    fenced = one_line c.args.word (interval_ends c.end_interval.result c.requires.begins.settled (stores_flushed (store_stores c.store.ensures) (flushes_stores c.flush_span-line.ensures.device))
        (λ word is. c.flush_span-line.ensures.flushed word (omega (arith, is)) (omega (arith, is))) c.end_interval.ensures.device);
  };
}
