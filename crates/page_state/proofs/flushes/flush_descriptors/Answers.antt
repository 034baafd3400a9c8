use Rattle.std.proofs.Common.{inl, inr, ℕ, ◌+◌, length, slice_index, ap, subst, arith}
use Rattle.std.specs.Prelude.{Some}
use Rattle.std.proofs.lemmas.Bool.{cases_eq}
use Rattle.pm_trait.proofs.DeviceLaws.{flushed_stays, interval_length}
use Rattle.page_state.specs.Page.{IsDescriptorWord}
use Rattle.page_state.specs.Events.{descriptor_flush}
use Rattle.page_state.proofs.Told.{no_flushes, flushes_more, flushes_done}
use Rattle.page_state.proofs.flushes.flush_descriptors.Goals as goal

pub loop-page-init : goal.loop-page-init
loop-page-init g c = record {
  ticket = λ some. absurd (omega (arith, some));
  flushed = λ word is. let before = is.before in absurd (omega (arith, before));
  device = no_flushes (descriptor_flush c.args.geometry.now.pages) 0 c.args.pages.now (g.P.Pm.view c.args.pm.now);
}

pub flush_descriptor-requires-clause-inside : goal.flush_descriptor-requires-clause-inside
flush_descriptor-requires-clause-inside g c = λ word own.
    let before = c.requires.inside word (record { index = c.loop-page.page-index; before = omega arith; is = inr own }) in
    omega (arith, before, interval_length c.loop-page.invariant.device.stores_none)

pub loop-page-preserved : goal.loop-page-preserved
loop-page-preserved g c =
    let so_far = c.loop-page.invariant in
    let step = c.flush_descriptor.ensures in
    let pages = c.args.pages.now in
    let index = c.loop-page.page-index in
    record {
      ticket = λ some. ap (λ (fences : ℕ). Some fences) step.ticket_is;
      flushed = λ word is. elim (cases_eq is.index index) [
        | inl here ↦ step.flushed word (subst (λ (k : ℕ). IsDescriptorWord c.args.geometry.now.pages (slice_index pages k) word) here is.is)
        | inr other ↦ let before = is.before in flushed_stays word step.stores_none (λ none. none) (so_far.flushed word (record { index = is.index; before = omega (arith, other, before); is = is.is }))
      ];
      device = flushes_more (descriptor_flush c.args.geometry.now.pages) index ((index + 1)) pages (omega arith) (omega arith) so_far.device step.flushes;
    }

pub returns-clause-device : goal.returns-clause-device
returns-clause-device g c =
    let pages = c.args.pages.now in
    flushes_done (descriptor_flush c.args.geometry.now.pages) pages c.loop-page.page-index (length pages) (omega arith) (omega arith) c.loop-page.invariant.device
