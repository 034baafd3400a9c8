use Rattle.std.proofs.Common.{ℕ, ◌+◌, ◌*◌, ◌<◌, length, slice_index, subst, arith}
use Rattle.pm_trait.proofs.DeviceLaws.{interval_length}
use Rattle.page_state.specs.Page.{AreDataPages, IsFilledWord}
use Rattle.page_state.specs.Events.{bytes_of_page}
use Rattle.page_state.proofs.Steps.{no_stores}
use Rattle.page_state.proofs.NewPages.{one_more_filled, words_of_filled, bytes_pages_more, filled_done}
use Rattle.page_state.proofs.bytes.fill_with_bytes.Goals as goal

pub loop-page-init : goal.loop-page-init
loop-page-init g c =
    let span = c.args.span.now in
    let pages = c.args.pages.now in
    let volume_pages = c.args.geometry.now.pages in
    record {
      offset = omega arith;
      device = no_stores (λ index. IsFilledWord volume_pages (slice_index pages index)) (λ index. bytes_of_page span c.args.bytes.now volume_pages (span.first + index) (slice_index pages index)) (514 * 0) (g.P.Pm.view c.args.pm.now);
      words = λ index below. absurd (omega (arith, below));
      filled = λ index below. absurd (omega (arith, below));
    }

pub fill_page-requires-clause-inside : goal.fill_page-requires-clause-inside
fill_page-requires-clause-inside g c = λ word own.
    let before = c.requires.inside word (record { index = c.loop-page.page-index; before = omega arith; is = own }) in
    omega (arith, before, interval_length c.loop-page.invariant.device.interval)

pub loop-page-preserved : goal.loop-page-preserved
loop-page-preserved g c =
    let so_far = c.loop-page.invariant in
    let geometry = c.args.geometry.now in
    let pages = c.args.pages.now in
    let index = c.loop-page.page-index in
    let valid = subst (λ (d : ℕ). AreDataPages d pages) geometry.data_pages_exact c.requires.data_pages in
    let inside : index < length pages = omega arith in
    let step = c.fill_page.ensures in
    record {
      offset = let at = so_far.offset in omega (arith, at);
      device = one_more_filled c.args.span.now c.args.bytes.now geometry.pages index c.loop-page.offset pages valid inside so_far.offset so_far.device step.device;
      words = words_of_filled c.args.span.now c.args.bytes.now geometry.pages index c.loop-page.offset pages (g.P.Pm.view c.fill_page.new.pm) valid inside so_far.offset so_far.device step.device.interval step.words so_far.words;
      filled = bytes_pages_more geometry.pages c.args.span.now.first index c.loop-page.offset pages valid inside so_far.offset step.device.interval step.filled so_far.filled;
    }

pub returns-clause-words : goal.returns-clause-words
returns-clause-words g c = record { each = λ index inside. c.loop-page.invariant.words index (omega (arith, inside)) }

pub returns-clause-filled : goal.returns-clause-filled
returns-clause-filled g c = record { each = λ index inside. c.loop-page.invariant.filled index (omega (arith, inside)) }

pub returns-clause-device : goal.returns-clause-device
returns-clause-device g c =
    filled_done c.args.span.now c.args.bytes.now c.args.geometry.now.pages c.loop-page.page-index c.args.pages.now (omega arith) (omega arith) c.loop-page.invariant.device
