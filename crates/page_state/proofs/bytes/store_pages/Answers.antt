use Rattle.std.proofs.Common.{inl, ℕ, ◌+◌, ◌*◌, ◌≤◌, length, slice_index, sym, subst, arith}
use Rattle.pm_trait.proofs.DeviceLaws.{interval_length}
use Rattle.page_state.specs.Page.{AreDataPages, IsNewWord}
use Rattle.page_state.specs.Spans.{new_pieces}
use Rattle.page_state.specs.Events.{new_stores}
use Rattle.page_state.proofs.Steps.{no_stores, stores_done}
use Rattle.page_state.proofs.Pieces.{page_room, pieces_most}
use Rattle.page_state.proofs.NewPages.{one_more_page, words_of_one_more}
use Rattle.page_state.proofs.bytes.store_pages.Goals as goal

pub loop-page-init : goal.loop-page-init
loop-page-init g c =
    let device = g.P.Pm.view c.args.pm.now in
    let span = c.args.span.now in
    let pages = c.args.pages.now in
    let volume_pages = c.args.geometry.now.pages in
    record {
      offset = omega arith;
      device = no_stores (λ index. IsNewWord span volume_pages (span.first + index) (slice_index pages index)) (λ index. new_stores span c.args.bytes.now device.words volume_pages (span.first + index) (slice_index pages index)) (new_pieces span (4096 * span.first) 8 (512 * 0)) device;
      words = λ index below. absurd (omega (arith, below));
    }

pub store_page-requires-clause-inside : goal.store_page-requires-clause-inside
store_page-requires-clause-inside g c = λ word content.
    let before = c.requires.inside word (record { index = c.loop-page.page-index; before = omega arith; is = inl content }) in
    omega (arith, before, interval_length c.loop-page.invariant.device.interval)

pub store_page-requires-clause-room : goal.store_page-requires-clause-room
store_page-requires-clause-room g c =
    let so_far = c.loop-page.invariant in
    let span = c.args.span.now in
    let Fits : ℕ → Type 0 = λ offset. new_pieces span (4096 * offset) 8 512 ≤ (g.P.Pm.view c.loop-page.pm).spare in
    subst Fits (sym so_far.offset)
    (page_room span 8 512 c.loop-page.page-index (length c.args.pages.now) (g.P.Pm.view c.args.pm.now).spare (g.P.Pm.view c.loop-page.pm).spare (omega arith) (omega arith) c.requires.room so_far.device.room)

pub loop-page-preserved : goal.loop-page-preserved
loop-page-preserved g c =
    let so_far = c.loop-page.invariant in
    let geometry = c.args.geometry.now in
    let pages = c.args.pages.now in
    let valid = subst (λ (d : ℕ). AreDataPages d pages) geometry.data_pages_exact c.requires.data_pages in
    let step = c.store_page.ensures in
    record {
      offset = let at = so_far.offset in omega (arith, at);
      device = one_more_page c.args.span.now c.args.bytes.now geometry.pages c.loop-page.page-index c.loop-page.offset pages valid (omega arith) so_far.offset so_far.device step.device;
      words = words_of_one_more c.args.span.now c.args.bytes.now geometry.pages c.loop-page.page-index c.loop-page.offset pages (g.P.Pm.view c.store_page.new.pm) valid (omega arith) so_far.offset so_far.device step.device.interval step.words so_far.words;
    }

pub returns-clause-words : goal.returns-clause-words
returns-clause-words g c = record { each = λ index inside. c.loop-page.invariant.words index (omega (arith, inside)) }

pub returns-clause-device : goal.returns-clause-device
returns-clause-device g c =
    let device = g.P.Pm.view c.args.pm.now in
    let span = c.args.span.now in
    let pages = c.args.pages.now in
    let volume_pages = c.args.geometry.now.pages in
    stores_done (λ index. IsNewWord span volume_pages (span.first + index) (slice_index pages index)) (λ index. new_stores span c.args.bytes.now device.words volume_pages (span.first + index) (slice_index pages index))
    c.loop-page.page-index (length pages) (new_pieces span (4096 * span.first) 8 (512 * length pages)) (omega arith)
    (pieces_most span (4096 * span.first) 8 (512 * c.loop-page.page-index) (512 * length pages) (omega arith)) c.loop-page.invariant.device
