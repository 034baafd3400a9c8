use Rattle.std.proofs.Common.{ℕ, ◌<◌, length, sym, subst}
use Rattle.std.proofs.Math.Facts.{Fits-lt-pow}
use Rattle.std.specs.Prelude.{None}
use Rattle.layout.specs.Fields.{page_byte}
use Rattle.page_state.specs.Spans.{span_of, new_words, IsWithinLimits}
use Rattle.page_state.specs.Page.{PageView, AreDataPages, PageIsClean, PageIsDirty}
use Rattle.page_state.specs.Events.{HaveBytes}
use Rattle.page_state.proofs.Changes.{written_dirty}
use Rattle.page_state.proofs.NewBytes.{have_bytes}
use Rattle.page_state.proofs.page.PageH+Clean+Live.write_span.Goals as goal

pub store_pages-requires-clause-inside : goal.store_pages-requires-clause-inside
store_pages-requires-clause-inside g c =
    let clean = subst (λ (view : PageView). PageIsClean view (g.P.Pm.view c.args.pm.now)) (sym c.self.view_is) c.requires.clean in
    clean.stands.inside

pub returns-clause-dirty : goal.returns-clause-dirty
returns-clause-dirty g c =
    let inside = c.self.inside in
    let valid = subst (λ (d : ℕ). AreDataPages d inside.pages.now) inside.geometry.data_pages_exact c.self.invariant.0 in
    let clean = subst (λ (view : PageView). PageIsClean view (g.P.Pm.view c.args.pm.now)) (sym c.self.view_is) c.requires.clean in
    let span = span_of c.args.first c.args.zero_from c.args.offset c.args.bytes.now in
    let limits : IsWithinLimits span (length c.args.self.pages) = record { range = c.requires.range; places = c.requires.places } in
    let within = subst (λ (view : PageView). IsWithinLimits span (length view.pages)) (sym c.self.view_is) limits in
    let some = subst (λ (view : PageView). 0 < new_words span (length view.pages)) (sym c.self.view_is) c.requires.some in
    subst (λ (view : PageView). PageIsDirty view (g.P.Pm.view c.store_pages.new.pm)) (sym c.of.ensures)
    (written_dirty (span_of c.args.first c.args.zero_from c.args.offset c.args.bytes.now) c.args.bytes.now inside.geometry.pages inside.pages.now inside.fields inside.touched inside.ticket None valid within some clean c.store_pages.ensures.device)

pub returns-clause-bytes : goal.returns-clause-bytes
returns-clause-bytes g c =
    let inside = c.self.inside in
    let old = (g.P.Pm.view c.args.pm.now).words in
    subst (λ (view : PageView). HaveBytes view.volume_pages view.pages (span_of c.args.first c.args.zero_from c.args.offset c.args.bytes.now) c.args.bytes.now (page_byte view.volume_pages old) (g.P.Pm.view c.store_pages.new.pm).words) c.self.view_is
    (have_bytes (span_of c.args.first c.args.zero_from c.args.offset c.args.bytes.now) c.args.bytes.now inside.geometry.pages inside.pages.now old (g.P.Pm.view c.store_pages.new.pm).words (λ i. Fits-lt-pow (c.type_inv.bytes i)) c.store_pages.ensures.words)
