use Rattle.std.proofs.Common.{ℕ, refl, sym, subst}
use Rattle.std.proofs.Math.Facts.{Fits-lt-pow}
use Rattle.std.specs.Prelude.{None}
use Rattle.page_state.specs.Spans.{span_of}
use Rattle.page_state.specs.Page.{PageView, AreDataPages, PageIsClean, PageIsDirty}
use Rattle.page_state.specs.Events.{HaveBytes}
use Rattle.page_state.proofs.Changes.{bytes_dirty, bytes_mean}
use Rattle.page_state.proofs.NewBytes.{have_whole_bytes}
use Rattle.page_state.proofs.page.PageH+Clean+Free.fill_bytes.Goals as goal

pub fill_with_bytes-requires-clause-inside : goal.fill_with_bytes-requires-clause-inside
fill_with_bytes-requires-clause-inside g c =
    let clean = subst (λ (view : PageView). PageIsClean view (g.P.Pm.view c.args.pm.now)) (sym c.self.view_is) c.requires.clean in
    clean.stands.inside

pub of-requires-clause-reads : goal.of-requires-clause-reads
of-requires-clause-reads g c = bytes_mean c.args.first c.self.inside.pages.now

pub returns-clause-dirty : goal.returns-clause-dirty
returns-clause-dirty g c =
    let inside = c.self.inside in
    let valid = subst (λ (d : ℕ). AreDataPages d inside.pages.now) inside.geometry.data_pages_exact c.self.invariant.0 in
    let clean = subst (λ (view : PageView). PageIsClean view (g.P.Pm.view c.args.pm.now)) (sym c.self.view_is) c.requires.clean in
    subst (λ (view : PageView). PageIsDirty view (g.P.Pm.view c.fill_with_bytes.new.pm)) (sym c.of.ensures)
    (bytes_dirty (span_of c.args.first 0 c.args.offset c.args.bytes.now) c.args.bytes.now inside.geometry.pages inside.pages.now inside.fields inside.touched inside.ticket None valid c.self.invariant.1 clean c.fill_with_bytes.ensures.device c.fill_with_bytes.ensures.filled)

pub returns-clause-bytes : goal.returns-clause-bytes
returns-clause-bytes g c =
    let inside = c.self.inside in
    subst (λ (view : PageView). HaveBytes view.volume_pages view.pages (span_of c.args.first 0 c.args.offset c.args.bytes.now) c.args.bytes.now (λ page byte. 0) (g.P.Pm.view c.fill_with_bytes.new.pm).words) c.self.view_is
    (have_whole_bytes (span_of c.args.first 0 c.args.offset c.args.bytes.now) c.args.bytes.now inside.geometry.pages inside.pages.now (g.P.Pm.view c.args.pm.now).words (g.P.Pm.view c.fill_with_bytes.new.pm).words refl (λ i. Fits-lt-pow (c.type_inv.bytes i)) c.fill_with_bytes.ensures.words)
