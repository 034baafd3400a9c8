use Rattle.std.proofs.Common.{ℕ, sym, subst}
use Rattle.std.specs.Prelude.{Option}
use Rattle.pm_trait.specs.Device.{IsFlushed}
use Rattle.fence_token.proofs.ObjectLaws.{stands_same, stands_in_flight_now}
use Rattle.page_state.specs.Page.{PageView, AreDataPages, IsWordOf, PageIsDirty, PageIsInFlight}
use Rattle.page_state.proofs.Changes.{all_flushed}
use Rattle.page_state.proofs.page.PageH+Dirty+S.flush.Goals as goal

pub flush_pages-ticket-requires-clause-inside : goal.flush_pages-ticket-requires-clause-inside
flush_pages-ticket-requires-clause-inside g c =
    let dirty = subst (λ (view : PageView). PageIsDirty view (g.P.Pm.view c.args.pm.now)) (sym c.self.view_is) c.requires.dirty in
    dirty.stands.inside

pub flush_pages-ticket-requires-clause-touched : goal.flush_pages-ticket-requires-clause-touched
flush_pages-ticket-requires-clause-touched g c =
    let dirty = subst (λ (view : PageView). PageIsDirty view (g.P.Pm.view c.args.pm.now)) (sym c.self.view_is) c.requires.dirty in
    dirty.touched

pub returns-clause-flushed : goal.returns-clause-flushed
returns-clause-flushed g c =
    let inside = c.self.inside in
    let valid = subst (λ (d : ℕ). AreDataPages d inside.pages.now) inside.geometry.data_pages_exact c.self.invariant.0 in
    let dirty = subst (λ (view : PageView). PageIsDirty view (g.P.Pm.view c.args.pm.now)) (sym c.self.view_is) c.requires.dirty in
    subst (λ (view : PageView). (word : ℕ) → IsWordOf view word → IsFlushed (g.P.Pm.view c.flush_pages-ticket.new.pm).trail word) c.self.view_is
    (all_flushed inside.touched inside.geometry.pages inside.pages.now inside.fields inside.ticket valid dirty c.flush_pages-ticket.ensures.device c.flush_pages-ticket.ensures.flushed)

pub returns-clause-in_flight : goal.returns-clause-in_flight
returns-clause-in_flight g c =
    let inside = c.self.inside in
    let pm = c.flush_pages-ticket.new.pm in
    let device = g.P.Pm.view pm in
    let valid = subst (λ (d : ℕ). AreDataPages d inside.pages.now) inside.geometry.data_pages_exact c.self.invariant.0 in
    let dirty = subst (λ (view : PageView). PageIsDirty view (g.P.Pm.view c.args.pm.now)) (sym c.self.view_is) c.requires.dirty in
    let flushed = all_flushed inside.touched inside.geometry.pages inside.pages.now inside.fields inside.ticket valid dirty c.flush_pages-ticket.ensures.device c.flush_pages-ticket.ensures.flushed in
    let flight = stands_in_flight_now device.trail (g.met.P.Pm.honest pm) flushed (stands_same c.flush_pages-ticket.ensures.device.words dirty.stands) in
    subst (λ (view : PageView). PageIsInFlight view device) (sym c.of.ensures)
    (subst (λ (ticket : Option ℕ). PageIsInFlight (record { volume_pages = inside.geometry.pages; pages = inside.pages.now; fields = inside.fields; touched = inside.touched; ticket = ticket }) device) (sym c.flush_pages-ticket.ensures.ticket) flight)
