use Rattle.std.proofs.Common.{ℕ, ◌/◌, sym, ◌∙◌, ap, subst, arith}
use Rattle.std.specs.Prelude.{Some}
use Rattle.pm_trait.specs.Device.{IsFlushed}
use Rattle.layout.specs.Geometry.{slot_word_of}
use Rattle.fence_token.specs.Flushes.{FlushesLines}
use Rattle.fence_token.proofs.ObjectLaws.{stands_same, stands_in_flight_now}
use Rattle.dentry_state.specs.Dentry.{DentryView, IsSlotWord, touched_lines, DentryIsDirty, DentryIsInFlight}
use Rattle.dentry_state.proofs.Stored.{word_inside}
use Rattle.dentry_state.proofs.Lines.{lines, in_order, flushed_lines, all_flushed}
use Rattle.dentry_state.proofs.dentry.DentryH+Dirty+S.flush.Goals as goal

pub flush_span-ticket-requires-clause-order : goal.flush_span-ticket-requires-clause-order
flush_span-ticket-requires-clause-order g c =
    let inside = c.self.inside in
    let at_last = c.slot_word-last.ensures.value ∙ ap (λ (field : ℕ). slot_word_of inside.geometry.pages inside.slot field) c.last_field-last_field.ensures.last in
    in_order inside.touched inside.geometry.pages inside.slot c.slot_word-first.result c.slot_word-last.result c.slot_word-first.ensures.value at_last

pub flush_span-ticket-requires-clause-in_range : goal.flush_span-ticket-requires-clause-in_range
flush_span-ticket-requires-clause-in_range g c =
    let inside = c.self.inside in
    let dirty = subst (λ (view : DentryView). DentryIsDirty view (g.P.Pm.view c.args.pm.now)) (sym c.self.view_is) c.requires.dirty in
    word_inside inside.geometry.pages inside.slot c.last_field-last_field.result c.slot_word-last.result (g.P.Pm.view c.args.pm.now).words c.slot_word-last.ensures.value c.last_field-last_field.ensures.of_slot dirty.stands.inside

pub flush_span-ticket-requires-clause-room : goal.flush_span-ticket-requires-clause-room
flush_span-ticket-requires-clause-room g c =
    let inside = c.self.inside in
    let at_last = c.slot_word-last.ensures.value ∙ ap (λ (field : ℕ). slot_word_of inside.geometry.pages inside.slot field) c.last_field-last_field.ensures.last in
    let count = lines inside.touched inside.geometry.pages inside.slot c.slot_word-first.result c.slot_word-last.result c.slot_word-first.ensures.value at_last in
    let same = ap (λ (view : DentryView). touched_lines view.touched) c.self.view_is in
    omega (arith, count, same, c.requires.room)

pub returns-clause-device : goal.returns-clause-device
returns-clause-device g c =
    let inside = c.self.inside in
    let old = g.P.Pm.view c.args.pm.now in
    let new = g.P.Pm.view c.flush_span-ticket.new.pm in
    let at_last = c.slot_word-last.ensures.value ∙ ap (λ (field : ℕ). slot_word_of inside.geometry.pages inside.slot field) c.last_field-last_field.ensures.last in
    subst (λ (view : DentryView). FlushesLines old new (slot_word_of view.pages view.slot 0 / 8) (touched_lines view.touched)) c.self.view_is
    (flushed_lines inside.touched inside.geometry.pages inside.slot _ _ c.slot_word-first.ensures.value at_last c.flush_span-ticket.ensures.device)

pub returns-clause-flushed : goal.returns-clause-flushed
returns-clause-flushed g c =
    let inside = c.self.inside in
    let at_last = c.slot_word-last.ensures.value ∙ ap (λ (field : ℕ). slot_word_of inside.geometry.pages inside.slot field) c.last_field-last_field.ensures.last in
    let dirty = subst (λ (view : DentryView). DentryIsDirty view (g.P.Pm.view c.args.pm.now)) (sym c.self.view_is) c.requires.dirty in
    subst (λ (view : DentryView). (word : ℕ) → IsSlotWord view.pages view.slot word → IsFlushed (g.P.Pm.view c.flush_span-ticket.new.pm).trail word) c.self.view_is
    (all_flushed inside.touched inside.geometry.pages inside.slot c.slot_word-first.result c.slot_word-last.result c.slot_word-first.ensures.value at_last dirty.untouched c.flush_span-ticket.ensures.device.stores_none c.flush_span-ticket.ensures.flushed)

pub returns-clause-in_flight : goal.returns-clause-in_flight
returns-clause-in_flight g c =
    let inside = c.self.inside in
    let pm = c.flush_span-ticket.new.pm in
    let device = g.P.Pm.view pm in
    let at_last = c.slot_word-last.ensures.value ∙ ap (λ (field : ℕ). slot_word_of inside.geometry.pages inside.slot field) c.last_field-last_field.ensures.last in
    let dirty = subst (λ (view : DentryView). DentryIsDirty view (g.P.Pm.view c.args.pm.now)) (sym c.self.view_is) c.requires.dirty in
    let flushed = all_flushed inside.touched inside.geometry.pages inside.slot c.slot_word-first.result c.slot_word-last.result c.slot_word-first.ensures.value at_last dirty.untouched c.flush_span-ticket.ensures.device.stores_none c.flush_span-ticket.ensures.flushed in
    let flight = stands_in_flight_now device.trail (g.met.P.Pm.honest pm) flushed (stands_same c.flush_span-ticket.ensures.device.words dirty.stands) in
    subst (λ (view : DentryView). DentryIsInFlight view device) (sym c.of.ensures)
    (subst (λ (ticket : ℕ). DentryIsInFlight (record { pages = inside.geometry.pages; slot = inside.slot; fields = inside.fields; touched = inside.touched; ticket = Some ticket }) device) (sym c.flush_span-ticket.ensures.ticket) flight)
