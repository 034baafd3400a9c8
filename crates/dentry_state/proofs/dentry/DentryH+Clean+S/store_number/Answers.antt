use Rattle.std.proofs.Common.{sym, subst, arith}
use Rattle.pm_trait.proofs.DeviceLaws.{interval_store, clean_stays}
use Rattle.dentry_state.specs.Dentry.{DentryView, DentryIsDirty, DentryIsClean}
use Rattle.dentry_state.proofs.DentryLaws.{slot_word_is}
use Rattle.dentry_state.proofs.Stored.{word_inside, differs, number_stored}
use Rattle.dentry_state.proofs.dentry.DentryH+Clean+S.store_number.Goals as goal

pub store-requires-clause-in_range : goal.store-requires-clause-in_range
store-requires-clause-in_range g c =
    let inside = c.self.inside in
    let clean = subst (λ (view : DentryView). DentryIsClean view (g.P.Pm.view c.args.pm.now)) (sym c.self.view_is) c.requires.clean in
    word_inside inside.geometry.pages inside.slot 0 c.slot_word.result (g.P.Pm.view c.args.pm.now).words c.slot_word.ensures.value (omega arith) clean.stands.inside

pub returns-clause-dirty : goal.returns-clause-dirty
returns-clause-dirty g c =
    let inside = c.self.inside in
    let clean = subst (λ (view : DentryView). DentryIsClean view (g.P.Pm.view c.args.pm.now)) (sym c.self.view_is) c.requires.clean in
    let word = c.slot_word.result in
    let number = c.args.number in
    subst (λ (view : DentryView). DentryIsDirty view (g.P.Pm.view c.store.new.self)) (sym c.of.ensures)
    (record {
      stands = number_stored inside.geometry.pages inside.slot inside.fields (g.P.Pm.view c.args.pm.now).words (g.P.Pm.view c.store.new.self).words word number c.slot_word.ensures.value c.store.ensures.words clean.stands;
      untouched = λ field past few.
          clean_stays _ (interval_store word number c.store.ensures.words c.store.ensures.trail)
          (differs inside.geometry.pages inside.slot field 0 word c.slot_word.ensures.value (λ none. omega (arith, past, none)))
          (clean.clean _ (slot_word_is inside.geometry.pages inside.slot field few));
    })
