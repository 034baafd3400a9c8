use Rattle.std.proofs.Common.{sym, subst, arith}
use Rattle.pm_trait.proofs.DeviceLaws.{interval_store, clean_stays}
use Rattle.dentry_state.specs.Dentry.{DentryView, DentryIsDirty}
use Rattle.dentry_state.proofs.Stored.{word_inside, differs, pointer_stored, past_first}
use Rattle.dentry_state.proofs.dentry.DentryH.store_pointer.Goals as goal

pub store-requires-clause-in_range : goal.store-requires-clause-in_range
store-requires-clause-in_range g c =
    let inside = c.self.inside in
    let dirty = subst (λ (view : DentryView). DentryIsDirty (record view { touched = c.args.touched }) (g.P.Pm.view c.args.pm.now)) (sym c.self.view_is) c.requires.dirty in
    word_inside inside.geometry.pages inside.slot 1 c.slot_word.result (g.P.Pm.view c.args.pm.now).words c.slot_word.ensures.value (omega arith) dirty.stands.inside

pub returns-clause-dirty : goal.returns-clause-dirty
returns-clause-dirty g c =
    let inside = c.self.inside in
    let dirty = subst (λ (view : DentryView). DentryIsDirty (record view { touched = c.args.touched }) (g.P.Pm.view c.args.pm.now)) (sym c.self.view_is) c.requires.dirty in
    let word = c.slot_word.result in
    let pointer = c.args.pointer in
    subst (λ (view : DentryView). DentryIsDirty view (g.P.Pm.view c.store.new.self)) (sym c.of.ensures)
    (record {
      stands = pointer_stored inside.geometry.pages inside.slot inside.fields (g.P.Pm.view c.args.pm.now).words (g.P.Pm.view c.store.new.self).words word pointer c.slot_word.ensures.value c.store.ensures.words dirty.stands;
      untouched = λ field past few.
          let behind = past_first c.args.touched field past in
          clean_stays _ (interval_store word pointer c.store.ensures.words c.store.ensures.trail)
          (differs inside.geometry.pages inside.slot field 1 word c.slot_word.ensures.value (λ is. omega (arith, behind, is)))
          (dirty.untouched field past few);
    })
