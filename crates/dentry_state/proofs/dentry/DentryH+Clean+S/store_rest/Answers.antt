use Rattle.std.proofs.Common.{length, sym, ◌∙◌, ap, subst, arith, replicate, refl, length-set}
use Rattle.layout.specs.declared.fields.SlotFields.{SlotFields}
use Rattle.fence_token.specs.Stored.{StoresExactly}
use Rattle.layout.specs.Geometry.{slot_word_of}
use Rattle.dentry_state.specs.Dentry.{DentryView, IsRestWord, stores_from, DentryIsDirty, DentryIsClean}
use Rattle.dentry_state.proofs.Stored.{word_inside, rest_stored, rest_performed}
use Rattle.dentry_state.proofs.dentry.DentryH+Clean+S.store_rest.Goals as goal

pub store-requires-clause-in_range : goal.store-requires-clause-in_range
store-requires-clause-in_range g c =
    let inside = c.self.inside in
    let clean = subst (λ (view : DentryView). DentryIsClean view (g.P.Pm.view c.args.pm.now)) (sym c.self.view_is) c.requires.clean in
    word_inside inside.geometry.pages inside.slot 1 c.slot_word.result (g.P.Pm.view c.args.pm.now).words c.slot_word.ensures.value (omega arith) clean.stands.inside

pub store_name-requires-clause-inside : goal.store_name-requires-clause-inside
store_name-requires-clause-inside g c =
    let clean = subst (λ (view : DentryView). DentryIsClean view (g.P.Pm.view c.args.pm.now)) (sym c.self.view_is) c.requires.clean in
    let long = ap length c.store.ensures.words ∙ length-set (g.P.Pm.view c.args.pm.now).words c.slot_word.result 0 in
    λ word is. let before = clean.stands.inside word is in omega (arith, before, long)

pub returns-clause-dirty : goal.returns-clause-dirty
returns-clause-dirty g c =
    let inside = c.self.inside in
    let clean = subst (λ (view : DentryView). DentryIsClean view (g.P.Pm.view c.args.pm.now)) (sym c.self.view_is) c.requires.clean in
    let zeroed : SlotFields = record { inode = inside.fields.inode; pointer = 0; name = replicate 14 0 } in
    subst (λ (view : DentryView). DentryIsDirty view (g.P.Pm.view c.store_name.new.pm)) (sym c.of.ensures)
    (record {
      stands = rest_stored inside.geometry.pages inside.slot inside.fields zeroed c.slot_word.result c.slot_word.ensures.value c.store.ensures.words c.store_name.ensures.device.interval c.store_name.ensures.written refl clean.stands;
      untouched = λ field past few. absurd (omega (arith, past, few));
    })

pub returns-clause-device : goal.returns-clause-device
returns-clause-device g c =
    let inside = c.self.inside in
    subst (λ (view : DentryView). StoresExactly (IsRestWord view.pages view.slot) (g.P.Pm.view c.args.pm.now) (g.P.Pm.view c.store_name.new.pm) (stores_from (slot_word_of view.pages view.slot 1) (replicate 15 0)) 15) c.self.view_is
    (rest_performed inside.geometry.pages inside.slot 15 (replicate 14 0) c.slot_word.ensures.value c.store.ensures c.store_name.ensures.device (omega arith))
