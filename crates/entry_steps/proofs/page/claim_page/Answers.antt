use Rattle.std.proofs.Common.{◌≡◌, ℕ, sym, subst, ap, ◌∙◌, arith}
use Rattle.layout.specs.declared.fields.SlotFields.{SlotFields}
use Rattle.layout.proofs.GeometryLaws.{slot_word_within}
use Rattle.dentry_state.specs.States.{IsNamed}
use Rattle.dentry_state.specs.Dentry.{DentryView, slot_fields_at}
use Rattle.dentry_state.specs.declared.dentry.Touched.TheVariants.{FirstLine}
use Rattle.std.specs.Prelude.{None}
use Rattle.entry_steps.specs.Steps.{first_slot}
use Rattle.entry_steps.proofs.Named.{slot_as_owned}
use Rattle.entry_steps.proofs.page.claim_page.Goals as goal

pub at-requires-clause-settled : goal.at-requires-clause-settled
at-requires-clause-settled g c =
    let P = c.args.geometry.now.pages in
    let slot = c.slot_in-slot.result in
    let claimed = c.in_ok-own_page.ensures.takes.fenced in
    λ word own.
    let within = slot_word_within P slot own.field c.slot_in-slot.ensures.in_range own.is_field in
    let at = own.at in
    claimed.fenced.settled.each word (omega (arith, within, at, claimed.long, c.requires.begins.whole))

pub at-requires-clause-reads : goal.at-requires-clause-reads
at-requires-clause-reads g c =
    let P = c.args.geometry.now.pages in
    let old = (g.P.Pm.view c.args.pm.now).words in
    let new = (g.P.Pm.view c.own_page.new.pm).words in
    let here : c.slot_in-slot.result ≡ first_slot c.args.page = let is = c.slot_in-slot.ensures.is in omega (arith, is) in
    subst IsNamed (sym (slot_as_owned P old new c.args.page c.args.directory c.slot_in-slot.result c.requires.ready.in_range c.own_page.ensures.takes.makes))
    (subst (λ (slot : ℕ). IsNamed (slot_fields_at P old slot)) (sym here) c.requires.named)

pub returns-clause-slot : goal.returns-clause-slot
returns-clause-slot g c =
    let P = c.args.geometry.now.pages in
    let old = (g.P.Pm.view c.args.pm.now).words in
    let new = (g.P.Pm.view c.own_page.new.pm).words in
    let here : c.slot_in-slot.result ≡ first_slot c.args.page = let is = c.slot_in-slot.ensures.is in omega (arith, is) in
    let Said : ℕ → SlotFields → DentryView = λ slot fields. record { pages = P; slot = slot; fields = fields; touched = FirstLine; ticket = None } in
    c.at.ensures.object
    ∙ ap (λ (fields : SlotFields). Said c.slot_in-slot.result fields) (slot_as_owned P old new c.args.page c.args.directory c.slot_in-slot.result c.requires.ready.in_range c.own_page.ensures.takes.makes)
    ∙ ap (λ (slot : ℕ). Said slot (slot_fields_at P old slot)) here
