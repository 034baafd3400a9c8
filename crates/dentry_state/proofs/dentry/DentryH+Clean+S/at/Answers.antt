use Rattle.std.proofs.Common.{◌∙◌, ap, refl, arith, ℕ, List}
use Rattle.dentry_state.specs.Dentry.{DentryView, slot_fields_at}
use Rattle.dentry_state.proofs.DentryLaws.{same_fields, slot_word_in_volume}
use Rattle.dentry_state.proofs.Stored.{clean_as}
use Rattle.dentry_state.proofs.dentry.DentryH+Clean+S.at.Goals as goal

pub returns-clause-clean : goal.returns-clause-clean
returns-clause-clean g c =
    let now = (g.P.Pm.view c.args.pm.now).words in
    let pages = c.args.geometry.now.pages in
    let read = c.slot_at-fields.ensures in
    clean_as pages c.of.result.pages c.args.slot c.of.result.slot (slot_fields_at pages now c.args.slot) c.of.result.fields
    (ap (λ (dentry : DentryView). dentry.pages) c.of.ensures)
    (ap (λ (dentry : DentryView). dentry.slot) c.of.ensures)
    (ap (λ (dentry : DentryView). dentry.fields) c.of.ensures
    ∙ same_fields c.slot_at-fields.result (slot_fields_at pages c.image.result.now c.args.slot) read.inode read.pointer read.name
    ∙ ap (λ (words : List ℕ). slot_fields_at pages words c.args.slot) c.image.ensures)
    (record {
      stands = record {
        inside = λ word is. let within = slot_word_in_volume pages c.args.slot word c.requires.in_range is in omega (arith, within, c.requires.whole);
        reads = refl;
      };
      clean = c.requires.settled;
    })
