use Rattle.std.proofs.Common.{rules, ℕ, inl, inr, refl, subst}
use Rattle.layout.specs.Format.{IsFormattedFrom}
use Rattle.image_reading.specs.Laws.{IsFresh}
use Rattle.script.specs.Texts.{formatted_text}
use Rattle.squirrel_cli.specs.declared.status.Status.TheVariants.{Done}
use Rattle.squirrel_cli.specs.Told.{IsToldOrCut}
use Rattle.squirrel_cli.proofs.Jobs.{formats_only, pages_of}
use Rattle.squirrel_cli.proofs.Refusals.{told_as}
use Rattle.squirrel_cli.proofs.mkfs.make_volume.Goals as goal

pub returns-in-Ok-clause-makes : goal.returns-in-Ok-clause-makes
returns-in-Ok-clause-makes g c =
    let here = c.in-Some.ensures in
    let old = g.P.Pm.view c.args.pm.now in
    let new = g.P.Pm.view c.format.new.pm in
    let took = g.K.Sink.took c.args.out.now in
    let now = g.K.Sink.took c.write_formatted.new.sink in
    let made = pages_of old.words c.image.result.now c.args.pages c.image.ensures here.1 in
    inr (inr (
      search rules,
      inr (record {
        script = refl;
        formatted = subst (λ (p : ℕ). IsFormattedFrom p old.words new.words) made c.in-Ok.ensures.formatted;
        fresh = subst (λ (p : ℕ). IsFresh p new.words) made c.in-Ok.ensures.fresh;
        only = formats_only {before = old} {after = new} c.args.pages (g.met.P.Pm.honest c.args.pm.now) (g.met.P.Pm.honest c.format.new.pm) c.in-Ok.ensures.device.acks c.format.ensures.any_moment made;
        fences = c.in-Ok.ensures.device.counted;
        faults = c.in-Ok.ensures.device.no_fault;
        told = subst (λ (p : ℕ). IsToldOrCut Done (formatted_text p) c.status_of_write.result took now) here.0
            (told_as Done c.write_formatted.result c.write_formatted.ensures c.status_of_write.ensures);
      }),
    ))

pub returns-in-Err-PmFault-clause-makes : goal.returns-in-Err-PmFault-clause-makes
returns-in-Err-PmFault-clause-makes g c =
    let here = c.in-Some.ensures in
    let old = g.P.Pm.view c.args.pm.now in
    let new = g.P.Pm.view c.format.new.pm in
    let made = pages_of old.words c.image.result.now c.args.pages c.image.ensures here.1 in
    inr (inr (
      search rules,
      inl (record {
        is = refl;
        silent = record { script = refl; output = refl };
        only = formats_only {before = old} {after = new} c.args.pages (g.met.P.Pm.honest c.args.pm.now) (g.met.P.Pm.honest c.format.new.pm) (search rules) c.format.ensures.any_moment made;
        fewer = search rules;
        halts = search rules;
      }),
    ))
