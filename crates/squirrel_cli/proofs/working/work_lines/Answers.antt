use Rattle.std.proofs.Common.{inl, inr, refl}
use Rattle.squirrel_cli.specs.Seen.{seen_alone}
use Rattle.squirrel_cli.specs.declared.status.Status.TheVariants.{WriteFault}
use Rattle.squirrel_cli.proofs.Answered.{written_cut, written_whole}
use Rattle.squirrel_cli.proofs.Closing.{close_cause}
use Rattle.squirrel_cli.proofs.Mounted.{goes_on_in, leaves_going, stands_on}
use Rattle.squirrel_cli.proofs.Refusals.{listed_cause}
use Rattle.squirrel_cli.proofs.Works.{faults_of_volume, sums_generated, sums_lent, sums_of_volume, work_going}
use Rattle.squirrel_cli.proofs.working.work_lines.Goals as goal

pub run_generated-requires-clause-goes_on : goal.run_generated-requires-clause-goes_on
run_generated-requires-clause-goes_on g c = goes_on_in c.in-Ok-start.ensures.volume c.requires.goes_on

pub write_sums-written-requires-clause-stands : goal.write_sums-written-requires-clause-stands
write_sums-written-requires-clause-stands g c =
    let leaves = c.in-Some.ensures.leaves in
    stands_on c.volume-in-Some.ensures (leaves.stands (leaves.done refl).1)

pub close_session-requires-clause-stands : goal.close_session-requires-clause-stands
close_session-requires-clause-stands g c =
    let leaves = c.in-Some.ensures.leaves in
    leaves.stands (leaves.done refl).1

pub returns-in-Ok-written-clause-works : goal.returns-in-Ok-written-clause-works
returns-in-Ok-written-clause-works g c =
    let leaves = c.in-Some.ensures.leaves in
    let worked = g.P.Pm.view c.run_generated.new.pm in
    let volume = c.run_generated.new.session.volume in
    let written = sums_lent worked _ _ _ c.volume-in-Some.ensures c.write_sums-written.ensures in
    let old = seen_alone g.K.Sink (g.P.Pm.view c.args.pm.now) c.args.out.now in
    let new = seen_alone g.K.Sink (g.P.Pm.view c.close_session.new.pm) c.write_sums-written.new.out in
    inr (inr (sums_of_volume old new c.in-Ok-start.ensures.volume
    (sums_generated old new worked volume c.close_session.result refl c.in-Some.ensures.runs leaves.size (leaves.stands (leaves.done refl).1)
    (λ state at. inl ((written_whole c.in-Ok-written.is (written state at)).0, c.close_session.ensures state at)))))

pub returns-in-Ok-written-clause-cause : goal.returns-in-Ok-written-clause-cause
returns-in-Ok-written-clause-cause g c =
    let leaves = c.in-Some.ensures.leaves in
    let worked = g.P.Pm.view c.run_generated.new.pm in
    let volume = c.run_generated.new.session.volume in
    let written = sums_lent worked _ _ _ c.volume-in-Some.ensures c.write_sums-written.ensures in
    let (state, stands) = leaves.stands (leaves.done refl).1 in
    close_cause (seen_alone g.K.Sink (g.P.Pm.view c.args.pm.now) c.args.out.now)
    (seen_alone g.K.Sink (g.P.Pm.view c.close_session.new.pm) c.write_sums-written.new.out) volume.size state worked (leaves.done refl).0 refl (written_whole c.in-Ok-written.is (written state stands)).1 (c.close_session.ensures state stands)

pub returns-in-Ok-written-clause-leaves : goal.returns-in-Ok-written-clause-leaves
returns-in-Ok-written-clause-leaves g c =
    work_going (g.P.Pm.view c.close_session.new.pm) c.close_session.result c.in-Ok-start.ensures.volume c.in-Some.ensures.leaves c.close_session.ensures

pub returns-in-Some-clause-works : goal.returns-in-Some-clause-works
returns-in-Some-clause-works g c =
    let leaves = c.in-Some.ensures.leaves in
    let worked = g.P.Pm.view c.run_generated.new.pm in
    let volume = c.run_generated.new.session.volume in
    let written = sums_lent worked _ _ _ c.volume-in-Some.ensures c.write_sums-written.ensures in
    let old = seen_alone g.K.Sink (g.P.Pm.view c.args.pm.now) c.args.out.now in
    let new = seen_alone g.K.Sink (g.P.Pm.view c.run_generated.new.pm) c.write_sums-written.new.out in
    inr (inr (sums_of_volume old new c.in-Ok-start.ensures.volume
    (sums_generated old new worked volume WriteFault refl c.in-Some.ensures.runs leaves.size (leaves.stands (leaves.done refl).1)
    (λ state at. inr (refl, (written_cut c.in-Err.is (written state at)).0, refl)))))

pub returns-in-Some-clause-cause : goal.returns-in-Some-clause-cause
returns-in-Some-clause-cause g c =
    let leaves = c.in-Some.ensures.leaves in
    let worked = g.P.Pm.view c.run_generated.new.pm in
    let volume = c.run_generated.new.session.volume in
    let written = sums_lent worked _ _ _ c.volume-in-Some.ensures c.write_sums-written.ensures in
    let (state, stands) = leaves.stands (leaves.done refl).1 in
    let cut = written_cut c.in-Err.is (written state stands) in
    listed_cause (seen_alone g.K.Sink (g.P.Pm.view c.args.pm.now) c.args.out.now)
    (seen_alone g.K.Sink (g.P.Pm.view c.run_generated.new.pm) c.write_sums-written.new.out) (inr (inr (refl, cut.0))) (record { write = λ told. cut.1; no_write_fault = λ other. absurd (other refl) }) refl (leaves.done refl).0

pub returns-in-Some-clause-leaves : goal.returns-in-Some-clause-leaves
returns-in-Some-clause-leaves g c =
    leaves_going c.in-Ok-start.ensures.volume c.in-Some.ensures.leaves

pub returns-clause-works : goal.returns-clause-works
returns-clause-works g c = inr (inl (record {
  is = refl;
  silent = record { script = refl; output = refl };
  run = faults_of_volume c.args.generated.seed c.args.generated.count c.in-Ok-start.ensures.volume c.in-None.ensures.runs;
}))

pub returns-clause-leaves : goal.returns-clause-leaves
returns-clause-leaves g c = leaves_going c.in-Ok-start.ensures.volume c.in-None.ensures.leaves
