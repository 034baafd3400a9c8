use Rattle.std.proofs.Common.{inr, refl, subst, sym}
use Rattle.volume.specs.Stands.{StandsFor}
use Rattle.sessions.specs.Interleave.{InterleaveView}
use Rattle.schedules.specs.declared.weave_end.WeaveEnd.TheVariants as ends
use Rattle.squirrel_cli.specs.Seen.{seen}
use Rattle.squirrel_cli.proofs.Closing.{close_cause}
use Rattle.squirrel_cli.proofs.WovenEnds.{cut_leaves, failed_cause, failed_leaves, failed_risen, room_leaves, runs_from, short_behind, through_closes, through_ended, through_faults, through_fences, through_going, through_leaves, stops_cause, stops_unwoven}
use Rattle.squirrel_cli.proofs.weaving.weave_lines.Goals as goal

pub run_schedule-requires-clause-stands : goal.run_schedule-requires-clause-stands
run_schedule-requires-clause-stands g c =
    let (state, stands) = c.requires.goes_on.stands in
    (state, subst (λ (weave : InterleaveView). StandsFor weave.volume (g.P.Pm.view c.args.pm.now) state) (sym c.in-Ok-start.ensures) stands)

pub close_sessions-requires-clause-going : goal.close_sessions-requires-clause-going
close_sessions-requires-clause-going g c =
    let (state, stands) = c.requires.goes_on.stands in
    through_going c.requires.goes_on stands (runs_from c.args.chosen.sessions c.in-Ok-start.ensures c.as_slice.ensures.value c.in-Ok-Done.field-0-is c.in-Ok-Done.ensures.runs state stands)

pub close_sessions-requires-clause-ended : goal.close_sessions-requires-clause-ended
close_sessions-requires-clause-ended g c =
    let (state, stands) = c.requires.goes_on.stands in
    through_ended c.requires.goes_on stands (runs_from c.args.chosen.sessions c.in-Ok-start.ensures c.as_slice.ensures.value c.in-Ok-Done.field-0-is c.in-Ok-Done.ensures.runs state stands)

pub close_sessions-requires-clause-fences : goal.close_sessions-requires-clause-fences
close_sessions-requires-clause-fences g c =
    let (state, stands) = c.requires.goes_on.stands in
    through_fences c.requires.goes_on stands (runs_from c.args.chosen.sessions c.in-Ok-start.ensures c.as_slice.ensures.value c.in-Ok-Done.field-0-is c.in-Ok-Done.ensures.runs state stands)

pub returns-in-Ok-Done-clause-weaves : goal.returns-in-Ok-Done-clause-weaves
returns-in-Ok-Done-clause-weaves g c = λ state stands.
    let runs = runs_from c.args.chosen.sessions c.in-Ok-start.ensures c.as_slice.ensures.value c.in-Ok-Done.field-0-is c.in-Ok-Done.ensures.runs state stands in
    inr (record {
      script = c.in-Ok.script.items;
      whole = c.in-Ok.ensures.reads;
      end = ends.Done;
      woven = c.run_schedule.new.interleave;
      ran = g.P.Pm.view c.run_schedule.new.pm;
      runs = runs;
      closes = through_closes c.requires.goes_on stands runs (g.P.Pm.view c.close_sessions.new.pm) c.close_sessions.ensures;
    })

pub returns-in-Ok-Done-clause-cause : goal.returns-in-Ok-Done-clause-cause
returns-in-Ok-Done-clause-cause g c =
    let (state, stands) = c.requires.goes_on.stands in
    let runs = runs_from c.args.chosen.sessions c.in-Ok-start.ensures c.as_slice.ensures.value c.in-Ok-Done.field-0-is c.in-Ok-Done.ensures.runs state stands in
    let (history, ended) = through_ended c.requires.goes_on stands runs in
    close_cause (seen g.S.Source g.K.Sink (g.P.Pm.view c.args.pm.now) c.args.script.now c.args.out.now)
    (seen g.S.Source g.K.Sink (g.P.Pm.view c.close_sessions.new.pm) c.read_whole.new.source c.run_schedule.new.sink) c.args.volume.size history (g.P.Pm.view c.run_schedule.new.pm)
    (through_faults c.requires.goes_on stands runs) (c.in-Ok.ensures.no_read_fault (λ e. cc e)) (c.in-Ok-Done.ensures.no_write_fault (λ e. let done = c.in-Ok-Done.field-0-is in cc (e, done)))
    (through_closes c.requires.goes_on stands runs (g.P.Pm.view c.close_sessions.new.pm) c.close_sessions.ensures history ended)

pub returns-in-Ok-Done-clause-leaves : goal.returns-in-Ok-Done-clause-leaves
returns-in-Ok-Done-clause-leaves g c =
    let (state, stands) = c.requires.goes_on.stands in
    let runs = runs_from c.args.chosen.sessions c.in-Ok-start.ensures c.as_slice.ensures.value c.in-Ok-Done.field-0-is c.in-Ok-Done.ensures.runs state stands in
    through_leaves c.requires.goes_on stands runs c.close_sessions.result (through_closes c.requires.goes_on stands runs (g.P.Pm.view c.close_sessions.new.pm) c.close_sessions.ensures)

pub returns-in-Ok-Faulted-clause-weaves : goal.returns-in-Ok-Faulted-clause-weaves
returns-in-Ok-Faulted-clause-weaves g c = λ state stands.
    inr (record {
      script = c.in-Ok.script.items;
      whole = c.in-Ok.ensures.reads;
      end = ends.Faulted;
      woven = c.run_schedule.new.interleave;
      ran = g.P.Pm.view c.run_schedule.new.pm;
      runs = runs_from c.args.chosen.sessions c.in-Ok-start.ensures c.as_slice.ensures.value c.in-Ok-Faulted.field-0-is c.in-Ok-Faulted.ensures.runs state stands;
      closes = (refl, refl);
    })

pub returns-in-Ok-Faulted-clause-cause : goal.returns-in-Ok-Faulted-clause-cause
returns-in-Ok-Faulted-clause-cause g c =
    let (state, stands) = c.requires.goes_on.stands in
    let runs = runs_from c.args.chosen.sessions c.in-Ok-start.ensures c.as_slice.ensures.value c.in-Ok-Faulted.field-0-is c.in-Ok-Faulted.ensures.runs state stands in
    failed_cause (seen g.S.Source g.K.Sink (g.P.Pm.view c.args.pm.now) c.args.script.now c.args.out.now)
    (seen g.S.Source g.K.Sink (g.P.Pm.view c.run_schedule.new.pm) c.read_whole.new.source c.run_schedule.new.sink) (c.in-Ok.ensures.no_read_fault (λ e. cc e))
    (failed_risen c.requires.goes_on stands runs) (c.in-Ok-Faulted.ensures.no_write_fault (λ e. let failed = c.in-Ok-Faulted.field-0-is in cc (e, failed)))

pub returns-in-Ok-Faulted-clause-leaves : goal.returns-in-Ok-Faulted-clause-leaves
returns-in-Ok-Faulted-clause-leaves g c =
    let (state, stands) = c.requires.goes_on.stands in
    failed_leaves c.requires.goes_on stands (runs_from c.args.chosen.sessions c.in-Ok-start.ensures c.as_slice.ensures.value c.in-Ok-Faulted.field-0-is c.in-Ok-Faulted.ensures.runs state stands)

pub returns-in-Ok-WriteFault-clause-weaves : goal.returns-in-Ok-WriteFault-clause-weaves
returns-in-Ok-WriteFault-clause-weaves g c = λ state stands.
    inr (record {
      script = c.in-Ok.script.items;
      whole = c.in-Ok.ensures.reads;
      end = ends.WriteFault;
      woven = c.run_schedule.new.interleave;
      ran = g.P.Pm.view c.run_schedule.new.pm;
      runs = runs_from c.args.chosen.sessions c.in-Ok-start.ensures c.as_slice.ensures.value c.in-Ok-WriteFault.field-0-is c.in-Ok-WriteFault.ensures.runs state stands;
      closes = (refl, refl);
    })

pub returns-in-Ok-WriteFault-clause-leaves : goal.returns-in-Ok-WriteFault-clause-leaves
returns-in-Ok-WriteFault-clause-leaves g c =
    let (state, stands) = c.requires.goes_on.stands in
    cut_leaves c.requires.goes_on stands (runs_from c.args.chosen.sessions c.in-Ok-start.ensures c.as_slice.ensures.value c.in-Ok-WriteFault.field-0-is c.in-Ok-WriteFault.ensures.runs state stands)

pub returns-clause-weaves : goal.returns-clause-weaves
returns-clause-weaves g c = λ state stands.
    let short = c.in-Err-run_schedule.ensures.runs state (subst (λ (weave : InterleaveView). StandsFor weave.volume (g.P.Pm.view c.args.pm.now) state) (sym c.in-Ok-start.ensures) stands) in
    stops_unwoven (seen g.S.Source g.K.Sink (g.P.Pm.view c.args.pm.now) c.args.script.now c.args.out.now)
    (seen g.S.Source g.K.Sink (g.P.Pm.view c.run_schedule.new.pm) c.read_whole.new.source c.run_schedule.new.sink) (short_behind c.in-Ok.ensures.reads) short.device short.unwritten

pub returns-clause-cause : goal.returns-clause-cause
returns-clause-cause g c =
    let (state, stands) = c.requires.goes_on.stands in
    let short = c.in-Err-run_schedule.ensures.runs state (subst (λ (weave : InterleaveView). StandsFor weave.volume (g.P.Pm.view c.args.pm.now) state) (sym c.in-Ok-start.ensures) stands) in
    stops_cause (seen g.S.Source g.K.Sink (g.P.Pm.view c.args.pm.now) c.args.script.now c.args.out.now)
    (seen g.S.Source g.K.Sink (g.P.Pm.view c.run_schedule.new.pm) c.read_whole.new.source c.run_schedule.new.sink) (short_behind c.in-Ok.ensures.reads)
    short.device.faults (λ e. absurd (cc e)) (λ other. c.in-Ok.ensures.no_read_fault (λ e. cc e)) (c.in-Err-run_schedule.ensures.no_write_fault (λ e. cc e))

pub returns-clause-leaves : goal.returns-clause-leaves
returns-clause-leaves g c =
    let (state, stands) = c.requires.goes_on.stands in
    let short = c.in-Err-run_schedule.ensures.runs state (subst (λ (weave : InterleaveView). StandsFor weave.volume (g.P.Pm.view c.args.pm.now) state) (sym c.in-Ok-start.ensures) stands) in
    room_leaves c.requires.goes_on short.device
