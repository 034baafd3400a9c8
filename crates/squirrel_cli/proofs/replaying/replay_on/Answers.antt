use Rattle.std.proofs.Common.{◌≢◌, [], inl, inr, refl, sym, ap, ◌∙◌, arith}
use Rattle.std.specs.Prelude.{Some}
use Rattle.pm_trait.specs.Device.{moment_of}
use Rattle.crash_replay.proofs.Tallies.{tally_law-holds}
use Rattle.squirrel_cli.specs.Replays.{HasReplayed}
use Rattle.squirrel_cli.specs.Seen.{seen}
use Rattle.squirrel_cli.specs.declared.status.Status.TheVariants as status
use Rattle.squirrel_cli.proofs.Answered.{answered_cause, answered_going, answered_run, end_done, untouched_cause, untouched_going}
use Rattle.squirrel_cli.proofs.Leaving.{leaves_sound, mounted_leaves_sound}
use Rattle.squirrel_cli.proofs.Mounted.{cause_entry, goes_on, mounted_row}
use Rattle.squirrel_cli.proofs.Refusals.{refused_cause, refused_row}
use Rattle.squirrel_cli.proofs.ReplayRuns.{cause_done, cause_otherwise, cause_short, listed, never_risen, run_of_tally, stops_done, stops_otherwise, told_of_left}
use Rattle.squirrel_cli.proofs.replaying.replay_on.Goals as goal

-- ---- on a device that is not mounted

pub returns-in-Err-clause-replays : goal.returns-in-Err-clause-replays
returns-in-Err-clause-replays g c =
    refused_row (seen g.S.Source g.K.Sink (g.P.Pm.view c.args.pm.now) c.args.source.now c.args.sink.now)
    (seen g.S.Source g.K.Sink (g.P.Pm.view c.mount.new.pm) c.args.source.now c.refuse.new.out) (HasReplayed c.args.crash.now.moment c.args.crash.now.keep.now) c.in-Err.error c.in-Err.ensures.answers c.refuse.ensures.told refl c.refuse.ensures.unwritten

pub returns-in-Err-clause-cause : goal.returns-in-Err-clause-cause
returns-in-Err-clause-cause g c =
    refused_cause (seen g.S.Source g.K.Sink (g.P.Pm.view c.args.pm.now) c.args.source.now c.args.sink.now)
    (seen g.S.Source g.K.Sink (g.P.Pm.view c.mount.new.pm) c.args.source.now c.refuse.new.out) c.in-Err.error c.in-Err.ensures.answers c.refuse.ensures.told c.refuse.ensures.cause refl

-- ---- the run

pub answer_lines-requires : goal.answer_lines-requires
answer_lines-requires g c = record { goes_on = goes_on c.in-Ok.ensures.answers c.requires.start }

pub list_left-requires-clause-countable : goal.list_left-requires-clause-countable
list_left-requires-clause-countable g c =
    let lent = c.ram-in-Done.ensures.acks in
    let more = (answered_going _ _ c.in-Ok-answer_lines.ensures.runs).acks in
    let few = (goes_on c.in-Ok.ensures.answers c.requires.start).acks in
    omega (arith, lent, more, few)

pub list_left-requires-clause-sound : goal.list_left-requires-clause-sound
list_left-requires-clause-sound g c =
    let old = seen g.S.Source g.K.Sink (g.P.Pm.view c.args.pm.now) c.args.source.now c.args.sink.now in
    let new = seen g.S.Source g.K.Sink (g.P.Pm.view c.answer_lines.new.pm) c.answer_lines.new.script c.args.sink.now in
    let run = run_of_tally old new (g.P.Pm.view c.mount.new.pm) c.new-tally.result c.answer_lines.new.out _ _ (inr (answered_run _ _ c.in-Ok-answer_lines.ensures.runs status.Done (ap Some (sym c.in-Done.is)))) refl in
    leaves_sound run.start run.states run.lines (mounted_leaves_sound c.requires.unbegun c.in-Ok.ensures.answers) run.any_moment (sym c.ram-in-Done.ensures.trail)

pub returns-in-Done-clause-replays : goal.returns-in-Done-clause-replays
returns-in-Done-clause-replays g c =
    let mount = c.in-Ok.ensures.answers in
    let moment = c.args.crash.now.moment in
    let keep = c.args.crash.now.keep.now in
    let old = seen g.S.Source g.K.Sink (g.P.Pm.view c.args.pm.now) c.args.source.now c.args.sink.now in
    let new = seen g.S.Source g.K.Sink (g.P.Pm.view c.answer_lines.new.pm) c.answer_lines.new.script c.list_left.new.sink in
    let run = run_of_tally old new (g.P.Pm.view c.mount.new.pm) c.new-tally.result c.answer_lines.new.out _ _ (inr (answered_run _ _ c.in-Ok-answer_lines.ensures.runs status.Done (ap Some (sym c.in-Done.is)))) refl in
    let tells = tally_law-holds c.answer_lines.new.out run.answers (run.writes [] c.new-tally.ensures) in
    let none = sym c.lacking.ensures ∙ c.if-lacking-eq0.true in
    let marked = c.events-mark.ensures ∙ ap moment_of c.ram.ensures.trail in
    mounted_row old new mount (λ _ at is. HasReplayed moment keep old at is) (HasReplayed moment keep) c.list_left.result (answered_going _ _ c.in-Ok-answer_lines.ensures.runs)
    (inr (listed moment keep old new mount run (tells.lacking.0 none) (sym c.ram-in-Done.ensures.trail) marked
    (λ memory. stops_done old new c.new-tally.result c.answer_lines.new.out _ _ mount (inr (answered_run _ _ c.in-Ok-answer_lines.ensures.runs status.Done (ap Some (sym c.in-Done.is)))) refl memory (c.list_left.ensures.no_memory memory)) c.list_left.ensures.lists)) (λ did. did)

pub returns-in-Done-clause-cause : goal.returns-in-Done-clause-cause
returns-in-Done-clause-cause g c =
    let mount = c.in-Ok.ensures.answers in
    let old = seen g.S.Source g.K.Sink (g.P.Pm.view c.args.pm.now) c.args.source.now c.args.sink.now in
    let new = seen g.S.Source g.K.Sink (g.P.Pm.view c.answer_lines.new.pm) c.answer_lines.new.script c.list_left.new.sink in
    let (text, told) = told_of_left c.list_left.ensures.lists in
    cause_entry old new mount (cause_done old new c.new-tally.result c.answer_lines.new.out _ _ mount (answered_cause _ _ c.in-Ok-answer_lines.ensures.runs status.Done (ap Some (sym c.in-Done.is))) refl told c.list_left.ensures.cause)

pub returns-in-Done-2-clause-replays : goal.returns-in-Done-2-clause-replays
returns-in-Done-2-clause-replays g c =
    let mount = c.in-Ok.ensures.answers in
    let moment = c.args.crash.now.moment in
    let keep = c.args.crash.now.keep.now in
    let old = seen g.S.Source g.K.Sink (g.P.Pm.view c.args.pm.now) c.args.source.now c.args.sink.now in
    let new = seen g.S.Source g.K.Sink (g.P.Pm.view c.answer_lines.new.pm) c.answer_lines.new.script c.args.sink.now in
    mounted_row old new mount (λ _ at is. HasReplayed moment keep old at is) (HasReplayed moment keep) status.NoMemory (answered_going _ _ c.in-Ok-answer_lines.ensures.runs)
    (inr (inl (stops_done old new c.new-tally.result c.answer_lines.new.out _ _ mount (inr (answered_run _ _ c.in-Ok-answer_lines.ensures.runs status.Done (ap Some (sym c.in-Done-2.is)))) refl refl refl))) (λ did. did)

pub returns-in-Done-2-clause-cause : goal.returns-in-Done-2-clause-cause
returns-in-Done-2-clause-cause g c =
    let old = seen g.S.Source g.K.Sink (g.P.Pm.view c.args.pm.now) c.args.source.now c.args.sink.now in
    let new = seen g.S.Source g.K.Sink (g.P.Pm.view c.answer_lines.new.pm) c.answer_lines.new.script c.args.sink.now in
    let mount = c.in-Ok.ensures.answers in
    cause_entry old new mount (cause_short old new c.new-tally.result c.answer_lines.new.out _ _ mount (answered_cause _ _ c.in-Ok-answer_lines.ensures.runs status.Done (ap Some (sym c.in-Done-2.is))) refl refl refl)

pub returns : goal.returns
returns g c =
    let mount = c.in-Ok.ensures.answers in
    let moment = c.args.crash.now.moment in
    let keep = c.args.crash.now.keep.now in
    let old = seen g.S.Source g.K.Sink (g.P.Pm.view c.args.pm.now) c.args.source.now c.args.sink.now in
    let new = seen g.S.Source g.K.Sink (g.P.Pm.view c.answer_lines.new.pm) c.answer_lines.new.script c.args.sink.now in
    let answers = c.in-Ok-answer_lines.ensures.runs in
    let cause = answered_cause _ _ answers c.status_of_end.result c.status_of_end.ensures in
    let cut : c.status_of_end.result ≢ status.WriteFault = λ is. never_risen (cause.write is) in
    let not : c.status_of_end.result ≢ status.Done = λ is. c.in_default-end.not-Done (end_done c.status_of_end.ensures is) in
    record {
      replays =
          mounted_row old new mount (λ _ at is. HasReplayed moment keep old at is) (HasReplayed moment keep) c.status_of_end.result (answered_going _ _ answers)
          (stops_otherwise old new c.new-tally.result c.answer_lines.new.out _ _ mount moment keep (inr (answered_run _ _ answers c.status_of_end.result c.status_of_end.ensures)) not cut refl) (λ did. did);
      cause = cause_entry old new mount (cause_otherwise old new c.new-tally.result c.answer_lines.new.out _ _ mount cause refl);
    }

-- ---- memory was short for it

pub returns-in_default-clause-replays : goal.returns-in_default-clause-replays
returns-in_default-clause-replays g c =
    let mount = c.in-Ok.ensures.answers in
    let moment = c.args.crash.now.moment in
    let keep = c.args.crash.now.keep.now in
    let old = seen g.S.Source g.K.Sink (g.P.Pm.view c.args.pm.now) c.args.source.now c.args.sink.now in
    let new = seen g.S.Source g.K.Sink (g.P.Pm.view c.answer_lines.new.pm) c.answer_lines.new.script c.args.sink.now in
    let same = c.in_default.ensures.runs in
    mounted_row old new mount (λ _ at is. HasReplayed moment keep old at is) (HasReplayed moment keep) status.NoMemory (untouched_going (goes_on mount c.requires.start) same.device)
    (inl (refl, record { device = same.device; silent = record { script = same.script; output = refl } })) (λ did. did)

pub returns-in_default-clause-cause : goal.returns-in_default-clause-cause
returns-in_default-clause-cause g c =
    let mount = c.in-Ok.ensures.answers in
    let old = seen g.S.Source g.K.Sink (g.P.Pm.view c.args.pm.now) c.args.source.now c.args.sink.now in
    let new = seen g.S.Source g.K.Sink (g.P.Pm.view c.answer_lines.new.pm) c.answer_lines.new.script c.args.sink.now in
    let same = c.in_default.ensures.runs in
    cause_entry old new mount (untouched_cause (record { device = same.device; silent = record { script = same.script; output = refl } }) (ap g.S.Source.faults same.script) refl)
