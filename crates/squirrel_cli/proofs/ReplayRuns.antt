-- The run of a script that a replay makes, from the mount and from the entry on.
use Rattle.std.proofs.Common.{◌≡◌, ◌≢◌, ◌⊎◌, inl, inr, ℕ, List, [], refl, sym, ap, subst, ◌∙◌, arith}
use Rattle.std.specs.Prelude.{Option, Some, slice_get}
use Rattle.pm_trait.specs.Trail.{Trail}
use Rattle.pm_trait.specs.Device.{HasRisen, moment_of}
use Rattle.pm_trait.specs.DeviceView.{DeviceView}
use Rattle.pm_memory.specs.Fresh.{IsNew}
use Rattle.tree_model.specs.Step.{Refused}
use Rattle.tree_model.specs.declared.reply.Refusal.TheVariants.{NoMemory as OutOfMemory}
use Rattle.mount_scan.specs.Mounts.{HasMounted, IsOnlyMounted}
use Rattle.script.specs.declared.run_end.RunEnd.{RunEnd}
use Rattle.script.specs.declared.run_end.RunEnd.TheVariants as run_end
use Rattle.engine.specs.Script.{RunsScript}
use Rattle.crash_replay.specs.declared.moment.Moment.{Moment}
use Rattle.squirrel_cli.specs.declared.status.Status.{Status}
use Rattle.squirrel_cli.specs.declared.status.Status.TheVariants as status
use Rattle.squirrel_cli.specs.Causes.{TellsFaults}
use Rattle.squirrel_cli.specs.Ends.{end_of}
use Rattle.squirrel_cli.specs.GoingOn.{UnlessShort, RunsOn}
use Rattle.squirrel_cli.specs.Replays.{HasReplayed, ListsLeft, Replays, EndsUnlisted, unlisted_end}
use Rattle.squirrel_cli.specs.ReplaySteps.{ReplaysMounted}
use Rattle.squirrel_cli.specs.Rows.{Crashes, ReplaysCrash}
use Rattle.squirrel_cli.specs.Seen.{Seen}
use Rattle.squirrel_cli.specs.Told.{IsToldUnlessShort, TellsWrites}
use Rattle.volume.specs.Volume.{VolumeView}
use Rattle.squirrel_cli.proofs.Refusals.{listed_cause}
use Rattle.squirrel_cli.proofs.Leaving.{any_run}
use Rattle.squirrel_cli.proofs.Mounted.{gave_at_limit, mounted_state, mounts_and_runs, runs_mounted}

-- a sink without faults has had none
pub never_risen : ¬ HasRisen 0 0
never_risen (inl more) = omega (arith, more)
never_risen (inr most) = omega (arith, most)

-- ---- from the mount on

pub replays_mounted : {moment : Moment} {keep : List ℕ} {P mark : ℕ} {before after : DeviceView} {result : Status} {script rest : Option (List ℕ)} {tally tallied took now : List ℕ → Type 0} {trail : Trail}
    → (run : RunsScript P before after run_end.Done script rest tally tallied) → ((k : ℕ) → slice_get run.answers k ≢ Some (Refused OutOfMemory)) → after.trail ≡ Some trail → mark ≡ moment_of before.trail
    → ListsLeft moment keep mark trail result took now → ReplaysMounted moment keep P before after result script rest took now
unfolding any_run
replays_mounted {moment} {keep} {result = result} {took = took} {now = now} {trail = trail} run ample recorded marked lists = record {
  run = any_run run;
  unfailed = run.ends;
  ample = ample;
  trail = trail;
  recorded = recorded;
  listed = subst (λ (n : ℕ). ListsLeft moment keep n trail result took now) marked lists;
}

-- ---- from the entry on

pub replays_entry : {moment : Moment} {keep : List ℕ} {size P : ℕ} {before mounted after : DeviceView} {result : Status} {script rest : Option (List ℕ)} {took now : List ℕ → Type 0}
    → size ≡ P → IsOnlyMounted P before mounted → ReplaysMounted moment keep size mounted after result script rest took now → Replays moment keep P before after result script rest took now
unfolding mounts_and_runs
replays_entry {moment} {keep} {mounted = mounted} {after = after} {result} {script} {rest} {took} {now} pages only replays =
    let here = subst (λ (p : ℕ). ReplaysMounted moment keep p mounted after result script rest took now) pages replays in
    let (reads, mount) = mounted_state here.run.start only here.run.reads in
    record {
      replayed = record {
        ran = mounts_and_runs here.run reads mount;
        unfailed = here.unfailed;
        ample = here.ample;
        trail = here.trail;
        recorded = here.recorded;
        left = here.listed.left;
      };
      told = here.listed.told;
    }

-- ---- a run into a tally, which never fails

-- the run that was done
pub run_done : {S K : Type 0} {P : ℕ} (old new : Seen S K) {is : Status} → UnlessShort (RunsOn P) old new is → is ≡ status.Done → RunsScript P old.device new.device run_end.Done old.left new.left old.took new.took
run_done old new (inl (memory, untouched)) done = absurd (cc (memory, done))
run_done {P = P} old new (inr runs) done =
    let ended : runs.end ≡ run_end.Done = let e = sym runs.ended ∙ ap end_of done in cc e in
    subst (λ (end : RunEnd). RunsScript P old.device new.device end old.left new.left old.took new.took) ended runs.run

-- an end that isn't done, and not by a write, is the one that a replay's status tells
unlisted : (is : Status) {end : RunEnd} → is ≢ status.Done → is ≢ status.WriteFault → end_of is ≡ Some end → unlisted_end is ≡ Some end
unlisted status.Done not cut ended = absurd (not refl)
unlisted status.Usage not cut ended = absurd (cc ended)
unlisted status.NoMemory not cut ended = absurd (cc ended)
unlisted status.NotVolume not cut ended = absurd (cc ended)
unlisted (status.Damaged violation) not cut ended = absurd (cc ended)
unlisted status.DeviceFault not cut ended = ended
unlisted status.ReadFault not cut ended = ended
unlisted status.WriteFault not cut ended = absurd (cut refl)
unlisted status.ScriptLimit not cut ended = ended

-- the device and the script, with a tally in the place of the output
abbrev beside : {S K T : Type 0} → Seen S K → DeviceView → T → (List ℕ → Type 0) → Seen S T
beside at device tally took = record { device = device; script = at.script; left = at.left; read_faults = at.read_faults; output = tally; took = took; write_faults = 0 }

pub run_of_tally : {S K T : Type 0} {size : ℕ} (old new : Seen S K) (mounted : DeviceView) (before after : T) (took tallied : List ℕ → Type 0) {is : Status} → UnlessShort (RunsOn size) (beside old mounted before took) (beside new new.device after tallied) is → is ≡ status.Done
    → RunsScript size mounted new.device run_end.Done old.left new.left took tallied
run_of_tally old new mounted before after took tallied runs done = run_done (beside old mounted before took) (beside new new.device after tallied) runs done

module _ {S K T : Type 0} (old new : Seen S K) {mounted : DeviceView} {volume : VolumeView} (before after : T) (took tallied : List ℕ → Type 0) (mount : HasMounted volume old.device mounted) where
  -- The run was done, and memory was short for what follows.
  pub stops_done : {is told : Status} → UnlessShort (RunsOn volume.size) (beside old mounted before took) (beside new new.device after tallied) is → is ≡ status.Done → told ≡ status.NoMemory → new.output ≡ old.output → EndsUnlisted old new told
  stops_done runs done memory output = record {
    end = run_end.Done;
    ended = ap unlisted_end memory;
    output = output;
    ran = runs_mounted mount.size mount.only (any_run (run_done (beside old mounted before took) (beside new new.device after tallied) runs done));
    limit = λ limit. absurd (cc (memory, limit));
  }

  -- It had another end, and nothing was written.
  pub stops_otherwise : (moment : Moment) (keep : List ℕ) {is : Status} → UnlessShort (RunsOn volume.size) (beside old mounted before took) (beside new new.device after tallied) is → is ≢ status.Done → is ≢ status.WriteFault → new.output ≡ old.output
      → UnlessShort (λ _ at status. HasReplayed moment keep old at status) (record old { device = mounted }) new is
  stops_otherwise moment keep (inl (memory, untouched)) not cut output = inl (memory, record { device = untouched.device; silent = record { script = untouched.script; output = output } })
  stops_otherwise moment keep {is} (inr runs) not cut output = inr (inl (record {
    end = runs.end;
    ended = unlisted is not cut runs.ended;
    output = output;
    ran = runs_mounted mount.size mount.only (any_run runs.run);
    limit = gave_at_limit is runs.end old.left new.left runs.ended (runs.run.lines, runs.run.executes);
  }))

  -- the causes of such a run are those of the job
  pub cause_otherwise : {is : Status} → TellsFaults (beside old mounted before took) (beside new new.device after tallied) is → new.write_faults ≡ old.write_faults → TellsFaults (record old { device = mounted }) new is
  cause_otherwise cause unfailed = record {
    device = cause.device;
    done = cause.done;
    no_memory = cause.no_memory;
    read = cause.read;
    no_read_fault = cause.no_read_fault;
    write = λ same. absurd (never_risen (cause.write same));
    no_write_fault = λ other. unfailed;
  }

  -- and of one that was done nothing failed so far
  pub cause_done : {is told : Status} {text : List ℕ} → TellsFaults (beside old mounted before took) (beside new new.device after tallied) is → is ≡ status.Done → IsToldUnlessShort text told old.took new.took
      → TellsWrites told old.write_faults new.write_faults → TellsFaults (record old { device = mounted }) new told
  cause_done cause done lists writes = listed_cause (record old { device = mounted }) new lists writes (cause.no_read_fault (λ read. cc (done, read))) (cause.done done)

  -- nor where memory is short then
  pub cause_short : {is told : Status} → TellsFaults (beside old mounted before took) (beside new new.device after tallied) is → is ≡ status.Done → told ≡ status.NoMemory → new.write_faults ≡ old.write_faults
      → TellsFaults (record old { device = mounted }) new told
  cause_short cause done memory unfailed =
      listed_cause (record old { device = mounted }) new {text = []} (inl memory) (record { write = λ cut. absurd (cc (cut, memory)); no_write_fault = λ other. unfailed }) (cause.no_read_fault (λ read. cc (done, read))) (cause.done done)

-- what a listing ends with: memory was short for it, or it is told
pub listed : {S K : Type 0} (moment : Moment) (keep : List ℕ) (old new : Seen S K) {mounted : DeviceView} {volume : VolumeView} {is : Status} {mark : ℕ} {trail : Trail} {tally tallied : List ℕ → Type 0}
    → (mount : HasMounted volume old.device mounted) → (run : RunsScript volume.size mounted new.device run_end.Done old.left new.left tally tallied) → ((k : ℕ) → slice_get run.answers k ≢ Some (Refused OutOfMemory))
    → new.device.trail ≡ Some trail → mark ≡ moment_of mounted.trail → (is ≡ status.NoMemory → EndsUnlisted old new is)
    → (is ≡ status.NoMemory) ⊎ ListsLeft moment keep mark trail is old.took new.took → HasReplayed moment keep old new is
listed moment keep old new mount run ample recorded marked short (inl memory) = inl (short memory)
listed moment keep old new mount run ample recorded marked short (inr lists) = inr (replays_entry mount.size mount.only (replays_mounted run ample recorded marked lists))

pub told_of_left : {moment : Moment} {keep : List ℕ} {is : Status} {mark : ℕ} {trail : Trail} {took now : List ℕ → Type 0} → (is ≡ status.NoMemory) ⊎ ListsLeft moment keep mark trail is took now → (text : List ℕ) × IsToldUnlessShort text is took now
told_of_left (inl memory) = ([], inl memory)
told_of_left {mark = mark} {trail = trail} (inr lists) = (_, inr lists.told)

-- ---- on a copy

pub crashes_copy : {S K : Type 0} (moment : Moment) (keep : List ℕ) (old new : Seen S K) {is : Status} (before after : DeviceView) → new.device ≡ old.device → IsNew before old.device.words
    → TellsFaults (record old { device = before }) (record new { device = after }) is → after.faults ≡ 0 → ReplaysCrash moment keep (record old { device = before }) (record new { device = after }) is → Crashes moment keep old new is
crashes_copy moment keep old new before after alone fresh cause steady replays = inr (record {
  alone = alone;
  unfailing = λ same. absurd (never_risen (subst (λ (faults : ℕ). HasRisen 0 faults) steady (subst (λ (faults : ℕ). HasRisen faults after.faults) fresh.faults (cause.device same))));
  before = before;
  fresh = fresh;
  after = after;
  steady = steady ∙ sym fresh.faults;
  replays = replays;
})
