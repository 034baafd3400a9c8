-- A generated script on a mounted volume, and its sums.
use Rattle.std.proofs.Common.{◌≡◌, inl, inr, ℕ, ◌+◌, ◌^◌, ◌<◌, ◌≤◌, List, [], length, refl, ap, subst, ◌∙◌, arith}
use Rattle.std.specs.Prelude.{Option, Some, None, Result}
use Rattle.io_edge.specs.Bytes.{Writes}
use Rattle.io_edge.specs.declared.sink.WriteFault.{WriteFault}
use Rattle.pm_trait.specs.DeviceView.{DeviceView}
use Rattle.tree_model.specs.Capacity.{untaken}
use Rattle.tree_model.specs.Run.{Line, State}
use Rattle.tree_model.specs.Step.{space_of}
use Rattle.tree_model.specs.declared.reply.Free.{Free}
use Rattle.script.specs.Lines.{calls_of}
use Rattle.script.specs.Work.{work_text}
use Rattle.script.specs.declared.run_end.RunEnd.{RunEnd}
use Rattle.script.specs.declared.run_end.RunEnd.TheVariants as run_end
use Rattle.script.specs.declared.work.WorkSummary.{WorkSummary}
use Rattle.volume.specs.Totals.{totals_of}
use Rattle.volume.specs.declared.totals.Totals.{Totals}
use Rattle.crash_replay.specs.Tally.{IsTallyOf, accepted_count, refused_count, accepted_in, refused_in}
use Rattle.crash_replay.specs.Work.{work_script}
use Rattle.crash_replay.specs.declared.tally.Tally.{Tally}
use Rattle.crash_replay.proofs.Tallies.{tally_law-holds}
use Rattle.crash_replay.proofs.WorkScripts.{work_law-holds}
use Rattle.engine.specs.Script.{ExecutesTold, LeavesRun, RunsScript}
use Rattle.engine.specs.Session.{Mounted}
use Rattle.engine.proofs.Runs.{answers_as_lines}
use Rattle.image_reading.specs.Reading.{ReadsAs}
use Rattle.image_reading.specs.Soundness.{pages_in_image}
use Rattle.volume.specs.Volume.{VolumeView}
use Rattle.volume.specs.Stands.{IsStanding, StandsFor}
use Rattle.engine.specs.Run.{IsAt, last_state}
use Rattle.squirrel_cli.specs.declared.status.Status.{Status}
use Rattle.squirrel_cli.specs.Tells.{TellsAndCloses}
use Rattle.mount_scan.proofs.Answered.{one_state}
use Rattle.mount_scan.specs.Mounts.{HasMounted}
use Rattle.squirrel_cli.specs.Seen.{Seen}
use Rattle.squirrel_cli.specs.ReplaySteps.{RunsMounted}
use Rattle.squirrel_cli.specs.Works.{HasWorked, WorksScript, summary_of, sums_of}
use Rattle.squirrel_cli.specs.WorkSteps.{CountsGenerated, RunsGenerated, SumsGenerated, WorksOn}
use Rattle.squirrel_cli.specs.GoingOn.{LeavesGoing}
use Rattle.squirrel_cli.specs.Mounts.{ClosesAs}
use Rattle.squirrel_cli.proofs.Closing.{close_going, keeps_closed, tells_quietly}
use Rattle.squirrel_cli.proofs.Leaving.{any_run}
use Rattle.squirrel_cli.proofs.Mounted.{limit_gives, mounted_state, mounts_and_runs, runs_mounted}
use Rattle.squirrel_cli.proofs.StatusEnds.{not_at_limit}

-- ---- the run

-- of a script that was run through nothing is left
nothing_left : (script : List ℕ) (rest : Option (List ℕ)) (lines : List Line) → ExecutesTold run_end.Done (Some script) rest lines → (rest ≡ Some []) × (lines ≡ calls_of script)
nothing_left script None lines executes = absurd executes
nothing_left script (Some rest) lines (same, none, short) = (ap Some none, same)

nothing_left_at_fault : (script : List ℕ) (rest : Option (List ℕ)) (lines : List Line) → ExecutesTold run_end.Faulted (Some script) rest lines → rest ≡ Some []
nothing_left_at_fault script None lines executes = absurd executes
nothing_left_at_fault script (Some rest) lines (same, none, short) = ap Some none

-- with the end and the script that are known
script_told : {P : ℕ} {before after : DeviceView} {end wanted : RunEnd} {script rest : Option (List ℕ)} {bytes : List ℕ} {took now : List ℕ → Type 0} → end ≡ wanted → script ≡ Some bytes
    → RunsScript P before after end script rest took now → RunsScript P before after wanted (Some bytes) rest took now
script_told {P} {before} {after} {wanted = wanted} {script} {rest} {took = took} {now} ended told run =
    subst (λ (s : Option (List ℕ)). RunsScript P before after wanted s rest took now) told
    (subst (λ (e : RunEnd). RunsScript P before after e script rest took now) ended run)

-- the answers of a run through the generated script, and what a tally counts of them
record Counted (P seed count : ℕ) (before after : DeviceView) (tally : Tally) (rest : Option (List ℕ)) : Type 0 where
  run : RunsMounted P before after run_end.Done (Some (work_script seed count)) rest
  accepted : accepted_count tally ≡ accepted_in run.answers
  refused : refused_count tally ≡ refused_in run.answers
  all : accepted_in run.answers + refused_in run.answers ≡ count + 4

generated_done : {P seed count : ℕ} {before after : DeviceView} {rest : Option (List ℕ)} {took : List ℕ → Type 0} {tally : Tally} → count ≤ 1000000 → took []
    → (run : RunsScript P before after run_end.Done (Some (work_script seed count)) rest took (IsTallyOf tally)) → Counted P seed count before after tally rest
unfolding any_run
generated_done {P} {seed} {count} {rest = rest} {tally = tally} few began run =
    let (none, called) = nothing_left (work_script seed count) rest run.lines run.executes in
    let each = answers_as_lines P run.start run.lines run.answers run.states run.run run.ends in
    let ends : length run.states ≡ length run.answers = run.ends in
    let lines = ap length called ∙ (work_law-holds seed count).lines in
    let long : length run.answers ≡ count + 4 = omega (arith, each, ends, lines) in
    let short : length run.answers < 2 ^ 64 = omega (arith, long, few) in
    let tells = tally_law-holds tally run.answers (run.writes [] began) in
    record {
      run = any_run run;
      accepted = tells.accepted short;
      refused = tells.refused short;
      all = let sum = tells.all short in omega (arith, sum, long, tells.accepted short, tells.refused short);
    }

pub counts_generated : {P seed count : ℕ} {before after : DeviceView} {end : RunEnd} {script rest : Option (List ℕ)} {took : List ℕ → Type 0} {tally : Tally} → end ≡ run_end.Done → script ≡ Some (work_script seed count)
    → count ≤ 1000000 → took [] → RunsScript P before after end script rest took (IsTallyOf tally) → CountsGenerated P seed count before after tally
counts_generated {P} {seed} {count} {before} {after} {rest = rest} {took} {tally} ended told few began run =
    let here = script_told ended told run in
    let (none, called) = nothing_left (work_script seed count) rest here.lines here.executes in
    let counted = subst (Counted P seed count before after tally) none (generated_done few began here) in
    record { run = counted.run; accepted = counted.accepted; refused = counted.refused; all = counted.all }

pub faulted_generated : (seed count : ℕ) {P : ℕ} {before after : DeviceView} {end : RunEnd} {script rest : Option (List ℕ)} {took now : List ℕ → Type 0} → end ≡ run_end.Faulted → script ≡ Some (work_script seed count)
    → RunsScript P before after end script rest took now → RunsGenerated P seed count before after run_end.Faulted
faulted_generated seed count {P} {before} {after} {rest = rest} {took} {now} ended told run =
    let here = script_told ended told run in
    let none = nothing_left_at_fault (work_script seed count) rest here.lines here.executes in
    subst (λ (r : Option (List ℕ)). RunsMounted P before after run_end.Faulted (Some (work_script seed count)) r) none (any_run here)

-- the generated script is short
pub never_at_limit : (seed count : ℕ) {P : ℕ} {before after : DeviceView} {end : RunEnd} {script rest : Option (List ℕ)} {took now : List ℕ → Type 0} → end ≡ run_end.Limit → script ≡ Some (work_script seed count)
    → count ≤ 1000000 → RunsScript P before after end script rest took now → ⊥
never_at_limit seed count {rest = rest} ended told few run =
    let here = script_told ended told run in
    not_at_limit (Some (work_script seed count)) rest ((work_law-holds seed count).within few) (limit_gives (Some (work_script seed count)) rest here.lines here.executes)

-- ---- the sums

pub summed : (P count : ℕ) {a r accepted refused : ℕ} {space : Free} {totals : Totals} (state : State) → a ≡ accepted → r ≡ refused → space ≡ space_of (untaken P) state.tree state.room → totals ≡ totals_of state.tree
    → record { lines = count + 4; accepted = a; refused = r; space = space; names = totals.names; bytes = totals.bytes } ≡ summary_of P count accepted refused state
summed P count state counted lacking free total = λ i. record { lines = count + 4; accepted = counted i; refused = lacking i; space = free i; names = (total i).names; bytes = (total i).bytes }

pub sums_written : {took now : List ℕ → Type 0} {faults_before faults_after : ℕ} {summary wanted : WorkSummary} {written : Result (Unit {0}) WriteFault} → summary ≡ wanted
    → Writes took now faults_before faults_after (work_text summary) written → Writes took now faults_before faults_after (work_text wanted) written
sums_written {took} {now} {faults_before} {faults_after} {written = written} same writes = subst (λ (s : WorkSummary). Writes took now faults_before faults_after (work_text s) written) same writes

-- They are told of the last state, for which the volume in memory stands.
pub sums_generated : {S K : Type 0} {P seed count : ℕ} (old new : Seen S K) (worked : DeviceView) {tally : Tally} (volume : VolumeView) (result : Status) → new.script ≡ old.script → CountsGenerated P seed count old.device worked tally
    → volume.size ≡ P → IsStanding volume worked
    → ((state : State) → StandsFor volume worked state → TellsAndCloses volume.size state (work_text (summary_of volume.size count (accepted_count tally) (refused_count tally) state)) worked new.device result old.took new.took)
    → SumsGenerated P seed count old new result
sums_generated {P = P} {count = count} old new worked {tally = tally} volume result script counted size (state, stands) told =
    let run = counted.run in
    let last : State = last_state run.start run.states in
    let ended : IsAt P last worked.words = run.last run.ends in
    let same : state ≡ last = one_state state last (subst (λ (p : ℕ). ReadsAs p worked.words state) size stands.reads) ended.reads in
    let sized = subst (λ (p : ℕ). TellsAndCloses p state (work_text (summary_of p count (accepted_count tally) (refused_count tally) state)) worked new.device result old.took new.took) size (told state stands) in
    let accepted = subst (λ (n : ℕ). TellsAndCloses P state (work_text (summary_of P count n (refused_count tally) state)) worked new.device result old.took new.took) counted.accepted sized in
    let refused = subst (λ (n : ℕ). TellsAndCloses P state (work_text (summary_of P count (accepted_in run.answers) n state)) worked new.device result old.took new.took) counted.refused accepted in
    record {
      script = script;
      worked = worked;
      run = run;
      all = counted.all;
      told = subst (λ (s : State). TellsAndCloses P s (work_text (summary_of P count (accepted_in run.answers) (refused_in run.answers) s)) worked new.device result old.took new.took) same refused;
    }

-- they were written of the volume that the session lent
pub sums_lent : {lent volume : VolumeView} (device : DeviceView) (count accepted refused : ℕ) {took now : List ℕ → Type 0} {faults_before faults_after : ℕ} {written : Result (Unit {0}) WriteFault} → lent ≡ volume
    → ((state : State) → StandsFor lent device state → Writes took now faults_before faults_after (work_text (summary_of lent.size count accepted refused state)) written)
    → (state : State) → StandsFor volume device state → Writes took now faults_before faults_after (work_text (summary_of volume.size count accepted refused state)) written
sums_lent device count accepted refused {took} {now} {faults_before} {faults_after} {written} same writes =
    subst (λ (v : VolumeView). (state : State) → StandsFor v device state → Writes took now faults_before faults_after (work_text (summary_of v.size count accepted refused state)) written) same writes

-- the volume was closed behind them
pub work_going : {old new : Mounted} {volume : VolumeView} (after : DeviceView) (is : Status) → old.volume ≡ volume → LeavesRun run_end.Done old new
    → ((state : State) → StandsFor new.volume new.device state → ClosesAs new.volume.size state new.device after is) → LeavesGoing volume.size old.device after
work_going {old} {new} after is same leaves closes =
    let (state, stands) = leaves.stands (leaves.done refl).1 in
    subst (λ (p : ℕ). LeavesGoing p old.device after) (leaves.size ∙ ap (λ (v : VolumeView). v.size) same)
    (close_going new.volume.size state old.device new.device after is (leaves.done refl).0 leaves.acks (closes state stands))

-- of the volume that the session was started with
pub sums_of_volume : {S K : Type 0} {seed count : ℕ} {session volume : VolumeView} {result : Status} (old new : Seen S K) → session ≡ volume
    → SumsGenerated session.size seed count old new result → SumsGenerated volume.size seed count old new result
sums_of_volume {seed = seed} {count} {result = result} old new same sums = subst (λ (v : VolumeView). SumsGenerated v.size seed count old new result) same sums

pub faults_of_volume : (seed count : ℕ) {session volume : VolumeView} {before after : DeviceView} → session ≡ volume
    → RunsGenerated session.size seed count before after run_end.Faulted → RunsGenerated volume.size seed count before after run_end.Faulted
faults_of_volume seed count {before = before} {after = after} same run = subst (λ (v : VolumeView). RunsGenerated v.size seed count before after run_end.Faulted) same run

-- ---- from the entry on

sums_entry : {S K : Type 0} (seed count : ℕ) (old new : Seen S K) {mounted : DeviceView} {volume : VolumeView} {result : Status} → HasMounted volume old.device mounted
    → SumsGenerated volume.size seed count (record old { device = mounted }) new result → WorksScript seed count old new result
unfolding mounts_and_runs
sums_entry seed count old new {mounted} {result = result} mount sums =
    let here = subst (λ (p : ℕ). SumsGenerated p seed count (record old { device = mounted }) new result) mount.size sums in
    let (reads, made) = mounted_state here.run.start mount.only here.run.reads in
    let P = pages_in_image old.device.words in
    let last = last_state here.run.start here.run.states in
    let whole = mounts_and_runs here.run reads made in
    let at = here.run.last here.run.ends in
    let text = work_text (sums_of P count here.run.start here.run.answers here.run.states) in
    record {
      script = here.script;
      worked = here.worked;
      ran = whole;
      all = here.all;
      told = here.told;
      keeps = keeps_closed whole
          (tells_quietly P last here.worked new.device text result old.took new.took (record { settled = here.run.settled here.run.ends; tidy = at.tidy; reads = at.reads }) here.told);
    }

pub works_entry : {S K : Type 0} (seed count : ℕ) (old new : Seen S K) {mounted : DeviceView} {volume : VolumeView} {result : Status} → HasMounted volume old.device mounted
    → WorksOn volume.size seed count (record old { device = mounted }) new result → HasWorked seed count old new result
works_entry seed count old new mount (inl fault) = inl (record {
  is = fault.is;
  silent = record { script = fault.silent.script; output = fault.silent.output };
  ran = runs_mounted mount.size mount.only fault.run;
})
works_entry seed count old new mount (inr sums) = inr (sums_entry seed count old new mount sums)
