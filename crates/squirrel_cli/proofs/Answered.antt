-- The answered lines of a script, and the session that they leave.
use Rattle.std.proofs.Common.{◌≡◌, ◌≢◌, inr, ℕ, List, refl, sym, ap, subst, ◌∙◌, arith}
use Rattle.std.specs.Prelude.{Option, Some}
use Rattle.io_edge.specs.Bytes.{Takes, TakesPrefix, Writes}
use Rattle.pm_trait.specs.Device.{HasRisen}
use Rattle.pm_trait.specs.DeviceView.{DeviceView}
use Rattle.std.specs.Prelude.{Result, Ok, Err}
use Rattle.tree_model.specs.Run.{State}
use Rattle.image_reading.specs.Reading.{ReadsAs}
use Rattle.mount_scan.proofs.Answered.{one_state}
use Rattle.script.specs.declared.run_end.RunEnd.{RunEnd}
use Rattle.script.specs.declared.run_end.RunEnd.TheVariants as run_end
use Rattle.volume.specs.Stands.{IsStanding, StandsFor}
use Rattle.volume.specs.Volume.{VolumeView}
use Rattle.engine.specs.Run.{IsAt, last_state}
use Rattle.engine.specs.Script.{LeavesRun, RunsScript}
use Rattle.engine.specs.Session.{Mounted, SessionView, on, session_of}
use Rattle.squirrel_cli.specs.Causes.{TellsFaults}
use Rattle.squirrel_cli.specs.Ends.{end_of}
use Rattle.squirrel_cli.specs.GoingOn.{AnswersLines, GoesOn, LeavesGoing, RunsAndCloses, RunsOn}
use Rattle.squirrel_cli.specs.Mounts.{ClosesAfter, ClosesAs}
use Rattle.squirrel_cli.specs.Seen.{Seen, IsUntouched}
use Rattle.squirrel_cli.specs.declared.scripted.Answered.{Answered}
use Rattle.squirrel_cli.specs.declared.status.Status.{Status}
use Rattle.squirrel_cli.specs.declared.status.Status.TheVariants as status
use Rattle.squirrel_cli.proofs.Closing.{close_cause, close_going}
use Rattle.squirrel_cli.proofs.Mounted.{leaves_going}
use Rattle.squirrel_cli.proofs.StatusEnds.{status_cause}

-- ---- a task for which memory was short

pub untouched_going : {volume : VolumeView} {before after : DeviceView} → GoesOn volume before → after ≡ before → LeavesGoing volume.size before after
untouched_going {volume} {before} goes_on same =
    let (state, stands) = goes_on.stands in
    subst (LeavesGoing volume.size before) (sym same) (record { settled = inr stands.settled; tidy = inr stands.tidy; acks = omega arith })

pub untouched_cause : {S K : Type 0} {old new : Seen S K} → IsUntouched old new → new.read_faults ≡ old.read_faults → new.write_faults ≡ old.write_faults → TellsFaults old new status.NoMemory
untouched_cause untouched unread uncut = record {
  device = λ e. absurd (cc e);
  done = λ e. absurd (cc e);
  no_memory = λ e. ap (λ (device : DeviceView). device.faults) untouched.device;
  read = λ e. absurd (cc e);
  no_read_fault = λ other. unread;
  write = λ e. absurd (cc e);
  no_write_fault = λ other. uncut;
}

-- ---- the status of an end

abbrev status_of : RunEnd → Status
status_of run_end.Done = status.Done
status_of run_end.Faulted = status.DeviceFault
status_of run_end.ReadFault = status.ReadFault
status_of run_end.WriteFault = status.WriteFault
status_of run_end.Limit = status.ScriptLimit

tells_end : (is : Status) {end : RunEnd} → end_of is ≡ Some end → is ≡ status_of end
tells_end status.Done {end} ended = ap status_of (let e : run_end.Done ≡ end = cc ended in e)
tells_end status.Usage ended = absurd (cc ended)
tells_end status.NoMemory ended = absurd (cc ended)
tells_end status.NotVolume ended = absurd (cc ended)
tells_end (status.Damaged violation) ended = absurd (cc ended)
tells_end status.DeviceFault {end} ended = ap status_of (let e : run_end.Faulted ≡ end = cc ended in e)
tells_end status.ReadFault {end} ended = ap status_of (let e : run_end.ReadFault ≡ end = cc ended in e)
tells_end status.WriteFault {end} ended = ap status_of (let e : run_end.WriteFault ≡ end = cc ended in e)
tells_end status.ScriptLimit {end} ended = ap status_of (let e : run_end.Limit ≡ end = cc ended in e)

-- a run that is told as done was
pub end_done : {is : Status} {end : RunEnd} → end_of is ≡ Some end → is ≡ status.Done → end ≡ run_end.Done
end_done {is} {end} ended same = let e : Some end ≡ Some run_end.Done = sym ended ∙ ap end_of same in cc e

left_after : (P : ℕ) (state : State) (ran : DeviceView) (is : Status) (end : RunEnd) → end_of is ≡ Some end → end ≢ run_end.Done → ClosesAfter end P state ran ran is
left_after P state ran is run_end.Done ended not = absurd (not refl)
left_after P state ran is run_end.Faulted ended not = (tells_end is ended, refl)
left_after P state ran is run_end.ReadFault ended not = (tells_end is ended, refl)
left_after P state ran is run_end.WriteFault ended not = (tells_end is ended, refl)
left_after P state ran is run_end.Limit ended not = (tells_end is ended, refl)

-- ---- a session's volume

pub leaves_from : {session : SessionView} {volume : VolumeView} {bytes : List ℕ} {device : DeviceView} {end : RunEnd} {new : Mounted} → session.volume ≡ volume → LeavesRun end (on session device) new → LeavesRun end (on (session_of volume bytes) device) new
leaves_from same leaves = record {
  faulted = leaves.faulted;
  done = leaves.done;
  going = leaves.going;
  stands = leaves.stands;
  size = leaves.size ∙ ap (λ (v : VolumeView). v.size) same;
  faults = leaves.faults;
  fences = leaves.fences;
  acks = leaves.acks;
}

-- the state that it stands for on what a run left is the last one
pub closes_last : {P : ℕ} (before ran after : DeviceView) {script rest : Option (List ℕ)} {took now : List ℕ → Type 0} {is : Status} (volume : VolumeView) → volume.size ≡ P → IsStanding volume ran → (run : RunsScript P before ran run_end.Done script rest took now)
    → ((state : State) → StandsFor volume ran state → ClosesAs volume.size state ran after is) → ClosesAs P (last_state run.start run.states) ran after is
closes_last {P} before ran after {is = is} volume size (state, stands) run closes =
    let last = last_state run.start run.states in
    let ended : IsAt P last ran.words = run.last run.ends in
    let same : state ≡ last = one_state state last (subst (λ (p : ℕ). ReadsAs p ran.words state) size stands.reads) ended.reads in
    subst (λ (s : State). ClosesAs P s ran after is) same (subst (λ (p : ℕ). ClosesAs p state ran after is) size (closes state stands))

-- ---- the answered lines

module _ {S K : Type 0} {volume : VolumeView} (old new : Seen S K) {answered : Answered} (answers : AnswersLines volume old new answered) where
  pub answered_going : LeavesGoing volume.size old.device new.device
  answered_going = leaves_going refl answers.leaves

  module _ (is : Status) (ended : end_of is ≡ Some answered.end) where
    pub answered_run : RunsOn volume.size old new is
    answered_run = record { end = answered.end; ended = ended; run = answers.run }

    pub answered_cause : TellsFaults old new is
    answered_cause = status_cause old new is answered.end ended answers.cause answers.leaves

    pub answered_left : answered.end ≢ run_end.Done → RunsAndCloses volume.size old new is
    answered_left not = record {
      end = answered.end;
      ran = new.device;
      run = answers.run;
      closes = left_after volume.size (last_state answers.run.start answers.run.states) new.device is answered.end ended not;
    }

  -- the script was run through
  module _ (done : answered.end ≡ run_end.Done) where
    through : RunsScript volume.size old.device new.device run_end.Done old.left new.left old.took new.took
    through = subst (λ (end : RunEnd). RunsScript volume.size old.device new.device end old.left new.left old.took new.took) done answers.run

    pub answered_stands : IsStanding answered.session.volume new.device
    answered_stands = answers.leaves.stands (answers.leaves.done done).1

    module _ (after : DeviceView) (is : Status) (closes : (state : State) → StandsFor answered.session.volume new.device state → ClosesAs answered.session.volume.size state new.device after is) where
      pub answered_closes : RunsAndCloses volume.size old (record new { device = after }) is
      answered_closes = record {
        end = run_end.Done;
        ran = new.device;
        run = through;
        closes = closes_last old.device new.device after answered.session.volume answers.leaves.size answered_stands through closes;
      }

      pub closed_cause : TellsFaults old (record new { device = after }) is
      closed_cause =
          let (state, stands) = answered_stands in
          close_cause old (record new { device = after }) answered.session.volume.size state new.device (answers.leaves.done done).0
          (answers.cause.no_read_fault (λ e. cc (done, e))) (answers.cause.no_write_fault (λ e. cc (done, e))) (closes state stands)

      pub closed_going : LeavesGoing volume.size old.device after
      closed_going =
          let (state, stands) = answered_stands in
          subst (λ (p : ℕ). LeavesGoing p old.device after) answers.leaves.size
          (close_going answered.session.volume.size state old.device new.device after is (answers.leaves.done done).0 answers.leaves.acks (closes state stands))

-- ---- a text that was written

pub written_whole : {T E : Type 0} {took now : List ℕ → Type 0} {faults_before faults_after : ℕ} {text : List ℕ} {result : Result T E} {value : T} → result ≡ Ok value → Writes took now faults_before faults_after text result
    → Takes took text now × (faults_after ≡ faults_before)
written_whole {took = took} {now} {faults_before} {faults_after} {text} is writes = let whole = subst (Writes took now faults_before faults_after text) is writes in (whole.whole, whole.no_fault)

pub written_cut : {T E : Type 0} {took now : List ℕ → Type 0} {faults_before faults_after : ℕ} {text : List ℕ} {result : Result T E} {fault : E} → result ≡ Err fault → Writes took now faults_before faults_after text result
    → TakesPrefix took text now × HasRisen faults_before faults_after
written_cut {took = took} {now} {faults_before} {faults_after} {text} is writes = let cut = subst (Writes took now faults_before faults_after text) is writes in (cut.cut, cut.cause)
