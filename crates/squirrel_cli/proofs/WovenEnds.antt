-- How `weave` ends from the mount on: the causes of its status, and what it leaves.
use Rattle.std.proofs.Common.{◌≡◌, ◌≢◌, inl, inr, ℕ, ◌^◌, ◌<◌, false, List, [], refl, sym, ap, subst, ◌∙◌, arith}
use Rattle.std.specs.Prelude.{Option}
use Rattle.pm_trait.specs.Device.{HasRisen, IsSettledAt}
use Rattle.pm_trait.specs.Trail.{Trail}
use Rattle.pm_trait.specs.DeviceView.{DeviceView, IsSettledView}
use Rattle.io_edge.specs.Bytes.{Takes}
use Rattle.image_reading.specs.Tidy.{Tidy}
use Rattle.tree_model.specs.Run.{State}
use Rattle.volume.specs.Prepared.{IsSameButRoom}
use Rattle.volume.specs.Stands.{StandsFor}
use Rattle.volume.specs.Volume.{VolumeView}
use Rattle.sessions.specs.Interleave.{InterleaveView, HaveEnded, started}
use Rattle.schedules.specs.declared.weave_end.WeaveEnd.{WeaveEnd}
use Rattle.schedules.specs.declared.weave_end.WeaveEnd.TheVariants as ends
use Rattle.schedules.specs.Schedules.{RunsSchedule, RunsTurns}
use Rattle.squirrel_cli.specs.declared.status.Status.{Status}
use Rattle.squirrel_cli.specs.declared.status.Status.TheVariants as status
use Rattle.squirrel_cli.specs.Causes.{TellsFaults}
use Rattle.squirrel_cli.specs.GoingOn.{GoesOn}
use Rattle.squirrel_cli.specs.Mounts.{ClosesAs}
use Rattle.squirrel_cli.specs.Seen.{Seen}
use Rattle.squirrel_cli.specs.WeaveSteps.{LeavesWoven, WeavesOn}
use Rattle.squirrel_cli.specs.Whole.{IsWholeScript, StopsBeforeLines}
use Rattle.squirrel_cli.proofs.Closing.{close_there}
use Rattle.squirrel_cli.proofs.WovenRows.{cut_settled, done_ended, done_going, last, ran_faults, ran_fences, ran_risen, woven_size}

-- ---- nothing was executed

module _ {left now : Option (List ℕ)} {is : Status} (stops : StopsBeforeLines is left now) where
  never : {other : Status} → other ≢ status.NoMemory → other ≢ status.ReadFault → other ≢ status.ScriptLimit → is ≢ other
  never memory read limit same = elim stops.is [
    | inl told ↦ memory (sym same ∙ told)
    | inr (inl told) ↦ read (sym same ∙ told)
    | inr (inr told) ↦ limit (sym same ∙ told)
  ]

-- memory was short behind the script
pub short_behind : {left now : Option (List ℕ)} {script : List ℕ} → IsWholeScript left now script → StopsBeforeLines status.NoMemory left now
short_behind {script = script} whole = record { is = inl refl; read = (script, whole.gives); limit = λ same. absurd (cc same) }

module _ {S K : Type 0} (old new : Seen S K) {is : Status} (stops : StopsBeforeLines is old.left new.left) where
  pub stops_cause : new.device.faults ≡ old.device.faults → (is ≡ status.ReadFault → HasRisen old.read_faults new.read_faults) → (is ≢ status.ReadFault → new.read_faults ≡ old.read_faults) → new.write_faults ≡ old.write_faults
      → TellsFaults old new is
  stops_cause same read unread uncut = record {
    device = λ told. absurd (never stops (λ e. cc e) (λ e. cc e) (λ e. cc e) told);
    done = λ told. same;
    no_memory = λ told. same;
    read = read;
    no_read_fault = unread;
    write = λ told. absurd (never stops (λ e. cc e) (λ e. cc e) (λ e. cc e) told);
    no_write_fault = λ other. uncut;
  }

  pub stops_unwoven : {volume : VolumeView} {state : State} {sessions : ℕ} {schedule : List ℕ} → IsSameButRoom old.device new.device → Takes old.took [] new.took → WeavesOn volume state sessions schedule old new is
  stops_unwoven room unwritten = inl (record { stops = stops; room = room; unwritten = unwritten })

-- more room is all that a device got
settled_still : {before after : DeviceView} → IsSameButRoom before after → IsSettledView before → IsSettledView after
settled_still {before} {after} room settled =
    subst (λ (words : List ℕ). IsSettledAt words after.trail) (sym room.words) (subst (λ (trail : Option Trail). IsSettledAt before.words trail) (sym room.trail) settled)

pub room_leaves : {volume : VolumeView} {before after : DeviceView} {is : Status} → GoesOn volume before → IsSameButRoom before after → LeavesWoven volume.size before after is
room_leaves {volume} goes_on room =
    let (state, stands) = goes_on.stands in
    record { settled = inr (settled_still room stands.settled); tidy = inr (inr (subst (Tidy volume.size) (sym room.words) stands.tidy)) }

-- ---- a schedule was run

-- no fence but the mark's fails before the first turn
turns_of_done : {state : State} {script schedule : List ℕ} {old new : InterleaveView} {before after : DeviceView} {took now : List ℕ → Type 0} → RunsSchedule state script schedule ends.Done old new before after took now
    → RunsTurns state script schedule ends.Done old new before after took now
turns_of_done (inl fails) = absurd (let e = fails.end_is in cc e)
turns_of_done (inr runs) = runs

turns_of_cut : {state : State} {script schedule : List ℕ} {old new : InterleaveView} {before after : DeviceView} {took now : List ℕ → Type 0} → RunsSchedule state script schedule ends.WriteFault old new before after took now
    → RunsTurns state script schedule ends.WriteFault old new before after took now
turns_of_cut (inl fails) = absurd (let e = fails.end_is in cc e)
turns_of_cut (inr runs) = runs

module _ {state : State} {script schedule : List ℕ} {begun woven : InterleaveView} {mounted ran : DeviceView} {took now : List ℕ → Type 0}
    (goes_on : GoesOn begun.volume mounted) (stands : StandsFor begun.volume mounted state) where
  -- ---- to its end

  module _ (runs : RunsSchedule state script schedule ends.Done begun woven mounted ran took now) where
    turns : RunsTurns state script schedule ends.Done begun woven mounted ran took now
    turns = turns_of_done runs

    pub through_going : woven.volume.stopped ≡ false
    through_going = done_going goes_on.going stands turns turns.takes.ends

    pub through_ended : (history : State) × HaveEnded woven ran history
    through_ended = ((last goes_on.going stands turns).history, done_ended goes_on.going stands turns turns.takes.ends)

    pub through_fences : ran.fences < 2 ^ 62
    through_fences = let few = ran_fences goes_on.going stands turns in let first = goes_on.fences in omega (arith, few, first)

    pub through_closes : (after : DeviceView) {is : Status} → ((history : State) → HaveEnded woven ran history → ClosesAs woven.volume.size history ran after is)
        → (history : State) → HaveEnded woven ran history → ClosesAs begun.volume.size history ran after is
    through_closes after {is} closes history ended = subst (λ (p : ℕ). ClosesAs p history ran after is) (woven_size goes_on.going stands turns) (closes history ended)

    pub through_faults : ran.faults ≡ mounted.faults
    through_faults = ran_faults goes_on.going stands turns through_going

    pub through_leaves : {after : DeviceView} (is : Status) → ((history : State) → HaveEnded woven ran history → ClosesAs begun.volume.size history ran after is) → LeavesWoven begun.volume.size mounted after is
    through_leaves {after} is closes =
        let (history, ended) = through_ended in
        elim (close_there begun.volume.size history ran after is (closes history ended)) [
          | inl risen ↦
              let here : HasRisen mounted.faults after.faults = subst (λ (faults : ℕ). HasRisen faults after.faults) through_faults risen in
              record { settled = inl here; tidy = inr (inl here) }
          | inr there ↦ record { settled = inr there.settled; tidy = inr (inr there.tidy) }
        ]

  -- ---- to a fence that failed

  pub failed_risen : RunsSchedule state script schedule ends.Faulted begun woven mounted ran took now → HasRisen mounted.faults ran.faults
  failed_risen (inl fails) = subst (λ (faults : ℕ). HasRisen faults ran.faults) fails.room.faults fails.failed.takes.fenced.counts.cause
  failed_risen (inr runs) = ran_risen goes_on.going stands runs (ap (λ (weave : InterleaveView). weave.volume.stopped) runs.takes.weave ∙ runs.takes.ends.1)

  pub failed_leaves : {is : Status} → RunsSchedule state script schedule ends.Faulted begun woven mounted ran took now → LeavesWoven begun.volume.size mounted ran is
  failed_leaves runs = record { settled = inl (failed_risen runs); tidy = inr (inl (failed_risen runs)) }

  -- ---- to a write that failed

  pub cut_leaves : RunsSchedule state script schedule ends.WriteFault begun woven mounted ran took now → LeavesWoven begun.volume.size mounted ran status.WriteFault
  cut_leaves runs = record { settled = cut_settled goes_on.going stands (turns_of_cut runs); tidy = inl refl }

-- ---- the causes of these ends

module _ {S K : Type 0} (old new : Seen S K) (unread : new.read_faults ≡ old.read_faults) where
  pub failed_cause : HasRisen old.device.faults new.device.faults → new.write_faults ≡ old.write_faults → TellsFaults old new status.DeviceFault
  failed_cause risen uncut = record {
    device = λ told. risen;
    done = λ told. absurd (cc told);
    no_memory = λ told. absurd (cc told);
    read = λ told. absurd (cc told);
    no_read_fault = λ other. unread;
    write = λ told. absurd (cc told);
    no_write_fault = λ other. uncut;
  }

  pub cut_cause : HasRisen old.write_faults new.write_faults → TellsFaults old new status.WriteFault
  cut_cause risen = record {
    device = λ told. absurd (cc told);
    done = λ told. absurd (cc told);
    no_memory = λ told. absurd (cc told);
    read = λ told. absurd (cc told);
    no_read_fault = λ other. unread;
    write = λ told. risen;
    no_write_fault = λ other. absurd (other refl);
  }

-- ---- as the code has it

-- a schedule that the sessions as they start ran to this end
pub runs_from : {volume : VolumeView} (sessions : ℕ) {script items schedule : List ℕ} {end wanted : WeaveEnd} {begun woven : InterleaveView} {device ran : DeviceView} {took now : List ℕ → Type 0} → begun ≡ started volume sessions → script ≡ items → end ≡ wanted
    → ((state : State) → StandsFor begun.volume device state → RunsSchedule state script schedule end begun woven device ran took now)
    → (state : State) → StandsFor volume device state → RunsSchedule state items schedule wanted (started volume sessions) woven device ran took now
runs_from {volume} sessions {script} {items} {schedule} {end} {wanted} {begun} {woven} {device} {ran} {took} {now} begun_is script_is end_is runs =
    subst (λ (e : WeaveEnd). (state : State) → StandsFor volume device state → RunsSchedule state items schedule e (started volume sessions) woven device ran took now) end_is
    (subst (λ (s : List ℕ). (state : State) → StandsFor volume device state → RunsSchedule state s schedule end (started volume sessions) woven device ran took now) script_is
    (subst (λ (b : InterleaveView). (state : State) → StandsFor b.volume device state → RunsSchedule state script schedule end b woven device ran took now) begun_is runs))
