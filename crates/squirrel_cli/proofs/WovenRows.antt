-- What `weave` does from the mount on, and from the entry on.
use Rattle.std.proofs.Common.{◌≡◌, ◌⊎◌, inl, inr, ℕ, zero, suc, ◌+◌, ◌^◌, ◌≤◌, Bool, true, false, List, length, refl, sym, ap, subst, ◌∙◌, arith}
use Rattle.std.proofs.lemmas.Bool.{cases_Bool}
use Rattle.std.specs.Prelude.{Option, None, replicate, Result}
use Rattle.pm_trait.specs.Device.{HasRisen, LeavesOnly, EndsInFault, acks_from, moment_of}
use Rattle.pm_trait.specs.DeviceView.{DeviceView, IsSettledView}
use Rattle.pm_trait.specs.Trail.{Trail}
use Rattle.layout.specs.Superblock.{KeepsSuperblock}
use Rattle.image_reading.specs.Soundness.{pages_in_image}
use Rattle.tree_model.specs.Run.{State}
use Rattle.mark_ops.specs.Marking.{IsSettledIn, SetsMark}
use Rattle.volume.specs.Crashes.{MeansState}
use Rattle.volume.specs.Prepared.{IsSameButRoom}
use Rattle.volume.specs.Stands.{StandsFor}
use Rattle.volume.specs.Volume.{VolumeView}
use Rattle.mount_scan.specs.Mounts.{HasMounted, KeepsState}
use Rattle.session_laws.specs.Calls.{AreIdle, call_at}
use Rattle.sessions.specs.Interleave.{InterleaveView, HaveEnded, started}
use Rattle.sessions.proofs.WeavesOn.{weaves_on_law}
use Rattle.schedules.specs.declared.weave_end.WeaveEnd.{WeaveEnd}
use Rattle.schedules.specs.declared.weave_end.WeaveEnd.TheVariants as ends
use Rattle.schedules.specs.Schedules.{EndsAt, FailsToUnmark, RunsTurns, Unmarks, needs_unmark, start_of}
use Rattle.schedules.specs.Turns.{Border, Turn, border_behind}
use Rattle.squirrel_cli.specs.declared.status.Status.{Status}
use Rattle.squirrel_cli.specs.declared.status.Status.TheVariants as status
use Rattle.squirrel_cli.specs.Rows.{LeavesTidyUncut, MountsAnd, MountsAndLeaves, Weaves}
use Rattle.squirrel_cli.specs.Seen.{Seen}
use Rattle.squirrel_cli.specs.Weaves.{ClosesBehind, FailsToBegin, HasWoven, KeepsTurns, WeavesScript}
use Rattle.squirrel_cli.specs.WeaveSteps.{ClosesSessions, LeavesWoven, WeavesLines, WeavesOn}
use Rattle.squirrel_cli.proofs.Closing.{as_it_was, close_halts, close_quietly, keeps_after_mount, sets_beside}
use Rattle.squirrel_cli.proofs.Mounted.{risen_from_entry, tidy_pages}
use Rattle.squirrel_cli.proofs.WovenTurns.{keeps_before, keeps_behind, turns_halt, turns_size}

none_runs : (n s : ℕ) → call_at (replicate n None) s ≡ None
none_runs zero s = refl
none_runs (suc n) zero = refl
none_runs (suc n) (suc s) = none_runs n s

-- ---- the mark

-- a fence that takes it away, or fails to, changes no state, and acknowledges nothing
sets_keep : {T E : Type 0} {P value : ℕ} {state : State} {before between after : DeviceView} {result : Result T E} → IsSameButRoom before between → SetsMark P value state between after result → KeepsState P state before after
sets_keep {P = P} {state = state} {after = after} room sets = record {
  any_moment = subst (λ (trail : Option Trail). LeavesOnly trail after.trail (λ acks image. (acks ≡ 0) × MeansState P state image)) room.trail sets.any_moment;
  no_ack = subst (λ (trail : Option Trail). acks_from trail after.trail (moment_of after.trail) ≡ 0) room.trail sets.takes.fenced.fenced.no_ack;
  acks = sets.takes.fenced.counts.acks ∙ room.acks;
}

-- and no word of the superblock but the mark
unmarks_beside : {T E : Type 0} {P value : ℕ} {state : State} {before between after : DeviceView} {result : Result T E} → IsSameButRoom before between → SetsMark P value state between after result → KeepsSuperblock before.words after.words
unmarks_beside {after = after} room sets = subst (λ (words : List ℕ). KeepsSuperblock words after.words) room.words (sets_beside sets)

-- what the turns begin with
record HasUnmarked (volume : VolumeView) (state : State) (first : InterleaveView) (before began : DeviceView) : Type 0 where
  pub size : first.volume.size ≡ volume.size
  pub going : first.volume.stopped ≡ false
  pub keeps : KeepsState volume.size state before began
  pub beside : KeepsSuperblock before.words began.words
  pub faults : began.faults ≡ before.faults
  pub fences : began.fences ≤ before.fences + 1

settled_in : {volume : VolumeView} {device : DeviceView} {state : State} → StandsFor volume device state → IsSettledIn volume.size state device
settled_in stands = record { settled = stands.settled; tidy = stands.tidy; reads = stands.reads }

module _ (begun : InterleaveView) {state : State} {before : DeviceView} (going : begun.volume.stopped ≡ false) (stands : StandsFor begun.volume before state) where
  has_unmarked : (needed : Bool) (first : InterleaveView) (began : DeviceView) → Unmarks needed state begun first before began → HasUnmarked begun.volume state first before began
  has_unmarked false first began (same, device) = record {
    size = ap (λ (weave : InterleaveView). weave.volume.size) same;
    going = ap (λ (weave : InterleaveView). weave.volume.stopped) same ∙ going;
    keeps = (as_it_was (settled_in stands) device).keeps;
    beside = (as_it_was (settled_in stands) device).beside;
    faults = ap (λ (d : DeviceView). d.faults) device;
    fences = let same = ap (λ (d : DeviceView). d.fences) device in omega (arith, same);
  }
  has_unmarked true first began (same, between, room, sets) = record {
    size = ap (λ (weave : InterleaveView). weave.volume.size) same;
    going = ap (λ (weave : InterleaveView). weave.volume.stopped) same ∙ going;
    keeps = sets_keep room sets;
    beside = unmarks_beside room sets;
    faults = sets.takes.fenced.counts.no_fault ∙ room.faults;
    fences = let made = sets.takes.fenced.counts.counted in let was = room.fences in omega (arith, made, was);
  }

-- ---- the turns

module _ {state : State} {script schedule : List ℕ} {end : WeaveEnd} {begun woven : InterleaveView} {mounted ran : DeviceView} {took now : List ℕ → Type 0}
    (going : begun.volume.stopped ≡ false) (stands : StandsFor begun.volume mounted state) (runs : RunsTurns state script schedule end begun woven mounted ran took now) where
  abbrev pub start : Border
  start = start_of runs.first runs.began state script

  abbrev pub last : Border
  last = border_behind start runs.takes.turns

  unmarked : HasUnmarked begun.volume state runs.first mounted runs.began
  unmarked = has_unmarked begun going stands (needs_unmark begun script) runs.first runs.began runs.unmarks

  last_size : last.weave.volume.size ≡ begun.volume.size
  last_size = turns_size schedule 0 start runs.takes.turns runs.takes.are ∙ unmarked.size

  pub woven_size : woven.volume.size ≡ begun.volume.size
  woven_size = ap (λ (weave : InterleaveView). weave.volume.size) runs.takes.weave ∙ last_size

  -- where all lines were taken and no fence failed
  module _ (done : EndsAt ends.Done last) where
    pub done_going : woven.volume.stopped ≡ false
    done_going = ap (λ (weave : InterleaveView). weave.volume.stopped) runs.takes.weave ∙ done.1

    done_idle : AreIdle last.calls
    done_idle = runs.takes.idle done_going done.0

    pub done_ended : HaveEnded woven ran last.history
    done_ended = (last.calls, runs.takes.waits done_going, done_idle)

  pub ran_faults : woven.volume.stopped ≡ false → ran.faults ≡ mounted.faults
  ran_faults on = runs.takes.no_fault on ∙ unmarked.faults

  pub ran_risen : woven.volume.stopped ≡ true → HasRisen mounted.faults ran.faults
  ran_risen halted = subst (λ (faults : ℕ). HasRisen faults ran.faults) unmarked.faults (runs.takes.cause halted)

  pub ran_fences : ran.fences ≤ mounted.fences + 2 ^ 21
  ran_fences = let turns = runs.takes.fences in let one = unmarked.fences in omega (arith, turns, one)

  keeps_ran : KeepsTurns start runs.takes.turns mounted ran
  keeps_ran = keeps_before begun.volume.size start runs.takes.turns unmarked.size unmarked.going (none_runs (length runs.first.tasks)) unmarked.keeps unmarked.beside
      (record { any_moment = runs.takes.any_moment; acked = runs.takes.acked; ack_count = runs.takes.acks; beside = λ a is other. runs.takes.beside a is })

  -- a write that failed leaves calls that wait
  pub cut_settled : HasRisen mounted.faults ran.faults ⊎ IsSettledView ran
  cut_settled = elim (cases_Bool woven.volume.stopped) [
    | inl halted ↦ inl (ran_risen halted)
    | inr on ↦ inr (weaves_on_law woven ran last.calls last.history (runs.takes.waits on)).stands.settled
  ]

-- ---- the close behind them

left_as : {start : Border} {turns : List Turn} {before ran after : DeviceView} → KeepsTurns start turns before ran → after ≡ ran → KeepsTurns start turns before after
left_as {start} {turns} {before} keeps same = subst (KeepsTurns start turns before) (sym same) keeps

module _ {state : State} {script schedule : List ℕ} {begun woven : InterleaveView} {mounted ran : DeviceView} (after : DeviceView) {took now : List ℕ → Type 0} (is : Status)
    (going : begun.volume.stopped ≡ false) (stands : StandsFor begun.volume mounted state) where
  closes_behind : (end : WeaveEnd) (runs : RunsTurns state script schedule end begun woven mounted ran took now) → ClosesSessions end begun.volume.size woven ran after is
      → ClosesBehind end begun.volume.size (last going stands runs).history ran after is
  closes_behind ends.Done runs closes = closes (last going stands runs).history (done_ended going stands runs runs.takes.ends)
  closes_behind ends.Faulted runs closes = closes
  closes_behind ends.WriteFault runs closes = closes

  keeps_closed : (end : WeaveEnd) (runs : RunsTurns state script schedule end begun woven mounted ran took now) → ClosesBehind end begun.volume.size (last going stands runs).history ran after is
      → KeepsTurns (start going stands runs) runs.takes.turns mounted after
  keeps_closed ends.Done runs closes =
      keeps_behind begun.volume.size (start going stands runs) runs.takes.turns (last_size going stands runs) (done_idle going stands runs runs.takes.ends) (keeps_ran going stands runs) (close_quietly begun.volume.size (last going stands runs).history ran after is closes)
  keeps_closed ends.Faulted runs (told, same) = left_as (keeps_ran going stands runs) same
  keeps_closed ends.WriteFault runs (told, same) = left_as (keeps_ran going stands runs) same

  closed_halts : (end : WeaveEnd) (runs : RunsTurns state script schedule end begun woven mounted ran took now) → ClosesBehind end begun.volume.size (last going stands runs).history ran after is
      → is ≡ status.DeviceFault → EndsInFault after.trail
  closed_halts ends.Done runs closes fault = close_halts begun.volume.size (last going stands runs).history ran after closes fault
  closed_halts ends.Faulted runs (told, same) fault =
      subst (λ (device : DeviceView). EndsInFault device.trail) (sym (same ∙ runs.takes.device))
      (turns_halt schedule 0 (start going stands runs) runs.takes.turns runs.takes.are (unmarked going stands runs).going runs.takes.ends.1)
  closed_halts ends.WriteFault runs (told, same) fault = absurd (cc (told, fault))

-- ---- from the entry on

module _ {S K : Type 0} (sessions : ℕ) (schedule : List ℕ) (old new : Seen S K) {mounted : DeviceView} {volume : VolumeView} (is : Status) (mount : HasMounted volume old.device mounted) where
  abbrev here : Seen S K
  here = record old { device = mounted }

  weaves_runs : WeavesLines volume mount.only.start sessions schedule here new is → FailsToBegin sessions old new is ⊎ HasWoven sessions schedule old new is
  weaves_runs lines = elim lines.runs as (λ run. lines.runs ≡ run → FailsToBegin sessions old new is ⊎ HasWoven sessions schedule old new is) [
    | inl fails ↦ λ same. inl (fails_to_begin fails)
    | inr runs ↦ λ same. inr (has_woven runs)
  ] refl
    where
      fails_to_begin : FailsToUnmark mount.only.start lines.script lines.end (started volume sessions) lines.woven mounted lines.ran old.took new.took → FailsToBegin sessions old new is
      fails_to_begin fails = record {
        is = told.0;
        script = lines.script;
        whole = lines.whole;
        mounted = mounted;
        volume = volume;
        has_mounted = mount;
        woven = lines.woven;
        fails = faulted;
        keeps = subst (λ (p : ℕ). KeepsState p mount.only.start old.device new.device) mount.size
            (keeps_after_mount (subst (λ (p : ℕ). KeepsState p mount.only.start old.device mounted) (sym mount.size) mount.only.mount.keeps) (sets_keep faulted.room faulted.failed));
        beside = λ a is other. unmarks_beside faulted.room faulted.failed a is other ∙ mount.only.mount.beside a is;
        halts = faulted.failed.takes.fenced.fenced.halts;
      }
        where
          told : (is ≡ status.DeviceFault) × (new.device ≡ lines.ran)
          told = subst (λ (end : WeaveEnd). ClosesSessions end volume.size lines.woven lines.ran new.device is) fails.end_is lines.closes

          faulted : FailsToUnmark mount.only.start lines.script ends.Faulted (started volume sessions) lines.woven mounted new.device old.took new.took
          faulted = subst (λ (device : DeviceView). FailsToUnmark mount.only.start lines.script ends.Faulted (started volume sessions) lines.woven mounted device old.took new.took) (sym told.1)
              (subst (λ (end : WeaveEnd). FailsToUnmark mount.only.start lines.script end (started volume sessions) lines.woven mounted lines.ran old.took new.took) fails.end_is fails)

      has_woven : RunsTurns mount.only.start lines.script schedule lines.end (started volume sessions) lines.woven mounted lines.ran old.took new.took → HasWoven sessions schedule old new is
      has_woven runs = record {
        script = lines.script;
        whole = lines.whole;
        mounted = mounted;
        volume = volume;
        has_mounted = mount;
        end = lines.end;
        woven = lines.woven;
        ran = lines.ran;
        runs = runs;
        closes = subst (λ (p : ℕ). ClosesBehind lines.end p (last mount.going mount.stands runs).history lines.ran new.device is) mount.size closes;
        keeps = keeps_before (pages_in_image old.device.words) (start mount.going mount.stands runs) runs.takes.turns ((unmarked mount.going mount.stands runs).size ∙ mount.size) (unmarked mount.going mount.stands runs).going (none_runs (length runs.first.tasks)) mount.only.mount.keeps
            (λ a is other. mount.only.mount.beside a is) (keeps_closed new.device is mount.going mount.stands lines.end runs closes);
        halts = closed_halts new.device is mount.going mount.stands lines.end runs closes;
      }
        where
          closes : ClosesBehind lines.end volume.size (last mount.going mount.stands runs).history lines.ran new.device is
          closes = closes_behind new.device is mount.going mount.stands lines.end runs lines.closes

  weaves_script : WeavesOn volume mount.only.start sessions schedule here new is → WeavesScript sessions schedule old new is
  weaves_script (inl stays) = inl (record { stops = stays.stops; mounted = mounted; mount = mount.only; room = stays.room; unwritten = stays.unwritten })
  weaves_script (inr lines) = inr (weaves_runs lines)

  tidy_entry : LeavesWoven volume.size mounted new.device is → LeavesTidyUncut old new is
  tidy_entry leaves = elim leaves.tidy [
    | inl cut ↦ inl cut
    | inr tidy ↦ inr (risen_from_entry mount.only.mount.faults (tidy_pages new.device.words tidy))
  ]

  pub woven_row : LeavesWoven volume.size mounted new.device is → WeavesOn volume mount.only.start sessions schedule here new is → Weaves sessions schedule old new is
  woven_row leaves weaves = inr (inr (mount.sound, tidy_entry leaves, inr (weaves_script weaves)))

  pub woven_settled : LeavesWoven volume.size mounted new.device is → HasRisen old.device.faults new.device.faults ⊎ IsSettledView new.device
  woven_settled leaves = risen_from_entry mount.only.mount.faults leaves.settled

-- a row that leaves nothing to repair does so where no write failed too
pub uncut_row : {S K : Type 0} (old new : Seen S K) {is : Status} (F : Seen S K → Seen S K → Status → Type 0) → MountsAnd F old new is → MountsAndLeaves LeavesTidyUncut F old new is
uncut_row old new F (inl short) = inl short
uncut_row old new F (inr (inl refused)) = inr (inl refused)
uncut_row old new F (inr (inr (sound, tidy, did))) = inr (inr (sound, inr tidy, did))
