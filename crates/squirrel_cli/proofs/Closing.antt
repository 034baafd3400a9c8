-- What a close does to a device, and what is promised over it.
use Rattle.std.proofs.Common.{◌≡◌, ◌≢◌, ◌⊎◌, inl, inr, ℕ, ◌+◌, ◌^◌, ◌≤◌, Bool, true, false, List, length, refl, sym, ap, subst, ◌∙◌, arith}
use Rattle.std.proofs.lemmas.List.{get_or-set_same, get_or-set_other}
use Rattle.std.specs.Prelude.{Option, Result, Ok, Err, ◌==◌, slice_get, slice_index}
use Rattle.pm_trait.specs.Device.{HasRisen, LeavesOnly, EndsInFault}
use Rattle.pm_trait.specs.DeviceView.{DeviceView}
use Rattle.pm_trait.specs.Unfolds.{Quietly, Step, Takes}
use Rattle.pm_trait.proofs.AckLaws.{acks_none}
use Rattle.pm_trait.proofs.ContinuesLaws.{acks_from-here}
use Rattle.pm_trait.proofs.DeviceLaws.{leaves_here, leaves_next, leaves_weaker}
use Rattle.pm_trait.proofs.Unfolding.{done, last, no_ack_then, unfolds_failed_as}
use Rattle.layout.specs.Superblock.{HasMark, KeepsSuperblock, closed_mark, has_mark, mark_word}
use Rattle.tree_model.specs.Run.{Line, State}
use Rattle.image_reading.specs.Soundness.{pages_in_image}
use Rattle.image_reading.specs.Soundness.Rule.{head}
use Rattle.script.specs.Texts.{listing_text}
use Rattle.script.specs.declared.run_end.RunEnd.{RunEnd}
use Rattle.script.specs.declared.run_end.RunEnd.TheVariants as run_end
use Rattle.volume.specs.Crashes.{MeansState}
use Rattle.volume.specs.Stands.{StandsFor}
use Rattle.volume.specs.Volume.{VolumeView}
use Rattle.mark_ops.specs.Marking.{Closes, IsSettledIn, SetsMark}
use Rattle.mount_scan.specs.Mounts.{HasMounted, KeepsState}
use Rattle.engine.specs.Run.{IsBetween, IsStateAfter, last_state}
use Rattle.engine.specs.Script.{ExecutesTold}
use Rattle.engine.proofs.After.{acked_then, acks_after, leaves_after}
use Rattle.engine.proofs.Runs.{state_after_last}
use Rattle.squirrel_cli.specs.Causes.{TellsFaults}
use Rattle.squirrel_cli.specs.Ends.{GaveAll}
use Rattle.squirrel_cli.specs.GoingOn.{LeavesGoing, ListsOn, RunsAndCloses}
use Rattle.squirrel_cli.specs.Mounts.{ClosesAfter, ClosesAs, HasRun, KeepsRun, MountsAndRuns}
use Rattle.squirrel_cli.specs.Seen.{Seen}
use Rattle.squirrel_cli.specs.Tells.{HasListed, TellsAndCloses}
use Rattle.squirrel_cli.specs.declared.status.Status.{Status}
use Rattle.squirrel_cli.specs.declared.status.Status.TheVariants as status
use Rattle.squirrel_cli.proofs.Mounted.{limit_gives, may_start, mounted_state, mounts_and_runs}

-- ---- what a close answers

-- the same of a result of any kind
failed_as : {T E : Type 0} {step : Step} {a b : DeviceView} {fault : E} → Takes {T = T} step a b (Err fault) → Takes {T = Unit {0}} {E = Unit {0}} step a b (Err tt)
failed_as {T} {E} {fault = fault} takes = elim (unfolds_failed_as {U = Unit {0}} {F = Unit {0}} tt (last {T = T} (Err fault) takes)).in_turn [
  | inl (here, is) ↦ here
  | inr (between, one, none) ↦ let clash : false ≡ true = none.1 in absurd cc
]

module _ (P : ℕ) (state : State) (ran after : DeviceView) where
  closes_done : (T E : Type 0) (value : T) (marked : Bool) → Closes {E = E} marked P state ran after (Ok value) → Closes {T = Unit {0}} {E = Unit {0}} marked P state ran after (Ok tt)
  closes_done T E value true (is, same, there) = (refl, same, there)
  closes_done T E value false sets = record { takes = done tt sets.takes; any_moment = sets.any_moment; there = sets.there }

  closes_failed : (T E : Type 0) (fault : E) (marked : Bool) → Closes {T = T} marked P state ran after (Err fault) → Closes {T = Unit {0}} {E = Unit {0}} marked P state ran after (Err tt)
  closes_failed T E fault true (is, same, there) = let clash : false ≡ true = is in absurd cc
  closes_failed T E fault false sets = record { takes = failed_as sets.takes; any_moment = sets.any_moment; there = tt }

-- the status that tells how a session was closed
module _ {T E : Type 0} (volume : VolumeView) (state : State) (ran after : DeviceView) (result : Result T E) (stands : StandsFor volume ran state) (closes : Closes volume.marked volume.size state ran after result) where
  with_mark : Closes (has_mark ran.words) volume.size state ran after result
  with_mark = subst (λ (marked : Bool). Closes marked volume.size state ran after result) stands.mark closes

  pub closes_ok : {value : T} → result ≡ Ok value → ClosesAs volume.size state ran after status.Done
  closes_ok {value} is = inl (refl, closes_done volume.size state ran after T E value (has_mark ran.words) (subst (Closes (has_mark ran.words) volume.size state ran after) is with_mark))

  pub closes_err : {fault : E} → result ≡ Err fault → ClosesAs volume.size state ran after status.DeviceFault
  closes_err {fault} is = inr (refl, closes_failed volume.size state ran after T E fault (has_mark ran.words) (subst (Closes (has_mark ran.words) volume.size state ran after) is with_mark))

-- ---- what a close leaves

-- who gives the mark a value changes no other word
pub sets_beside : {T E : Type 0} {P value : ℕ} {state : State} {ran after : DeviceView} {result : Result T E} → SetsMark P value state ran after result → KeepsSuperblock ran.words after.words
sets_beside {value = value} {ran = ran} sets = λ a is other. ap (λ (words : List ℕ). slice_index words a) sets.takes.makes ∙ get_or-set_other ran.words mark_word a value 0 other

-- A crash leaves the state, nothing is acknowledged, and no word of the superblock but the mark is another.
pub record ClosesQuietly (P : ℕ) (state : State) (ran after : DeviceView) : Type 0 where
  pub keeps : KeepsState P state ran after
  pub open keeps use *
  pub beside : KeepsSuperblock ran.words after.words

pub as_it_was : {P : ℕ} {state : State} {ran after : DeviceView} → IsSettledIn P state ran → after ≡ ran → ClosesQuietly P state ran after
as_it_was {P} {state} {ran} there same =
    let here : LeavesOnly ran.trail ran.trail (Quietly (MeansState P state)) = leaves_here (Quietly (MeansState P state)) there.settled (refl, record { sound = there.tidy.sound; reads = there.reads }) in
    subst (ClosesQuietly P state ran) (sym same) (record {
      keeps = record { any_moment = here; no_ack = acks_from-here here.continues; acks = refl };
      beside = λ a is other. refl;
    })

module _ (P : ℕ) (state : State) (ran after : DeviceView) where
  sets_quietly : {T E : Type 0} {result : Result T E} → SetsMark P closed_mark state ran after result → ClosesQuietly P state ran after
  sets_quietly sets = record {
    keeps = record { any_moment = sets.any_moment; no_ack = sets.takes.fenced.fenced.no_ack; acks = sets.takes.fenced.counts.acks };
    beside = sets_beside sets;
  }

  closes_quietly : {T E : Type 0} (marked : Bool) (result : Result T E) → Closes marked P state ran after result → ClosesQuietly P state ran after
  closes_quietly true result (is, same, there) = as_it_was (subst (IsSettledIn P state) same there) same
  closes_quietly false result sets = sets_quietly sets

  pub close_quietly : (is : Status) → ClosesAs P state ran after is → ClosesQuietly P state ran after
  close_quietly is (inl (done, closes)) = closes_quietly (has_mark ran.words) (Ok tt) closes
  close_quietly is (inr (fault, closes)) = closes_quietly (has_mark ran.words) (Err tt) closes

  -- a text that was told, or not, and the close after it
  pub tells_quietly : (text : List ℕ) (is : Status) (took now : List ℕ → Type 0) → IsSettledIn P state ran → TellsAndCloses P state text ran after is took now → ClosesQuietly P state ran after
  tells_quietly text is took now there (inl (told, closes)) = close_quietly is closes
  tells_quietly text is took now there (inr (cut, told, same)) = as_it_was there same

  -- ---- where its fence failed, and where it didn't

  failed_halts : (marked : Bool) → Closes {T = Unit {0}} {E = Unit {0}} marked P state ran after (Err tt) → EndsInFault after.trail × HasRisen ran.faults after.faults
  failed_halts true (is, same, there) = let clash : false ≡ true = is in absurd cc
  failed_halts false sets = (sets.takes.fenced.fenced.halts, sets.takes.fenced.counts.cause)

  done_leaves : (marked : Bool) → Closes {T = Unit {0}} {E = Unit {0}} marked P state ran after (Ok tt) → IsSettledIn P state after × (after.faults ≡ ran.faults)
  done_leaves true (is, same, there) = (there, ap (λ (device : DeviceView). device.faults) same)
  done_leaves false sets = (sets.there, sets.takes.fenced.counts.no_fault)

  pub close_halts : {is : Status} → ClosesAs P state ran after is → is ≡ status.DeviceFault → EndsInFault after.trail
  close_halts (inl (done, closes)) fault = absurd (cc (done, fault))
  close_halts (inr (told, closes)) fault = (failed_halts (has_mark ran.words) closes).0

  pub close_risen : {is : Status} → ClosesAs P state ran after is → is ≡ status.DeviceFault → HasRisen ran.faults after.faults
  close_risen (inl (done, closes)) fault = absurd (cc (done, fault))
  close_risen (inr (told, closes)) fault = (failed_halts (has_mark ran.words) closes).1

  pub close_unfailed : {is : Status} → ClosesAs P state ran after is → is ≡ status.Done → after.faults ≡ ran.faults
  close_unfailed (inl (told, closes)) done = (done_leaves (has_mark ran.words) closes).1
  close_unfailed (inr (fault, closes)) done = absurd (cc (done, fault))

  pub close_there : (is : Status) → ClosesAs P state ran after is → HasRisen ran.faults after.faults ⊎ IsSettledIn P state after
  close_there is (inl (told, closes)) = inr (done_leaves (has_mark ran.words) closes).0
  close_there is (inr (fault, closes)) = inl (failed_halts (has_mark ran.words) closes).1

  -- it has these two answers
  pub close_never : {is other : Status} → ClosesAs P state ran after is → is ≡ other → other ≢ status.Done → other ≢ status.DeviceFault → ⊥
  close_never (inl (done, closes)) same not fault = not (sym same ∙ done)
  close_never (inr (told, closes)) same not fault = fault (sym same ∙ told)

  -- the mark is there
  marked_there : (marked : Bool) → has_mark ran.words ≡ marked → Closes {T = Unit {0}} {E = Unit {0}} marked P state ran after (Ok tt) → HasMark after.words
  marked_there true had (is, same, there) = ap (λ (device : DeviceView). has_mark device.words) same ∙ had
  marked_there false had sets =
      let keeps = sets.there.tidy.sound.coherent head 0 in
      let (least, most) = keeps.size refl in
      let whole = keeps.whole refl in
      let long = sets.takes.fenced.long in
      ap has_mark sets.takes.makes ∙ ap (λ (value : ℕ). value == closed_mark) (get_or-set_same ran.words mark_word closed_mark 0 (omega (arith, least, whole, long)))

  pub close_marked : {is : Status} → ClosesAs P state ran after is → is ≡ status.Done → HasMark after.words
  close_marked (inl (told, closes)) done = marked_there (has_mark ran.words) refl closes
  close_marked (inr (fault, closes)) done = absurd (cc (done, fault))

-- ---- what a task leaves that closes

pub close_going : (P : ℕ) (state : State) (old ran after : DeviceView) (is : Status) → ran.faults ≡ old.faults → ran.acks ≤ old.acks + 2 ^ 36 → ClosesAs P state ran after is → LeavesGoing P old after
close_going P state old ran after is same acks closes = elim (close_there P state ran after is closes) [
  | inl risen ↦
      let here : HasRisen old.faults after.faults = subst (λ (faults : ℕ). HasRisen faults after.faults) same risen in
      record { settled = inl here; tidy = inl here; acks = let none = (close_quietly P state ran after is closes).acks in omega (arith, none, acks) }
  | inr there ↦ record { settled = inr there.settled; tidy = inr there.tidy; acks = let none = (close_quietly P state ran after is closes).acks in omega (arith, none, acks) }
]

-- the causes of a task of which nothing failed so far
pub close_cause : {S K : Type 0} (old new : Seen S K) (P : ℕ) (state : State) (ran : DeviceView) {is : Status} → ran.faults ≡ old.device.faults → new.read_faults ≡ old.read_faults → new.write_faults ≡ old.write_faults
    → ClosesAs P state ran new.device is → TellsFaults old new is
close_cause old new P state ran same unread uncut closes = record {
  device = λ fault. subst (λ (faults : ℕ). HasRisen faults new.device.faults) same (close_risen P state ran new.device closes fault);
  done = λ done. close_unfailed P state ran new.device closes done ∙ same;
  no_memory = λ told. absurd (close_never P state ran new.device closes told (λ e. cc e) (λ e. cc e));
  read = λ told. absurd (close_never P state ran new.device closes told (λ e. cc e) (λ e. cc e));
  no_read_fault = λ other. unread;
  write = λ told. absurd (close_never P state ran new.device closes told (λ e. cc e) (λ e. cc e));
  no_write_fault = λ other. uncut;
}

-- ---- what is promised of a run

-- after the last line it is the last state that a crash leaves
ends_between : {P : ℕ} (start : State) (states : List State) (lines : List Line) (k : ℕ) (image : List ℕ) → (k ≡ 0) × MeansState P (last_state start states) image → IsBetween P start states lines (length states + k) image
ends_between {P} start states lines k image (none, means) =
    let same : length states ≡ length states + k = omega (arith, none) in
    subst (λ (n : ℕ). IsBetween P start states lines n image) same (last_state start states, state_after_last start states, may_start (slice_get lines (length states)) means)

module _ {P : ℕ} {before ran after : DeviceView} {end : RunEnd} {script rest : Option (List ℕ)} {took now : List ℕ → Type 0} (runs : MountsAndRuns P before ran end script rest took now) where
  pub keeps_closed : ClosesQuietly P (last_state runs.run.start runs.run.states) ran after → KeepsRun P runs.run.start runs.run.lines runs.run.states before after
  keeps_closed closes = record {
    any_moment = leaves_after (length runs.run.states) runs.acked runs.any_moment (leaves_weaker (ends_between runs.run.start runs.run.states runs.run.lines) closes.any_moment);
    acks = acks_after (length runs.run.states) runs.acked runs.acks (acks_none (λ k. IsStateAfter P runs.run.start runs.run.states (length runs.run.states + k)) closes.any_moment.continues closes.no_ack);
    acked = λ told is.
        let all = acked_then (length runs.run.states) 0 runs.any_moment.continues closes.any_moment.continues runs.acked (λ t i. closes.no_ack) told is in
        omega (arith, all);
    ack_count = let none = closes.acks in let all = runs.ack_count in omega (arith, none, all);
    beside = λ a is other. closes.beside a is other ∙ runs.beside a is other;
  }

  keeps_left : after ≡ ran → KeepsRun P runs.run.start runs.run.lines runs.run.states before after
  keeps_left same = subst (KeepsRun P runs.run.start runs.run.lines runs.run.states before) (sym same) (record {
    any_moment = runs.any_moment;
    acks = runs.acks;
    acked = runs.acked;
    ack_count = runs.ack_count;
    beside = runs.beside;
  })

module _ {P : ℕ} {before ran : DeviceView} (after : DeviceView) {script rest : Option (List ℕ)} {took now : List ℕ → Type 0} (is : Status) where
  pub keeps_run : (end : RunEnd) (runs : MountsAndRuns P before ran end script rest took now) → ClosesAfter end P (last_state runs.run.start runs.run.states) ran after is
      → KeepsRun P runs.run.start runs.run.lines runs.run.states before after
  keeps_run run_end.Done runs closes = keeps_closed runs (close_quietly P (last_state runs.run.start runs.run.states) ran after is closes)
  keeps_run run_end.Faulted runs (told, same) = keeps_left runs same
  keeps_run run_end.ReadFault runs (told, same) = keeps_left runs same
  keeps_run run_end.WriteFault runs (told, same) = keeps_left runs same
  keeps_run run_end.Limit runs (told, same) = keeps_left runs same

  pub run_halts : (end : RunEnd) (runs : MountsAndRuns P before ran end script rest took now) → ClosesAfter end P (last_state runs.run.start runs.run.states) ran after is → is ≡ status.DeviceFault → EndsInFault after.trail
  run_halts run_end.Done runs closes fault = close_halts P (last_state runs.run.start runs.run.states) ran after closes fault
  run_halts run_end.Faulted runs (told, same) fault = subst (λ (device : DeviceView). EndsInFault device.trail) (sym same) (runs.halts runs.run.ends)
  run_halts run_end.ReadFault runs (told, same) fault = absurd (cc (told, fault))
  run_halts run_end.WriteFault runs (told, same) fault = absurd (cc (told, fault))
  run_halts run_end.Limit runs (told, same) fault = absurd (cc (told, fault))

pub closed_limit : (P : ℕ) (state : State) (ran after : DeviceView) {is : Status} (end : RunEnd) (script rest : Option (List ℕ)) (lines : List Line) → ExecutesTold end script rest lines → ClosesAfter end P state ran after is → is ≡ status.ScriptLimit
    → GaveAll script rest
closed_limit P state ran after run_end.Done script rest lines told closes limit = absurd (close_never P state ran after closes limit (λ e. cc e) (λ e. cc e))
closed_limit P state ran after run_end.Faulted script rest lines told (is, same) limit = absurd (cc (is, limit))
closed_limit P state ran after run_end.ReadFault script rest lines told (is, same) limit = absurd (cc (is, limit))
closed_limit P state ran after run_end.WriteFault script rest lines told (is, same) limit = absurd (cc (is, limit))
closed_limit P state ran after run_end.Limit script rest lines told (is, same) limit = limit_gives script rest lines told

pub run_marked : (P : ℕ) (state : State) (ran after : DeviceView) {is : Status} (end : RunEnd) → ClosesAfter end P state ran after is → is ≡ status.Done → HasMark after.words
run_marked P state ran after run_end.Done closes done = close_marked P state ran after closes done
run_marked P state ran after run_end.Faulted (is, same) done = absurd (cc (is, done))
run_marked P state ran after run_end.ReadFault (is, same) done = absurd (cc (is, done))
run_marked P state ran after run_end.WriteFault (is, same) done = absurd (cc (is, done))
run_marked P state ran after run_end.Limit (is, same) done = absurd (cc (is, done))

pub told_marked : (P : ℕ) (state : State) (text : List ℕ) (ran after : DeviceView) {is : Status} (took now : List ℕ → Type 0) → TellsAndCloses P state text ran after is took now → is ≡ status.Done → HasMark after.words
told_marked P state text ran after took now (inl (told, closes)) done = close_marked P state ran after closes done
told_marked P state text ran after took now (inr (cut, told, same)) done = absurd (cc (cut, done))

-- what is promised of a mount is promised over what follows it quietly
pub keeps_after_mount : {P : ℕ} {state : State} {before mounted after : DeviceView} → KeepsState P state before mounted → KeepsState P state mounted after → KeepsState P state before after
keeps_after_mount keeps closes = record {
  any_moment = leaves_next keeps.no_ack keeps.any_moment closes.any_moment;
  no_ack = no_ack_then keeps.any_moment closes.any_moment keeps.no_ack closes.no_ack;
  acks = closes.acks ∙ keeps.acks;
}

-- ---- from the entry on

module _ {S K : Type 0} (old new : Seen S K) {mounted : DeviceView} {volume : VolumeView} {is : Status} (mount : HasMounted volume old.device mounted) where
  pub closes_entry : RunsAndCloses volume.size (record old { device = mounted }) new is → HasRun old new is
  unfolding mounts_and_runs
  closes_entry runs =
      let here = subst (λ (p : ℕ). RunsAndCloses p (record old { device = mounted }) new is) mount.size runs in
      let (reads, made) = mounted_state here.run.start mount.only here.run.reads in
      let whole = mounts_and_runs here.run reads made in
      record {
        end = here.end;
        ran = here.ran;
        runs = whole;
        closes = here.closes;
        keeps = keeps_run new.device is here.end whole here.closes;
        halts = run_halts new.device is here.end whole here.closes;
        limit = closed_limit (pages_in_image old.device.words) (last_state here.run.start here.run.states) here.ran new.device here.end old.left new.left here.run.lines here.run.executes here.closes;
      }

-- a listing
pub lists_entry : {K : Type 0} (old new : Seen (Unit {0}) K) {mounted : DeviceView} {volume : VolumeView} {is : Status} → (mount : HasMounted volume old.device mounted) → ListsOn volume (record old { device = mounted }) new is → HasListed old new is
lists_entry old new {mounted} {volume} {is} mount lists =
    let P = pages_in_image old.device.words in
    let start = mount.only.start in
    let made = mount.only.mount in
    let told : TellsAndCloses P start (listing_text start.tree) mounted new.device is old.took new.took =
    subst (λ (p : ℕ). TellsAndCloses p start (listing_text start.tree) mounted new.device is old.took new.took) mount.size (lists.told start mount.stands) in
    let closes = tells_quietly P start mounted new.device (listing_text start.tree) is old.took new.took (record { settled = made.settled; tidy = made.tidy; reads = made.reads }) told in
    record {
      script = lists.script;
      listed = mounted;
      mounted = mount.only;
      told = told;
      keeps = keeps_after_mount made.keeps closes.keeps;
      beside = λ a within other. closes.beside a within other ∙ made.beside a within;
    }
