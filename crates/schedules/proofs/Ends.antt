-- What all turns of a schedule come to, by how it ends.
use Rattle.std.proofs.Common.{◌≡◌, ℕ, ◌+◌, ◌^◌, ◌≤◌, Bool, true, false, List, [], Option, None, Some, refl, sym, ap, subst, ◌∙◌, arith}
use Rattle.std.specs.Prelude.{Ok, Err}
use Rattle.pm_trait.specs.Device.{HasRisen, LeavesOnly, acks_from, moment_of}
use Rattle.pm_trait.specs.DeviceView.{DeviceView}
use Rattle.pm_trait.specs.Trail.{Trail}
use Rattle.pm_trait.specs.Unfolds.{KeepsWords}
use Rattle.layout.specs.Superblock.{IsSuperblockWord}
use Rattle.tree_model.specs.Run.{Line}
use Rattle.session_lines.specs.Turns.{LeftView, next_line}
use Rattle.session_laws.specs.Calls.{Call, AreIdle, call_at}
use Rattle.sessions.specs.Interleave.{InterleaveView, IsWeaving}
use Rattle.schedules.specs.Borders.{AreOfSessions}
use Rattle.schedules.specs.Crashes.{IsLeftBy, acks_of_turns}
use Rattle.schedules.specs.Laws.{IsFirst, LeavesTurns}
use Rattle.schedules.specs.Schedules.{EndsAt, TakesTurns, WritesTexts}
use Rattle.schedules.specs.Taken.{HasTaken, TookAll}
use Rattle.schedules.specs.Turns.{Border, Turn, border_behind}
use Rattle.schedules.specs.declared.weave_end.WeaveEnd.{WeaveEnd}
use Rattle.schedules.specs.declared.weave_end.WeaveEnd.TheVariants as end
use Rattle.schedules.proofs.CrashLaw.{crash_law}
use Rattle.schedules.proofs.FirstBorder.{few_turns}
use Rattle.schedules.proofs.HistoryLaw.{history_law}
use Rattle.schedules.proofs.Sums.{SumsUp, sums_up}
use Rattle.schedules.proofs.TurnLaw.{turn_law}

module _ {schedule : List ℕ} {start : Border} {turns : List Turn} {new : InterleaveView} {after : DeviceView} {left : LeftView}
    (first : IsFirst start) (of : AreOfSessions start.left.sessions start.left.lines) (taken : HasTaken schedule start turns new after left) where
  abbrev last : Border
  last = border_behind start turns

  sums : SumsUp start turns last
  sums = sums_up schedule 0 start turns first.border taken.are

  leaves : LeavesTurns start turns
  leaves = crash_law schedule start turns first taken.are

  -- the code's has failed where that behind the turns has
  as_last : (stopped : Bool) → new.volume.stopped ≡ stopped → last.weave.volume.stopped ≡ stopped
  as_last stopped is = ap (λ (weave : InterleaveView). weave.volume.stopped) taken.reached.weave_is ∙ is

  few : after.fences ≤ start.device.fences + 2 ^ 20
  few =
      let most = sums.fences in
      let fewer = sums.fewer in
      let all = few_turns start first in
      let is = ap (λ (d : DeviceView). d.fences) taken.reached.device_is in
      omega (arith, most, fewer, all, is)

  waits : new.volume.stopped ≡ false → IsWeaving new after last.calls last.history
  waits going =
      subst (λ (weave : InterleaveView). IsWeaving weave after last.calls last.history) taken.reached.weave_is
      (subst (λ (device : DeviceView). IsWeaving last.weave device last.calls last.history) taken.reached.device_is (sums.border.going (as_last false going)).weaving)

  runs_none : (o : Option Call) (lines : List (ℕ × Line)) (s : ℕ) → lines ≡ [] → ((call : Call) → o ≡ Some call → next_line lines s ≡ Some (Ok call.command)) → o ≡ None
  runs_none None lines s none next = refl
  runs_none (Some call) lines s none next =
      absurd (let clash : ◌≡◌ {A = Option Line} None (Some (Ok call.command)) = ap (λ (all : List (ℕ × Line)). next_line all s) (sym none) ∙ next call refl in cc)

  -- a call has a line left
  idle : new.volume.stopped ≡ false → last.left.lines ≡ [] → AreIdle last.calls
  idle going none s = runs_none (call_at last.calls s) last.left.lines s none ((sums.border.going (as_last false going)).same s)

  pub takes_with : {took now : List ℕ → Type 0} (end : WeaveEnd) → EndsAt end last → WritesTexts end took start turns now → TakesTurns schedule start end new after took now
  takes_with end ends writes = record {
    begins = first;
    of_sessions = of;
    turns = turns;
    are = taken.are;
    weave = sym taken.reached.weave_is;
    device = sym taken.reached.device_is;
    ends = ends;
    writes = writes;
    history = history_law turn_law schedule start turns first taken.are;
    any_moment = subst (λ (device : DeviceView). LeavesOnly start.device.trail device.trail (IsLeftBy start turns)) taken.reached.device_is leaves.any_moment;
    acks = ap (λ (device : DeviceView). device.acks) (sym taken.reached.device_is) ∙ sums.acks;
    acked =
        subst (λ (device : DeviceView). (told : Trail) → device.trail ≡ Some told → acks_from start.device.trail device.trail (moment_of device.trail) ≡ acks_of_turns turns) taken.reached.device_is
        leaves.acked;
    beside = subst (λ (device : DeviceView). KeepsWords IsSuperblockWord start.device.words device.words) taken.reached.device_is leaves.beside;
    waits = waits;
    idle = idle;
    no_fault = λ going. ap (λ (device : DeviceView). device.faults) (sym taken.reached.device_is) ∙ sums.no_fault (as_last false going ∙ sym first.going);
    cause = λ halted. subst (λ (device : DeviceView). HasRisen start.device.faults device.faults) taken.reached.device_is (sums.cause first.going (as_last true halted));
    fences = few;
  }

module _ {schedule : List ℕ} {start : Border} {new : InterleaveView} {after : DeviceView} {left : LeftView} {took now : List ℕ → Type 0}
    (first : IsFirst start) (of : AreOfSessions start.left.sessions start.left.lines) where
  -- no line is left behind the last
  pub takes_done : {T E : Type 0} (done : T) → TookAll {T = T} {E = E} schedule start new after left took now (Ok done) → new.volume.stopped ≡ false
      → TakesTurns schedule start end.Done new after took now
  takes_done done all going =
      takes_with first of all.taken end.Done
      (ap (λ (l : LeftView). l.lines) all.taken.reached.left_is ∙ all.none, ap (λ (weave : InterleaveView). weave.volume.stopped) all.taken.reached.weave_is ∙ going) all.texts

  pub takes_faulted : {T E : Type 0} (done : T) → TookAll {T = T} {E = E} schedule start new after left took now (Ok done) → new.volume.stopped ≡ true
      → TakesTurns schedule start end.Faulted new after took now
  takes_faulted done all halted =
      takes_with first of all.taken end.Faulted
      (ap (λ (l : LeftView). l.lines) all.taken.reached.left_is ∙ all.none, ap (λ (weave : InterleaveView). weave.volume.stopped) all.taken.reached.weave_is ∙ halted) all.texts

  -- or the last text was cut
  pub takes_cut : {T E : Type 0} (fault : E) → TookAll {T = T} {E = E} schedule start new after left took now (Err fault) → TakesTurns schedule start end.WriteFault new after took now
  takes_cut fault all = takes_with first of all.taken end.WriteFault tt all.cut
