-- A change that has nothing to do begins and ends at once: no word is stored, and its entry leaves the history.
use Rattle.std.proofs.Common.{◌≡◌, inl, inr, ℕ, ◌+◌, ◌-◌, ◌≤◌, Bool, true, false, cond, nat_le, nat_lt, List, Option, None, Some, Ok, refl, sym, ap, subst, ◌∙◌, arith}
use Rattle.std.proofs.lemmas.Bool.{true≢false}
use Rattle.std.proofs.lemmas.List.{ext_get_or}
use Rattle.pm_trait.specs.DeviceView.{DeviceView}
use Rattle.pm_trait.specs.Unfolds.{Step, Fenced, fences_in}
use Rattle.layout.specs.Fields.{word}
use Rattle.tree_model.specs.Run.{State, is_changing}
use Rattle.tree_model.specs.declared.reply.Reply.{Reply}
use Rattle.image_reading.specs.Residue.{no_residue}
use Rattle.image_laws.specs.Quiet.{IsMix}
use Rattle.volume.specs.Costs.{events_of}
use Rattle.volume.specs.Stages.{keeping}
use Rattle.volume.specs.Volume.{VolumeView}
use Rattle.volume.specs.declared.next.Next.{Next}
use Rattle.volume.specs.declared.next.Next.TheVariants.{More, Ended as HasEnded}
use Rattle.volume.specs.declared.plan.Action.{Action}
use Rattle.volume.specs.declared.plan.Action.TheVariants.{Make, Name, Remove, Move, Write as WriteBytes, WriteNothing, Resize, KeepSize, KeepNames}
use Rattle.volume.specs.declared.plan.Action.TheVariants.{Read as ReadBytes, Status, Names, Space}
use Rattle.volume.specs.declared.plan.NewEntry.{NewEntry}
use Rattle.data_ops.specs.declared.truncate.Stage.TheVariants.{Nothing as SizeKept}
use Rattle.data_ops.specs.declared.write.Stage.TheVariants.{Nothing as NothingWritten}
use Rattle.rename_ptr.specs.declared.rename.Stage.TheVariants.{Nothing as NamesKept}
use Rattle.running_calls.specs.declared.running.Running.{Running}
use Rattle.running_calls.specs.declared.running.Running.TheVariants.{Moves, Writes, Resizes}
use Rattle.running_calls.specs.Stages.{IsNext, EntersAt, begun, left_of, step_of}
use Rattle.running_laws.specs.Steps.{commits}
use Rattle.running_laws.specs.Waits.{bytes_of_command}
use Rattle.session_laws.specs.Calls.{Call, Calls, call_at, without, events_of_all, ranges_of_all, CallsWait}
use Rattle.session_laws.specs.Going.{IsReadyAmong}
use Rattle.session_laws.specs.Histories.{IsHistory}
use Rattle.session_laws.proofs.CrashLeaves.{quiet_crash_law}
use Rattle.session_laws.proofs.HistoryIdle.{idle_enters_law}
use Rattle.session_laws.proofs.Lists.{without_idle}
use Rattle.sessions.specs.Advanced.{MadeStep}
use Rattle.sessions.specs.Interleave.{InterleaveView, beside}
use Rattle.sessions.specs.Planned.{IsPlannedAmong}
use Rattle.sessions.specs.Steps.{MayBeLeft}
use Rattle.sessions.proofs.CarryFree.{planned_beside, planned_ready}
use Rattle.sessions.proofs.CarryMade.{BeginsAt, IsFirstState, first_step}
use Rattle.sessions.proofs.CarryPlans.{enters_without_fence}
use Rattle.sessions.proofs.CarryReplies.{plan_told, plan_makes, end_told}
use Rattle.sessions.proofs.CarrySteps.{Began}
use Rattle.sessions.proofs.WeavesOne.{WaitBeside}

-- ---- which it is

-- its step stores nothing, and ends it
pub record IsIdle (volume : VolumeView) (bytes : List ℕ) (running : Running) : Type 0 where
  pub quiet : commits running ≡ false
  pub stores : (step_of volume bytes running).stores ≡ false
  pub same : (I J : List ℕ) → (step_of volume bytes running).Makes I J → J ≡ I
  pub events : (step_of volume bytes running).events ≡ 0
  pub fences : fences_in (left_of volume bytes running) ≡ 0
  pub ends : (next : Running) → IsNext running (More next) → ⊥
  pub enters : (before after : VolumeView) → EntersAt running before after → after ≡ before

no_more : (reply : Reply) (next : Running) → ◌≡◌ {A = Next Running} (More next) (HasEnded reply) → ⊥
no_more reply next is = cc

module _ (volume : VolumeView) (bytes : List ℕ) where
  abbrev IdleOf : Option Running → Type 0
  IdleOf None = Unit {0}
  IdleOf (Some running) = IsIdle volume bytes running

  idle_move : IsIdle volume bytes (Moves NamesKept)
  idle_move = record { quiet = refl; stores = refl; same = λ I J is. is; events = refl; fences = refl; ends = λ next is. no_more _ next is; enters = λ before after is. is }

  idle_write : IsIdle volume bytes (Writes NothingWritten)
  idle_write = record { quiet = refl; stores = refl; same = λ I J is. is; events = refl; fences = refl; ends = λ next is. no_more _ next is; enters = λ before after is. is }

  idle_resize : IsIdle volume bytes (Resizes SizeKept)
  idle_resize = record { quiet = refl; stores = refl; same = λ I J is. is; events = refl; fences = refl; ends = λ next is. no_more _ next is; enters = λ before after is. is }

  -- of two ways none without an event
  some_either : {X : Type 0} (b : Bool) (m n : ℕ) → 1 ≤ m → 1 ≤ n → cond b m n ≡ 0 → X
  some_either true m n one other none = absurd (omega (arith, one, none))
  some_either false m n one other none = absurd (omega (arith, other, none))

  idle_of : (action : Action) → events_of action ≡ 0 → IdleOf (begun action)
  idle_of (Make entry) none = absurd (omega (arith, none))
  idle_of (Name link) none = absurd (omega (arith, none))
  idle_of (Remove removal) none = absurd (omega (arith, none))
  idle_of (Move moving) none = absurd (omega (arith, none))
  idle_of (WriteBytes writing) none = some_either (nat_le (writing.offset + writing.count) writing.old_size) _ _ (omega arith) (omega arith) none
  idle_of WriteNothing none = idle_write
  idle_of (Resize resizing) none = some_either (nat_lt resizing.old_size resizing.new_size) _ _ (omega arith) (omega arith) none
  idle_of KeepSize none = idle_resize
  idle_of KeepNames none = idle_move
  idle_of (ReadBytes reading) none = tt
  idle_of (Status inode) none = tt
  idle_of (Names inode) none = tt
  idle_of Space none = tt

  pub plan_idle : (action : Action) (running : Running) → begun action ≡ Some running → events_of action ≡ 0 → IsIdle volume bytes running
  plan_idle action running starts none = subst IdleOf starts (idle_of action none)

-- an entry has events
no_entry : (action : Action) → events_of action ≡ 0 → (entry : NewEntry) × (action ≡ Make entry) → ⊥
no_entry action none (entry, is) = let same : events_of action ≡ events_of (Make entry) = ap events_of is in omega (arith, same, none)

-- a mix of words with themselves
mix_same : (I M : List ℕ) → IsMix I I M → M ≡ I
unfolding word
mix_same I M mix = ext_get_or 0 M I mix.size (λ a below. elim (mix.words a) [ inl is ↦ is | inr is ↦ is ])

-- What is known where it begins.
module _ (old : InterleaveView) (before : DeviceView) (calls : Calls) (history : State) (session : ℕ) (action : Action) (call : Call)
    (planned : IsPlannedAmong old before calls history session call.command call.named action) (changing : is_changing call.command ≡ true)
    (starts : begun action ≡ Some call.running) (none : events_of action ≡ 0) where
  abbrev words : State
  words = planned.weaving.words

  abbrev bytes : List ℕ
  bytes = bytes_of_command call.command

  abbrev kept : VolumeView
  kept = keeping old.volume action

  abbrev step : Step
  step = first_step old action call

  wait : WaitBeside old.volume before words calls
  wait = planned_beside old before calls history session call.command call.named action planned changing

  ready : IsReadyAmong old.volume before words call.command action calls
  ready = planned_ready old before calls history session call.command call.named action planned changing

  idle : IsIdle kept bytes call.running
  idle = plan_idle kept bytes action call.running starts none

  crash : (J M : List ℕ) → step.Makes before.words J → IsMix before.words J M → MayBeLeft old.volume.size calls history (Ok call.command) (IsFirstState old calls history call) M
  crash J M makes mix =
      let image = mix_same before.words M (subst (λ (words : List ℕ). IsMix before.words words M) (idle.same before.words J makes) mix) in
      subst (MayBeLeft old.volume.size calls history (Ok call.command) (IsFirstState old calls history call)) (sym image)
      (record {
        state = history;
        state_is = inl refl;
        ranges = ranges_of_all calls;
        running = λ range held. inl held;
        crash = quiet_crash_law old.volume before words history calls wait.calls_wait planned.weaving.history_is;
      })

  module _ (new : VolumeView) (after : DeviceView) where
    same_volume : EntersAt call.running (record kept { kept = kept.kept - step.events }) new → new ≡ old.volume
    same_volume enters =
        let events = idle.events in
        let same : kept.kept - step.events ≡ old.volume.kept = omega (arith, events, none) in
        idle.enters (record kept { kept = kept.kept - step.events }) new enters ∙ ap (λ (n : ℕ). record old.volume { kept = n }) same

    same_device : Fenced {T = Unit {0}} {E = Unit {0}} step.stores step.events before after (Ok tt) → after ≡ before
    same_device fenced =
        let nothing = subst (λ (b : Bool). Fenced {T = Unit {0}} {E = Unit {0}} b step.events before after (Ok tt)) idle.stores fenced in nothing.0

    still : new ≡ old.volume → after ≡ before → without calls session ≡ calls
        → CallsWait new after words no_residue (without calls session) × (new.kept ≡ events_of_all new (without calls session))
    still volume device others =
        subst (λ (c : Calls). CallsWait new after words no_residue c × (new.kept ≡ events_of_all new c)) (sym others)
        (subst (λ (d : DeviceView). CallsWait new d words no_residue calls × (new.kept ≡ events_of_all new calls)) (sym device)
        (subst (λ (v : VolumeView). CallsWait v before words no_residue calls × (v.kept ≡ events_of_all v calls)) (sym volume) (wait.calls_wait, wait.kept)))

    began : call_at calls session ≡ None → (next : Next Running) → MadeStep kept new before after bytes call.running next → Began old new after calls history session call next true
    began runs_none (More running) made = absurd (idle.ends running made.next_is)
    began runs_none (HasEnded reply) made =
        let others = without_idle calls session runs_none in
        let (waits, events) = still (same_volume made.enters) (same_device made.takes.fenced) others in
        record {
          words = words;
          later = history;
          waits = beside waits events;
          going = waits.beside.going;
          history_is = subst (λ (c : Calls). IsHistory (ranges_of_all c) history words) (sym others) planned.weaving.history_is;
          goes = (
            0,
            idle_enters_law old.volume before words history calls call.command action call.named wait.calls_wait ready changing none planned.named_is planned.free
                planned.weaving.history_is,
            (λ one. no_entry action none (plan_makes old.volume.size before.words words call.command action one planned.planned.plan_is)),
          );
          tree = λ commit. absurd (true≢false (sym commit ∙ idle.quiet));
          entered = refl;
          told = λ is supply T room. end_told action call.running reply starts made.next_is
              ∙ plan_told old.volume.size before.words words call.command action changing planned.planned.plan_is supply T room;
        }

  pub begins_idle : call_at calls session ≡ None → BeginsAt old before calls history session action call true
  begins_idle runs_none = record {
    enters_is = enters_without_fence (fences_in (left_of kept bytes call.running)) call.behind idle.fences;
    settled = wait.calls_wait.beside.stands.settled;
    stores = λ running is. absurd (idle.ends running is);
    crash = crash;
    commit = λ commit. absurd (true≢false (sym commit ∙ idle.quiet));
    legal = λ state commit enters. absurd (true≢false (sym commit ∙ idle.quiet));
    began = λ new after next made. began new after runs_none next made;
  }
