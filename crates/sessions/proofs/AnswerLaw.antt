-- A call that is answered at once is an entry which leaves the history, and is acknowledged: all that waits waits on.
use Rattle.std.proofs.Common.{◌≡◌, ℕ, ◌+◌, not, ◌&&◌, [], ◌∷◌, ◌++◌, length, Option, None, Some, refl, sym, ap, subst, ◌∙◌, arith, length-append}
use Rattle.pm_trait.specs.Device.{LeavesOnly, AcksSettled}
use Rattle.pm_trait.specs.Trail.{Trail}
use Rattle.pm_trait.specs.DeviceView.{DeviceView, Acknowledges}
use Rattle.tree_model.specs.Run.{State, Line}
use Rattle.volume.specs.Volume.{VolumeView}
use Rattle.waiting_laws.proofs.Preparing.{acknowledged}
use Rattle.running_laws.proofs.StillWaits.{still_waits_law}
use Rattle.running_laws.proofs.WaitStands.{holds_law}
use Rattle.session_laws.specs.Calls.{Call, Calls, without, left_of_all, ranges_of_all}
use Rattle.session_laws.specs.Histories.{IsCrashOf}
use Rattle.session_laws.proofs.Lists.{without_idle}
use Rattle.session_laws.proofs.MoveCrashes.{move_acknowledged_law}
use Rattle.session_laws.proofs.ReadyPassed.{acknowledged_among_law}
use Rattle.engine.proofs.After.{Acked}
use Rattle.engine.proofs.Acknowledged.{ack_counts}
use Rattle.sessions.specs.Advanced.{entry_of}
use Rattle.sessions.specs.Interleave.{InterleaveView, AllWait, idle, beside, alone, AreNumbered, IsWeaving, tasks_of}
use Rattle.sessions.specs.Laws.{OthersHoldLaw, IsAnswered, AnswersLaw}
use Rattle.sessions.specs.Steps.{Steps, StepsOn, TakesAll, HasReason, MayBeLeft, IsBeforeOrBehind, HasEntered, HasHeld, IsBusyRightly, Enters, begun_after, number_of, is_entered_before, is_entered_behind, IsCallAt, GetsOn, IsQuietWhere}
use Rattle.sessions.specs.Tasks.{held_by_all}
use Rattle.sessions.specs.declared.entry.Entry.{Entry}
use Rattle.sessions.specs.declared.entry.StepReply.TheVariants.{Ended}
use Rattle.sessions.specs.declared.entry.WeaveReply.{WeaveReply}
use Rattle.sessions.proofs.FencesOthers.{others_fences}
use Rattle.sessions.proofs.FencesTakes.{takes_none}
use Rattle.sessions.proofs.StepEvents.{no_interval, beside_same}
use Rattle.sessions.proofs.AnswerCrash.{weaving_stands, weaving_acked, weaving_settled}

-- an acknowledgement leaves what waits
pub acked_wait : (volume : VolumeView) (device after : DeviceView) (words : State) (calls : Calls) → AllWait volume device words calls → Acknowledges device after
    → AllWait volume after words calls
acked_wait volume device after words calls (idle none going kept stands) acks =
    idle none going kept (acknowledged volume device after words _ (record { slots = []; pages = []; inodes = [] }) stands acks).0
acked_wait volume device after words calls (beside wait kept) acks = beside (acknowledged_among_law still_waits_law holds_law volume device after words calls wait acks) kept
acked_wait volume device after words calls (alone s call waits begun) acks = alone s call (move_acknowledged_law volume device after words calls s call waits acks) begun

-- a number more was given out
pub numbered_more : (begun : ℕ) (calls : Calls) → AreNumbered begun calls → AreNumbered (begun + 1) calls
numbered_more begun calls numbered = record {
  least = numbered.least;
  most = λ s call runs. let most = numbered.most s call runs in omega (arith, most);
  own = numbered.own;
}

module _ (others_hold : OthersHoldLaw) (old new : InterleaveView) (before between after : DeviceView) (calls : Calls) (history : State) (session : ℕ) (line : Line)
    (answer : WeaveReply) (weaving : IsWeaving old before calls history) (is : IsAnswered old new before between after calls history session line answer) where
  there : IsWeaving (record old { volume = new.volume }) between calls history
  there = is.weaving

  abbrev entry : Entry
  entry = entry_of old.tasks session (old.begun + 1) answer

  added : new.entries ≡ old.entries ++ entry ∷ []
  added = ap (λ (w : InterleaveView). w.entries) is.new_is

  begun_is : new.begun ≡ old.begun + 1
  begun_is = ap (λ (w : InterleaveView). w.begun) is.new_is

  weaves : IsWeaving new after calls history
  weaves = record {
    tasks = ap (λ (w : InterleaveView). w.tasks) is.new_is ∙ weaving.tasks;
    few = weaving.few;
    words = there.words;
    waits = acked_wait new.volume between after there.words calls there.waits is.acked;
    history_is = there.history_is;
    numbered = subst (λ (begun : ℕ). AreNumbered begun calls) (sym begun_is) (numbered_more old.begun calls weaving.numbered);
    entered = let was = weaving.entered in omega (arith, was, begun_is, ap length added, length-append old.entries (entry ∷ []));
  }

  -- what the others hold: the session runs no call
  held : HasHeld entry (left_of_all old.volume (without calls session))
  held =
      let others = others_hold old before calls history session weaving in
      let same : tasks_of (without calls session) ≡ old.tasks = ap tasks_of (without_idle calls session is.idle) ∙ sym weaving.tasks in
      record {
        inodes = ap (λ tasks. (held_by_all tasks).inodes) (sym same) ∙ others.inodes;
        pages = ap (λ tasks. (held_by_all tasks).pages) (sym same) ∙ others.pages;
      }

  entered : HasEntered old new calls session line history history (Ended (old.begun + 1) answer)
  entered = record {
    entry = entry;
    added = added;
    session_is = refl;
    number_is = sym (ap (λ (ran : Option Call). number_of old.begun ran) is.idle);
    held = held;
    legal = is.legal;
    given = λ ran runs. absurd (let clash : ◌≡◌ {A = Option Call} None (Some ran) = sym is.idle ∙ runs in cc);
    told = refl;
  }

  any_moment : LeavesOnly before.trail after.trail (λ acks image. MayBeLeft old.volume.size calls history line (IsBeforeOrBehind history history acks) image)
  any_moment =
      subst (λ (t : Option Trail). LeavesOnly t after.trail (λ acks image. MayBeLeft old.volume.size calls history line (IsBeforeOrBehind history history acks) image)) is.room.trail
      (subst (λ (P : ℕ). LeavesOnly between.trail after.trail (λ acks image. MayBeLeft P calls history line (IsBeforeOrBehind history history acks) image)) is.size
      (weaving_acked (record old { volume = new.volume }) between calls history there after line is.acked))

  settled : AcksSettled before.trail after.trail (λ acks words. IsCrashOf old.volume.size words (ranges_of_all calls) history)
  settled =
      subst (λ (t : Option Trail). AcksSettled t after.trail (λ acks words. IsCrashOf old.volume.size words (ranges_of_all calls) history)) is.room.trail
      (subst (λ (P : ℕ). AcksSettled between.trail after.trail (λ acks words. IsCrashOf P words (ranges_of_all calls) history)) is.size
      (weaving_settled (record old { volume = new.volume }) between calls history there after is.acked))

  acked : Acked before.trail after.trail 1
  acked = subst (λ (t : Option Trail). Acked t after.trail 1) is.room.trail (ack_counts between.trail is.acked.trail)

  steps_on : StepsOn old new before after calls history session line (Ended (old.begun + 1) answer)
  steps_on = record {
    later_calls = calls;
    later = history;
    weaving = weaves;
    others = λ s other. refl;
    others_left = others_fences old new before after calls calls history history session weaving weaves (λ s other. refl);
    begun = begun_is ∙ sym (ap (λ (ran : Option Call). begun_after old.begun ran) is.idle);
    left = (is.idle, sym (ap (λ (ran : Option Call). number_of old.begun ran) is.idle));
    enters = subst
        (λ (ran : Option Call). Enters (not (is_entered_before ran) && is_entered_behind ran) old new calls session line history history (Ended (old.begun + 1) answer))
        (sym is.idle) entered;
    call_is = subst (λ (ran : Option Call). IsCallAt ran ran line history.tree) (sym is.idle) tt;
    gets_on = subst (λ (ran : Option Call). GetsOn old.volume new.volume ran ran) (sym is.idle) tt;
    takes_all = subst
        (λ (ran : Option Call). TakesAll old.volume.size (left_of_all old.volume calls) new.volume before after ran ran history line history (Ended (old.begun + 1) answer))
        (sym is.idle)
        (takes_none old.volume.size (left_of_all old.volume calls) new.volume before after history line (old.begun + 1) answer is.no_plan (is.acked.fences ∙ is.room.fences));
    busy = subst (λ (ran : Option Call). IsBusyRightly (Ended (old.begun + 1) answer) ran calls history line) (sym is.idle) is.busy;
    reason = subst (λ (ran : Option Call). HasReason before after ran history line (Ended (old.begun + 1) answer)) (sym is.idle) is.reason;
    bytes = is.bytes;
    quiet = subst (λ (ran : Option Call). IsQuietWhere (Ended (old.begun + 1) answer) ran line before after) (sym is.idle)
        (λ none. record { between = between; room = is.room; acked = is.acked });
    events = record { fenced = between; interval = no_interval before between is.room; acked = is.acked };
    fences = record {
      most = let same = is.acked.fences in let was = is.room.fences in omega (arith, same, was);
      goes_on = λ call ran. cc (is.idle, ran);
      left = λ own told. cc;
    };
    acks = is.acked.acks ∙ ap (λ (n : ℕ). n + 1) is.room.acks;
    acked = acked;
    settled = settled;
    faults = is.acked.faults ∙ is.room.faults;
    any_moment = any_moment;
  }

  pub answered : Steps old new before after calls history session line (Ended (old.begun + 1) answer)
  answered = record {
    frame = record { size = is.size; marked = is.marked; sessions = ap length (ap (λ (w : InterleaveView). w.tasks) is.new_is) };
    beside = beside_same before after (is.acked.words ∙ is.room.words);
    going = λ going. steps_on;
    failed = λ stopped. let going = (weaving_stands (record old { volume = new.volume }) between calls history there).going in cc;
  }

pub answers_law : OthersHoldLaw → AnswersLaw
answers_law others_hold old new before between after calls history session line answer weaving is =
    answered others_hold old new before between after calls history session line answer weaving is
