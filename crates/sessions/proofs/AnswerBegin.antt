-- A call begins: it gets the next number, and where nothing was done for it but its answer, it is answered so; a line that can't be read is.
use Rattle.std.proofs.Common.{◌≡◌, ℕ, ◌+◌, ◌-◌, true, List, Option, None, Ok, Err, refl, sym, ap, subst, ◌∙◌, arith}
use Rattle.pm_trait.specs.DeviceView.{DeviceView}
use Rattle.tree_model.specs.Run.{State, Line}
use Rattle.tree_model.specs.declared.command.Command.{Command}
use Rattle.tree_model.specs.declared.reply.LineFault.{LineFault}
use Rattle.tree_model.specs.declared.reply.Reply.TheVariants.{Stopped, Unread}
use Rattle.volume.specs.Prepared.{IsSameButRoom}
use Rattle.volume.specs.Volume.{VolumeView}
use Rattle.session_laws.specs.Calls.{Calls, call_at, without, left_of_all}
use Rattle.session_laws.proofs.Lists.{without_idle}
use Rattle.sessions.specs.Advanced.{HasAnsweredAtOnce, entry_of, with_entry}
use Rattle.sessions.specs.History.{IsLegal}
use Rattle.sessions.specs.Interleave.{InterleaveView, IsWeaving, tasks_of, unbegun}
use Rattle.sessions.specs.Laws.{OthersHoldLaw, AnswersLaw, IsAnswered}
use Rattle.sessions.specs.Steps.{Steps, IsAsked, MayStep, IsStopped, IsBusyRightly, HasReadBytes, HasReason, has_no_plan, number_in, begun_in}
use Rattle.sessions.specs.Tasks.{task_in, HoldFew}
use Rattle.sessions.specs.declared.entry.StepReply.{StepReply}
use Rattle.sessions.specs.declared.entry.StepReply.TheVariants.{Ended}
use Rattle.sessions.specs.declared.entry.WeaveReply.{WeaveReply}
use Rattle.sessions.specs.declared.entry.WeaveReply.TheVariants.{Plain}
use Rattle.sessions.specs.declared.task.Task.{Task}
use Rattle.sessions.proofs.AnswerTasks.{idle_call, task_stays}
use Rattle.sessions.proofs.ReplyReasons.{other_reason}

-- a call more has begun
abbrev pub begun_more : InterleaveView → InterleaveView
begun_more weave = record weave { begun = weave.begun + 1 }

pub unbegun_again : (weave : InterleaveView) → unbegun (begun_more weave) ≡ weave
unbegun_again weave = let same : weave.begun + 1 - 1 ≡ weave.begun = omega arith in ap (λ (n : ℕ). record weave { begun = n }) same

-- an earlier step's fence has failed
pub stopped_begins : (weave : InterleaveView) (session : ℕ) → task_in weave.tasks session ≡ None
    → IsStopped weave (begun_more weave) session (Ended (weave.begun + 1) (Plain Stopped))
stopped_begins weave session none = record {
  told = ap (λ (ran : Option Task). Ended (number_in weave.begun ran) (Plain Stopped)) (sym none);
  volume = refl;
  tasks = sym (task_stays weave.tasks session none);
  entries = refl;
  begun = ap (λ (ran : Option Task). begun_in weave.begun ran) (sym none);
  bytes = refl;
}

-- ---- where the session runs no call

module _ (weave : InterleaveView) (device : DeviceView) (calls : Calls) (history : State) (session : ℕ) (weaving : IsWeaving weave device calls history)
    (none : task_in weave.tasks session ≡ None) where
  pub runs_none : call_at calls session ≡ None
  runs_none = idle_call calls session (ap (λ tasks. task_in tasks session) (sym weaving.tasks) ∙ none)

  -- the running calls hold few
  pub few_hold : OthersHoldLaw → HoldFew weave.tasks
  few_hold others_hold =
      let same : tasks_of (without calls session) ≡ weave.tasks = ap tasks_of (without_idle calls session runs_none) ∙ sym weaving.tasks in
      subst HoldFew same (others_hold weave device calls history session weaving).few

-- ---- an answer before which nothing was done

same_device : (device : DeviceView) → IsSameButRoom device device
same_device device = record { words = refl; trail = refl; room = omega arith; faults = refl; refused = omega arith; fences = refl; acks = refl }

module _ (old new : InterleaveView) (before after : DeviceView) (calls : Calls) (history : State) (session : ℕ) (line : Line) (answer : WeaveReply) (reply : StepReply)
    (none : task_in old.tasks session ≡ None) (weaving : IsWeaving old before calls history)
    (answered : HasAnsweredAtOnce (begun_more old) new before after session (old.begun + 1) answer reply) where
  volume_is : new.volume ≡ old.volume
  volume_is = ap (λ (w : InterleaveView). w.volume) answered.weave

  bytes_are : new.bytes ≡ old.bytes
  bytes_are = ap (λ (w : InterleaveView). w.bytes) answered.weave

  new_is : new ≡ record old { volume = new.volume; begun = old.begun + 1; bytes = new.bytes; entries = with_entry old session (old.begun + 1) answer }
  new_is =
      answered.weave
      ∙ ap (λ (v : VolumeView). record old { volume = v; begun = old.begun + 1; entries = with_entry old session (old.begun + 1) answer }) (sym volume_is)
      ∙ ap (λ (bytes : List ℕ). record old { volume = new.volume; begun = old.begun + 1; bytes = bytes; entries = with_entry old session (old.begun + 1) answer }) (sym bytes_are)

  pub answered_alone : IsLegal old.volume.size (entry_of old.tasks session (old.begun + 1) answer) line history history
      → IsBusyRightly (Ended (old.begun + 1) answer) None calls history line → HasReadBytes old.bytes old.bytes history.tree line answer
      → has_no_plan line answer ≡ true → HasReason before after None history line (Ended (old.begun + 1) answer)
      → IsAnswered old new before before after calls history session line answer
  answered_alone legal busy bytes no_plan reason = record {
    idle = runs_none old before calls history session weaving none;
    weaving = subst (λ (v : VolumeView). IsWeaving (record old { volume = v }) before calls history) (sym volume_is) weaving;
    size = ap (λ (v : VolumeView). v.size) volume_is;
    marked = ap (λ (v : VolumeView). v.marked) volume_is;
    left = ap (λ (v : VolumeView). left_of_all v calls) volume_is;
    room = same_device before;
    acked = answered.acked;
    new_is = new_is;
    legal = legal;
    busy = busy;
    bytes = subst (λ (bytes : List ℕ). HasReadBytes old.bytes bytes history.tree line answer) (sym bytes_are) bytes;
    no_plan = no_plan;
    reason = reason;
  }

-- ---- the same of sessions that these are

module _ (weave now : InterleaveView) (same : weave ≡ now) (session : ℕ) (none : task_in now.tasks session ≡ None) where
  pub stopped_there : (reply : StepReply) → reply ≡ Ended (weave.begun + 1) (Plain Stopped) → IsStopped now (begun_more weave) session reply
  stopped_there reply told =
      subst (λ (r : StepReply). IsStopped now (begun_more weave) session r) (sym told)
      (subst (λ (w : InterleaveView). IsStopped now (begun_more w) session (Ended (w.begun + 1) (Plain Stopped))) (sym same) (stopped_begins now session none))

  pub few_there : (device : DeviceView) (line : Line) → OthersHoldLaw → IsAsked now device session line → HoldFew weave.tasks
  few_there device line others_hold (calls, history, may) =
      subst (λ (w : InterleaveView). HoldFew w.tasks) (sym same) (few_hold now device calls history session may.weaving none others_hold)

-- ---- a command

module _ (weave now : InterleaveView) (same : weave ≡ now) (session : ℕ) (line : Line) (command : Command) (is : line ≡ Ok command) where
  back : unbegun (begun_more weave) ≡ now
  back = unbegun_again weave ∙ same

  pub asks_there : (device : DeviceView) → IsAsked now device session line → IsAsked (unbegun (begun_more weave)) device session (Ok command)
  asks_there device asked =
      subst (λ (w : InterleaveView). IsAsked w device session (Ok command)) (sym back) (subst (λ (l : Line). IsAsked now device session l) is asked)

  pub begun_steps : (new : InterleaveView) (before after : DeviceView) (calls : Calls) (history : State) (reply : StepReply)
      → (MayStep (unbegun (begun_more weave)) before calls history session (Ok command)
      → Steps (unbegun (begun_more weave)) new before after calls history session (Ok command) reply) → MayStep now before calls history session line
      → Steps now new before after calls history session line reply
  begun_steps new before after calls history reply steps may =
      subst (λ (l : Line). Steps now new before after calls history session l reply) (sym is)
      (subst (λ (w : InterleaveView). MayStep w before calls history session (Ok command) → Steps w new before after calls history session (Ok command) reply) back steps
      (subst (λ (l : Line). MayStep now before calls history session l) is may))

-- ---- a line that can't be read

module _ (old new : InterleaveView) (before after : DeviceView) (calls : Calls) (history : State) (session : ℕ) (fault : LineFault) (reply : StepReply)
    (none : task_in old.tasks session ≡ None) where
  pub unread_steps : AnswersLaw → HasAnsweredAtOnce (begun_more old) new before after session (old.begun + 1) (Plain (Unread fault)) reply
      → MayStep old before calls history session (Err fault) → Steps old new before after calls history session (Err fault) reply
  unread_steps answers answered may =
      subst (λ (told : StepReply). Steps old new before after calls history session (Err fault) told) (sym answered.told)
      (answers old new before before after calls history session (Err fault) (Plain (Unread fault)) may.weaving
      (answered_alone old new before after calls history session (Err fault) (Plain (Unread fault)) reply none may.weaving answered
      (refl, refl) (λ inode holder is. cc) (record { kept = λ other. refl; read = λ path offset count read is told. cc }) refl
      (other_reason before after history (Err fault) (old.begun + 1) (Plain (Unread fault)) (λ is. cc))))

  pub unread_there : (weave : InterleaveView) (line : Line) → weave ≡ old → line ≡ Err fault → AnswersLaw
      → HasAnsweredAtOnce (begun_more weave) new before after session (weave.begun + 1) (Plain (Unread fault)) reply
      → MayStep old before calls history session line → Steps old new before after calls history session line reply
  unread_there weave line same is answers answered =
      subst (λ (l : Line). MayStep old before calls history session l → Steps old new before after calls history session l reply) (sym is)
      (unread_steps answers
      (subst (λ (w : InterleaveView). HasAnsweredAtOnce (begun_more w) new before after session (w.begun + 1) (Plain (Unread fault)) reply) same answered))
