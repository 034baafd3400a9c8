-- The plan of a command is carried out, whose number is given out already: what that asks for, and the answer or the first step as the command's.
use Rattle.std.proofs.Common.{◌≡◌, ◌⊎◌, inl, inr, ℕ, ◌+◌, ◌-◌, ◌*◌, ◌^◌, ◌<◌, ◌≤◌, Bool, true, not, ◌||◌, nat_lt, List, length, Some, Ok, refl, sym, ap, subst, ◌∙◌, arith}
use Rattle.std.proofs.lemmas.Bool.{lt-ltb}
use Rattle.pm_trait.specs.DeviceView.{DeviceView}
use Rattle.pm_trait.specs.Unfolds.{MayFence}
use Rattle.tree_model.specs.Capacity.{Supply}
use Rattle.tree_model.specs.Replies.{reply_of}
use Rattle.tree_model.specs.Run.{State, is_changing}
use Rattle.tree_model.specs.Step.{answer_of}
use Rattle.tree_model.specs.declared.command.Command.{Command}
use Rattle.tree_model.specs.declared.reply.Refusal.TheVariants.{NoMemory}
use Rattle.tree_model.specs.declared.reply.Reply.{Reply}
use Rattle.tree_model.specs.declared.reply.Reply.TheVariants.{Refused}
use Rattle.image_counts.specs.Laws.{supply_beside}
use Rattle.volume.specs.Costs.{events_of, kept_events, where_true}
use Rattle.volume.specs.Prepared.{IsChange}
use Rattle.volume.specs.Stages.{keeping}
use Rattle.volume.specs.Volume.{VolumeView}
use Rattle.volume.specs.declared.named.NamedNodes.{NamedNodes}
use Rattle.volume.specs.declared.plan.Action.{Action}
use Rattle.volume.proofs.Plans.{change_is}
use Rattle.running_calls.specs.declared.running.Running.{Running}
use Rattle.running_calls.specs.Stages.{StandsStage, MayBegin, begun, step_of}
use Rattle.running_laws.specs.Waits.{bytes_of_command}
use Rattle.running_laws.proofs.CostPlan.{plan_costs_law}
use Rattle.session_laws.specs.Calls.{Calls, left_of_all}
use Rattle.session_laws.proofs.BeginKept.{begun_stands}
use Rattle.session_laws.proofs.Lists.{without_idle}
use Rattle.sessions.specs.Advanced.{HasAdvanced, HasAnsweredAtOnce, entry_of, with_entry}
use Rattle.sessions.specs.History.{supply_of}
use Rattle.sessions.specs.Interleave.{InterleaveView, AreNumbered, IsWeaving, tasks_of, unbegun}
use Rattle.sessions.specs.Laws.{HasName, IsAnswered, IsTaskOf, WeavesOn}
use Rattle.sessions.specs.Planned.{IsPlannedAmong, IsReadAs}
use Rattle.sessions.specs.Steps.{Steps, HasReadBytes, is_refused}
use Rattle.sessions.specs.Tasks.{HoldFew}
use Rattle.sessions.specs.declared.entry.StepReply.{StepReply}
use Rattle.sessions.specs.declared.entry.StepReply.TheVariants.{Ended}
use Rattle.sessions.specs.declared.entry.WeaveReply.TheVariants.{Plain}
use Rattle.sessions.specs.declared.task.Task.{Task}
use Rattle.sessions.proofs.AnswerLaw.{answers_law, numbered_more}
use Rattle.sessions.proofs.CarryAlike.{ReadsAlike, planned_alike, reads_make_none, bytes_alike}
use Rattle.sessions.proofs.CarryBegins.{begins_law, some_or_none}
use Rattle.sessions.proofs.CarryEntry.{entry_legal_by, entry_supply}
use Rattle.sessions.proofs.CarryFree.{planned_free, planned_may}
use Rattle.sessions.proofs.CarryIdle.{plan_idle}
use Rattle.sessions.proofs.CarryPlans.{plan_first}
use Rattle.sessions.proofs.ReplyReasons.{other_reason, answer_other}
use Rattle.sessions.proofs.WeavesHeld.{others_hold_law}
use Rattle.sessions.proofs.WeavesOn.{weaves_on_law}

-- where the device has room for so many events and others, it has it for them
reserved_for : (events others spare : ℕ) → 0 < events → where_true (nat_lt 0 events) (events + others) ≤ spare → events ≤ spare
reserved_for events others spare some room =
    let all : events + others ≤ spare = subst (λ (b : Bool). where_true b (events + others) ≤ spare) (lt-ltb 0 events some) room in
    omega (arith, all)

module _ (weave : InterleaveView) (device : DeviceView) (session : ℕ) (command : Command) (named : NamedNodes) (action : Action) (some : 1 ≤ weave.begun)
    (calls : Calls) (history : State) (planned : IsPlannedAmong (unbegun weave) device calls history session command named action) where
  own_number : weave.begun - 1 + 1 ≡ weave.begun
  own_number = omega (arith, some)

  -- ---- what the code asks for

  -- with its number given out
  pub planned_all : IsPlannedAmong weave device calls history session command named action
  planned_all = record {
    weaving = record {
      tasks = planned.weaving.tasks;
      few = planned.weaving.few;
      words = planned.weaving.words;
      waits = planned.weaving.waits;
      history_is = planned.weaving.history_is;
      numbered = subst (λ (n : ℕ). AreNumbered n calls) own_number (numbered_more (weave.begun - 1) calls planned.weaving.numbered);
      entered = let was = planned.weaving.entered in omega (arith, was);
    };
    idle = planned.idle;
    change = planned.change;
    named_is = planned.named_is;
    free = planned.free;
    may = planned.may;
    planned = planned.planned;
    reserved = planned.reserved;
  }

  pub planned_few : HoldFew weave.tasks
  planned_few =
      subst HoldFew (ap tasks_of (without_idle calls session planned.idle) ∙ sym planned.weaving.tasks)
      (others_hold_law (unbegun weave) device calls history session planned.weaving).few

  pub planned_room : (most : ℕ) → weave.begun ≤ most → length weave.entries < most
  planned_room most few = let was = planned.weaving.entered in omega (arith, was, few, some)

  -- ---- a plan that reads is answered

  module _ (new_read new : InterleaveView) (after : DeviceView) (reply : Reply) (number : ℕ) (told : StepReply) (number_is : number ≡ weave.begun)
      (read_all : IsReadAs weave new_read planned_all.weaving.words calls command action (Some reply))
      (answered : HasAnsweredAtOnce new_read new device after session number (Plain reply) told) where
    abbrev old : InterleaveView
    old = unbegun weave

    abbrev words : State
    words = planned.weaving.words

    abbrev supply : Supply
    supply = supply_beside weave.volume.size (left_of_all weave.volume calls)

    read : IsReadAs weave new_read words calls command action (Some reply)
    unfolding planned_all
    read = read_all

    alike : ReadsAlike supply history words command
    alike = planned_alike old device calls history session command named action planned read.0

    view_is : new_read ≡ record weave { bytes = new_read.bytes }
    view_is = read.2

    volume_is : new.volume ≡ weave.volume
    volume_is = ap (λ (w : InterleaveView). w.volume) answered.weave ∙ ap (λ (w : InterleaveView). w.volume) view_is

    bytes_is : new.bytes ≡ new_read.bytes
    bytes_is = ap (λ (w : InterleaveView). w.bytes) answered.weave

    number_of_it : number ≡ weave.begun - 1 + 1
    number_of_it = number_is ∙ sym own_number

    entries_is : new.entries ≡ with_entry old session (old.begun + 1) (Plain reply)
    entries_is =
        ap (λ (w : InterleaveView). w.entries) answered.weave ∙ ap (λ (w : InterleaveView). with_entry w session number (Plain reply)) view_is
        ∙ ap (λ (n : ℕ). with_entry old session n (Plain reply)) number_of_it

    new_is : new ≡ record old { volume = new.volume; begun = old.begun + 1; bytes = new.bytes; entries = with_entry old session (old.begun + 1) (Plain reply) }
    new_is =
        let tasks = ap (λ (w : InterleaveView). w.tasks) answered.weave ∙ ap (λ (w : InterleaveView). w.tasks) view_is in
        let begun = ap (λ (w : InterleaveView). w.begun) answered.weave ∙ ap (λ (w : InterleaveView). w.begun) view_is ∙ sym own_number in
        λ k. record { volume = new.volume; tasks = tasks k; entries = entries_is k; begun = begun k; bytes = new.bytes }

    told_there : reply ≡ reply_of (answer_of (supply_of old.volume.size (entry_of old.tasks session (old.begun + 1) (Plain reply))) history.tree history.room command)
    told_there =
        read.1 ∙ ap reply_of (sym alike.answers)
        ∙ ap (λ (s : Supply). reply_of (answer_of s history.tree history.room command))
        (sym (entry_supply old device calls history session planned.weaving planned.idle (old.begun + 1) (Plain reply)))

    is_answered : IsAnswered old new device device after calls history session (Ok command) (Plain reply)
    is_answered = record {
      idle = planned.idle;
      weaving = subst (λ (v : VolumeView). IsWeaving (record old { volume = v }) device calls history) (sym volume_is) planned.weaving;
      size = ap (λ (v : VolumeView). v.size) volume_is;
      marked = ap (λ (v : VolumeView). v.marked) volume_is;
      left = ap (λ (v : VolumeView). left_of_all v calls) volume_is;
      room = record { words = refl; trail = refl; room = omega arith; faults = refl; refused = omega arith; fences = refl; acks = refl };
      acked = answered.acked;
      new_is = new_is;
      legal = entry_legal_by old device calls history session planned.weaving planned.idle (old.begun + 1) reply command 0 history alike.enters (reads_make_none command read.0)
          told_there;
      busy = inr (planned_free old device calls history session command named action planned);
      bytes = subst (λ (bytes : List ℕ). HasReadBytes old.bytes bytes history.tree (Ok command) (Plain reply)) (sym bytes_is)
          (bytes_alike supply history.tree words.tree history.room words.room command old.bytes new_read.bytes (Plain reply) alike.answers read.3);
      no_plan = ap (λ (changes : Bool). not changes || is_refused reply) read.0;
      reason = other_reason device after history (Ok command) (old.begun + 1) (Plain reply) (λ short. answer_other supply words.tree words.room command
          (sym read.1 ∙ (let same : reply ≡ Refused NoMemory = cc in same)));
    }

    pub answered_steps : Steps old new device after calls history session (Ok command) told
    answered_steps =
        subst (λ (r : StepReply). Steps old new device after calls history session (Ok command) r) (sym (answered.told ∙ ap (λ (n : ℕ). Ended n (Plain reply)) number_of_it))
        (answers_law others_hold_law old new device device after calls history session (Ok command) (Plain reply) planned.weaving is_answered)

  -- ---- one that changes begins

  module _ (change : IsChange action) where
    on : WeavesOn (unbegun weave) device calls planned.weaving.words
    on = weaves_on_law (unbegun weave) device calls history planned.weaving

    changing : is_changing command ≡ true
    changing = change_is weave.volume.size device.words planned.weaving.words command action planned.planned.plan_is ∙ change

    pub begin_may : MayBegin weave.volume device (bytes_of_command command) action
    begin_may = planned_may (unbegun weave) device calls history session command named action planned changing

    module _ (running : Running) (starts : begun action ≡ Some running) where
      pub begin_stands : StandsStage (keeping weave.volume action) device (bytes_of_command command) running
      begin_stands = begun_stands weave.volume device (bytes_of_command command) action running begin_may starts

      step_room : (events_of action ≡ 0) ⊎ (0 < events_of action) → (step_of (keeping weave.volume action) (bytes_of_command command) running).events ≤ device.spare
      step_room (inl none) = let idle = (plan_idle (keeping weave.volume action) (bytes_of_command command) action running starts none).events in omega (arith, idle)
      step_room (inr some_events) =
          let fits = (plan_first (keeping weave.volume action) (bytes_of_command command) action running starts some_events).fits in
          let all = (plan_costs_law weave.volume device (bytes_of_command command) action running begin_may starts).events in
          let room = reserved_for (events_of action) (kept_events weave.volume.marked + weave.volume.kept) device.spare some_events planned.reserved.room in
          omega (arith, fits, all, room)

      pub begin_fence : device.fences < 2 ^ 62 → MayFence device (512 * weave.volume.size) (step_of (keeping weave.volume action) (bytes_of_command command) running).events 1
      begin_fence few = record {
        whole = on.stands.knows.whole;
        settled = on.stands.settled;
        room = step_room (some_or_none (events_of action));
        countable = omega (arith, few);
      }

    pub begun_steps : (begins new : InterleaveView) (after : DeviceView) (task : Task) (reply : StepReply) → HasName action → session < length weave.tasks
        → IsTaskOf action named weave.begun task → begins ≡ record weave { volume = keeping weave.volume action }
        → HasAdvanced begins new device after session task (bytes_of_command command) reply → Steps (unbegun weave) new device after calls history session (Ok command) reply
    begun_steps begins new after task reply name within task_is begins_is advanced =
        let same : begins ≡ record (unbegun weave) { volume = keeping weave.volume action; begun = weave.begun - 1 + 1 } =
        begins_is ∙ ap (λ (n : ℕ). record weave { volume = keeping weave.volume action; begun = n }) (sym own_number) in
        begins_law (unbegun weave) new device after calls history session command named action task reply planned change name within
        (subst (λ (n : ℕ). IsTaskOf action named n task) (sym own_number) task_is)
        (subst (λ (w : InterleaveView). HasAdvanced w new device after session task (bytes_of_command command) reply) same advanced)
