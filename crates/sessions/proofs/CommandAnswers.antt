-- A command that begins and is answered at once: its walks are refused, or a running call is in its way, or it is refused as it is prepared.
use Rattle.std.proofs.Common.{◌≡◌, ◌≢◌, ◌⊎◌, inl, inr, ℕ, ◌+◌, ◌-◌, ◌≤◌, true, List, length, Option, None, Some, Ok, refl, sym, ap, subst, ◌∙◌, arith}
use Rattle.std.specs.Prelude.{IsTrue}
use Rattle.pm_trait.specs.Device.{HasRisen}
use Rattle.pm_trait.specs.DeviceView.{DeviceView, Acknowledges}
use Rattle.tree_model.specs.Tree.{node_at}
use Rattle.tree_model.specs.Capacity.{Supply}
use Rattle.tree_model.specs.Places.{line_needs_places}
use Rattle.tree_model.specs.Replies.{reply_of}
use Rattle.tree_model.specs.Step.{refusal_with, outcome_of, RoomAfterWith}
use Rattle.tree_model.specs.Run.{State}
use Rattle.tree_model.specs.declared.command.Command.{Command}
use Rattle.tree_model.specs.declared.reply.Refusal.{Refusal}
use Rattle.tree_model.specs.declared.reply.Reply.TheVariants.{Bytes, Refused}
use Rattle.image_reading.specs.Residue.{Residue}
use Rattle.image_counts.specs.Laws.{supply_beside}
use Rattle.image_counts.proofs.States.{state_law}
use Rattle.mixing_laws.proofs.Alike.{alike_mixed, unused_alike}
use Rattle.volume.specs.Volume.{VolumeView}
use Rattle.volume.specs.Beside.{StandsBeside}
use Rattle.volume.specs.Named.{refusal_of_walks}
use Rattle.volume.specs.Prepared.{IsRefusal, IsSameButRoom}
use Rattle.waiting_laws.proofs.Preparing.{walks_refuse}
use Rattle.session_laws.specs.Calls.{Calls, call_at, left_of_all, ranges_of_all}
use Rattle.session_laws.proofs.HistoryBegins.{zero_unused}
use Rattle.session_laws.proofs.Lists.{without_idle}
use Rattle.sessions.specs.Advanced.{HasAnsweredAtOnce, entry_of, with_entry}
use Rattle.sessions.specs.History.{IsLegal, supply_of}
use Rattle.sessions.specs.Interleave.{InterleaveView, IsWeaving, tasks_of, unbegun}
use Rattle.sessions.specs.Laws.{AnswersLaw, IsAnswered, OthersHold}
use Rattle.sessions.specs.Steps.{Steps, IsBusyWhere, HasReason, has_no_plan}
use Rattle.sessions.specs.Tasks.{held_by_all, HoldFew}
use Rattle.sessions.specs.declared.entry.Entry.{Entry}
use Rattle.sessions.specs.declared.entry.StepReply.{StepReply}
use Rattle.sessions.specs.declared.entry.StepReply.TheVariants.{Ended}
use Rattle.sessions.specs.declared.entry.WeaveReply.{WeaveReply}
use Rattle.sessions.specs.declared.entry.WeaveReply.TheVariants.{Plain}
use Rattle.sessions.specs.declared.task.Task.{Task}

-- ---- what the others hold

-- where the session runs no call they are all
pub record AllHeld (tasks : List (Option Task)) (left : Residue) : Type 0 where
  pub inodes : (held_by_all tasks).inodes ≡ length left.inodes
  pub pages : (held_by_all tasks).pages ≡ length left.pages
  pub few : HoldFew tasks

pub all_held : (weave : InterleaveView) (calls : Calls) (session : ℕ) → OthersHold weave calls session → call_at calls session ≡ None → weave.tasks ≡ tasks_of calls
    → AllHeld weave.tasks (left_of_all weave.volume calls)
all_held weave calls session hold idle are =
    let none = without_idle calls session idle in
    subst (λ (tasks : List (Option Task)). AllHeld tasks (left_of_all weave.volume calls)) (sym are)
    (subst (λ (calls : Calls). AllHeld (tasks_of calls) (left_of_all weave.volume calls)) none (record { inodes = hold.inodes; pages = hold.pages; few = hold.few }))

-- as much isn't free for an entry as all have left
pub held_supply : (P : ℕ) (tasks : List (Option Task)) (left : Residue) (session number : ℕ) (answer : WeaveReply) → AllHeld tasks left
    → supply_of P (entry_of tasks session number answer) ≡ supply_beside P left
held_supply P tasks left session number answer held = λ i. record { pages = P; taken_inodes = held.inodes i; taken_pages = held.pages i }

-- ---- what an answer at once may be

-- (a refused command makes no node, so any id will do)
refused_legal : (P : ℕ) (entry : Entry) (history : State) (command : Command) (refusal : Refusal) → node_at history.tree 0 ≡ None
    → refusal_with (supply_of P entry) history.tree history.room command ≡ Some refusal → entry.reply ≡ Plain (Refused refusal) → IsLegal P entry (Ok command) history history
refused_legal P entry history command refusal unused refused told =
    let supply = supply_of P entry in
    inl (record {
      id = 0;
      new_id = λ accepted. cc (accepted, refused);
      reply_is = told ∙ ap (λ (row : Option Refusal). Plain (reply_of (outcome_of row supply 0 history.tree history.room command).answer)) (sym refused);
      tree = ap (λ (row : Option Refusal). (outcome_of row supply 0 history.tree history.room command).tree) (sym refused);
      room = subst (λ (row : Option Refusal). RoomAfterWith row 0 history.tree history.room command history.room) (sym refused) refl;
    })

-- Id 0 is no node's in the history either.
pub none_at_zero : (weave : InterleaveView) (device : DeviceView) (calls : Calls) (history : State) (weaving : IsWeaving weave device calls history)
    → StandsBeside weave.volume device weaving.words (left_of_all weave.volume calls) → node_at history.tree 0 ≡ None
none_at_zero weave device calls history weaving stands =
    let words = weaving.words in
    unused_alike history.tree words.tree (alike_mixed (ranges_of_all calls) history.tree words.tree weaving.history_is.tree) 0
    (zero_unused weave.volume.size words (state_law weave.volume.size device.words words stands.sound.coherent stands.reads))

-- A refusal of the walks,
pub walks_legal : (P : ℕ) (entry : Entry) (history : State) (command : Command) (refusal : Refusal) → node_at history.tree 0 ≡ None
    → refusal_of_walks history.tree command ≡ Some refusal → entry.reply ≡ Plain (Refused refusal) → IsLegal P entry (Ok command) history history
walks_legal P entry history command refusal unused refused told =
    refused_legal P entry history command refusal unused (walks_refuse (supply_of P entry) history command refusal refused) told

-- and what preparing refuses, which is of the row, or no memory.
pub prepared_legal : (P : ℕ) (entry : Entry) (left : Residue) (history words : State) (command : Command) (refusal : Refusal) (before between : DeviceView)
    → node_at history.tree 0 ≡ None → supply_of P entry ≡ supply_beside P left
    → refusal_with (supply_beside P left) history.tree history.room command ≡ refusal_with (supply_beside P left) words.tree words.room command
    → IsRefusal (supply_beside P left) words command refusal before between → entry.reply ≡ Plain (Refused refusal) → IsLegal P entry (Ok command) history history
prepared_legal P entry left history words command refusal before between unused same alike refused told = elim refused [
  | inl row ↦ refused_legal P entry history command refusal unused (here ∙ row) told
  | inr lacks ↦ inr (inl (record {
    changing = lacks.change;
    accepted = here ∙ lacks.accepted;
    reply_is = told ∙ ap (λ (refusal : Refusal). Plain (Refused refusal)) lacks.answered;
    same = refl;
  }))
]
  where
    here : refusal_with (supply_of P entry) history.tree history.room command ≡ refusal_with (supply_beside P left) words.tree words.room command
    here = ap (λ (supply : Supply). refusal_with supply history.tree history.room command) same ∙ alike

-- ---- the answer

-- It may be answered so, and is Busy rightly; no bytes are read; it has no plan, and where memory was short a cause.
pub record MayAnswer (weave : InterleaveView) (before between : DeviceView) (calls : Calls) (history : State) (session : ℕ) (command : Command) (answer : WeaveReply) : Type 0 where
  pub idle : call_at calls session ≡ None
  pub legal : IsLegal weave.volume.size (entry_of weave.tasks session weave.begun answer) (Ok command) history history
  pub busy : IsBusyWhere answer calls history command
  pub no_bytes : (count : ℕ) → answer ≢ Plain (Bytes count)
  pub no_plan : has_no_plan (Ok command) answer ≡ true
  pub reason : HasReason before between None history (Ok command) (Ended weave.begun answer)

module _ (answers : AnswersLaw) (weave : InterleaveView) (from_one : 1 ≤ weave.begun) (volume : VolumeView) (before between : DeviceView) (calls : Calls) (history : State)
    (session : ℕ) (command : Command) (answer : WeaveReply) (may : MayAnswer weave before between calls history session command answer) where
  number_is : weave.begun - 1 + 1 ≡ weave.begun
  number_is = omega (arith, from_one)

  abbrev answered : InterleaveView
  answered = record weave { volume = volume; entries = with_entry weave session weave.begun answer }

  is_answered : (after : DeviceView) → IsWeaving (record (unbegun weave) { volume = volume }) between calls history → volume.size ≡ weave.volume.size
      → volume.marked ≡ weave.volume.marked → left_of_all volume calls ≡ left_of_all weave.volume calls → IsSameButRoom before between → Acknowledges between after
      → IsAnswered (unbegun weave) answered before between after calls history session (Ok command) answer
  is_answered after weaving size marked left room acked = record {
    idle = may.idle;
    weaving = weaving;
    size = size;
    marked = marked;
    left = left;
    room = room;
    acked = acked;
    new_is = ap (λ (n : ℕ). record weave { volume = volume; begun = n; entries = with_entry weave session n answer }) (sym number_is);
    legal = subst (λ (n : ℕ). IsLegal weave.volume.size (entry_of weave.tasks session n answer) (Ok command) history history) (sym number_is) may.legal;
    busy = may.busy;
    bytes = record { kept = λ other. refl; read = λ path offset count read line told. absurd (may.no_bytes read told) };
    no_plan = may.no_plan;
    reason = λ short. subst (λ (n : ℕ). IsTrue (line_needs_places history (Ok command)) ⊎ HasRisen before.refused n) (sym acked.refused) (may.reason short);
  }

  pub answer_steps : (new : InterleaveView) (after : DeviceView) (reply : StepReply) → IsWeaving (unbegun weave) before calls history
      → IsWeaving (record (unbegun weave) { volume = volume }) between calls history → volume.size ≡ weave.volume.size → volume.marked ≡ weave.volume.marked
      → left_of_all volume calls ≡ left_of_all weave.volume calls
      → IsSameButRoom before between → HasAnsweredAtOnce (record weave { volume = volume }) new between after session weave.begun answer reply
      → Steps (unbegun weave) new before after calls history session (Ok command) reply
  answer_steps new after reply was weaving size marked left room at_once =
      subst (λ (reply : StepReply). Steps (unbegun weave) new before after calls history session (Ok command) reply)
      (ap (λ (n : ℕ). Ended n answer) number_is ∙ sym at_once.told)
      (answers (unbegun weave) new before between after calls history session (Ok command) answer was
      (subst (λ (new : InterleaveView). IsAnswered (unbegun weave) new before between after calls history session (Ok command) answer) (sym at_once.weave)
      (is_answered after weaving size marked left room at_once.acked)))
