-- A call that ends where no fence failed is answered neither that one did, nor that one had before: it is acknowledged.
use Rattle.std.proofs.Common.{◌≡◌, inl, inr, ℕ, Bool, true, refl, ap, ◌∙◌}
use Rattle.std.specs.Prelude.{Option, None, Some, Ok, Err}
use Rattle.pm_trait.specs.DeviceView.{DeviceView}
use Rattle.tree_model.specs.Capacity.{Supply}
use Rattle.tree_model.specs.Tree.{Tree, Room}
use Rattle.tree_model.specs.Replies.{reply_of}
use Rattle.tree_model.specs.Run.{State, Line}
use Rattle.tree_model.specs.Step.{answer_of, outcome_of, refusal_with}
use Rattle.tree_model.specs.declared.command.Command.{Command}
use Rattle.tree_model.specs.declared.command.Command.TheVariants.{Create, Mkdir, Link, Unlink, Rmdir, Rename, Write, Truncate, Read, Stat as Tell, List as Show, Df}
use Rattle.tree_model.specs.declared.reply.Refusal.{Refusal}
use Rattle.session_laws.specs.Calls.{Calls}
use Rattle.sessions.specs.History.{IsLegal, supply_of}
use Rattle.sessions.specs.Interleave.{InterleaveView}
use Rattle.sessions.specs.Steps.{StepsOn, acks_of, is_entered_behind}
use Rattle.sessions.specs.declared.entry.Entry.{Entry}
use Rattle.sessions.specs.declared.entry.StepReply.{StepReply}
use Rattle.sessions.specs.declared.entry.StepReply.TheVariants.{Running, Ended}
use Rattle.sessions.specs.declared.entry.WeaveReply.{WeaveReply}
use Rattle.schedules.specs.Crashes.{acks_of_reply, acks_in}
use Rattle.schedules.proofs.HistoryGoes.{Entering, entering}

-- ---- what an entry says

acks_accepted : (supply : Supply) (T : Tree) (room : Room) (c : Command) → acks_of_reply (reply_of (answer_of supply T room c)) ≡ 1
acks_accepted supply T room (Create path) = refl
acks_accepted supply T room (Mkdir path) = refl
acks_accepted supply T room (Link from to) = refl
acks_accepted supply T room (Unlink path) = refl
acks_accepted supply T room (Rmdir path) = refl
acks_accepted supply T room (Rename from to) = refl
acks_accepted supply T room (Write path offset bytes) = refl
acks_accepted supply T room (Truncate path size) = refl
acks_accepted supply T room (Read path offset count) = refl
acks_accepted supply T room (Tell path) = refl
acks_accepted supply T room (Show path) = refl
acks_accepted supply T room Df = refl

acks_answered : (refusal : Option Refusal) (supply : Supply) (id : ℕ) (T : Tree) (room : Room) (c : Command) → acks_of_reply (reply_of (outcome_of refusal supply id T room c).answer) ≡ 1
acks_answered None supply id T room c = acks_accepted supply T room c
acks_answered (Some refusal) supply id T room c = refl

acks_legal : (volume number : ℕ) (entry : Entry) (line : Line) (old new : State) → IsLegal volume entry line old new → acks_in (Ended number entry.reply) ≡ 1
acks_legal volume number entry (Ok c) old new legal = elim legal [
  | inl steps ↦
      ap (λ (r : WeaveReply). acks_in (Ended number r)) steps.reply_is
      ∙ acks_answered (refusal_with (supply_of volume entry) old.tree old.room c) (supply_of volume entry) steps.id old.tree old.room c
  | inr (inl lacks) ↦ ap (λ (r : WeaveReply). acks_in (Ended number r)) lacks.reply_is
  | inr (inr busy) ↦ ap (λ (r : WeaveReply). acks_in (Ended number r)) busy.reply_is
]
acks_legal volume number entry (Err fault) old new legal = ap (λ (r : WeaveReply). acks_in (Ended number r)) legal.0

-- ---- a step

module _ {old new : InterleaveView} {calls : Calls} {session : ℕ} {line : Line} {history later : State} where
  acks_ended : (number : ℕ) (reply : WeaveReply) (before behind : Bool) → behind ≡ true → Entering old new calls session line history later (Ended number reply) before behind
      → acks_in (Ended number reply) ≡ 1
  acks_ended number reply before behind is (Entering.now was gone has) =
      ap (λ (r : WeaveReply). acks_in (Ended number r)) has.told ∙ acks_legal old.volume.size number has.entry line history later has.legal
  acks_ended number reply before behind is (Entering.earlier was has) = ap (λ (r : WeaveReply). acks_in (Ended number r)) has.told
  acks_ended number reply before behind is (Entering.to_enter was waits has) = absurd (cc (is, waits))

pub acks_step : {old new : InterleaveView} {before after : DeviceView} {calls : Calls} {history : State} {session : ℕ} {line : Line} (reply : StepReply)
    → StepsOn old new before after calls history session line reply → acks_in reply ≡ acks_of reply
acks_step (Running number) steps = refl
acks_step (Ended number reply) steps = acks_ended number reply _ _ (ap is_entered_behind steps.left.0) (entering _ _ steps.enters)
