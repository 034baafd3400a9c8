-- A command that enters the history is a legal entry there, and what a crash leaves of a step reads as the history so far, or with that entry.
use Rattle.std.proofs.Common.{◌≡◌, inl, ℕ, List, Option, Some, Ok, refl, sym, ap, subst, ◌∙◌}
use Rattle.pm_trait.specs.DeviceView.{DeviceView}
use Rattle.tree_model.specs.Capacity.{Supply}
use Rattle.tree_model.specs.Replies.{reply_of}
use Rattle.tree_model.specs.Run.{State}
use Rattle.tree_model.specs.Step.{RoomAfterWith, answer_of, outcome_of}
use Rattle.tree_model.specs.declared.command.Command.{Command}
use Rattle.tree_model.specs.declared.reply.Refusal.{Refusal}
use Rattle.tree_model.specs.declared.reply.Reply.{Reply}
use Rattle.volume.specs.Volume.{VolumeView}
use Rattle.running_calls.specs.Stages.{step_of}
use Rattle.running_laws.specs.Steps.{commits, given_inode}
use Rattle.running_laws.specs.Waits.{bytes_of_command}
use Rattle.session_laws.specs.Calls.{Call, Calls, call_at, ranges_of_all}
use Rattle.session_laws.specs.Histories.{EntersHistory}
use Rattle.sessions.specs.History.{StepsTree, IsLegal, supply_of}
use Rattle.sessions.specs.Steps.{HasGiven, MayBeLeft, IsBeforeOrBehind, IsBeforeOrEntered, may_commit}
use Rattle.sessions.specs.declared.entry.Entry.{Entry}
use Rattle.sessions.specs.declared.entry.WeaveReply.TheVariants.{Plain}
use Rattle.sessions.proofs.CarryCrash.{HoldsOfMixes}
use Rattle.sessions.proofs.GoesIds.{IsInRange}
use Rattle.sessions.proofs.GoesKnown.{StandsAt, supply_for}
use Rattle.sessions.proofs.StepCrash.{IsStepState, IsTreeBehind, HasLegalEntry, left_in_step, left_behind, left_entered}

-- ---- an entry

module _ (P : ℕ) (entry : Entry) (command : Command) (id : ℕ) (history entered : State) (enters : EntersHistory (supply_of P entry) history entered command id)
    (range : IsInRange P command id)
    (answered : entry.reply ≡ Plain (reply_of (answer_of (supply_of P entry) history.tree history.room command))) where
  pub steps_tree : StepsTree P entry history command entered
  steps_tree = record {
    id = id;
    new_id = λ accepted. record { unused = enters.unused; in_range = range };
    reply_is =
        answered
        ∙ sym (ap (λ (refusal : Option Refusal). Plain (reply_of (outcome_of refusal (supply_of P entry) id history.tree history.room command).answer)) enters.accepted);
    tree = enters.after.tree ∙ sym (ap (λ (refusal : Option Refusal). (outcome_of refusal (supply_of P entry) id history.tree history.room command).tree) enters.accepted);
    room = subst (λ (refusal : Option Refusal). RoomAfterWith refusal id history.tree history.room command entered.room) (sym enters.accepted) enters.after.room;
  }

  legal_so : IsLegal P entry (Ok command) history entered
  legal_so = inl steps_tree

pub is_legal : (P : ℕ) (entry : Entry) (supply : Supply) (command : Command) (id : ℕ) (history entered : State) → supply_of P entry ≡ supply
    → EntersHistory supply history entered command id → IsInRange P command id → entry.reply ≡ Plain (reply_of (answer_of (supply_of P entry) history.tree history.room command))
    → IsLegal P entry (Ok command) history entered
is_legal P entry supply command id history entered held enters range answered =
    legal_so P entry command id history entered (subst (λ (free : Supply). EntersHistory free history entered command id) (sym held) enters) range answered

-- it has the inode that was given
pub given_so : (P : ℕ) (entry : Entry) (supply : Supply) (call : Call) (history entered : State) → supply_of P entry ≡ supply
    → EntersHistory supply history entered call.command (given_inode call.running) → IsInRange P call.command (given_inode call.running)
    → entry.reply ≡ Plain (reply_of (answer_of (supply_of P entry) history.tree history.room call.command)) → HasGiven P entry history entered call
unfolding steps_tree
given_so P entry supply call history entered held enters range answered = record {
  steps = steps_tree P entry call.command (given_inode call.running) history entered
      (subst (λ (free : Supply). EntersHistory free history entered call.command (given_inode call.running)) (sym held) enters) range answered;
  id_is = refl;
}

-- ---- a crash

-- an entry of the call, with this reply
abbrev pub entry_with : ℕ → Call → ℕ → ℕ → Reply → Entry
entry_with s call inodes pages reply = record { session = s; number = call.number; reply = Plain reply; inodes = inodes; pages = pages }

module _ (volume : VolumeView) (before : DeviceView) (calls : Calls) (history : State) (s : ℕ) (call : Call) (at : StandsAt volume before calls history s call) where
  abbrev supply : Supply
  supply = supply_for volume calls s

  abbrev id : ℕ
  id = given_inode call.running

  abbrev Left : (State → Type 0) → List ℕ → Type 0
  Left IsOne image = MayBeLeft volume.size calls history (Ok call.command) IsOne image

  abbrev AtStep : State → Type 0
  AtStep state = IsStepState (commits call.running) supply history call.command id state

  has_entry : HasLegalEntry volume.size (commits call.running) supply history call.command id (Ok call.command)
  has_entry state commit enters =
      let entry = entry_with s call supply.taken_inodes supply.taken_pages (reply_of (answer_of supply history.tree history.room call.command)) in
      (entry, is_legal volume.size entry supply call.command id history state refl enters at.id refl)

  -- whatever its fence answered
  module _ (after : DeviceView) (makes : (step_of volume (bytes_of_command call.command) call.running).Makes before.words after.words) where
    left_so : HoldsOfMixes (Left AtStep) before after
    left_so image mix =
        left_in_step volume.size calls history (Ok call.command) image (commits call.running) supply call.command id (ranges_of_all calls) (λ range among. inl among)
        (at.crash after.words image makes mix)

    pub leaves_behind : (later : State) → IsTreeBehind (commits call.running) history call.command id later → HoldsOfMixes (Left (IsBeforeOrBehind history later 0)) before after
    leaves_behind later tree image mix =
        left_behind volume.size calls history (Ok call.command) image (commits call.running) supply call.command id later tree (left_so image mix)

    pub leaves_entered : call_at calls s ≡ Some call → HoldsOfMixes (Left (IsBeforeOrEntered volume.size (call_at calls s) history (Ok call.command))) before after
    leaves_entered runs image mix =
        left_entered volume.size calls history (Ok call.command) image (commits call.running) supply call.command id (call_at calls s)
        (λ commit. ap (λ (ran : Option Call). may_commit ran history (Ok call.command)) runs ∙ commit) has_entry (left_so image mix)
