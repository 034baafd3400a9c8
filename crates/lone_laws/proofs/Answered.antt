-- An entry that is legal where nothing is held by others is answered as a step of `run`.
use Rattle.std.proofs.Common.{◌≡◌, inl, inr, ℕ, Bool, map, Option, None, Some, Ok, Err, refl, ap, subst, ◌∙◌}
use Rattle.std.specs.Cmp.{nat_cmp_total}
use Rattle.tree_model.specs.Capacity.{Supply, untaken}
use Rattle.tree_model.specs.Replies.{reply_of}
use Rattle.tree_model.specs.Run.{State, Line, LineStep}
use Rattle.tree_model.specs.Step as answers
use Rattle.tree_model.specs.Step.{Answer, Outcome, least_free_id, refusal_of, refusal_with, answer_of, tree_after, outcome_of, step, step_with, directories, pages_after, RoomAfterWith}
use Rattle.tree_model.specs.Table.{table_of}
use Rattle.tree_model.specs.Tree.{Tree, Room, IsRoom}
use Rattle.tree_model.specs.declared.command.Command.{Command}
use Rattle.tree_model.specs.declared.command.Command.TheVariants.{Create, Mkdir, Link, Unlink, Rmdir, Rename, Write, Truncate, Read, Stat as Tell, List as Show, Df}
use Rattle.tree_model.specs.declared.reply.Refusal.{Refusal}
use Rattle.tree_model.specs.declared.reply.Refusal.TheVariants.{NoMemory}
use Rattle.tree_model.specs.declared.reply.Reply.TheVariants.{Done}
use Rattle.naming_laws.specs.Naming.{inode_need}
use Rattle.sessions.specs.History.{supply_of, StepsTree, LacksMemory, IsLegal}
use Rattle.sessions.specs.Texts.{answer_in}
use Rattle.sessions.specs.declared.entry.Entry.{Entry}
use Rattle.sessions.specs.declared.entry.WeaveReply.TheVariants.{Plain, Busy}
use Rattle.lone_laws.proofs.FirstEntry.{makes_node}
use Rattle.lone_laws.proofs.OneCall.{may_fail_free}

-- ---- the id of a new node is all that the supply leaves open

tree_same : (id other : ℕ) (T : Tree) (c : Command) → (inode_need c ≡ 1 → id ≡ other) → tree_after id T c ≡ tree_after other T c
tree_same id other T (Create path) same = ap (λ (i : ℕ). tree_after i T (Create path)) (same refl)
tree_same id other T (Mkdir path) same = ap (λ (i : ℕ). tree_after i T (Mkdir path)) (same refl)
tree_same id other T (Link from to) same = refl
tree_same id other T (Unlink path) same = refl
tree_same id other T (Rmdir path) same = refl
tree_same id other T (Rename from to) same = refl
tree_same id other T (Write path offset bytes) same = refl
tree_same id other T (Truncate path size) same = refl
tree_same id other T (Read path offset count) same = refl
tree_same id other T (Tell path) same = refl
tree_same id other T (Show path) same = refl
tree_same id other T Df same = refl

module _ (id other : ℕ) (T : Tree) (room : Room) (c : Command) where
  outcome_same : (o : Option Refusal) (supply : Supply) → (o ≡ None → inode_need c ≡ 1 → id ≡ other) → outcome_of o supply id T room c ≡ outcome_of o supply other T room c
  outcome_same None supply same = ap (λ (tree : Tree). record { answer = answer_of supply T room c; tree = tree }) (tree_same id other T c (same refl))
  outcome_same (Some refusal) supply same = refl

  room_same : (o : Option Refusal) (new : Room) → (o ≡ None → inode_need c ≡ 1 → id ≡ other) → RoomAfterWith o id T room c new → RoomAfterWith o other T room c new
  room_same None new same after =
      subst (λ (tree : Tree). (gives : Bool) × (new ≡ table_of nat_cmp_total (map (λ directory. (directory, pages_after T room c gives directory)) (directories tree))) × IsRoom tree new)
      (tree_same id other T c (same refl)) after
  room_same (Some refusal) new same after = after

-- ---- what is written of a reply is its answer

told_of_answer : (supply : Supply) (T : Tree) (room : Room) (c : Command) → answer_in T (Ok c) (reply_of (answer_of supply T room c)) ≡ answer_of supply T room c
told_of_answer supply T room (Create path) = refl
told_of_answer supply T room (Mkdir path) = refl
told_of_answer supply T room (Link from to) = refl
told_of_answer supply T room (Unlink path) = refl
told_of_answer supply T room (Rmdir path) = refl
told_of_answer supply T room (Rename from to) = refl
told_of_answer supply T room (Write path offset bytes) = refl
told_of_answer supply T room (Truncate path size) = refl
told_of_answer supply T room (Read path offset count) = refl
told_of_answer supply T room (Tell path) = refl
told_of_answer supply T room (Show path) = refl
told_of_answer supply T room Df = refl

told_of_outcome : (o : Option Refusal) (supply : Supply) (id : ℕ) (T : Tree) (room : Room) (c : Command)
    → answer_in T (Ok c) (reply_of (outcome_of o supply id T room c).answer) ≡ (outcome_of o supply id T room c).answer
told_of_outcome None supply id T room c = told_of_answer supply T room c
told_of_outcome (Some refusal) supply id T room c = refl

-- ---- the entry

-- It has the reply of an answer that `run` may give here.
pub record IsAnswered (P : ℕ) (entry : Entry) (old : State) (line : Line) (new : State) : Type 0 where
  pub answer : Answer
  pub reply_is : entry.reply ≡ Plain (reply_of answer)
  pub told : answer_in old.tree line (reply_of answer) ≡ answer
  pub step : LineStep P old line answer new

module _ (P : ℕ) (entry : Entry) (old new : State) (free : supply_of P entry ≡ untaken P) where
  reply_free : (c : Command) (steps : StepsTree P entry old c new) → entry.reply ≡ Plain (reply_of (step_with (untaken P) steps.id old.tree old.room c).answer)
  reply_free c steps = steps.reply_is ∙ ap (λ (supply : Supply). Plain (reply_of (step_with supply steps.id old.tree old.room c).answer)) free

  -- a new node gets the least free id
  pub steps_answered : (c : Command) (steps : StepsTree P entry old c new) → (refusal_of P old.tree old.room c ≡ None → inode_need c ≡ 1 → steps.id ≡ least_free_id old.tree)
      → IsAnswered P entry old (Ok c) new
  steps_answered c steps least =
      let same = outcome_same steps.id (least_free_id old.tree) old.tree old.room c (refusal_of P old.tree old.room c) (untaken P) least in
      record {
        answer = (step P old.tree old.room c).answer;
        reply_is = reply_free c steps ∙ ap (λ (outcome : Outcome). Plain (reply_of outcome.answer)) same;
        told = told_of_outcome (refusal_of P old.tree old.room c) (untaken P) (least_free_id old.tree) old.tree old.room c;
        step = inl (record {
          answered = refl;
          tree =
              steps.tree ∙ ap (λ (supply : Supply). (step_with supply steps.id old.tree old.room c).tree) free
              ∙ ap (λ (outcome : Outcome). outcome.tree) same;
          room =
              room_same steps.id (least_free_id old.tree) old.tree old.room c (refusal_of P old.tree old.room c) new.room least
              (subst (λ (supply : Supply). RoomAfterWith (refusal_with supply old.tree old.room c) steps.id old.tree old.room c new.room) free steps.room);
        });
      }

  lacks_answered : (c : Command) → LacksMemory P entry old c new → IsAnswered P entry old (Ok c) new
  lacks_answered c lacks = record {
    answer = answers.Refused NoMemory;
    reply_is = lacks.reply_is;
    told = refl;
    step = inr (record {
      accepted = may_fail_free P old (supply_of P entry) c free lacks.changing lacks.accepted;
      answered = refl;
      unchanged = lacks.same;
    });
  }

  -- no call is in its way, and it makes no node
  pub legal_answered : (line : Line) → IsLegal P entry line old new → ((inode holder : ℕ) → entry.reply ≡ Busy inode holder → ⊥)
      → ((c : Command) → line ≡ Ok c → inode_need c ≡ 1 → entry.reply ≡ Plain Done → ⊥) → IsAnswered P entry old line new
  legal_answered (Ok c) (inl steps) busy makes =
      steps_answered c steps (λ accepted one. absurd (makes c refl one
      (reply_free c steps ∙ ap (λ (o : Option Refusal). Plain (reply_of (outcome_of o (untaken P) steps.id old.tree old.room c).answer)) accepted
      ∙ ap (λ (answer : Answer). Plain (reply_of answer)) ((makes_node c one).done (untaken P) old.tree old.room))))
  legal_answered (Ok c) (inr (inl lacks)) busy makes = lacks_answered c lacks
  legal_answered (Ok c) (inr (inr is_busy)) busy makes = absurd (busy is_busy.inode is_busy.holder is_busy.reply_is)
  legal_answered (Err fault) (unread, same) busy makes = record { answer = answers.Unread fault; reply_is = unread; told = refl; step = (refl, same) }
