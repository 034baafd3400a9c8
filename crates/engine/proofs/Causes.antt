-- No line that goes on is answered Fault or Stopped, and no accepted command with a refusal.
use Rattle.std.proofs.Common.{◌≡◌, ◌≢◌, inl, inr, ℕ, Option, Some, None, sym, ap, ◌∙◌}
use Rattle.std.specs.Prelude.{Ok, Err}
use Rattle.tree_model.specs.Tree.{Tree, Room}
use Rattle.tree_model.specs.Capacity.{Supply, untaken}
use Rattle.tree_model.specs.Step.{Answer, Refused, least_free_id, answer_of, refusal_of, outcome_of, step}
use Rattle.tree_model.specs.Run.{Line, State, LineStep}
use Rattle.tree_model.specs.Replies.{reply_of}
use Rattle.tree_model.specs.declared.command.Command.{Command}
use Rattle.tree_model.specs.declared.command.Command.TheVariants.{Create, Mkdir, Link, Unlink, Rmdir, Rename, Write, Truncate, Read, Stat as Tell, List as Show, Df}
use Rattle.tree_model.specs.declared.reply.Refusal.{Refusal}
use Rattle.tree_model.specs.declared.reply.Reply.{Reply}
use Rattle.tree_model.specs.declared.reply.Reply.TheVariants as reply
use Rattle.engine.proofs.Told.{accepted_answer}

-- the reply of a line that was executed
abbrev pub GoesOn : Reply → Type 0
GoesOn replied = (replied ≢ reply.Fault) × (replied ≢ reply.Stopped)

outcome_goes_on : (found : Option Refusal) (supply : Supply) (id : ℕ) (T : Tree) (room : Room) (c : Command) → GoesOn (reply_of (outcome_of found supply id T room c).answer)
outcome_goes_on (Some refusal) supply id T room c = (λ is. cc, λ is. cc)
outcome_goes_on None supply id T room (Create path) = (λ is. cc, λ is. cc)
outcome_goes_on None supply id T room (Mkdir path) = (λ is. cc, λ is. cc)
outcome_goes_on None supply id T room (Link from to) = (λ is. cc, λ is. cc)
outcome_goes_on None supply id T room (Unlink path) = (λ is. cc, λ is. cc)
outcome_goes_on None supply id T room (Rmdir path) = (λ is. cc, λ is. cc)
outcome_goes_on None supply id T room (Rename from to) = (λ is. cc, λ is. cc)
outcome_goes_on None supply id T room (Write path offset bytes) = (λ is. cc, λ is. cc)
outcome_goes_on None supply id T room (Truncate path size) = (λ is. cc, λ is. cc)
outcome_goes_on None supply id T room (Read path offset count) = (λ is. cc, λ is. cc)
outcome_goes_on None supply id T room (Tell path) = (λ is. cc, λ is. cc)
outcome_goes_on None supply id T room (Show path) = (λ is. cc, λ is. cc)
outcome_goes_on None supply id T room Df = (λ is. cc, λ is. cc)

same_goes_on : {replied other : Reply} → replied ≡ other → GoesOn other → GoesOn replied
same_goes_on same goes = (λ is. goes.0 (sym same ∙ is), λ is. goes.1 (sym same ∙ is))

pub goes_on : (P : ℕ) (old : State) (line : Line) (answer : Answer) (new : State) (replied : Reply) → LineStep P old line answer new → replied ≡ reply_of answer → GoesOn replied
goes_on P old (Ok c) answer new replied (inl step) is =
    same_goes_on (is ∙ ap reply_of step.answered) (outcome_goes_on (refusal_of P old.tree old.room c) (untaken P) (least_free_id old.tree) old.tree old.room c)
goes_on P old (Ok c) answer new replied (inr lacks) is = let same = is ∙ ap reply_of lacks.answered in (λ is_fault. cc, λ is_stopped. cc)
goes_on P old (Err fault) answer new replied step is = let same = is ∙ ap reply_of step.0 in (λ is_fault. cc, λ is_stopped. cc)

-- ---- an accepted command

tells : (supply : Supply) (T : Tree) (room : Room) (c : Command) (refusal : Refusal) → answer_of supply T room c ≢ Refused refusal
tells supply T room (Create path) refusal = λ is. cc
tells supply T room (Mkdir path) refusal = λ is. cc
tells supply T room (Link from to) refusal = λ is. cc
tells supply T room (Unlink path) refusal = λ is. cc
tells supply T room (Rmdir path) refusal = λ is. cc
tells supply T room (Rename from to) refusal = λ is. cc
tells supply T room (Write path offset bytes) refusal = λ is. cc
tells supply T room (Truncate path size) refusal = λ is. cc
tells supply T room (Read path offset count) refusal = λ is. cc
tells supply T room (Tell path) refusal = λ is. cc
tells supply T room (Show path) refusal = λ is. cc
tells supply T room Df refusal = λ is. cc

pub not_refused : (P : ℕ) (state : State) (c : Command) (refusal : Refusal) → refusal_of P state.tree state.room c ≡ None → (step P state.tree state.room c).answer ≢ Refused refusal
not_refused P state c refusal accepted is = tells (untaken P) state.tree state.room c refusal (sym (accepted_answer P state.tree state.room c accepted) ∙ is)
