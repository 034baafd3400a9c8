-- What the plain tree answers and leaves where a command changes and is accepted.
use Rattle.std.proofs.Common.{◌≡◌, ℕ, true, ◌&&◌, None, is_none, Ok, inl, sym, ap, subst, ◌∙◌}
use Rattle.tree_model.specs.Capacity.{untaken}
use Rattle.tree_model.specs.Step.{answer_of, outcome_of, refusal_of, least_free_id}
use Rattle.tree_model.specs.Run.{State, IsVolumeState, is_changing, plain_answer, plain_next, plain_state}
use Rattle.tree_model.specs.Replies.{reply_of}
use Rattle.plain_tree.specs.Plain.{Answers}
use Rattle.tree_model.specs.declared.command.Command.{Command}
use Rattle.tree_model.specs.declared.reply.Reply.{Reply}
use Rattle.tree_model.proofs.PlainRuns.{plain_line, IsVolumeState-line}

module _ (volume : ℕ) (old new : State) (c : Command) (changes : is_changing c ≡ true) (accepted : refusal_of volume old.tree old.room c ≡ None)
    (done : new ≡ plain_state true volume old c) where
  is_next : new ≡ plain_next volume old (Ok c)
  is_next = done ∙ ap (λ t. plain_state t volume old c) (sym (ap (λ o. is_changing c && is_none o) accepted ∙ ap (λ t. t && true) changes))

  pub answers_changed : (reply : Reply) → reply ≡ reply_of (answer_of (untaken volume) old.tree old.room c) → Answers volume old c reply new
  answers_changed reply told = inl (record {
    answered = told ∙ ap (λ o. reply_of (outcome_of o (untaken volume) (least_free_id old.tree) old.tree old.room c).answer) (sym accepted);
    state = is_next;
  })

  pub state_changed : IsVolumeState volume old → IsVolumeState volume new
  state_changed state = subst (IsVolumeState volume) (sym is_next)
      (IsVolumeState-line volume old (plain_next volume old (Ok c)) (Ok c) (plain_answer volume old (Ok c)) state (plain_line volume old (Ok c) state))
