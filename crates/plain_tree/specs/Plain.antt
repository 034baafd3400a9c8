-- What the plain tree shows, and what it answers.
use Rattle.std.specs.Prelude.{◌≡◌, ℕ, ◌⊎◌, Ok}
use Rattle.tree_model.specs.Step.{Answer}
use Rattle.tree_model.specs.Replies.{reply_of}
use Rattle.tree_model.specs.Run.{State, LacksMemory, plain_answer, plain_next}
use Rattle.tree_model.specs.declared.command.Command.{Command}
use Rattle.tree_model.specs.declared.reply.Reply.{Reply}

-- a state, and of how many pages its volume is
pub record Plain : Type 0 where
  pub state : State
  pub pages : ℕ

-- the answer and the state of the run in which nothing fails
pub record AnswersPlainly (volume : ℕ) (old : State) (c : Command) (reply : Reply) (new : State) : Type 0 where
  pub answered : reply ≡ reply_of (plain_answer volume old (Ok c))
  pub state : new ≡ plain_next volume old (Ok c)

-- out of memory in place of an acceptance
pub record RefusesMemory (volume : ℕ) (old : State) (c : Command) (reply : Reply) (new : State) : Type 0 where
  pub answer : Answer
  pub answered : reply ≡ reply_of answer
  pub lacks : LacksMemory volume old c answer new

abbrev pub Answers : ℕ → State → Command → Reply → State → Type 0
Answers volume old c reply new = AnswersPlainly volume old c reply new ⊎ RefusesMemory volume old c reply new
