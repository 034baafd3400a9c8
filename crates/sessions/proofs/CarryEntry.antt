-- The entry of a call whose command the history carries out: it is legal, with what the running calls hold.
use Rattle.std.proofs.Common.{◌≡◌, ℕ, List, length, Option, None, Ok, sym, ap, ◌∙◌}
use Rattle.pm_trait.specs.DeviceView.{DeviceView}
use Rattle.tree_model.specs.Capacity.{Supply}
use Rattle.tree_model.specs.Replies.{reply_of}
use Rattle.tree_model.specs.Run.{State}
use Rattle.tree_model.specs.Step.{answer_of}
use Rattle.tree_model.specs.declared.command.Command.{Command}
use Rattle.tree_model.specs.declared.reply.Reply.{Reply}
use Rattle.naming_laws.specs.Naming.{inode_need}
use Rattle.image_counts.specs.Laws.{supply_beside}
use Rattle.session_laws.specs.Calls.{Calls, call_at, without, left_of_all}
use Rattle.session_laws.specs.Histories.{EntersHistory}
use Rattle.session_laws.proofs.Lists.{without_idle}
use Rattle.sessions.specs.Advanced.{entry_of}
use Rattle.sessions.specs.History.{IsLegal, supply_of}
use Rattle.sessions.specs.Interleave.{InterleaveView, IsWeaving, tasks_of}
use Rattle.sessions.specs.Steps.{HasHeld}
use Rattle.sessions.specs.Tasks.{held_by_all}
use Rattle.sessions.specs.declared.entry.WeaveReply.{WeaveReply}
use Rattle.sessions.specs.declared.entry.WeaveReply.TheVariants.{Plain}
use Rattle.sessions.specs.declared.task.Task.{Task}
use Rattle.sessions.proofs.GoesLegal.{is_legal}
use Rattle.sessions.proofs.GoesReplies.{AnswersAs}
use Rattle.sessions.proofs.WeavesHeld.{others_hold_law}

module _ (old : InterleaveView) (before : DeviceView) (calls : Calls) (history : State) (session : ℕ) (weaving : IsWeaving old before calls history)
    (idle : call_at calls session ≡ None) (number : ℕ) (answer : WeaveReply) where
  -- the session runs no call itself
  tasks_same : old.tasks ≡ tasks_of (without calls session)
  tasks_same = weaving.tasks ∙ ap tasks_of (sym (without_idle calls session idle))

  pub entry_held : HasHeld (entry_of old.tasks session number answer) (left_of_all old.volume (without calls session))
  entry_held =
      let others = others_hold_law old before calls history session weaving in
      record {
        inodes = ap (λ (tasks : List (Option Task)). (held_by_all tasks).inodes) tasks_same ∙ others.inodes;
        pages = ap (λ (tasks : List (Option Task)). (held_by_all tasks).pages) tasks_same ∙ others.pages;
      }

  pub entry_supply : supply_of old.volume.size (entry_of old.tasks session number answer) ≡ supply_beside old.volume.size (left_of_all old.volume calls)
  entry_supply =
      let held = entry_held in
      let same = without_idle calls session idle in
      let inodes = held.inodes ∙ ap (λ (c : Calls). length (left_of_all old.volume c).inodes) same in
      let pages = held.pages ∙ ap (λ (c : Calls). length (left_of_all old.volume c).pages) same in
      λ k. record { pages = old.volume.size; taken_inodes = inodes k; taken_pages = pages k }

module _ (old : InterleaveView) (before : DeviceView) (calls : Calls) (history : State) (session : ℕ) (weaving : IsWeaving old before calls history)
    (idle : call_at calls session ≡ None) (number : ℕ) (reply : Reply) (command : Command) (id : ℕ) (entered : State)
    (enters : EntersHistory (supply_beside old.volume.size (left_of_all old.volume calls)) history entered command id) where
  abbrev supply : Supply
  supply = supply_of old.volume.size (entry_of old.tasks session number (Plain reply))

  -- a command that makes no node, and is told this there,
  pub entry_legal_by : (inode_need command ≡ 1 → ⊥) → reply ≡ reply_of (answer_of supply history.tree history.room command)
      → IsLegal old.volume.size (entry_of old.tasks session number (Plain reply)) (Ok command) history entered
  entry_legal_by makes_none told =
      is_legal old.volume.size (entry_of old.tasks session number (Plain reply)) (supply_beside old.volume.size (left_of_all old.volume calls)) command id history entered
      (entry_supply old before calls history session weaving idle number (Plain reply)) enters (λ one. absurd (makes_none one)) (ap Plain told)

  -- or everywhere
  pub entry_legal : (inode_need command ≡ 1 → ⊥) → AnswersAs command reply → IsLegal old.volume.size (entry_of old.tasks session number (Plain reply)) (Ok command) history entered
  entry_legal makes_none told = entry_legal_by makes_none (told supply history.tree history.room)
