-- The history of many calls: what an entry may be answered, and what it leaves.
use Rattle.std.specs.Prelude.{◌≡◌, ◌⊎◌, ℕ, ◌≤◌, true, List, [], ◌∷◌, None, Ok, Err}
use Rattle.layout.specs.Geometry.{inodes_of}
use Rattle.tree_model.specs.Capacity.{Supply}
use Rattle.tree_model.specs.Tree.{Tree, node_at}
use Rattle.tree_model.specs.Replies.{reply_of}
use Rattle.tree_model.specs.Step.{refusal_with, step_with, RoomAfterWith}
use Rattle.tree_model.specs.Run.{State, Line, is_changing}
use Rattle.tree_model.specs.declared.command.Command.{Command}
use Rattle.tree_model.specs.declared.reply.Refusal.TheVariants.{NoMemory}
use Rattle.tree_model.specs.declared.reply.Reply.TheVariants.{Refused, Unread}
use Rattle.naming_laws.specs.Naming.{inode_need}
use Rattle.sessions.specs.declared.entry.Entry.{Entry}
use Rattle.sessions.specs.declared.entry.WeaveReply.TheVariants.{Plain, Busy}

-- what the other running calls hold isn't free
abbrev pub supply_of : ℕ → Entry → Supply
supply_of volume entry = record { pages = volume; taken_inodes = entry.inodes; taken_pages = entry.pages }

-- of an accepted command: no node has the id, and where a node is new it is one of the volume's from 2 on
pub record IsNewId (volume : ℕ) (T : Tree) (c : Command) (id : ℕ) : Type 0 where
  pub unused : node_at T id ≡ None
  pub in_range : inode_need c ≡ 1 → (2 ≤ id) × (id ≤ inodes_of volume)

-- It is answered by the tree, and leaves what its command leaves.
pub record StepsTree (volume : ℕ) (entry : Entry) (old : State) (c : Command) (new : State) : Type 0 where
  pub id : ℕ
  pub new_id : refusal_with (supply_of volume entry) old.tree old.room c ≡ None → IsNewId volume old.tree c id
  pub reply_is : entry.reply ≡ Plain (reply_of (step_with (supply_of volume entry) id old.tree old.room c).answer)
  pub tree : new.tree ≡ (step_with (supply_of volume entry) id old.tree old.room c).tree
  pub room : RoomAfterWith (refusal_with (supply_of volume entry) old.tree old.room c) id old.tree old.room c new.room

-- Memory is short in place of an acceptance.
pub record LacksMemory (volume : ℕ) (entry : Entry) (old : State) (c : Command) (new : State) : Type 0 where
  pub changing : is_changing c ≡ true
  pub accepted : refusal_with (supply_of volume entry) old.tree old.room c ≡ None
  pub reply_is : entry.reply ≡ Plain (Refused NoMemory)
  pub same : new ≡ old

-- A running call names a node that it names.
pub record IsBusy (entry : Entry) (old new : State) : Type 0 where
  pub inode : ℕ
  pub holder : ℕ
  pub reply_is : entry.reply ≡ Busy inode holder
  pub same : new ≡ old

abbrev pub IsLegal : ℕ → Entry → Line → State → State → Type 0
IsLegal volume entry (Ok c) old new = StepsTree volume entry old c new ⊎ LacksMemory volume entry old c new ⊎ IsBusy entry old new
IsLegal volume entry (Err fault) old new = (entry.reply ≡ Plain (Unread fault)) × (new ≡ old)

-- one entry after the other; the lines are those of the calls' numbers
abbrev pub IsLegalHistory : ℕ → (ℕ → Line) → State → List Entry → State → Type 0
IsLegalHistory volume lines old [] new = new ≡ old
IsLegalHistory volume lines old (entry ∷ entries) new =
    (next : State) × IsLegal volume entry (lines entry.number) old next × IsLegalHistory volume lines next entries new
