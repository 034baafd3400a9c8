-- A command is prepared among running calls, and where it reads it is answered.
use Rattle.std.specs.Prelude.{◌≡◌, ◌⊎◌, ℕ, false, Option, None, Some, Ok}
use Rattle.pm_trait.specs.DeviceView.{DeviceView}
use Rattle.tree_model.specs.Replies.{reply_of}
use Rattle.tree_model.specs.Step.{answer_of}
use Rattle.tree_model.specs.Run.{State, is_changing}
use Rattle.tree_model.specs.declared.command.Command.{Command}
use Rattle.tree_model.specs.declared.reply.Reply.{Reply}
use Rattle.image_counts.specs.Laws.{supply_beside}
use Rattle.volume.specs.Beside.{MayPrepare}
use Rattle.volume.specs.Carried.{HasReserved}
use Rattle.volume.specs.Named.{AreNamedBy}
use Rattle.volume.specs.Planned.{IsPlannedWith}
use Rattle.volume.specs.Prepared.{IsChange}
use Rattle.volume.specs.declared.named.NamedNodes.{NamedNodes}
use Rattle.volume.specs.declared.plan.Action.{Action}
use Rattle.session_laws.specs.Calls.{Calls, call_at, left_of_all}
use Rattle.session_laws.specs.Going.{AreFree}
use Rattle.sessions.specs.Interleave.{InterleaveView, IsWeaving}
use Rattle.sessions.specs.Steps.{HasReadBytes}
use Rattle.sessions.specs.declared.entry.WeaveReply.TheVariants.{Plain}

-- No running call is in its way, and this is its plan beside them, with its room.
pub record IsPlannedAmong (weave : InterleaveView) (device : DeviceView) (calls : Calls) (history : State) (session : ℕ) (command : Command) (named : NamedNodes) (action : Action) : Type 0 where
  pub weaving : IsWeaving weave device calls history
  pub idle : call_at calls session ≡ None
  pub change : is_changing command ≡ false ⊎ (weave.volume.marked ≡ false)
  pub named_is : AreNamedBy weaving.words.tree command named
  pub free : AreFree named calls
  pub may : MayPrepare weave.volume device weaving.words (left_of_all weave.volume calls) command
  pub planned : IsPlannedWith (supply_beside weave.volume.size (left_of_all weave.volume calls)) device.words weaving.words command action
  pub reserved : HasReserved weave.volume device action

-- The plan is one of a change, and nothing was done; or this is the reply of the tree of the words.
abbrev pub IsReadAs : InterleaveView → InterleaveView → State → Calls → Command → Action → Option Reply → Type 0
IsReadAs old new words calls command action None = IsChange action × (new ≡ old)
IsReadAs old new words calls command action (Some reply) =
    (is_changing command ≡ false) × (reply ≡ reply_of (answer_of (supply_beside old.volume.size (left_of_all old.volume calls)) words.tree words.room command))
    × (new ≡ record old { bytes = new.bytes }) × HasReadBytes old.bytes new.bytes words.tree (Ok command) (Plain reply)
