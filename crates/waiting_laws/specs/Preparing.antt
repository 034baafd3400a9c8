-- What calls beside one another ask of a command before it begins, and of what comes between their steps.
use Rattle.std.specs.Prelude.{◌≡◌, ◌^◌, ◌<◌, Some, Result}
use Rattle.pm_trait.specs.DeviceView.{DeviceView, Acknowledges}
use Rattle.tree_model.specs.Capacity.{Supply}
use Rattle.tree_model.specs.Step.{refusal_with}
use Rattle.tree_model.specs.Run.{State}
use Rattle.tree_model.specs.declared.command.Command.{Command}
use Rattle.tree_model.specs.declared.reply.Refusal.{Refusal}
use Rattle.image_reading.specs.Residue.{Residue}
use Rattle.weave_laws.specs.Joined.{HasSamePlaces}
use Rattle.volume.specs.Volume.{VolumeView}
use Rattle.volume.specs.Beside.{StandsBeside}
use Rattle.volume.specs.Costs.{events_of}
use Rattle.volume.specs.Named.{refusal_of_walks}
use Rattle.volume.specs.Prepared.{Prepares}
use Rattle.volume.specs.declared.plan.Action.{Action}
use Rattle.waiting_laws.specs.Beside.{Holding, IsReady, PassesBy}

-- What the walks and the root refuse is the first refusal of the whole row, whatever others hold.
abbrev pub WalksRefuseLaw : Type 0
WalksRefuseLaw = (supply : Supply) (state : State) (command : Command) (refusal : Refusal) → refusal_of_walks state.tree command ≡ Some refusal
    → refusal_with supply state.tree state.room command ≡ Some refusal

-- The events of many plans can be counted together.
abbrev pub FewEventsLaw : Type 0
FewEventsLaw = (volume : VolumeView) (device : DeviceView) (state : State) (command : Command) (action : Action) (others : Residue) → IsReady volume device state command action others
    → events_of action < 2 ^ 41

-- The preparing of another command takes places and room alone, so it passes by.
abbrev pub PreparedPassesLaw : Type 0
PreparedPassesLaw = (old new : VolumeView) (before after : DeviceView) (state : State) (command : Command) (result : Result Action Refusal) (held : Holding) → Prepares old new before after command result
    → PassesBy old new before after state state held

-- In which order calls have left places doesn't matter.
abbrev pub StandsInOrderLaw : Type 0
StandsInOrderLaw = (volume : VolumeView) (device : DeviceView) (state : State) (one other : Residue) → HasSamePlaces one other → StandsBeside volume device state one → StandsBeside volume device state other

-- An acknowledgement changes no word: the volume stands as it did, and it passes by what waits.
abbrev pub AcknowledgedLaw : Type 0
AcknowledgedLaw = (volume : VolumeView) (before after : DeviceView) (state : State) (residue : Residue) (held : Holding) → StandsBeside volume before state residue → Acknowledges before after
    → StandsBeside volume after state residue × PassesBy volume volume before after state state held
