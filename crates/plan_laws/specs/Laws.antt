-- What is proved of plans once for all commands.
use Rattle.std.specs.Prelude.{◌≡◌, ℕ, Bool, true, false, List, is_some, Ok}
use Rattle.tree_model.specs.Tree.{Tree, IsRoom}
use Rattle.tree_model.specs.Capacity.{Supply}
use Rattle.tree_model.specs.Step.{step, least_free_id, tree_after, room_after, resolved}
use Rattle.tree_model.specs.Run.{State}
use Rattle.tree_model.specs.Fences.{fences_of, fences_of_accepted}
use Rattle.tree_model.specs.declared.command.Command.{Command}
use Rattle.naming_laws.specs.Naming.{names_inode}
use Rattle.image_reading.specs.Reading.{ReadsAs}
use Rattle.image_reading.specs.Residue.{Residue}
use Rattle.image_reading.specs.Tidy.{IsTidied}
use Rattle.image_counts.specs.Laws.{IsApart, ReadsBeside}
use Rattle.volume.specs.declared.plan.Action.{Action}
use Rattle.volume.specs.declared.plan.Action.TheVariants.{Make, Name, Remove, Move, Write as WriteBytes, WriteNothing, Resize, KeepSize, KeepNames, Read as ReadBytes, Status, Names, Space}
use Rattle.volume.specs.Planned.{IsPlannedWith, IsPlanned}
use Rattle.volume.specs.Costs.{events_of, fences_of_plan}
use Rattle.volume.specs.LineEvents.{events_of_line}

-- a directory gives a page back
abbrev pub gives_back : Action → Bool
gives_back (Make entry) = false
gives_back (Name link) = false
gives_back (Remove removal) = is_some removal.given_back
gives_back (Move moving) = is_some moving.given_back
gives_back (WriteBytes writing) = false
gives_back WriteNothing = false
gives_back (Resize resizing) = false
gives_back KeepSize = false
gives_back KeepNames = false
gives_back (ReadBytes reading) = false
gives_back (Status inode) = false
gives_back (Names inode) = false
gives_back Space = false

-- The tree is the one that the command leaves, and the room the one where a page is given back exactly as the action does.
pub record IsLeftBy (P : ℕ) (state : State) (command : Command) (action : Action) (later : State) : Type 0 where
  pub tree : later.tree ≡ (step P state.tree state.room command).tree
  pub room : later.room ≡ room_after (least_free_id state.tree) state.tree state.room (resolved state.tree command) (gives_back action)
  pub fits : IsRoom later.tree later.room

-- The room where a page is given back exactly as the action does fits the tree that the command leaves.
abbrev pub PlanRoomLaw : Type 0
PlanRoomLaw = (P : ℕ) (I : List ℕ) (state : State) (command : Command) (action : Action) → IsTidied P I → ReadsAs P I state → IsPlanned P I state command action
    → IsRoom (step P state.tree state.room command).tree (room_after (least_free_id state.tree) state.tree state.room (resolved state.tree command) (gives_back action))

-- The events of a plan are those that its command takes between the two states.
abbrev pub PlanEventsLaw : Type 0
PlanEventsLaw = (P : ℕ) (I : List ℕ) (state later : State) (command : Command) (action : Action) → IsTidied P I → ReadsAs P I state → IsPlanned P I state command action → IsLeftBy P state command action later
    → events_of action ≡ events_of_line state (Ok command) (step P state.tree state.room command).answer later

-- The fences of a plan are those that its command takes between the two states.
abbrev pub PlanFencesLaw : Type 0
PlanFencesLaw = (P : ℕ) (I : List ℕ) (state later : State) (command : Command) (action : Action) → IsTidied P I → ReadsAs P I state → IsPlanned P I state command action → IsLeftBy P state command action later
    → fences_of_plan action ≡ fences_of state (Ok command) (step P state.tree state.room command).answer later

-- ---- beside calls that run

-- No running call has left anything of a node that the command names.
abbrev pub NamesApart : ℕ → List ℕ → Residue → Tree → Command → Type 0
NamesApart P I residue T command = (i : ℕ) → names_inode T command i ≡ true → IsApart P I residue i

-- The tree is the one that the command leaves, its new node having id n, and the room the one where a page is given back exactly as the action does.
pub record IsLeftBeside (n : ℕ) (state : State) (command : Command) (action : Action) (later : State) : Type 0 where
  pub tree : later.tree ≡ tree_after n state.tree command
  pub room : later.room ≡ room_after n state.tree state.room command (gives_back action)
  pub fits : IsRoom later.tree later.room

-- The fences of a plan that was made beside them are those that its command takes between the two states.
abbrev pub PlanFencesBesideLaw : Type 0
PlanFencesBesideLaw = (I : List ℕ) (supply : Supply) (residue : Residue) (state later : State) (command : Command) (action : Action) (n : ℕ) → ReadsBeside supply.pages I residue state
    → NamesApart supply.pages I residue state.tree command → IsPlannedWith supply I state command action → IsLeftBeside n state command action later
    → fences_of_plan action ≡ fences_of_accepted state command later
