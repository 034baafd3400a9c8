-- What unlink and rmdir leave is a state that the step allows.
use Rattle.std.specs.Prelude.{◌≡◌, ℕ, List, ◌∷◌, reverse}
use Rattle.layout.specs.Fields.{slot_name}
use Rattle.tree_model.specs.PathText.{Route}
use Rattle.tree_model.specs.Run.{State}
use Rattle.tree_model.specs.declared.command.Command.{Command}
use Rattle.tree_model.specs.declared.command.Command.TheVariants.{Unlink, Rmdir}
use Rattle.image_reading.specs.Reading.{ReadsAs}
use Rattle.image_laws.specs.CreateStep.{IsStepped}
use Rattle.image_laws.specs.Drop.{CanDrop, Drops}

-- the two commands that take a path away
pub data Removal : Type 0 where
  file directory : Removal

abbrev pub removing : Removal → Route → Command
removing file path = Unlink path
removing directory path = Rmdir path

-- (No node is new: id n is not read.)
abbrev pub DropStepLaw : Type 0
DropStepLaw = (P : ℕ) (W I J K : List ℕ) (old : State) (p path : Route) (s y n : ℕ) (kind : Removal) → CanDrop P W p s → Drops P W I J K s y
    → reverse path ≡ slot_name P W s ∷ p → ReadsAs P W old → IsStepped P K old (removing kind path) n
