-- What an image says, and what a crash inside a command may leave.
use Rattle.std.specs.Prelude.{ℕ, List, Option}
use Rattle.tree_model.specs.Tree.{Tree}
use Rattle.tree_model.specs.Run.{State}
use Rattle.tree_model.specs.Allowed.{Allowed}
use Rattle.tree_model.specs.declared.command.Command.{Command}
use Rattle.image_reading.specs.Soundness.{Sound}
use Rattle.image_reading.specs.Reading.{Reads, ReadsAs}

-- The image is sound, and reads as a tree that a crash in this command may leave.
pub record MayReadAs (P : ℕ) (state : State) (command : Option Command) (image : List ℕ) : Type 0 where
  pub sound : Sound P image
  pub tree : Tree
  pub reads : Reads P image tree
  pub allowed : Allowed P state.tree state.room command tree

-- The image is sound and reads as this state, room and all.
pub record MeansState (P : ℕ) (state : State) (image : List ℕ) : Type 0 where
  pub sound : Sound P image
  pub reads : ReadsAs P image state
