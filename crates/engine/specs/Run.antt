-- The relation of whole runs: which answers the lines of a script may get, and what each leaves.
use Rattle.std.specs.Prelude.{◌≡◌, ℕ, List, [], ◌∷◌, map, Option, Some, None, slice_get, Ok, Err}
use Rattle.tree_model.specs.Tree.{Tree}
use Rattle.tree_model.specs.Step.{Answer, Stopped, step}
use Rattle.tree_model.specs.Run.{Line, State, LineStep, LineFails}
use Rattle.tree_model.specs.declared.command.Command.{Command}
use Rattle.image_reading.specs.Reading.{ReadsAs}
use Rattle.image_reading.specs.Tidy.{Tidy}
use Rattle.volume.specs.Crashes.{MayReadAs}

-- The lines may get these answers, and after each that is no Fault and follows none this state. Where the device fails
-- at a line it is answered Fault, and every later line is answered Stopped.
abbrev pub Run : ℕ → State → List Line → List Answer → List State → Type 0
Run P old [] [] [] = Unit {0}
Run P old (line ∷ lines) (answer ∷ answers) (new ∷ states) = LineStep P old line answer new × Run P new lines answers states
Run P old (line ∷ lines) (answer ∷ answers) [] = LineFails P old line answer × (answers ≡ map (λ later. Stopped) lines)
-- no other lists belong together
Run P old [] (answer ∷ answers) states = ⊥
Run P old [] [] (new ∷ states) = ⊥
Run P old (line ∷ lines) [] states = ⊥

-- the state after so many lines
abbrev pub state_after : State → List State → ℕ → Option State
state_after start states k = slice_get (start ∷ states) k

-- the state after the last line
abbrev pub last_state : State → List State → State
last_state start [] = start
last_state start (state ∷ states) = last_state state states

-- the command of a line, where it has one
abbrev pub command_of : Option Line → Option Command
command_of None = None
command_of (Some (Ok command)) = Some command
command_of (Some (Err fault)) = None

-- the tree that a line leaves where neither memory nor the device fails it
abbrev pub tree_after_line : ℕ → State → Line → Tree
tree_after_line P old (Ok command) = (step P old.tree old.room command).tree
tree_after_line P old (Err fault) = old.tree

-- the words are tidy and read as this state
pub record IsAt (P : ℕ) (state : State) (words : List ℕ) : Type 0 where
  pub tidy : Tidy P words
  pub reads : ReadsAs P words state

-- After k acknowledgements the image reads as the tree after k lines, or as one that the next line may leave.
abbrev pub IsBetween : ℕ → State → List State → List Line → ℕ → List ℕ → Type 0
IsBetween P start states lines k image =
    (state : State) × (state_after start states k ≡ Some state) × MayReadAs P state (command_of (slice_get lines k)) image

-- the words are tidy and read as the state after k lines
pub record IsStateAfter (P : ℕ) (start : State) (states : List State) (k : ℕ) (words : List ℕ) : Type 0 where
  pub state : State
  pub after : state_after start states k ≡ Some state
  pub there : IsAt P state words
  pub open there use *
