-- How a path is walked from the root, name by name.
use Rattle.std.specs.Prelude.{ℕ, List, [], ◌∷◌, ◌++◌, if◌then◌else◌, Option, Some, None, Result, Ok, Err}
use Rattle.tree_model.specs.PathText.{Route}
use Rattle.tree_model.specs.Tree.{Tree, root_id, parent, id_at, is_directory}
use Rattle.tree_model.specs.declared.reply.Refusal.{Refusal}
use Rattle.tree_model.specs.declared.reply.Refusal.TheVariants.{NotFound, NotDir}

-- where a walk stands: the path that it reached, and the id that this path names
pub record Place : Type 0 where
  pub path : Route
  pub id : ℕ

abbrev pub root_place : Place
root_place = record { path = []; id = root_id }

abbrev pub place_at : Route → Option ℕ → Result Place Refusal
place_at path None = Err NotFound
place_at path (Some id) = Ok (record { path = path; id = id })

-- one name further, which only a directory has
abbrev pub step_into : Tree → Result Place Refusal → List ℕ → Result Place Refusal
step_into T (Err fault) name = Err fault
step_into T (Ok here) name =
    let next = here.path ++ name ∷ [] in if is_directory T here.id then place_at next (id_at T next) else Err NotDir

abbrev pub walk_on : Tree → Result Place Refusal → Route → Result Place Refusal
walk_on T reached [] = reached
walk_on T reached (name ∷ names) = walk_on T (step_into T reached name) names

-- the place that a path leads to, or the fault of the first name that fails
abbrev pub walk : Tree → Route → Result Place Refusal
walk T path = walk_on T (Ok root_place) path

abbrev pub only_directory : Tree → Result Place Refusal → Result Place Refusal
only_directory T (Err fault) = Err fault
only_directory T (Ok here) = if is_directory T here.id then Ok here else Err NotDir

-- the directory that would hold the last name of the path
abbrev pub walk_to_parent : Tree → Route → Result Place Refusal
walk_to_parent T path = only_directory T (walk T (parent path))
