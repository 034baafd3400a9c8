-- How the plain tree reads a row.
use Rattle.std.specs.Prelude.{List, [], ◌∷◌, ◌||◌, Option}
use Rattle.tree_model.specs.PathText.{Route}
use Rattle.tree_model.specs.Tree.{Tree, is_root}
use Rattle.tree_model.specs.Walk.{walk, walk_to_parent}
use Rattle.tree_model.specs.Step.{at, fault_of}
use Rattle.tree_model.specs.declared.reply.Refusal.{Refusal}
use Rattle.tree_model.specs.declared.reply.Refusal.TheVariants.{Root}

-- the row of a rename as far as the nodes of its paths don't matter
abbrev pub faults_before_rename : Tree → Route → Route → List (Option Refusal)
faults_before_rename T from to = fault_of (walk T from) ∷ fault_of (walk_to_parent T to) ∷ at Root (is_root from || is_root to) ∷ []
