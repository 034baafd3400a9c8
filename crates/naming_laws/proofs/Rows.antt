-- The ids that commands name, computed from the definitions.
use Rattle.std.proofs.Common.{◌≡◌, Bool, true, false, List, [], ◌∷◌, map, codes, refl, true≢false}
use Rattle.tree_model.specs.PathText.{Route}
use Rattle.tree_model.specs.Tree.{Tree, fresh}
use Rattle.tree_model.specs.Step.{tree_after}
use Rattle.tree_model.specs.declared.command.Command.{Command}
use Rattle.tree_model.specs.declared.command.Command.TheVariants.{Create, Link, Unlink, Rename, Write, Df}
use Rattle.naming_laws.specs.Naming.{names_inode, AreApart}

abbrev a : Route
a = codes "a" ∷ []

abbrev b : Route
b = codes "b" ∷ []

-- the root is 1, and a file a is 2
abbrev with_a : Tree
with_a = tree_after 2 fresh (Create a)

-- which of the ids 1, 2 and 3 the command names
abbrev named : Tree → Command → List Bool
named T c = map (names_inode T c) (1 ∷ 2 ∷ 3 ∷ [])

create_names_the_directory : named fresh (Create a) ≡ true ∷ false ∷ false ∷ []
create_names_the_directory = refl

write_names_the_file : named with_a (Write a 0 (codes "x")) ≡ false ∷ true ∷ false ∷ []
write_names_the_file = refl

unlink_names_the_file_and_the_directory : named with_a (Unlink a) ≡ true ∷ true ∷ false ∷ []
unlink_names_the_file_and_the_directory = refl

link_names_the_file_and_the_directory : named with_a (Link a b) ≡ true ∷ true ∷ false ∷ []
link_names_the_file_and_the_directory = refl

df_names_nothing : named with_a Df ≡ false ∷ false ∷ false ∷ []
df_names_nothing = refl

-- but 3 is no node's
rename_names_every_node : named with_a (Rename a b) ≡ true ∷ true ∷ false ∷ []
rename_names_every_node = refl

-- both name the directory
two_creates_are_not_apart : AreApart fresh (Create a) (Create b) → ⊥
two_creates_are_not_apart apart = true≢false (apart 1 refl)
