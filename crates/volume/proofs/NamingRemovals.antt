-- The commands that take a name away name its node.
use Rattle.std.proofs.Common.{◌≡◌, ℕ, true, ◌||◌, ◌∷◌, [], Some, refl, ap, ◌∙◌, eq-eqb}
use Rattle.tree_model.specs.PathText.{Route}
use Rattle.tree_model.specs.Tree.{Tree, parent, id_at, is_number}
use Rattle.tree_model.specs.declared.command.Command.TheVariants.{Unlink, Rmdir}
use Rattle.naming_laws.specs.Naming.{is_at_one_of, names_inode}

path_named : (T : Tree) (path : Route) (i : ℕ) → id_at T path ≡ Some i → is_at_one_of T (path ∷ parent path ∷ []) i ≡ true
path_named T path i is = ap (λ o. is_number o i || is_at_one_of T (parent path ∷ []) i) is ∙ ap (λ b. b || is_at_one_of T (parent path ∷ []) i) (eq-eqb i i refl)

pub unlink_names : (T : Tree) (path : Route) (i : ℕ) → id_at T path ≡ Some i → names_inode T (Unlink path) i ≡ true
unlink_names = path_named

pub rmdir_names : (T : Tree) (path : Route) (i : ℕ) → id_at T path ≡ Some i → names_inode T (Rmdir path) i ≡ true
rmdir_names = path_named
