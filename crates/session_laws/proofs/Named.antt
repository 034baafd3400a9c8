-- What a command names in two trees in which it finds the same.
use Rattle.std.proofs.Common.{◌≡◌, ℕ, ◌∙◌, sym}
use Rattle.tree_model.specs.Tree.{Tree}
use Rattle.tree_model.specs.declared.command.Command.{Command}
use Rattle.naming_laws.specs.Naming.{names_inode}
use Rattle.volume.specs.Named.{AreNamedBy}
use Rattle.volume.specs.declared.named.NamedNodes.{NamedNodes}
use Rattle.volume.specs.declared.named.NamedNodes.TheVariants.{All, These}

-- a command that names the same inodes in both
pub named_still : (T U : Tree) (command : Command) (named : NamedNodes) → ((i : ℕ) → names_inode U command i ≡ names_inode T command i) → AreNamedBy T command named
    → AreNamedBy U command named
named_still T U command All same is = is
named_still T U command (These inodes) same is = (is.0, λ i. ((λ here. same i ∙ (is.1 i).0 here), (λ names. (is.1 i).1 (sym (same i) ∙ names))))
