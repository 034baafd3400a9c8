-- A command that makes a name names the directory that gets it, so no running call touches this directory.
use Rattle.std.proofs.Common.{◌≡◌, ℕ, true, Some, refl, arith}
use Rattle.pm_trait.specs.DeviceView.{DeviceView}
use Rattle.layout.specs.declared.kinds.NodeKind.{NodeKind}
use Rattle.layout.specs.declared.kinds.NodeKind.TheVariants.{File, Directory}
use Rattle.tree_model.specs.PathText.{Route}
use Rattle.tree_model.specs.Tree.{Tree, IsTree, parent, id_at}
use Rattle.tree_model.specs.Run.{State}
use Rattle.tree_model.specs.Step.{making}
use Rattle.tree_model.specs.declared.command.Command.TheVariants.{Create, Mkdir, Link}
use Rattle.image_reading.specs.Residue.{Residue}
use Rattle.naming_laws.specs.Naming.{names_inode}
use Rattle.naming_laws.proofs.Named.{names_at}
use Rattle.volume.specs.Volume.{VolumeView}
use Rattle.volume.specs.Beside.{MayPrepare, IsUntouched}
use Rattle.volume.proofs.WalkedBeside.{stands_tree}

pub parent_named : (T : Tree) → IsTree T → (kind : NodeKind) (path : Route) (d : ℕ) → id_at T (parent path) ≡ Some d → names_inode T (making kind path) d ≡ true
parent_named T tree File path d e = names_at T tree (Create path) (parent path) d (1, omega arith, refl) e
parent_named T tree Directory path d e = names_at T tree (Mkdir path) (parent path) d (1, omega arith, refl) e

pub linked_named : (T : Tree) → IsTree T → (from to : Route) (d : ℕ) → id_at T (parent to) ≡ Some d → names_inode T (Link from to) d ≡ true
linked_named T tree from to d e = names_at T tree (Link from to) (parent to) d (2, omega arith, refl) e

module _ (volume : VolumeView) (device : DeviceView) (state : State) (residue : Residue) where
  pub parent_untouched : (kind : NodeKind) (path : Route) → MayPrepare volume device state residue (making kind path) → (d : ℕ) → id_at state.tree (parent path) ≡ Some d → IsUntouched volume device.words residue d
  parent_untouched kind path asked d e = asked.untouched.each d (parent_named state.tree (stands_tree volume device state residue asked.stands) kind path d e)

  pub linked_untouched : (from to : Route) → MayPrepare volume device state residue (Link from to) → (d : ℕ) → id_at state.tree (parent to) ≡ Some d → IsUntouched volume device.words residue d
  linked_untouched from to asked d e = asked.untouched.each d (linked_named state.tree (stands_tree volume device state residue asked.stands) from to d e)
