-- A command that changes, and whose walks lead somewhere, names a node; and so does a call that waits.
use Rattle.std.proofs.Common.{◌≡◌, inl, inr, ℕ, true, List, [], ◌∷◌, Contains, Option, None, Some, is_some, Result, Ok, Err, refl}
use Rattle.pm_trait.specs.DeviceView.{DeviceView}
use Rattle.tree_model.specs.PathText.{Route}
use Rattle.tree_model.specs.Tree.{Tree, Node, IsTree, is_root, parent, node_at, is_directory, is_directory_node, is_file_node}
use Rattle.tree_model.specs.Walk.{Place, walk, walk_to_parent}
use Rattle.tree_model.specs.Step.{first, at, fault_of}
use Rattle.tree_model.specs.Run.{State, is_changing}
use Rattle.tree_model.specs.declared.command.Command.{Command}
use Rattle.tree_model.specs.declared.command.Command.TheVariants.{Create, Mkdir, Link, Unlink, Rmdir, Rename, Write, Truncate, Read, Stat as Tell, List as Show, Df}
use Rattle.tree_model.specs.declared.reply.Refusal.{Refusal}
use Rattle.tree_model.specs.declared.reply.Refusal.TheVariants.{Root}
use Rattle.tree_model.proofs.WalkLaws.{id_at-from_walk, holder-from_walk}
use Rattle.naming_laws.specs.Naming.{paths_of, names_inode}
use Rattle.naming_laws.proofs.Named.{names_at, at_first, at_second}
use Rattle.image_reading.specs.Counts.{IsIn}
use Rattle.image_reading.specs.Residue.{Residue}
use Rattle.volume.specs.Volume.{VolumeView}
use Rattle.volume.specs.Named.{refusal_of_walks}
use Rattle.entry_steps.specs.declared.place.NamePlace.{NamePlace}
use Rattle.entry_steps.specs.declared.place.NamePlace.TheVariants.{Slot, Page}
use Rattle.create_ops.specs.declared.run.Stage.{Stage as MakeStage}
use Rattle.create_ops.specs.declared.run.Stage.TheVariants.{Begun, Written, Claimed}
use Rattle.fence_token.specs.declared.states.Clean.{Clean}
use Rattle.volume.specs.declared.plan.NewEntry.{NewEntry}
use Rattle.data_ops.specs.declared.write.Stage.TheVariants.{Nothing as NothingWritten, Inside, Growing as GrowsByWrite}
use Rattle.data_ops.specs.declared.truncate.Stage.TheVariants.{Nothing as SizeKept, Growing as GrowsBySize, Cutting}
use Rattle.running_calls.specs.declared.running.Running.{Running}
use Rattle.running_calls.specs.declared.running.Running.TheVariants.{Makes, Links, Removes, Moves, Writes, Resizes}
use Rattle.waiting_laws.specs.Making.{HasWrittenName}
use Rattle.waiting_laws.specs.Naming.{IsNameIn}
use Rattle.running_laws.specs.Waits.{held_by, Waits}

-- ---- a command

walk_passes : (walked : Result Place Refusal) (rest : List (Option Refusal)) → first (fault_of walked ∷ rest) ≡ None → (here : Place) × (walked ≡ Ok here)
walk_passes (Err fault) rest passes = cc
walk_passes (Ok here) rest passes = (here, refl)

module _ (T : Tree) (t : IsTree T) where
  abbrev pub NamesSome : Command → Type 0
  NamesSome command = (i : ℕ) × (names_inode T command i ≡ true)

  at_path : (command : Command) (path : Route) (rest : List (Option Refusal)) → Contains (paths_of command) path → first (fault_of (walk T path) ∷ rest) ≡ None → NamesSome command
  at_path command path rest listed passes =
      let (here, walked) = walk_passes (walk T path) rest passes in (here.id, names_at T t command path here.id listed (id_at-from_walk T path here t walked))

  at_parent : (command : Command) (path : Route) → Contains (paths_of command) (parent path) → first (fault_of (walk_to_parent T path) ∷ at Root (is_root path) ∷ []) ≡ None
      → NamesSome command
  at_parent command path listed passes =
      let (here, walked) = walk_passes (walk_to_parent T path) (at Root (is_root path) ∷ []) passes in
      (here.id, names_at T t command (parent path) here.id listed (holder-from_walk T path here t walked).0)

  pub names_some : (command : Command) → is_changing command ≡ true → refusal_of_walks T command ≡ None → NamesSome command
  names_some (Create path) changing passes = at_parent (Create path) path (at_second path (parent path) []) passes
  names_some (Mkdir path) changing passes = at_parent (Mkdir path) path (at_second path (parent path) []) passes
  names_some (Link from to) changing passes = at_path (Link from to) from _ (at_first from (to ∷ parent to ∷ [])) passes
  names_some (Unlink path) changing passes = at_path (Unlink path) path _ (at_first path (parent path ∷ [])) passes
  names_some (Rmdir path) changing passes = at_path (Rmdir path) path _ (at_first path (parent path ∷ [])) passes
  names_some (Rename from to) changing passes = at_path (Rename from to) from _ (at_first from (parent from ∷ to ∷ parent to ∷ [])) passes
  names_some (Write path offset bytes) changing passes = at_path (Write path offset bytes) path _ (at_first path []) passes
  names_some (Truncate path size) changing passes = at_path (Truncate path size) path _ (at_first path []) passes
  names_some (Read path offset count) changing passes = cc
  names_some (Tell path) changing passes = cc
  names_some (Show path) changing passes = cc
  names_some Df changing passes = cc

-- ---- a call that waits

directory_there : (node : Option Node) → is_directory_node node ≡ true → is_some node ≡ true
directory_there None is = cc
directory_there (Some node) is = refl

file_there : (node : Option Node) → is_file_node node ≡ true → is_some node ≡ true
file_there None is = cc
file_there (Some node) is = refl

-- it holds an inode that a node has
abbrev pub HoldsNode : VolumeView → State → Running → Type 0
HoldsNode volume state running = (i : ℕ) × IsIn i (held_by volume running).inodes × (is_some (node_at state.tree i) ≡ true)

module _ (P : ℕ) (I : List ℕ) (T : Tree) (path : Route) (entry : NewEntry) where
  named_in : (place : NamePlace Clean) → IsNameIn P I T path entry.directory entry.slot place → is_directory T entry.directory ≡ true
  named_in (Slot dentry) name = name.directory
  named_in (Page page) name = name.directory

  made_in : (stage : MakeStage) → HasWrittenName P I T path entry stage → is_directory T entry.directory ≡ true
  made_in Begun name = absurd name
  made_in (Written node) name = named_in node.place name
  made_in (Claimed node) name = name.directory

pub holds_node : (volume : VolumeView) (device : DeviceView) (state : State) (command : Command) (running : Running) (others : Residue)
    → Waits volume device state command running others → HoldsNode volume state running
holds_node volume device state command (Makes running) others (path, is, waits) =
    let entry = running.entry in
    (entry.directory, inr (inl refl), directory_there (node_at state.tree entry.directory) (made_in volume.size device.words state.tree path entry running.stage waits.name))
holds_node volume device state command (Links running) others (from, path, is, waits) =
    (running.link.inode, inl refl, file_there (node_at state.tree running.link.inode) waits.file)
holds_node volume device state command (Removes running) others (path, is, waits) =
    (running.removal.directory, inr (inl refl), directory_there (node_at state.tree running.removal.directory) waits.parent)
holds_node volume device state command (Moves running) others waits = absurd waits
holds_node volume device state command (Writes NothingWritten) others waits = absurd waits
holds_node volume device state command (Writes (Inside writing)) others waits = absurd waits
holds_node volume device state command (Writes (GrowsByWrite writing progress)) others (path, bytes, is, named, at, some, waits) =
    (writing.inode, inl refl, file_there (node_at state.tree writing.inode) waits.file)
holds_node volume device state command (Resizes SizeKept) others waits = absurd waits
holds_node volume device state command (Resizes (GrowsBySize resizing progress)) others (path, is, named, bounded, waits) =
    (resizing.inode, inl refl, file_there (node_at state.tree resizing.inode) waits.file)
holds_node volume device state command (Resizes (Cutting resizing progress)) others (path, is, waits) =
    (resizing.inode, inl refl, file_there (node_at state.tree resizing.inode) waits.file)
