-- Every inode that a call will hold its command names, but the one that it makes, which no node has.
use Rattle.std.proofs.Common.{◌≡◌, ◌⊎◌, inl, inr, ℕ, ◌==◌, true, [], ◌∷◌, length, Some, None, refl, sym, subst}
use Rattle.std.specs.Prelude.{Contains}
use Rattle.pm_trait.specs.DeviceView.{DeviceView}
use Rattle.tree_model.specs.PathText.{Route}
use Rattle.tree_model.specs.Tree.{IsTree, parent, id_at, node_at}
use Rattle.tree_model.specs.Step.{is_same_node}
use Rattle.tree_model.specs.Run.{State}
use Rattle.tree_model.specs.declared.command.Command.{Command}
use Rattle.tree_model.specs.declared.command.Command.TheVariants.{Create, Mkdir, Link, Unlink, Rmdir, Rename, Write, Truncate, Read, Stat as Tell, List as Show, Df}
use Rattle.naming_laws.specs.Naming.{paths_of, names_inode}
use Rattle.naming_laws.proofs.Named.{at_first, at_second, at_third, names_at}
use Rattle.image_reading.specs.Counts.{IsIn}
use Rattle.image_reading.specs.Residue.{Residue}
use Rattle.image_counts.specs.Entries.{IsFreeInode}
use Rattle.image_counts.proofs.Inodes.{free_inode_beside_law}
use Rattle.volume.specs.Volume.{VolumeView}
use Rattle.volume.specs.Beside.{StandsBeside}
use Rattle.volume.specs.Planned.{IsMovingFor, IsWritingFor, IsResizingFor, IsPlanOf, is_size_of}
use Rattle.volume.specs.declared.plan.Action.{Action}
use Rattle.volume.specs.declared.plan.Action.TheVariants.{Make, Name, Remove, Move, Write as WriteBytes, WriteNothing, Resize, KeepSize, KeepNames, Read as ReadBytes, Status, Names, Space}
use Rattle.volume.proofs.Plans.{nothing_or}
use Rattle.volume.proofs.WalkedBeside.{stands_tree}
use Rattle.waiting_laws.specs.Begins.{held_of_plan}
use Rattle.running_laws.specs.Waits.{NamesHeldLaw}

module _ (volume : VolumeView) (device : DeviceView) (state : State) (others : Residue) (stands : StandsBeside volume device state others) where
  -- the command names it, or no node has it
  abbrev MayHold : Command → ℕ → Type 0
  MayHold command i = (names_inode state.tree command i ≡ true) ⊎ (node_at state.tree i ≡ None)

  abbrev MayHoldEach : Command → Action → Type 0
  MayHoldEach command action = (i : ℕ) → IsIn i (held_of_plan volume action).inodes → MayHold command i

  tree : IsTree state.tree
  tree = stands_tree volume device state others stands

  -- what stands at a path of the command
  at_path : (command : Command) (path : Route) (i : ℕ) → Contains (paths_of command) path → id_at state.tree path ≡ Some i → MayHold command i
  at_path command path i among is = inl (names_at state.tree tree command path i among is)

  -- a free inode
  no_node : (command : Command) (i : ℕ) → IsFreeInode volume.size device.words i → MayHold command i
  no_node command i free =
      inr ((free_inode_beside_law volume.size device.words others state (record { coherent = stands.sound.coherent; beside = stands.beside; reads = stands.reads })).fresh i free)

  one : (command : Command) (x i : ℕ) → MayHold command x → IsIn i (x ∷ []) → MayHold command i
  one command x i may among = elim among [ inl same ↦ subst (MayHold command) (sym same) may | inr none ↦ absurd none ]

  two : (command : Command) (x y i : ℕ) → MayHold command x → MayHold command y → IsIn i (x ∷ y ∷ []) → MayHold command i
  two command x y i first second among = elim among [ inl same ↦ subst (MayHold command) (sym same) first | inr later ↦ one command y i second later ]

  -- the plan is this one
  planned : (command : Command) (action plan : Action) → action ≡ plan → MayHoldEach command plan → MayHoldEach command action
  planned command action plan is each = subst (MayHoldEach command) (sym is) each

  holds_none : (command : Command) (action plan : Action) → action ≡ plan → (held_of_plan volume plan).inodes ≡ [] → MayHoldEach command action
  holds_none command action plan is nothing = planned command action plan is (λ i among. absurd (subst (IsIn i) nothing among))

  plan_names : (command : Command) (action : Action) → IsPlanOf volume.size device.words state command action → MayHoldEach command action
  plan_names (Create path) action (entry, is, for) =
      planned (Create path) action (Make entry) is (λ i. two (Create path) entry.inode entry.directory i (no_node (Create path) entry.inode for.inode_is.free)
      (at_path (Create path) (parent path) entry.directory (at_second path (parent path) []) for.directory_is))
  plan_names (Mkdir path) action (entry, is, for) =
      planned (Mkdir path) action (Make entry) is (λ i. two (Mkdir path) entry.inode entry.directory i (no_node (Mkdir path) entry.inode for.inode_is.free)
      (at_path (Mkdir path) (parent path) entry.directory (at_second path (parent path) []) for.directory_is))
  plan_names (Link from to) action (link, is, for) =
      planned (Link from to) action (Name link) is (λ i. two (Link from to) link.inode link.directory i
      (at_path (Link from to) from link.inode (at_first from (to ∷ parent to ∷ [])) for.inode_is)
      (at_path (Link from to) (parent to) link.directory (at_third from to (parent to) []) for.new_name.directory_is))
  plan_names (Unlink path) action (removal, is, for) =
      planned (Unlink path) action (Remove removal) is (λ i. two (Unlink path) removal.loss.inode removal.directory i
      (at_path (Unlink path) path removal.loss.inode (at_first path (parent path ∷ [])) for.named.inode_is)
      (at_path (Unlink path) (parent path) removal.directory (at_second path (parent path) []) for.named.directory_is))
  plan_names (Rmdir path) action (removal, is, for) =
      planned (Rmdir path) action (Remove removal) is (λ i. two (Rmdir path) removal.loss.inode removal.directory i
      (at_path (Rmdir path) path removal.loss.inode (at_first path (parent path ∷ [])) for.named.inode_is)
      (at_path (Rmdir path) (parent path) removal.directory (at_second path (parent path) []) for.named.directory_is))
  plan_names (Rename from to) action plan =
      nothing_or (MayHoldEach (Rename from to) action) Move (IsMovingFor volume.size device.words state from to) KeepNames action (is_same_node state.tree from to) plan
      (λ is. holds_none (Rename from to) action KeepNames is refl) (λ moving is for. holds_none (Rename from to) action (Move moving) is refl)
  plan_names (Write path offset bytes) action plan =
      nothing_or (MayHoldEach (Write path offset bytes) action) WriteBytes (IsWritingFor volume.size device.words state path offset bytes) WriteNothing action
      (length bytes == 0) plan
      (λ is. holds_none (Write path offset bytes) action WriteNothing is refl)
      (λ writing is for. planned (Write path offset bytes) action (WriteBytes writing) is (λ i. one (Write path offset bytes) writing.inode i
      (at_path (Write path offset bytes) path writing.inode (at_first path []) for.inode_is)))
  plan_names (Truncate path size) action plan =
      nothing_or (MayHoldEach (Truncate path size) action) Resize (IsResizingFor volume.size device.words state path size) KeepSize action (is_size_of state path size) plan
      (λ is. holds_none (Truncate path size) action KeepSize is refl)
      (λ resizing is for. planned (Truncate path size) action (Resize resizing) is (λ i. one (Truncate path size) resizing.inode i
      (at_path (Truncate path size) path resizing.inode (at_first path []) for.inode_is)))
  plan_names (Read path offset count) action (reading, is, for) = holds_none (Read path offset count) action (ReadBytes reading) is refl
  plan_names (Tell path) action is = holds_none (Tell path) action (Status _) is refl
  plan_names (Show path) action is = holds_none (Show path) action (Names _) is refl
  plan_names Df action is = holds_none Df action Space is refl

pub names_held_law : NamesHeldLaw
names_held_law volume device state command action others ready changes = plan_names volume device state others ready.prepared.stands command action ready.planned.plan_is
