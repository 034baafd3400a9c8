-- What the plan of a ready command does, whatever the command, and the call that it begins.
use Rattle.std.proofs.Common.{◌≡◌, ℕ, ◌==◌, Bool, true, false, List, [], length, Some, None, refl, sym, ap, subst, ◌∙◌, eqb-true}
use Rattle.std.proofs.lemmas.List.{nil_from_length}
use Rattle.pm_trait.specs.DeviceView.{DeviceView}
use Rattle.layout.specs.declared.kinds.NodeKind.{NodeKind}
use Rattle.layout.specs.declared.kinds.NodeKind.TheVariants.{File, Directory}
use Rattle.tree_model.specs.PathText.{Route}
use Rattle.tree_model.specs.Tree.{id_at, is_directory, is_directory_node, IsTree}
use Rattle.tree_model.specs.Capacity.{Supply}
use Rattle.tree_model.specs.Step.{making as made_by, refusal_with, is_same_node}
use Rattle.tree_model.specs.Run.{State, is_changing}
use Rattle.tree_model.specs.declared.command.Command.{Command}
use Rattle.tree_model.specs.declared.command.Command.TheVariants.{Create, Mkdir, Link, Unlink, Rmdir, Rename, Write, Truncate, Read, Stat as Tell, List as Show, Df}
use Rattle.tree_model.proofs.AcceptedLaws.{Accepted-from_row}
use Rattle.tree_model.proofs.TreeKept.{same_some}
use Rattle.image_reading.specs.Residue.{Residue}
use Rattle.image_counts.specs.Laws.{supply_beside}
use Rattle.volume.specs.Volume.{VolumeView}
use Rattle.volume.specs.Moves.{is_directory_kind}
use Rattle.volume.specs.Planned.{IsNothingOr, IsPlanOf, IsRemovalFor, is_size_of}
use Rattle.volume.specs.declared.plan.Action.{Action}
use Rattle.volume.specs.declared.plan.Action.TheVariants.{Make, Name, Remove, Move, Write as WriteBytes, WriteNothing, Resize, KeepSize, KeepNames}
use Rattle.volume.specs.declared.plan.Moving.{Moving}
use Rattle.volume.specs.declared.plan.NewEntry.{NewEntry}
use Rattle.volume.specs.declared.plan.NewName.{NewName}
use Rattle.volume.specs.declared.plan.Removal.{Removal}
use Rattle.volume.specs.declared.plan.Resizing.{Resizing}
use Rattle.volume.specs.declared.plan.Writing.{Writing}
use Rattle.volume.proofs.WalkedBeside.{stands_tree}
use Rattle.running_calls.specs.Stages.{begun}
use Rattle.waiting_laws.specs.Beside.{IsReady}
use Rattle.waiting_laws.specs.Removing.{of_kind}

-- the plans of commands: of those that change, and of those that begin no call
pub data IsCallOf : Command → Action → Type 0 where
  makes : (path : Route) (entry : NewEntry) → IsCallOf (made_by entry.kind path) (Make entry)
  links : (from to : Route) (link : NewName) → IsCallOf (Link from to) (Name link)
  removes : (path : Route) (removal : Removal) → IsCallOf (of_kind removal.loss.kind path) (Remove removal)
  moves : (from to : Route) (moving : Moving) → IsCallOf (Rename from to) (Move moving)
  keeps_names : (from to : Route) → IsCallOf (Rename from to) KeepNames
  writes : (path : Route) (writing : Writing) (bytes : List ℕ) → IsCallOf (Write path writing.offset bytes) (WriteBytes writing)
  writes_nothing : (path : Route) (offset : ℕ) → IsCallOf (Write path offset []) WriteNothing
  resizes : (path : Route) (resizing : Resizing) → IsCallOf (Truncate path resizing.new_size) (Resize resizing)
  keeps_size : (path : Route) (size : ℕ) → IsCallOf (Truncate path size) KeepSize
  reads : (command : Command) (action : Action) → is_changing command ≡ false → begun action ≡ None → IsCallOf command action

-- the same by an equal command and action
same_call : (command other : Command) (action taken : Action) → other ≡ command → action ≡ taken → IsCallOf other taken → IsCallOf command action
same_call command other action taken named is call = subst (λ (c : Command). IsCallOf c action) named (subst (λ (a : Action). IsCallOf other a) (sym is) call)

made : (path : Route) (kind : NodeKind) (entry : NewEntry) (action : Action) → action ≡ Make entry → entry.kind ≡ kind → IsCallOf (made_by kind path) action
made path kind entry action is kind_is =
    same_call (made_by kind path) (made_by entry.kind path) action (Make entry) (ap (λ (k : NodeKind). made_by k path) kind_is) is (IsCallOf.makes path entry)

removed : (path : Route) (kind : NodeKind) (removal : Removal) (action : Action) → action ≡ Remove removal → removal.loss.kind ≡ kind → IsCallOf (of_kind kind path) action
removed path kind removal action is kind_is =
    same_call (of_kind kind path) (of_kind removal.loss.kind path) action (Remove removal) (ap (λ (k : NodeKind). of_kind k path) kind_is) is (IsCallOf.removes path removal)

file_kind : (kind : NodeKind) → is_directory_kind kind ≡ false → kind ≡ File
file_kind File is = refl
file_kind Directory is = absurd (cc is)

directory_kind : (kind : NodeKind) → is_directory_kind kind ≡ true → kind ≡ Directory
directory_kind File is = absurd (cc is)
directory_kind Directory is = refl

reads_by : (command : Command) (action taken : Action) → action ≡ taken → is_changing command ≡ false → begun taken ≡ None → IsCallOf command action
reads_by command action taken is stays none = IsCallOf.reads command action stays (ap begun is ∙ none)

module _ (supply : Supply) (P : ℕ) (I : List ℕ) (state : State) (tree : IsTree state.tree) where
  -- the kind of a node that is taken away is that of the one which the path names
  kind_at : (command : Command) (path : Route) (removal : Removal) (id : ℕ) → IsRemovalFor P I state command path removal → id_at state.tree path ≡ Some id
      → is_directory_kind removal.loss.kind ≡ is_directory state.tree id
  kind_at command path removal id for named = sym for.loss.kind_is ∙ ap (is_directory state.tree) (same_some removal.loss.inode id (sym for.named.inode_is ∙ named))

  -- ---- where nothing may be to be done

  renamed : (from to : Route) (action : Action) (same : Bool) (For : Moving → Type 0)
      → IsNothingOr same KeepNames (λ action. (moving : Moving) × (action ≡ Move moving) × For moving) action → IsCallOf (Rename from to) action
  renamed from to action true For is = same_call (Rename from to) (Rename from to) action KeepNames refl is (IsCallOf.keeps_names from to)
  renamed from to action false For (moving, is, for) = same_call (Rename from to) (Rename from to) action (Move moving) refl is (IsCallOf.moves from to moving)

  written : (path : Route) (offset : ℕ) (bytes : List ℕ) (action : Action) (none : Bool) (For : Writing → Type 0) → (length bytes == 0) ≡ none
      → ((writing : Writing) → For writing → writing.offset ≡ offset)
      → IsNothingOr none WriteNothing (λ action. (writing : Writing) × (action ≡ WriteBytes writing) × For writing) action → IsCallOf (Write path offset bytes) action
  written path offset bytes action true For test at is =
      let empty : bytes ≡ [] = nil_from_length bytes (eqb-true (length bytes) 0 test) in
      same_call (Write path offset bytes) (Write path offset []) action WriteNothing (ap (Write path offset) (sym empty)) is (IsCallOf.writes_nothing path offset)
  written path offset bytes action false For test at (writing, is, for) =
      same_call (Write path offset bytes) (Write path writing.offset bytes) action (WriteBytes writing)
      (ap (λ (o : ℕ). Write path o bytes) (at writing for)) is (IsCallOf.writes path writing bytes)

  resized_by : (path : Route) (size : ℕ) (action : Action) (same : Bool) (For : Resizing → Type 0) → ((resizing : Resizing) → For resizing → resizing.new_size ≡ size)
      → IsNothingOr same KeepSize (λ action. (resizing : Resizing) × (action ≡ Resize resizing) × For resizing) action → IsCallOf (Truncate path size) action
  resized_by path size action true For to is = same_call (Truncate path size) (Truncate path size) action KeepSize refl is (IsCallOf.keeps_size path size)
  resized_by path size action false For to (resizing, is, for) =
      same_call (Truncate path size) (Truncate path resizing.new_size) action (Resize resizing) (ap (Truncate path) (to resizing for)) is (IsCallOf.resizes path resizing)

  -- ---- by command

  call_of : (command : Command) (action : Action) → refusal_with supply state.tree state.room command ≡ None → IsPlanOf P I state command action → IsCallOf command action
  call_of (Create path) action accepted (entry, is, for) = made path File entry action is for.kind_is
  call_of (Mkdir path) action accepted (entry, is, for) = made path Directory entry action is for.kind_is
  call_of (Link from to) action accepted (link, is, for) = same_call (Link from to) (Link from to) action (Name link) refl is (IsCallOf.links from to link)
  call_of (Unlink path) action accepted (removal, is, for) =
      let source = (Accepted-from_row supply state.tree state.room (Unlink path) tree accepted).source in
      removed path File removal action is
      (file_kind removal.loss.kind (kind_at (Unlink path) path removal source.id for source.named ∙ ap is_directory_node source.file))
  call_of (Rmdir path) action accepted (removal, is, for) =
      let source = (Accepted-from_row supply state.tree state.room (Rmdir path) tree accepted).source in
      removed path Directory removal action is
      (directory_kind removal.loss.kind (kind_at (Rmdir path) path removal source.id for source.named ∙ source.directory))
  call_of (Rename from to) action accepted plan = renamed from to action (is_same_node state.tree from to) _ plan
  call_of (Write path offset bytes) action accepted plan = written path offset bytes action (length bytes == 0) _ refl (λ writing for. for.offset_is) plan
  call_of (Truncate path size) action accepted plan = resized_by path size action (is_size_of state path size) _ (λ resizing for. for.new_is) plan
  call_of (Read path offset count) action accepted (reading, is, for) = reads_by (Read path offset count) action _ is refl refl
  call_of (Tell path) action accepted is = reads_by (Tell path) action _ is refl refl
  call_of (Show path) action accepted is = reads_by (Show path) action _ is refl refl
  call_of Df action accepted is = reads_by Df action _ is refl refl

pub planned_call : (volume : VolumeView) (device : DeviceView) (state : State) (command : Command) (action : Action) (others : Residue)
    → IsReady volume device state command action others → IsCallOf command action
planned_call volume device state command action others ready =
    call_of (supply_beside volume.size others) volume.size device.words state (stands_tree volume device state others ready.prepared.stands) command action
    ready.planned.accepted ready.planned.plan_is
