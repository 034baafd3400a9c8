-- Which command a plan is of, by its action, and what is known of it then.
use Rattle.std.proofs.Common.{◌≡◌, ◌⊎◌, inl, inr, ℕ, ◌≤◌, Bool, true, false, List, Option, None, Some, is_some, refl, sym, ap, subst, ◌∙◌, arith}
use Rattle.std.specs.Prelude.{not}
use Rattle.pm_trait.specs.DeviceView.{DeviceView}
use Rattle.layout.specs.declared.kinds.NodeKind.{NodeKind}
use Rattle.layout.specs.declared.kinds.NodeKind.TheVariants.{File, Directory}
use Rattle.layout.specs.Geometry.{most_data_pages}
use Rattle.tree_model.specs.PathText.{Route}
use Rattle.tree_model.specs.Tree.{parent, id_at}
use Rattle.tree_model.specs.Capacity.{Supply}
use Rattle.tree_model.specs.Run.{State}
use Rattle.tree_model.specs.Places.{needs_places}
use Rattle.tree_model.specs.Step.{making}
use Rattle.tree_model.specs.declared.command.Command.{Command}
use Rattle.tree_model.specs.declared.command.Command.TheVariants.{Create, Mkdir, Link, Unlink, Rmdir, Rename, Write, Truncate, Read, Stat as Tell, List as Show, Df}
use Rattle.tree_model.specs.declared.reply.Refusal.TheVariants.{NoMemory}
use Rattle.volatile_index.specs.Index.{inodes_of_index}
use Rattle.volume.specs.Volume.{VolumeView}
use Rattle.image_reading.specs.Residue.{Residue}
use Rattle.image_counts.specs.Laws.{supply_beside}
use Rattle.volume.specs.Beside.{StandsBeside}
use Rattle.volume.specs.declared.plan.Action.TheVariants.{Make, Name, Remove, Move, Write as WriteBytes, WriteNothing, Resize, KeepSize, KeepNames, Read as ReadBytes, Status, Names, Space}
use Rattle.volume.specs.Planned.{IsLinkFor, IsRemovalFor, IsTargetOf, IsMovingFor, IsWritingFor, IsResizingFor, IsPlanOf, IsPlannedWith}
use Rattle.volume.specs.Costs.{pages_of_loss}
use Rattle.volume.specs.Prepared.{TakesPlace, IsNamedIn, IsBounded, IsShort, LacksRoom}
use Rattle.volume.specs.declared.plan.NewEntry.{NewEntry}
use Rattle.volume.specs.declared.plan.NewName.{NewName}
use Rattle.volume.specs.declared.plan.Loss.{Loss}
use Rattle.volume.specs.declared.plan.Removal.{Removal}
use Rattle.volume.specs.declared.plan.Moving.{Moving}
use Rattle.volume.specs.declared.plan.Action.{Action}
use Rattle.volume.proofs.Plans.{change_is, same_entry, nothing_or, planned_making}
use Rattle.volume.proofs.WalkedBeside.{reached_at, in_table}
use Rattle.volume.proofs.PageLists.{few_lost}
use Rattle.volume.proofs.ContentPlans.{planned_writing, planned_resizing, writing_needs, resizing_needs, bounded_writing, bounded_resizing}

-- ---- the command of an action

same_link : (link other : NewName) → Name link ≡ Name other → link ≡ other
same_link link other is = cc

same_removal : (removal other : Removal) → Remove removal ≡ Remove other → removal ≡ other
same_removal removal other is = cc

same_moving : (moving other : Moving) → Move moving ≡ Move other → moving ≡ other
same_moving moving other is = cc

abbrev adds_name : Action → Bool
adds_name (Name link) = true
adds_name _ = false

abbrev removes_name : Action → Bool
removes_name (Remove removal) = true
removes_name _ = false

abbrev moves_name : Action → Bool
moves_name (Move moving) = true
moves_name _ = false

-- two actions are told apart by a test
apart : {X : Type 0} (test : Action → Bool) (action other : Action) → action ≡ other → test action ≡ true → test other ≡ false → X
apart test action other is one none = let both : true ≡ false = sym one ∙ ap test is ∙ none in absurd (cc)

-- a link adds a name
abbrev pub IsOfLink : ℕ → List ℕ → State → Command → NewName → Type 0
IsOfLink P I state command link = (from : Route) × (to : Route) × (command ≡ Link from to) × IsLinkFor P I state from to link

pub planned_linking : (P : ℕ) (I : List ℕ) (state : State) (command : Command) (link : NewName) → IsPlanOf P I state command (Name link) → IsOfLink P I state command link
planned_linking P I state (Create path) link (entry, is, made) = apart adds_name (Name link) (Make entry) is refl refl
planned_linking P I state (Mkdir path) link (entry, is, made) = apart adds_name (Name link) (Make entry) is refl refl
planned_linking P I state (Link from to) link (other, is, for) = (from, to, refl, subst (IsLinkFor P I state from to) (sym (same_link link other is)) for)
planned_linking P I state (Unlink path) link (removal, is, for) = apart adds_name (Name link) (Remove removal) is refl refl
planned_linking P I state (Rmdir path) link (removal, is, for) = apart adds_name (Name link) (Remove removal) is refl refl
planned_linking P I state (Rename from to) link plan =
    nothing_or (IsOfLink P I state (Rename from to) link) Move (IsMovingFor P I state from to) KeepNames (Name link) _ plan
    (λ is. apart adds_name (Name link) KeepNames is refl refl) (λ moving is for. apart adds_name (Name link) (Move moving) is refl refl)
planned_linking P I state (Write path offset bytes) link plan =
    nothing_or (IsOfLink P I state (Write path offset bytes) link) WriteBytes (IsWritingFor P I state path offset bytes) WriteNothing (Name link) _ plan
    (λ is. apart adds_name (Name link) WriteNothing is refl refl) (λ writing is for. apart adds_name (Name link) (WriteBytes writing) is refl refl)
planned_linking P I state (Truncate path size) link plan =
    nothing_or (IsOfLink P I state (Truncate path size) link) Resize (IsResizingFor P I state path size) KeepSize (Name link) _ plan
    (λ is. apart adds_name (Name link) KeepSize is refl refl) (λ resizing is for. apart adds_name (Name link) (Resize resizing) is refl refl)
planned_linking P I state (Read path offset count) link (reading, is, for) = apart adds_name (Name link) (ReadBytes reading) is refl refl
planned_linking P I state (Tell path) link is = apart adds_name (Name link) (Status _) is refl refl
planned_linking P I state (Show path) link is = apart adds_name (Name link) (Names _) is refl refl
planned_linking P I state Df link is = apart adds_name (Name link) Space is refl refl

-- an unlink or a rmdir removes one
abbrev pub IsOfRemoval : ℕ → List ℕ → State → Command → Removal → Type 0
IsOfRemoval P I state command removal = (path : Route) × ((command ≡ Unlink path) ⊎ (command ≡ Rmdir path)) × IsRemovalFor P I state command path removal

pub planned_removing : (P : ℕ) (I : List ℕ) (state : State) (command : Command) (removal : Removal) → IsPlanOf P I state command (Remove removal) → IsOfRemoval P I state command removal
planned_removing P I state (Create path) removal (entry, is, made) = apart removes_name (Remove removal) (Make entry) is refl refl
planned_removing P I state (Mkdir path) removal (entry, is, made) = apart removes_name (Remove removal) (Make entry) is refl refl
planned_removing P I state (Link from to) removal (link, is, for) = apart removes_name (Remove removal) (Name link) is refl refl
planned_removing P I state (Unlink path) removal (other, is, for) = (path, inl refl, subst (IsRemovalFor P I state (Unlink path) path) (sym (same_removal removal other is)) for)
planned_removing P I state (Rmdir path) removal (other, is, for) = (path, inr refl, subst (IsRemovalFor P I state (Rmdir path) path) (sym (same_removal removal other is)) for)
planned_removing P I state (Rename from to) removal plan =
    nothing_or (IsOfRemoval P I state (Rename from to) removal) Move (IsMovingFor P I state from to) KeepNames (Remove removal) _ plan
    (λ is. apart removes_name (Remove removal) KeepNames is refl refl) (λ moving is for. apart removes_name (Remove removal) (Move moving) is refl refl)
planned_removing P I state (Write path offset bytes) removal plan =
    nothing_or (IsOfRemoval P I state (Write path offset bytes) removal) WriteBytes (IsWritingFor P I state path offset bytes) WriteNothing (Remove removal) _ plan
    (λ is. apart removes_name (Remove removal) WriteNothing is refl refl) (λ writing is for. apart removes_name (Remove removal) (WriteBytes writing) is refl refl)
planned_removing P I state (Truncate path size) removal plan =
    nothing_or (IsOfRemoval P I state (Truncate path size) removal) Resize (IsResizingFor P I state path size) KeepSize (Remove removal) _ plan
    (λ is. apart removes_name (Remove removal) KeepSize is refl refl) (λ resizing is for. apart removes_name (Remove removal) (Resize resizing) is refl refl)
planned_removing P I state (Read path offset count) removal (reading, is, for) = apart removes_name (Remove removal) (ReadBytes reading) is refl refl
planned_removing P I state (Tell path) removal is = apart removes_name (Remove removal) (Status _) is refl refl
planned_removing P I state (Show path) removal is = apart removes_name (Remove removal) (Names _) is refl refl
planned_removing P I state Df removal is = apart removes_name (Remove removal) Space is refl refl

-- a rename moves one
abbrev pub IsOfMove : ℕ → List ℕ → State → Command → Moving → Type 0
IsOfMove P I state command moving = (from : Route) × (to : Route) × (command ≡ Rename from to) × IsMovingFor P I state from to moving

pub planned_moving : (P : ℕ) (I : List ℕ) (state : State) (command : Command) (moving : Moving) → IsPlanOf P I state command (Move moving) → IsOfMove P I state command moving
planned_moving P I state (Create path) moving (entry, is, made) = apart moves_name (Move moving) (Make entry) is refl refl
planned_moving P I state (Mkdir path) moving (entry, is, made) = apart moves_name (Move moving) (Make entry) is refl refl
planned_moving P I state (Link from to) moving (link, is, for) = apart moves_name (Move moving) (Name link) is refl refl
planned_moving P I state (Unlink path) moving (removal, is, for) = apart moves_name (Move moving) (Remove removal) is refl refl
planned_moving P I state (Rmdir path) moving (removal, is, for) = apart moves_name (Move moving) (Remove removal) is refl refl
planned_moving P I state (Rename from to) moving plan =
    nothing_or (IsOfMove P I state (Rename from to) moving) Move (IsMovingFor P I state from to) KeepNames (Move moving) _ plan
    (λ is. apart moves_name (Move moving) KeepNames is refl refl) (λ other is for. (from, to, refl, subst (IsMovingFor P I state from to) (sym (same_moving moving other is)) for))
planned_moving P I state (Write path offset bytes) moving plan =
    nothing_or (IsOfMove P I state (Write path offset bytes) moving) WriteBytes (IsWritingFor P I state path offset bytes) WriteNothing (Move moving) _ plan
    (λ is. apart moves_name (Move moving) WriteNothing is refl refl) (λ writing is for. apart moves_name (Move moving) (WriteBytes writing) is refl refl)
planned_moving P I state (Truncate path size) moving plan =
    nothing_or (IsOfMove P I state (Truncate path size) moving) Resize (IsResizingFor P I state path size) KeepSize (Move moving) _ plan
    (λ is. apart moves_name (Move moving) KeepSize is refl refl) (λ resizing is for. apart moves_name (Move moving) (Resize resizing) is refl refl)
planned_moving P I state (Read path offset count) moving (reading, is, for) = apart moves_name (Move moving) (ReadBytes reading) is refl refl
planned_moving P I state (Tell path) moving is = apart moves_name (Move moving) (Status _) is refl refl
planned_moving P I state (Show path) moving is = apart moves_name (Move moving) (Names _) is refl refl
planned_moving P I state Df moving is = apart moves_name (Move moving) Space is refl refl

-- ---- which take places

making_needs : (state : State) (kind : NodeKind) (path : Route) → needs_places state (making kind path) ≡ true
making_needs state File path = refl
making_needs state Directory path = refl

pub places_needed : (P : ℕ) (I : List ℕ) (state : State) (command : Command) (action : Action) → IsPlanOf P I state command action → TakesPlace action → needs_places state command ≡ true
places_needed P I state command (Make entry) plan takes = let (path, is) = planned_making P I state command entry plan in ap (needs_places state) is ∙ making_needs state entry.kind path
places_needed P I state command (Name link) plan takes = let (from, to, is, for) = planned_linking P I state command link plan in ap (needs_places state) is
places_needed P I state command (Remove removal) plan takes = absurd takes
places_needed P I state command (Move moving) plan takes =
    let (from, to, is, for) = planned_moving P I state command moving plan in
    let target : IsTargetOf P I state from to moving None = subst (IsTargetOf P I state from to moving) takes for.target in
    ap (needs_places state) is ∙ ap (λ there. not (is_some there)) target.0
places_needed P I state command (WriteBytes writing) plan takes = writing_needs P I state command writing plan takes
places_needed P I state command WriteNothing plan takes = absurd takes
places_needed P I state command (Resize resizing) plan takes = resizing_needs P I state command resizing plan takes
places_needed P I state command KeepSize plan takes = absurd takes
places_needed P I state command KeepNames plan takes = absurd takes
places_needed P I state command (ReadBytes reading) plan takes = absurd takes
places_needed P I state command (Status inode) plan takes = absurd takes
places_needed P I state command (Names inode) plan takes = absurd takes
places_needed P I state command Space plan takes = absurd takes

-- ---- where memory is short

pub lacks_room : (supply : Supply) (I : List ℕ) (state : State) (command : Command) (action : Action) (before after : DeviceView) → IsPlannedWith supply I state command action → IsShort action before after
    → LacksRoom supply state command NoMemory before after
lacks_room supply I state command action before after planned short = record {
  answered = refl;
  change = change_is supply.pages I state command action planned.plan_is ∙ short.change;
  accepted = planned.accepted;
  cause = elim short.cause [ inl takes ↦ inl (places_needed supply.pages I state command action planned.plan_is takes) | inr risen ↦ inr risen ];
}

-- ---- its directory, and its pages

-- the directory of an entry that is made has a path
named_by : (P : ℕ) (I : List ℕ) (state : State) (entry : NewEntry) (kind : NodeKind) (path : Route) → IsPlanOf P I state (making kind path) (Make entry) → id_at state.tree (parent path) ≡ Some entry.directory
named_by P I state entry File path (other, is, made) = made.directory_is ∙ ap (λ (e : NewEntry). Some e.directory) (sym (same_entry entry other is))
named_by P I state entry Directory path (other, is, made) = made.directory_is ∙ ap (λ (e : NewEntry). Some e.directory) (sym (same_entry entry other is))

directory_named : (P : ℕ) (I : List ℕ) (state : State) (entry : NewEntry) (command : Command) → IsPlanOf P I state command (Make entry) → (path : Route) × (id_at state.tree path ≡ Some entry.directory)
directory_named P I state entry command plan =
    let (path, is) = planned_making P I state command entry plan in
    (parent path, named_by P I state entry entry.kind path (subst (λ (c : Command). IsPlanOf P I state c (Make entry)) is plan))

-- the directory of the name that a move goes to has a path
target_directory : (P : ℕ) (I : List ℕ) (state : State) (from to : Route) (moving : Moving) (replaced : Option Loss) → IsTargetOf P I state from to moving replaced → id_at state.tree (parent to) ≡ Some moving.to_directory
target_directory P I state from to moving None (absent, new) = new.directory_is
target_directory P I state from to moving (Some loss) (named, is_loss, no_page) = named.directory_is

few_replaced : (volume : VolumeView) (device : DeviceView) (state : State) (residue : Residue) → StandsBeside volume device state residue → (from to : Route) (moving : Moving) (replaced : Option Loss) → IsTargetOf volume.size device.words state from to moving replaced
    → pages_of_loss replaced ≤ most_data_pages
few_replaced volume device state residue stands from to moving None target = omega arith
few_replaced volume device state residue stands from to moving (Some loss) (named, is_loss, no_page) = few_lost volume device state residue (Rename from to) loss stands is_loss

module _ (volume : VolumeView) (device : DeviceView) (state : State) (residue : Residue) (stands : StandsBeside volume device state residue) (command : Command) where
  within_index : (path : Route) (d : ℕ) → id_at state.tree path ≡ Some d → (1 ≤ d) × (d ≤ inodes_of_index volume.index)
  within_index path d named =
      let within = in_table volume device d (state, residue, stands) (reached_at volume device state residue path d stands named) in
      (within.0, omega (arith, within.1, stands.knows.nodes.each_inode))

  pub directory_within : (action : Action) → IsPlannedWith (supply_beside volume.size residue) device.words state command action → IsNamedIn (inodes_of_index volume.index) action
  directory_within (Make entry) planned =
      let (path, named) = directory_named volume.size device.words state entry command planned.plan_is in
      within_index path entry.directory named
  directory_within (Name link) planned =
      let (from, to, is, for) = planned_linking volume.size device.words state command link planned.plan_is in
      within_index (parent to) link.directory for.new_name.directory_is
  directory_within (Remove removal) planned =
      let (path, is, for) = planned_removing volume.size device.words state command removal planned.plan_is in
      within_index (parent path) removal.directory for.named.directory_is
  directory_within (Move moving) planned =
      let (from, to, is, for) = planned_moving volume.size device.words state command moving planned.plan_is in
      within_index (parent to) moving.to_directory (target_directory volume.size device.words state from to moving moving.replaced for.target)
  directory_within WriteNothing planned = tt
  directory_within (WriteBytes writing) planned =
      let (path, offset, bytes, is, for) = planned_writing volume.size device.words state command writing planned.plan_is in
      within_index path writing.inode for.inode_is
  directory_within (Resize resizing) planned =
      let (path, size, is, for) = planned_resizing volume.size device.words state command resizing planned.plan_is in
      within_index path resizing.inode for.inode_is
  directory_within KeepSize planned = tt
  directory_within KeepNames planned = tt
  directory_within (ReadBytes reading) planned = tt
  directory_within (Status inode) planned = tt
  directory_within (Names inode) planned = tt
  directory_within Space planned = tt

  pub pages_few : (action : Action) → IsPlannedWith (supply_beside volume.size residue) device.words state command action → IsBounded action
  pages_few (Make entry) planned = tt
  pages_few (Name link) planned = tt
  pages_few (Remove removal) planned =
      let (path, is, for) = planned_removing volume.size device.words state command removal planned.plan_is in
      few_lost volume device state residue command removal.loss stands for.loss
  pages_few (Move moving) planned =
      let (from, to, is, for) = planned_moving volume.size device.words state command moving planned.plan_is in
      few_replaced volume device state residue stands from to moving moving.replaced for.target
  pages_few WriteNothing planned = tt
  pages_few (WriteBytes writing) planned = bounded_writing volume device state residue stands command writing planned
  pages_few (Resize resizing) planned = bounded_resizing volume device state residue stands command resizing planned
  pages_few KeepSize planned = tt
  pages_few KeepNames planned = tt
  pages_few (ReadBytes reading) planned = tt
  pages_few (Status inode) planned = tt
  pages_few (Names inode) planned = tt
  pages_few Space planned = tt
