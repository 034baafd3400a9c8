-- What a plan's action says of its command.
use Rattle.std.proofs.Common.{◌≡◌, ◌⊎◌, inl, inr, ℕ, List, refl, sym, ap, subst, ◌∙◌}
use Rattle.pm_trait.specs.DeviceView.{DeviceView}
use Rattle.layout.specs.declared.kinds.NodeKind.{NodeKind}
use Rattle.tree_model.specs.PathText.{Route}
use Rattle.tree_model.specs.Run.{State}
use Rattle.tree_model.specs.Step.{making}
use Rattle.tree_model.specs.declared.command.Command.{Command}
use Rattle.tree_model.specs.declared.command.Command.TheVariants.{Create, Mkdir, Link, Unlink, Rmdir, Rename, Write, Truncate, Read, Stat as Tell, List as Show, Df}
use Rattle.data_ops.specs.Cutting.{IsTruncation}
use Rattle.data_ops.specs.Writing.{IsWriteOf}
use Rattle.volume.specs.Volume.{VolumeView}
use Rattle.volume.specs.Carried.{IsPlanFor}
use Rattle.volume.specs.Prepared.{IsChange}
use Rattle.volume.specs.declared.plan.Action.{Action}
use Rattle.volume.specs.declared.plan.Action.TheVariants.{Make, Name, Remove, Move, Write as WriteBytes, WriteNothing, Resize, KeepSize, KeepNames, Read as ReadBytes, Status, Names, Space}
use Rattle.volume.specs.declared.plan.NewEntry.{NewEntry}
use Rattle.volume.specs.declared.plan.NewName.{NewName}
use Rattle.volume.specs.declared.plan.Removal.{Removal}
use Rattle.volume.specs.declared.plan.Moving.{Moving}
use Rattle.volume.specs.declared.plan.Writing.{Writing}
use Rattle.volume.specs.declared.plan.Resizing.{Resizing}
use Rattle.volume.specs.Planned.{IsMovingFor, IsWritingFor, IsResizingFor, IsPlanOf, IsPlanned}
use Rattle.volume.proofs.Plans.{nothing_or, planned_making}
use Rattle.volume.proofs.PlanActions.{planned_linking}
use Rattle.engine.proofs.Removals.{removing, planned_removal}
use Rattle.engine.proofs.Told.{state_is}

abbrev pub IsRename : Command → Type 0
IsRename command = (from : Route) × (to : Route) × (command ≡ Rename from to)

abbrev pub IsWrite : Command → Type 0
IsWrite command = (path : Route) × (offset : ℕ) × (bytes : List ℕ) × (command ≡ Write path offset bytes)

-- what is known of the command where its action may be one of two
abbrev pub IsAskedBy : Command → Action → Type 0
IsAskedBy command (Make entry) = Unit {0}
IsAskedBy command (Name link) = Unit {0}
IsAskedBy command (Remove removal) = Unit {0}
IsAskedBy command (Move moving) = IsRename command
IsAskedBy command (WriteBytes writing) = IsWrite command
IsAskedBy command WriteNothing = IsWrite command
IsAskedBy command (Resize resizing) = IsTruncation command
IsAskedBy command KeepSize = IsTruncation command
IsAskedBy command KeepNames = IsRename command
IsAskedBy command (ReadBytes reading) = Unit {0}
IsAskedBy command (Status inode) = Unit {0}
IsAskedBy command (Names inode) = Unit {0}
IsAskedBy command Space = Unit {0}

pub asked : (P : ℕ) (I : List ℕ) (state : State) (command : Command) (action : Action) → IsPlanOf P I state command action → IsAskedBy command action
asked P I state (Create path) action (entry, is, made) = subst (IsAskedBy (Create path)) (sym is) tt
asked P I state (Mkdir path) action (entry, is, made) = subst (IsAskedBy (Mkdir path)) (sym is) tt
asked P I state (Link from to) action (link, is, made) = subst (IsAskedBy (Link from to)) (sym is) tt
asked P I state (Unlink path) action (removal, is, made) = subst (IsAskedBy (Unlink path)) (sym is) tt
asked P I state (Rmdir path) action (removal, is, made) = subst (IsAskedBy (Rmdir path)) (sym is) tt
asked P I state (Rename from to) action plan =
    let by = IsAskedBy (Rename from to) in
    nothing_or (by action) Move (IsMovingFor P I state from to) KeepNames action _ plan (λ is. subst by (sym is) (from, to, refl)) (λ moving is for. subst by (sym is) (from, to, refl))
asked P I state (Write path offset bytes) action plan =
    let by = IsAskedBy (Write path offset bytes) in
    nothing_or (by action) WriteBytes (IsWritingFor P I state path offset bytes) WriteNothing action _ plan (λ is. subst by (sym is) (path, offset, bytes, refl)) (λ writing is for. subst by (sym is) (path, offset, bytes, refl))
asked P I state (Truncate path size) action plan =
    let by = IsAskedBy (Truncate path size) in
    nothing_or (by action) Resize (IsResizingFor P I state path size) KeepSize action _ plan (λ is. subst by (sym is) (path, size, refl)) (λ resizing is for. subst by (sym is) (path, size, refl))
asked P I state (Read path offset count) action (reading, is, made) = subst (IsAskedBy (Read path offset count)) (sym is) tt
asked P I state (Tell path) action is = subst (IsAskedBy (Tell path)) (sym is) tt
asked P I state (Show path) action is = subst (IsAskedBy (Show path)) (sym is) tt
asked P I state Df action is = subst (IsAskedBy Df) (sym is) tt

-- ---- a plan was made for the command, and its action is one of two

module _ {volume : VolumeView} {device : DeviceView} {state : State} {command : Command} {plan action : Action} (planned : IsPlanFor volume device state command plan) (is : plan ≡ action) where
  asked_as : {other : Action} → action ≡ other → IsAskedBy command other
  asked_as same = subst (IsAskedBy command) (is ∙ same) (asked volume.size device.words state command plan planned.planned.plan_is)

  renames : ((moving : Moving) × (action ≡ Move moving)) ⊎ (action ≡ KeepNames) → IsRename command
  renames (inl (moving, same)) = asked_as same
  renames (inr same) = asked_as same

  written : ((writing : Writing) × (action ≡ WriteBytes writing)) ⊎ (action ≡ WriteNothing) → IsWrite command
  written (inl (writing, same)) = asked_as same
  written (inr same) = asked_as same

  -- with the bytes that were taken from it
  pub writes : {bytes : List ℕ} → ((writing : Writing) × (action ≡ WriteBytes writing)) ⊎ (action ≡ WriteNothing) → ((path : Route) (offset : ℕ) (other : List ℕ) → command ≡ Write path offset other → bytes ≡ other) → IsWriteOf bytes command
  writes one taken =
      let (path, offset, other, write) = written one in
      (path, offset, write ∙ ap (Write path offset) (sym (taken path offset other write)))

  pub truncates : ((resizing : Resizing) × (action ≡ Resize resizing)) ⊎ (action ≡ KeepSize) → IsTruncation command
  truncates (inl (resizing, same)) = asked_as same
  truncates (inr same) = asked_as same

-- either changes something
pub either_changes : {X : Type 0} {action other : Action} (f : X → Action) → ((x : X) × (action ≡ f x)) ⊎ (action ≡ other) → ((x : X) → IsChange (f x)) → IsChange other → IsChange action
either_changes f (inl (x, is)) one two = subst IsChange (sym is) (one x)
either_changes f (inr is) one two = subst IsChange (sym is) two

-- ---- so it is a plan for the command of this form

module _ {volume : VolumeView} {device : DeviceView} {command : Command} {plan action : Action} (planned : (state : State) × IsPlanFor volume device state command plan) (is : plan ≡ action) where
  plan_as : {other : Action} → action ≡ other → IsPlanned volume.size device.words planned.0 command other
  plan_as same = subst (IsPlanned volume.size device.words planned.0 command) (is ∙ same) planned.1.planned

  for : {other : Command} → command ≡ other → IsPlanFor volume device planned.0 other plan
  for same = subst (λ (c : Command). IsPlanFor volume device planned.0 c plan) same planned.1

  pub for_making : {entry : NewEntry} {kind : NodeKind} → action ≡ Make entry → entry.kind ≡ kind → (state : State) × (path : Route) × IsPlanFor volume device state (making kind path) plan
  for_making {entry} same kind_is =
      let (path, makes) = planned_making volume.size device.words planned.0 command entry (plan_as same).plan_is in
      (planned.0, path, for (makes ∙ ap (λ (k : NodeKind). making k path) kind_is))

  pub for_linking : {link : NewName} → action ≡ Name link → (state : State) × (from : Route) × (to : Route) × IsPlanFor volume device state (Link from to) plan
  for_linking {link} same =
      let (from, to, links, new) = planned_linking volume.size device.words planned.0 command link (plan_as same).plan_is in
      (planned.0, from, to, for links)

  pub for_removing : {removal : Removal} {kind : NodeKind} → action ≡ Remove removal → removal.loss.kind ≡ kind → (state : State) × (path : Route) × IsPlanFor volume device state (removing kind path) plan
  for_removing {removal} same kind_is =
      let (path, removes) = planned_removal volume.size device.words planned.0 (state_is volume device planned.1.stands).tree command removal (plan_as same) in
      (planned.0, path, for (removes ∙ ap (λ (k : NodeKind). removing k path) kind_is))

  pub for_renaming : ((moving : Moving) × (action ≡ Move moving)) ⊎ (action ≡ KeepNames) → (state : State) × (from : Route) × (to : Route) × IsPlanFor volume device state (Rename from to) plan
  for_renaming one = let (from, to, same) = renames planned.1 is one in (planned.0, from, to, for same)

  pub for_writing : {bytes : List ℕ} → ((writing : Writing) × (action ≡ WriteBytes writing)) ⊎ (action ≡ WriteNothing) → ((path : Route) (offset : ℕ) (other : List ℕ) → command ≡ Write path offset other → bytes ≡ other)
      → (state : State) × (path : Route) × (offset : ℕ) × IsPlanFor volume device state (Write path offset bytes) plan
  for_writing one taken = let (path, offset, same) = writes planned.1 is one taken in (planned.0, path, offset, for same)

  pub for_truncating : ((resizing : Resizing) × (action ≡ Resize resizing)) ⊎ (action ≡ KeepSize) → (state : State) × (path : Route) × (size : ℕ) × IsPlanFor volume device state (Truncate path size) plan
  for_truncating one = let (path, size, same) = truncates planned.1 is one in (planned.0, path, size, for same)
