-- The plan of an accepted command begins its call, whichever it is.
use Rattle.std.proofs.Common.{◌≡◌, ◌⊎◌, inl, inr, ℕ, List, refl, sym, subst, ◌∙◌}
use Rattle.pm_trait.specs.DeviceView.{DeviceView}
use Rattle.layout.specs.declared.kinds.NodeKind.{NodeKind}
use Rattle.layout.specs.declared.kinds.NodeKind.TheVariants.{File, Directory}
use Rattle.tree_model.specs.PathText.{Route}
use Rattle.tree_model.specs.Run.{State}
use Rattle.tree_model.specs.declared.command.Command.{Command}
use Rattle.tree_model.specs.declared.command.Command.TheVariants.{Write as Writes}
use Rattle.image_laws.specs.DropStep as steps
use Rattle.volume.specs.Volume.{VolumeView}
use Rattle.volume.specs.Carried.{IsPlanFor, MayCarry}
use Rattle.volume.specs.Stages.{keeping}
use Rattle.volume.specs.declared.next.Next.TheVariants.{More}
use Rattle.volume.specs.declared.plan.Action.{Action}
use Rattle.volume.specs.declared.plan.Action.TheVariants as action
use Rattle.volume.specs.declared.plan.Moving.{Moving}
use Rattle.volume.specs.declared.plan.NewEntry.{NewEntry}
use Rattle.volume.specs.declared.plan.NewName.{NewName}
use Rattle.volume.specs.declared.plan.Removal.{Removal}
use Rattle.volume.specs.declared.plan.Resizing.{Resizing}
use Rattle.volume.specs.declared.plan.Writing.{Writing}
use Rattle.create_ops.specs.Stages as making
use Rattle.create_ops.proofs.Called.{plan_of_entry}
use Rattle.create_ops.proofs.Made as made
use Rattle.unlink_ops.specs.LinkStages as naming
use Rattle.unlink_ops.specs.RemovalStages as removing
use Rattle.unlink_ops.proofs.Leaves as links
use Rattle.unlink_ops.proofs.Carrying as removals
use Rattle.rename_ptr.specs.Stages as moving
use Rattle.rename_ptr.specs.declared.rename.Stage.{Stage as MoveStage}
use Rattle.rename_ptr.proofs.Called as renames
use Rattle.data_ops.specs.WriteStages as writing
use Rattle.data_ops.specs.declared.write.Stage.{Stage as WriteStage}
use Rattle.data_ops.proofs.Writing as writes
use Rattle.data_ops.specs.ResizeStages as resizing
use Rattle.data_ops.specs.declared.truncate.Stage.{Stage as ResizeStage}
use Rattle.data_ops.proofs.Truncating as truncations
use Rattle.engine.proofs.Asked.{for_linking, for_removing, for_renaming, for_writing, for_truncating}
use Rattle.engine.proofs.Removals as asked
use Rattle.worked_costs.specs.declared.course.Course.TheVariants.{Make, Name, Remove, Move, Write, Resize}
use Rattle.worked_costs.specs.Courses.{MayGoOn}

module _ {volume : VolumeView} {device : DeviceView} {command : Command} {plan : Action} (planned : (state : State) × IsPlanFor volume device state command plan) (ready : MayCarry volume device plan) where
  -- ---- each call may begin

  pub may_make : (entry : NewEntry) → plan ≡ action.Make entry → making.MayBegin volume device plan
  may_make entry is =
      let (path, for) = plan_of_entry volume device planned.0 command plan entry is planned.1 in
      made.begins (planned.0, path, entry, is, for) ready

  pub may_name : (link : NewName) → plan ≡ action.Name link → naming.MayBegin volume device plan
  may_name link is = links.may_begin (for_linking planned is refl) ready

  taking : (kind : NodeKind) → (state : State) × (path : Route) × IsPlanFor volume device state (asked.removing kind path) plan → removals.IsTakingPlan volume device plan
  taking File (state, path, for) = (state, steps.file, path, for)
  taking Directory (state, path, for) = (state, steps.directory, path, for)

  pub may_remove : (removal : Removal) → plan ≡ action.Remove removal → removing.MayBegin volume device plan
  may_remove removal is = removals.begins (taking removal.loss.kind (for_removing planned is refl refl)) ready

  pub may_move : {one : Action} → plan ≡ one → ((given : Moving) × (one ≡ action.Move given)) ⊎ (one ≡ action.KeepNames) → moving.MayBegin volume device plan
  may_move is either = renames.may_begin (for_renaming planned is either) ready

  pub may_write : (bytes : List ℕ) → ((path : Route) (offset : ℕ) (other : List ℕ) → command ≡ Writes path offset other → bytes ≡ other) → {one : Action} → plan ≡ one → ((given : Writing) × (one ≡ action.Write given)) ⊎ (one ≡ action.WriteNothing)
      → writing.MayBegin volume device bytes plan
  may_write bytes own is either = writes.may_begin (for_writing planned is either own) ready

  pub may_resize : {one : Action} → plan ≡ one → ((given : Resizing) × (one ≡ action.Resize given)) ⊎ (one ≡ action.KeepSize) → resizing.MayBegin volume device plan
  may_resize is either = truncations.may_begin (for_truncating planned is either) ready

  -- ---- and goes on, once its events are kept

  module _ {new : VolumeView} (bytes : List ℕ) (kept : new ≡ keeping volume plan) where
    pub make_begun : {running : making.RunningView} → making.MayBegin volume device plan → ((entry : NewEntry) → plan ≡ action.Make entry → running ≡ making.begun entry) → MayGoOn new device bytes (More (Make running))
    make_begun {running} (entry, is, unmarked, stands) begun = record {
      stands = subst (λ (v : VolumeView). making.StandsStage v device running) (sym kept) (subst (λ (r : making.RunningView). making.StandsStage (keeping volume plan) device r) (sym (begun entry is)) stands);
      settled = planned.1.stands.settled;
    }

    pub name_begun : {running : naming.RunningView} → naming.MayBegin volume device plan → ((link : NewName) → plan ≡ action.Name link → running ≡ naming.begun link) → MayGoOn new device bytes (More (Name running))
    name_begun {running} (link, is, unmarked, stands) begun = record {
      stands = subst (λ (v : VolumeView). naming.StandsStage v device running) (sym kept) (subst (λ (r : naming.RunningView). naming.StandsStage (keeping volume plan) device r) (sym (begun link is)) stands);
      settled = planned.1.stands.settled;
    }

    pub remove_begun : {running : removing.RunningView} → removing.MayBegin volume device plan → ((removal : Removal) → plan ≡ action.Remove removal → running ≡ removing.begun removal) → MayGoOn new device bytes (More (Remove running))
    remove_begun {running} (removal, is, unmarked, stands) begun = record {
      stands = subst (λ (v : VolumeView). removing.StandsStage v device running) (sym kept) (subst (λ (r : removing.RunningView). removing.StandsStage (keeping volume plan) device r) (sym (begun removal is)) stands);
      settled = planned.1.stands.settled;
    }

    pub move_begun : {running : MoveStage} → moving.MayBegin volume device plan → running ≡ moving.begun plan → MayGoOn new device bytes (More (Move running))
    move_begun {running} (one, unmarked, stands) begun = record {
      stands = subst (λ (v : VolumeView). moving.StandsStage v device running) (sym kept) (subst (λ (r : MoveStage). moving.StandsStage (keeping volume plan) device r) (sym begun) stands);
      settled = planned.1.stands.settled;
    }

    pub write_begun : {running : WriteStage} → writing.MayBegin volume device bytes plan → running ≡ writing.begun plan → MayGoOn new device bytes (More (Write running))
    write_begun {running} (one, unmarked, stands) begun = record {
      stands = subst (λ (v : VolumeView). writing.StandsStage v device bytes running) (sym kept) (subst (λ (r : WriteStage). writing.StandsStage (keeping volume plan) device bytes r) (sym begun) stands);
      settled = planned.1.stands.settled;
    }

    pub resize_begun : {running : ResizeStage} → resizing.MayBegin volume device plan → running ≡ resizing.begun plan → MayGoOn new device bytes (More (Resize running))
    resize_begun {running} (one, unmarked, stands) begun = record {
      stands = subst (λ (v : VolumeView). resizing.StandsStage v device running) (sym kept) (subst (λ (r : ResizeStage). resizing.StandsStage (keeping volume plan) device r) (sym begun) stands);
      settled = planned.1.stands.settled;
    }
